-- What a walk over the lines of a text promises: where each is, which are left, and what each turn finds.
use Rattle.std.specs.Prelude.{List, [], ◌∷◌, ◌≡◌, ℕ, suc, ◌+◌, ◌<◌, ◌≤◌, min, Option, length, drop}
use Rattle.std.specs.Iterator.{YieldsFirst}
use Rattle.std.specs.Option.{MatchOption}
use Rattle.laws.specs.Lists.{line_end, next_line}
use Rattle.meaning.specs.Lists.{lines}
use Rattle.lists.specs.declared.lines.Places.{Places}
use Rattle.lists.specs.declared.line_reader.LineReader.{LineReader}

-- where the line that starts at a place is, in a text
abbrev pub places_at : List ℕ → ℕ → Places
places_at s at = record { start = at; end = line_end s at; next = next_line s (line_end s at) }

-- where lines are that stand one after the other from a place on, in a text of a size
unfoldable pub places_from : ℕ → ℕ → List (List ℕ) → List Places
places_from size at [] = []
places_from size at (line ∷ ls) =
    record { start = at; end = at + length line; next = min (suc (at + length line)) size }
    ∷ places_from size (min (suc (at + length line)) size) ls

-- the lines that a walk has left
abbrev pub lines_left : LineReader → List Places
lines_left walk = places_from (length walk.text.now) walk.at (lines (drop walk.at walk.text.now))

-- A turn gives the line at the walk's place and moves on to the next one; at the text's end it gives none.
abbrev pub Walks : LineReader → Option Places → LineReader → Type 0
Walks walk found moved = YieldsFirst lines_left walk found moved × (moved.text.now ≡ walk.text.now)
    × MatchOption found (length walk.text.now ≤ walk.at)
    (λ line. (walk.at < length walk.text.now) × (line ≡ places_at walk.text.now walk.at) × (moved.at ≡ line.next))
