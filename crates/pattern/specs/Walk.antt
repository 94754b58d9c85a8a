-- What a walk over the parts of a pattern promises: which parts are left, and what each turn finds.
use Rattle.std.specs.Prelude.{List, ◌≡◌, ◌+◌, ◌≤◌, Option, length, drop}
use Rattle.std.specs.Iterator.{YieldsFirst}
use Rattle.std.specs.Option.{MatchOption}
use Rattle.meaning.specs.Splitting.{contents, parts_from}
use Rattle.meaning.specs.declared.Part.{Part}
use Rattle.pattern.specs.Next.{Next}
use Rattle.pattern.specs.declared.parts.Parts.{Parts}

-- the parts that a walk has left
abbrev pub parts_left : Parts → List Part
parts_left walk = parts_from walk.place (contents (drop walk.place walk.pattern.now))

-- A turn gives the part at the walk's place and moves on behind it; at the pattern's end it gives none.
abbrev pub Walks : Parts → Option Part → Parts → Type 0
Walks walk found moved = YieldsFirst parts_left walk found moved × (moved.pattern.now ≡ walk.pattern.now)
    × MatchOption found (length walk.pattern.now ≤ walk.place)
    (λ part. Next walk.pattern.now walk.place part × (moved.place ≡ walk.place + part.length))
