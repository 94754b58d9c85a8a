-- The answer of a line that is found by its places, and read between them.
use Rattle.std.specs.Prelude.{Some, Result}
use mathlib.Core.List.{List}
use mathlib.Core.Path.{◌≡◌}
use Prim.Native.Nat.{ℕ, ◌-◌, ◌<◌}
use lib.IntN.{ℤ}
use lib.ListN.{length, take, drop}
use Rattle.meaning.specs.Lists.{read_line}
use Rattle.meaning.specs.Names.{Book}
use Rattle.meaning.specs.Whole.{read}
use Rattle.meaning.specs.declared.Choices.{Choices}
use Rattle.meaning.specs.declared.LineRead.{LineRead}
use Rattle.meaning.specs.declared.Reading.{Reading}
use Rattle.meaning.specs.declared.Refusal.{Refusal}
use Rattle.laws.proofs.Lists.{line_read}
use Rattle.lists.specs.Walk.{places_at}
use Rattle.lists.specs.declared.lines.Places.{Places}
use Rattle.lists.proofs.line_reader.Walks.{line-long}

abbrev placed : ℕ → Places → Result Reading Refusal → LineRead
placed at line r = record { start = at; end = line.end; next = line.next; reading = r }

module _ (choices : Choices) (book : Book) (p s : List ℕ) (current : ℤ) (at : ℕ) (h : at < length s) where
  pub line-placed : (line : Places) (r : Result Reading Refusal) → line ≡ places_at s at
      → r ≡ read choices book p (take (line.end - at) (drop at s)) current → Some (placed at line r) ≡ read_line choices book p s at current
  line-placed line r e g = rw (g, e, line_read choices book p s current at h, line-long s at h)
