-- What a leaf writer promises of the lent output: `text` lies in it from `at` on, nothing else has changed, and the next
-- place is the one behind it. `sets` lays a list over another. Two writers one after the other are `Laid-then`, in the laws.
use Rattle.std.specs.Prelude.{List, ◌≡◌, ℕ, ◌+◌, length}
use Rattle.std.proofs.lemmas.List.Edits.{sets}

pub record Laid (old new : List ℕ) (at next : ℕ) (text : List ℕ) : Type 0 where
  pub end : next ≡ at + length text
  pub held : new ≡ sets old at text
