-- What a write answers and leaves of the output where there is room.
use Rattle.std.specs.Prelude.{Ok}
use mathlib.Core.List.{List}
use mathlib.Core.Path.{◌≡◌, refl}
use Prim.Native.Nat.{ℕ, ◌≤◌}
use borrow.Author.Tests.{le-leb}
use lib.ListN.{length}
use lib.Seq.{sets}
use Rattle.meaning.specs.Answers.{pattern_check, fields_check}
use Rattle.meaning.specs.Names.{Book}
use Rattle.meaning.specs.Whole.{text, write, output, write_check}
use Rattle.meaning.specs.declared.Fields.{Fields}
use Rattle.meaning.specs.declared.Pair.{Pair}

module _ (pair : Pair) (book : Book) (p : List ℕ) (f : Fields) (out : List ℕ) where
  module _ (pattern : pattern_check p ≡ Ok tt) (fields : fields_check f ≡ Ok tt) where
    pub with-room : length (text pair book p f) ≤ length out
        → (write pair book p f out ≡ Ok (length (text pair book p f)))
        × (output pair book p f out ≡ sets out 0 (text pair book p f))
    unfolding write output write_check
    with-room fits = rw (pattern, fields, le-leb _ _ fits) (refl, refl)
