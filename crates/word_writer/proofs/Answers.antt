-- What a write by steps answers and leaves of the output: refused by a field, with room, without.
use Rattle.std.specs.Prelude.{Ok, Err}
use mathlib.Core.List.{List}
use mathlib.Core.Path.{◌≡◌, refl}
use Prim.Native.Nat.{ℕ, ◌≤◌, ◌<◌}
use borrow.Author.Tests.{le-leb, lt-leb}
use lib.ListN.{length}
use lib.Seq.{sets}
use Rattle.meaning.specs.Answers.{fields_check}
use Rattle.meaning.specs.Names.{Book}
use Rattle.meaning.specs.Writing.{Step, texts}
use Rattle.meaning.specs.declared.Fields.{Fields}
use Rattle.meaning.specs.declared.Refusal.{Refusal}
use Rattle.meaning.specs.declared.Refusal.TheVariants.{NoRoom}
use Rattle.meaning.specs.Results.{Wrote}
use Rattle.meaning.specs.Prepared.{write_steps_check, write_steps, output_steps}

module _ (book : Book) (ss : List Step) (f : Fields) (out : List ℕ) where
  abbrev pub Writes : Wrote → List ℕ → Type 0
  Writes r new = (r ≡ write_steps (Ok tt) book ss f out) × (new ≡ output_steps (Ok tt) book ss f out)

  pub refused : {why : Refusal} → fields_check f ≡ Err why → Writes (Err why) out
  unfolding write_steps output_steps write_steps_check
  refused e = rw e (refl, refl)

  module _ (fields : fields_check f ≡ Ok tt) where
    pub with-room : length (texts book f ss) ≤ length out → Writes (Ok (length (texts book f ss))) (sets out 0 (texts book f ss))
    unfolding write_steps output_steps write_steps_check
    with-room fits = rw (fields, le-leb _ _ fits) (refl, refl)

    pub no_room : length out < length (texts book f ss) → Writes (Err (NoRoom (length (texts book f ss)))) out
    unfolding write_steps output_steps write_steps_check
    no_room short = rw (fields, lt-leb _ _ short) (refl, refl)
