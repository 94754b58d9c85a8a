-- The answers to a write fit a row: the refusals of a record, and a length that does.
use Rattle.std.specs.Prelude.{Ok, Err}
use mathlib.Core.Bool.{Bool}
use mathlib.Core.List.{List}
use mathlib.Core.Path.{◌≡◌, refl}
use Prim.Native.Nat.{ℕ}
use native.Mathlib.Omega.{arith}
use lib.IntN.{nat_abs}
use lib.ListN.{length}
use Rattle.meaning.specs.Answers.{◌else◌, refuse_unless, within, fields_check, details}
use Rattle.meaning.specs.Whole.{wrote_by}
use Rattle.meaning.specs.Results.{Checked}
use Rattle.meaning.specs.declared.Fields.{Fields}
use Rattle.meaning.specs.declared.Refusal.TheVariants.{FieldRange}
use Rattle.rows.proofs.entries.Fits.{else-fits, unless-fits}
use Rattle.rows.specs.Fits.{NumberFits, CheckedFits, CountFits}

-- a check whose refusal fits, as a type that shows the check
record Fitting (checked : Checked) : Type 0 where
  fits : CheckedFits checked

field_fits : (t : Bool) (n : ℕ) (next : Checked) → NumberFits n → Fitting next → Fitting (refuse_unless t (FieldRange n) else next)
unfolding details
field_fits t n next h k =
    record { fits = else-fits (refuse_unless t (FieldRange n)) next (unless-fits t (FieldRange n) (h, tt)) (λ _. k.fits) }

last_fits : (t : Bool) (n : ℕ) → NumberFits n → Fitting (refuse_unless t (FieldRange n))
unfolding details
last_fits t n h = record { fits = unless-fits t (FieldRange n) (h, tt) }

fitting-fields : (f : Fields) → Fitting (fields_check f)
unfolding fields_check
fitting-fields f =
    field_fits (within 1 5879611 (nat_abs f.year)) 1 _ (omega arith)
    (field_fits (within 1 12 f.month) 2 _ (omega arith)
    (field_fits (within 1 31 f.day) 3 _ (omega arith)
    (field_fits (within 1 366 f.doy) 4 _ (omega arith)
    (field_fits (within 1 53 f.week) 5 _ (omega arith)
    (field_fits (within 0 6 f.wday) 6 _ (omega arith)
    (field_fits (within 0 86399999999999 f.nanos) 7 _ (omega arith) (last_fits (within 0 86399 (nat_abs f.offset)) 8 (omega arith))))))))

pub fields_fit : (f : Fields) → CheckedFits (fields_check f)
fields_fit f = (fitting-fields f).fits

pub wrote-fits : (checked : Checked) (t : List ℕ) → CheckedFits checked → (checked ≡ Ok tt → NumberFits (length t)) → CountFits (wrote_by checked t)
wrote-fits (Ok _) t h k = k refl
wrote-fits (Err why) t h k = h
