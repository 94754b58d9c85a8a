-- Where the check says yes, which it says of real days, a read of what was written with a valid book for any allowed record, strict or
-- not, in the same edition, is accepted, takes all of it, and gives every unit that the pattern carries with the record's value, and
-- with where the text of its part stands.
use Rattle.std.specs.Prelude.{Ok}
use mathlib.Core.Bool.{Bool}
use mathlib.Core.List.{List}
use mathlib.Core.Path.{◌≡◌}
use Prim.Native.Nat.{ℕ}
use lib.IntN.{ℤ}
use lib.ListN.{length}
use Rattle.meaning.specs.Answers.{pattern_check, current_year_check, fields_check}
use Rattle.meaning.specs.Books.{Valid}
use Rattle.meaning.specs.Names.{Book}
use Rattle.meaning.specs.Trust.{AnyAllowed, RealDay, trust_check, full_pair, SaysOf}
use Rattle.meaning.specs.Whole.{read_check, reading_of, read, text}
use Rattle.meaning.specs.Writing.{steps}
use Rattle.meaning.specs.declared.Edition.{Edition}
use Rattle.meaning.specs.declared.Fields.{Fields}
use Rattle.meaning.specs.declared.Pair.TheVariants.{Full}
use Rattle.meaning.specs.declared.Verdict.TheVariants as verdict
use Rattle.laws.proofs.Ascii.{written-checks}
use Rattle.laws.proofs.BookNames.{valid-ascii, valid-short}
use Rattle.laws.proofs.Checks.{else-fine}
use Rattle.trust.proofs.Agreement.{told-yes}
use Rattle.trust.proofs.Verdicts.{verdict-says-any, told-as-checked}
use Rattle.trust.proofs.Walks.{walk-yes}
use Rattle.trust.specs.Check.{verdict_of}
use Rattle.trust.specs.ReadBack.{gave_by}

-- no check of the read refuses the written text
written-is-read : (book : Book) → Valid book → (edition : Edition) (p : List ℕ) (current : ℤ) (f : Fields) → trust_check edition p current ≡ Ok tt → fields_check f ≡ Ok tt
    → read_check edition p (text Full book p f) current ≡ Ok tt
unfolding trust_check read_check
written-is-read book valid edition p current f h k =
    let t = else-fine (pattern_check p) (current_year_check edition current) h in
    rw (t.0, t.1) (written-checks book (valid-ascii book valid) (valid-short book valid) Full p f t.0 k)

pub read_back : (book : Book) → Valid book → (edition : Edition) (strict : Bool) (p : List ℕ) (current : ℤ) (f : Fields) → SaysOf RealDay (full_pair edition strict) book p current (Ok verdict.Yes) → fields_check f ≡ Ok tt
    → read (full_pair edition strict) book p (text Full book p f) current
    ≡ Ok (reading_of (length (text Full book p f)) (gave_by book f 0 (steps Full p)))
unfolding read SaysOf
read_back book valid edition strict p current f says fine =
    let any : SaysOf AnyAllowed (full_pair edition strict) book p current (Ok verdict.Yes)
    = rw (told-yes (verdict_of edition p current) (told-as-checked book valid edition p current strict (Ok verdict.Yes) says)) at (verdict-says-any book valid edition p current strict) in
    rw (written-is-read book valid edition p current f says.0 fine, walk-yes AnyAllowed (full_pair edition strict) book p current any f fine)
