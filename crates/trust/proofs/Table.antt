-- When a rule of the table is in order, with a book: one test of a rule. The laws of the check ask for nothing else of a rule.
use mathlib.Core.Bool.{Bool, true, false, not}
use mathlib.Core.List.{List}
use mathlib.Core.Path.{◌≡◌}
use Prim.Native.Nat.{ℕ, ◌≤◌, ◌<◌}
use lib.Dec.{eqb, leb, ltb}
use lib.ListN.{length}
use borrow.Author.Tests.{eqb-true, leb-true, lt-ltb, ltb-true}
use Rattle.meaning.specs.Bytes.{when, both, digit_at, num}
use Rattle.meaning.specs.Names.{Book, english, names}
use Rattle.meaning.specs.Reading.{most_read}
use Rattle.meaning.specs.Writing.{quantity_of, name_text}
use Rattle.meaning.specs.declared.Edition.TheVariants.{First, Second}
use Rattle.meaning.specs.declared.Edition.{Edition}
use Rattle.meaning.specs.declared.Group.{Group}
use Rattle.meaning.specs.declared.Group.TheVariants.{Never, NotZero, Always}
use Rattle.meaning.specs.declared.NameList.{NameList}
use Rattle.meaning.specs.declared.ParseUnit.{ParseUnit}
use Rattle.meaning.specs.declared.Quantity.{Quantity}
use Rattle.meaning.specs.declared.Quantity.TheVariants.{Month, Quarter, Week, Day, DayOfYear, Weekday, WeekdayFromMonday, Hour1To12, Hour0To11, Hour0To23, Hour1To24, Minute, Second, Fraction}
use Rattle.meaning.specs.declared.Rule.{Rule}
use Rattle.meaning.specs.declared.Rule.TheVariants.{Number, SkippedNumber, LetterQuarter, SkippedName, MatchedName, Letters, Years, FixedYear, TwoDigitYear, Zone}
use Rattle.laws.proofs.Names.{all_apart}
use Rattle.laws.proofs.Tests.{both_true, every}
use Rattle.laws.specs.Widths.{most_digits}
use Rattle.trust.specs.Ahead.{name_first, has_letters}
use Rattle.trust.specs.Check.{short_numbers, long_numbers}

-- the number that a quantity writes for zero
abbrev pub zero_of : Quantity → ℕ
zero_of Month = 0
zero_of Quarter = 0
zero_of Week = 0
zero_of Day = 0
zero_of DayOfYear = 0
zero_of Weekday = 0
zero_of WeekdayFromMonday = 0
zero_of Hour1To12 = 12
zero_of Hour0To11 = 0
zero_of Hour0To23 = 0
zero_of Hour1To24 = 24
zero_of Minute = 0
zero_of Second = 0
zero_of (Fraction k) = 0

-- its counts are in order; the short number has fewer digits than a greedy read takes, the long one all that it can have
unfoldable pub number_fits : Quantity → ℕ → ℕ → Bool
number_fits q least most =
    both (leb 1 least) (both (leb least most) (both (leb most 9)
    (both (when (ltb least most) (ltb (length (num least (quantity_of q short_numbers))) most) true)
    (leb (most_digits q) (length (num least (quantity_of q long_numbers)))))))

-- a name's first bytes are as the check takes them
unfoldable pub name_opens : NameList → List ℕ → Bool
name_opens l name =
    both (leb 1 (length name))
    (both (when (digit_at 0 name) (name_first l) (not (name_first l))) (when (ltb (length name) 2) (has_letters l) (not (digit_at 1 name))))

-- where names can have one letter, that of the record with long numbers has
abbrev pub one_letter : Book → NameList → Bool
one_letter book l = when (has_letters l) (eqb (length (name_text book l long_numbers)) 1) true

-- as many names as English has, and each opens so
unfoldable pub names_fit : Book → NameList → Bool
unfolding name_opens
names_fit book l =
    both (eqb (length (names book l)) (length (names english l))) (both (every (name_opens l) (names book l)) (one_letter book l))

-- each name has n bytes
unfoldable pub same_length : Book → ℕ → NameList → Bool
same_length book n l = every (λ name. eqb (length name) n) (names book l)

-- minutes may be missing only where no seconds follow
abbrev pub zone_fits : Group → Group → Bool
zone_fits Never seconds = false
zone_fits NotZero Never = true
zone_fits NotZero NotZero = false
zone_fits NotZero Always = false
zone_fits Always seconds = true

-- a test of an edition, of both
abbrev pub in_both : (Edition → Bool) → Bool
in_both test = both (test First) (test Second)

pub in_either : (test : Edition → Bool) → in_both test ≡ true → (edition : Edition) → test edition ≡ true
in_either test h First = (both_true (test First) (test Second) h).0
in_either test h Second = (both_true (test First) (test Second) h).1

unfoldable pub fits : Book → Rule → Bool
fits book (Number q least most u z) = both (in_both (λ edition. number_fits q least (most_read edition q most))) (eqb z (zero_of q))
fits book (SkippedNumber q least most) = number_fits q least most
fits book LetterQuarter = true
fits book (SkippedName l n) = both (names_fit book l) (same_length book n l)
fits book (MatchedName l) = both (names_fit book l) (all_apart (names book l))
fits book (Letters l n) = both (names_fit book l) (both (same_length book n l) (all_apart (names book l)))
fits book (Years k) = true
fits book (FixedYear k) = true
fits book TwoDigitYear = true
fits book (Zone zone) = zone_fits zone.minutes zone.seconds

-- a number that is read fits in either edition, and reads zero for what stands for it
module _ (q : Quantity) (least most : ℕ) (u : ParseUnit) (z : ℕ) (book : Book) (fit : fits book (Number q least most u z) ≡ true) where
  abbrev read_fits : Edition → Bool
  read_fits edition = number_fits q least (most_read edition q most)

  pub read_fits_lem : (edition : Edition) → read_fits edition ≡ true
  unfolding fits
  read_fits_lem = in_either read_fits (both_true (in_both read_fits) (eqb z (zero_of q)) fit).0

  pub zero-fits : z ≡ zero_of q
  unfolding fits
  zero-fits = eqb-true z (zero_of q) (both_true (in_both read_fits) (eqb z (zero_of q)) fit).1

-- what it says that a number fits
pub record NumberFits (q : Quantity) (least most : ℕ) : Type 0 where
  pub low : 1 ≤ least
  pub order : least ≤ most
  pub few : most ≤ 9
  pub short : least < most → length (num least (quantity_of q short_numbers)) < most
  pub long : most_digits q ≤ length (num least (quantity_of q long_numbers))

pub number_fits_lem : (q : Quantity) (least most : ℕ) → number_fits q least most ≡ true → NumberFits q least most
unfolding number_fits
number_fits_lem q least most h =
    let written = length (num least (quantity_of q short_numbers)) in
    let long = leb (most_digits q) (length (num least (quantity_of q long_numbers))) in
    let short = when (ltb least most) (ltb written most) true in
    let a = both_true (leb 1 least) (both (leb least most) (both (leb most 9) (both short long))) h in
    let b = both_true (leb least most) (both (leb most 9) (both short long)) a.1 in
    let c = both_true (leb most 9) (both short long) b.1 in
    let d = both_true short long c.1 in
    record {
      low = leb-true 1 least a.0;
      order = leb-true least most b.0;
      few = leb-true most 9 c.0;
      short = λ l. ltb-true written most (rw (lt-ltb least most l) at d.0);
      long = leb-true (most_digits q) (length (num least (quantity_of q long_numbers))) d.1;
    }
