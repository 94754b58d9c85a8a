-- Each kind of rule comes back for every allowed record where the text behind it meets its need.
use Rattle.std.specs.Prelude.{None}
use mathlib.Core.Bool.{Bool, true, false}
use mathlib.Core.List.{List, ◌∷◌, ◌++◌}
use mathlib.Core.Path.{◌≡◌, refl, ap, ◌∙◌}
use Prim.Native.Char.{code}
use Prim.Native.Nat.{ℕ, zero, suc, ◌-◌, ◌%◌, ◌^◌, ◌≤◌, ◌<◌}
use native.Mathlib.Nat.{add-zero, lt_of_lt_of_le, pow-le-pow_right}
use native.Mathlib.Omega.{arith}
use lib.Dec.{leb, ltb}
use lib.IntN.{pos}
use lib.ListN.{length, length-append}
use borrow.Author.Tests.{eq-eqb, ne_eqb, leb-true, ltb-false}
use Rattle.meaning.specs.Bytes.{when, both, digit_at, num}
use Rattle.meaning.specs.Names.{Book, names}
use Rattle.meaning.specs.Readers.{got, reach}
use Rattle.meaning.specs.Reading.{value, zero_for, carried_as, most_read, passed, taken_unit, read_rule, carried_rule}
use Rattle.meaning.specs.Rules.{zoned}
use Rattle.meaning.specs.Writing.{hour_of, in_place_of_zero, quantity_of, rule_text}
use Rattle.meaning.specs.declared.Edition.{Edition}
use Rattle.meaning.specs.declared.Fields.{Fields}
use Rattle.meaning.specs.declared.Group.{Group}
use Rattle.meaning.specs.declared.Group.TheVariants.{Never, NotZero, Always}
use Rattle.meaning.specs.declared.ParseUnit.{ParseUnit}
use Rattle.meaning.specs.declared.Quantity.{Quantity}
use Rattle.meaning.specs.declared.Quantity.TheVariants.{Month, Quarter, Week, Day, DayOfYear, Weekday, WeekdayFromMonday, Hour1To12, Hour0To11, Hour0To23, Hour1To24, Minute, Second, Fraction}
use Rattle.meaning.specs.declared.Rule.{Rule}
use Rattle.meaning.specs.declared.Rule.TheVariants.{Number, SkippedNumber, LetterQuarter, SkippedName, MatchedName, Letters, Years, FixedYear, TwoDigitYear, Zone}
use Rattle.laws.proofs.Digits.{all-num, decimal-num, length-num, num-some, num-fits, width-at-most}
use Rattle.laws.proofs.Fields.{Allowed, quantity-below}
use Rattle.laws.proofs.Names.{all_apart}
use Rattle.laws.proofs.Numbers.{taken-comes-back, skipped-comes-back}
use Rattle.laws.proofs.Readers.{skip_goes_on}
use Rattle.laws.proofs.Tests.{both_true, when-is, true-is-not-false}
use Rattle.laws.proofs.Years.{years-come-back, fixed-year-comes-back}
use Rattle.laws.proofs.Zones.{Free, zone-comes-back}
use Rattle.laws.specs.Widths.{most_digits}
use Rattle.trust.proofs.NameRules.{skipped-name-comes-back, matched-name-comes-back, letters-rule-comes-back}
use Rattle.trust.proofs.RulesAhead.{named-there}
use Rattle.trust.proofs.Table.{zero_of, number_fits, names_fit, same_length, zone_fits, fits, read_fits_lem, zero-fits, number_fits_lem}
use Rattle.trust.specs.Needs.{number_need, group_need, last_group, rule_need}
use Rattle.trust.specs.declared.Need.{Need}
use Rattle.trust.specs.declared.Need.TheVariants.{Nothing, NoDigit, NoSecondDigit, Broken, LosesYear}

-- a text meets a need
abbrev pub Met : Need → List ℕ → Type 0
Met Nothing r = Unit
Met NoDigit r = digit_at 0 r ≡ false
Met NoSecondDigit r = digit_at 1 r ≡ false
Met Broken r = ⊥
Met LosesYear r = ⊥

-- a rule's text comes back before r
abbrev pub Back : Edition → Book → ℕ → Rule → Fields → List ℕ → Type 0
Back edition book current rule f r =
    read_rule edition book current rule (rule_text book rule f ++ r) ≡ got (length (rule_text book rule f)) (carried_rule rule f)

-- what a number carries

zero-stays : (n : ℕ) → zero_for 0 n ≡ n
zero-stays zero = refl
zero-stays (suc n) = rw (ne_eqb (suc n) 0 (λ e. omega arith))

zero-in-place : (k n : ℕ) → n < k → zero_for k (in_place_of_zero k n) ≡ n
zero-in-place k zero h = rw (eq-eqb k k refl)
zero-in-place k (suc n) h = rw (ne_eqb (suc n) k (λ e. omega arith))

carried-quantity : (q : Quantity) (f : Fields) → Allowed f → zero_for (zero_of q) (quantity_of q f) ≡ quantity_of (carried_as q) f
unfolding quantity_of
carried-quantity Month f h = zero-stays _
carried-quantity Quarter f h = zero-stays _
carried-quantity Week f h = zero-stays _
carried-quantity Day f h = zero-stays _
carried-quantity DayOfYear f h = zero-stays _
carried-quantity Weekday f h = zero-stays _
carried-quantity WeekdayFromMonday f h = zero-stays _
carried-quantity Hour1To12 f h = zero-in-place 12 (hour_of f % 12) (omega arith)
carried-quantity Hour0To11 f h = zero-stays _
carried-quantity Hour0To23 f h = zero-stays _
carried-quantity Hour1To24 f h = zero-in-place 24 (hour_of f) (omega arith)
carried-quantity Minute f h = zero-stays _
carried-quantity Second f h = zero-stays _
carried-quantity (Fraction k) f h = zero-stays _

-- numbers

number-met : (q : Quantity) (least most : ℕ) (r : List ℕ) → Met (number_need q least most) r
    → (most_digits q ≤ most) × (least < most → digit_at 0 r ≡ false)
number-met q least most r =
    when-is (λ need. Met need r → (most_digits q ≤ most) × (least < most → digit_at 0 r ≡ false)) (ltb most (most_digits q))
    (λ e h. absurd h)
    (λ e.
    when-is (λ need. Met need r → (most_digits q ≤ most) × (least < most → digit_at 0 r ≡ false)) (ltb least most)
    (λ d h. (ltb-false most (most_digits q) e, λ l. h))
    (λ d h. (ltb-false most (most_digits q) e, λ l. absurd (omega (arith, ltb-false least most d)))))

module _ (q : Quantity) (least most : ℕ) (fit : number_fits q least most ≡ true) (f : Fields) (h : Allowed f) (r : List ℕ) (met : Met (number_need q least most) r) where
  fits_in : quantity_of q f < 10 ^ most
  fits_in =
      lt_of_lt_of_le (quantity-below q f h)
      (pow-le-pow_right (omega arith) (number-met q least most r met).0)

  at_least : least ≤ length (num least (quantity_of q f))
  at_least = rw length-num (omega arith)

  at_most : length (num least (quantity_of q f)) ≤ most
  at_most =
      let n = number_fits_lem q least most fit in
      rw length-num (omega (arith, width-at-most most (quantity_of q f) (omega arith) fits_in))

  free : length (num least (quantity_of q f)) < most → digit_at 0 r ≡ false
  free l = (number-met q least most r met).1 (omega (arith, at_least))

  number-comes-back : (u : ParseUnit) → taken_unit u (zero_of q) (reach (most - least) least (num least (quantity_of q f) ++ r)) (num least (quantity_of q f) ++ r)
      ≡ got (length (num least (quantity_of q f))) (value u (pos (quantity_of (carried_as q) f)))
  number-comes-back u =
      let n = number_fits_lem q least most fit in
      let s = num least (quantity_of q f) in
      let nine : 10 ^ most ≤ 10 ^ 9 = pow-le-pow_right (omega arith) n.few in
      let small : quantity_of q f ≤ 4294967295 = omega (arith, fits_in) in
      taken-comes-back least most s r at_least (num-some least (quantity_of q f)) at_most (all-num least (quantity_of q f)) free u (zero_of q)
      (rw decimal-num small)
      ∙ ap (λ (m : ℕ). got (length s) (value u (pos m)))
      (ap (zero_for (zero_of q)) (decimal-num least (quantity_of q f)) ∙ carried-quantity q f h)

  skipped-number-comes-back : passed (reach (most - least) least (num least (quantity_of q f) ++ r)) (num least (quantity_of q f) ++ r)
      ≡ got (length (num least (quantity_of q f))) None
  skipped-number-comes-back =
      skipped-comes-back least most (num least (quantity_of q f)) r at_least (num-some least (quantity_of q f)) at_most (all-num least (quantity_of q f)) free

letter-quarter-comes-back : (edition : Edition) (book : Book) (current : ℕ) (f : Fields) → Allowed f → (r : List ℕ) → Back edition book current LetterQuarter f r
unfolding read_rule rule_text carried_rule most_digits
letter-quarter-comes-back edition book current f h r =
    let n = quantity_of Quarter f in
    let size : length (num 1 n) ≡ 1 = num-fits 1 n (omega arith) (quantity-below Quarter f h) in
    rw (skip_goes_on 2 (code "Q" ∷ num 1 n ++ r) (simp length-append (omega arith)), add-zero)
    (ap (λ (k : ℕ). got k None) (omega arith))

-- years and zones

seven : (k : ℕ) (r : List ℕ) → Met (when (leb 7 k) Nothing LosesYear) r → 7 ≤ k
seven k r = when-is (λ need. Met need r → 7 ≤ k) (leb 7 k) (λ e _. leb-true 7 k e) (λ e h. absurd h)

group-free : (colon : Bool) (g : Group) (r : List ℕ) → Met (group_need colon g) r → Free colon g r
group-free colon Never r met = tt
group-free true NotZero r met = met
group-free false NotZero r met = met
group-free colon Always r met = tt

zone-rule-comes-back : (edition : Edition) (book : Book) (current : ℕ) (utc colon : Bool) (minutes seconds : Group) → zone_fits minutes seconds ≡ true → (f : Fields) → Allowed f
    → (r : List ℕ) → Met (group_need colon (last_group minutes seconds)) r → Back edition book current (zoned utc colon minutes seconds) f r
unfolding rule_text carried_rule
zone-rule-comes-back edition book current utc colon Never seconds fit f h r met = true-is-not-false (rw fit)
zone-rule-comes-back edition book current utc colon NotZero Never fit f h r met =
    zone-comes-back edition book current utc colon NotZero Never refl f.offset r h.offset (group-free colon NotZero r met) tt
zone-rule-comes-back edition book current utc colon NotZero NotZero fit f h r met = true-is-not-false (rw fit)
zone-rule-comes-back edition book current utc colon NotZero Always fit f h r met = true-is-not-false (rw fit)
zone-rule-comes-back edition book current utc colon Always Never fit f h r met =
    zone-comes-back edition book current utc colon Always Never refl f.offset r h.offset tt tt
zone-rule-comes-back edition book current utc colon Always NotZero fit f h r met =
    zone-comes-back edition book current utc colon Always NotZero refl f.offset r h.offset tt (group-free colon NotZero r met)
zone-rule-comes-back edition book current utc colon Always Always fit f h r met =
    zone-comes-back edition book current utc colon Always Always refl f.offset r h.offset tt tt

-- every rule

pub rule-comes-back : (edition : Edition) (book : Book) (current : ℕ) (rule : Rule) → fits book rule ≡ true → (f : Fields) → Allowed f → (r : List ℕ) → Met (rule_need edition rule) r → Back edition book current rule f r
unfolding fits rule_need read_rule rule_text carried_rule
rule-comes-back edition book current (Number q least most u z) fit f h r met =
    rw (zero-fits q least most u z book fit) (number-comes-back q least (most_read edition q most) (read_fits_lem q least most u z book fit edition) f h r met u)
rule-comes-back edition book current (SkippedNumber q least most) fit f h r met = skipped-number-comes-back q least most fit f h r met
rule-comes-back edition book current LetterQuarter fit f h r met = letter-quarter-comes-back edition book current f h r
rule-comes-back edition book current (SkippedName l n) fit f h r met =
    let t = both_true (names_fit book l) (same_length book n l) fit in
    skipped-name-comes-back edition book current l f h (named-there book l t.0 f h) r n t.1
rule-comes-back edition book current (MatchedName l) fit f h r met =
    let t = both_true (names_fit book l) (all_apart (names book l)) fit in
    matched-name-comes-back edition book current l f h (named-there book l t.0 f h) r t.1
rule-comes-back edition book current (Letters l n) fit f h r met =
    let s = both_true (names_fit book l) (both (same_length book n l) (all_apart (names book l))) fit in
    let t = both_true (same_length book n l) (all_apart (names book l)) s.1 in
    letters-rule-comes-back edition book current l f h (named-there book l s.0 f h) r n t.0 t.1
rule-comes-back edition book current (Years k) fit f h r met = years-come-back edition book current k f.year r h.year.1 met
rule-comes-back edition book current (FixedYear k) fit f h r met = fixed-year-comes-back edition book current k f.year r h.year.1 (seven k r met)
rule-comes-back edition book current TwoDigitYear fit f h r met = absurd met
rule-comes-back edition book current (Zone zone) fit f h r met = zone-rule-comes-back edition book current zone.utc zone.colon zone.minutes zone.seconds fit f h r met
