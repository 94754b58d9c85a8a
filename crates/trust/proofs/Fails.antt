-- Each kind of rule with a need fails for the record that the check shows, where the text behind it shows what it must not:
-- numbers and years are cut or take a digit that follows, a zone takes it for a group that it left out, yy loses the century.
use Rattle.std.specs.Prelude.{Option}
use mathlib.Core.Bool.{Bool, true, false}
use mathlib.Core.List.{List, [], ◌∷◌, ◌++◌, append_assoc, append-nil}
use mathlib.Core.Path.{◌≡◌, refl, sym, ap, ◌∙◌}
use Prim.Native.Nat.{ℕ, ◌+◌, ◌*◌, ◌-◌, ◌/◌, ◌%◌, ◌≤◌, ◌<◌}
use native.Mathlib.Omega.{arith}
use lib.Dec.{eqb, leb, ltb}
use lib.IntN.{ℤ, pos, nat_abs}
use lib.ListN.{length, length-append}
use borrow.Author.Tests.{leb-false, ltb-true, ltb-false, ne_eqb}
use Rattle.meaning.specs.Bytes.{when, is_digit, digit_at, num, width, plus, minus}
use Rattle.meaning.specs.Names.{Book}
use Rattle.meaning.specs.Numerals.{Signed, all_digits, number_of}
use Rattle.meaning.specs.Readers.{Reader, got, ◌>>=◌, done, take_count, reach, ahead, behind_utc, zone_sign}
use Rattle.meaning.specs.Reading.{value, colon_length, two_digits_mean, most_read, passed, taken_unit, zone_behind, zone_group, zone_size_with, zone_size, taken_zone, year_length, digit_run, minus_first, read_rule, carried_rule}
use Rattle.meaning.specs.Whole.{value_in}
use Rattle.meaning.specs.Rules.{zoned}
use Rattle.meaning.specs.Writing.{quantity_of, group_text, offset_digits, is_minus, offset_text, rule_text, two_digit_text, zone_text}
use Rattle.meaning.specs.declared.Carried.{Carried}
use Rattle.meaning.specs.declared.Edition.TheVariants.{First, Second}
use Rattle.meaning.specs.declared.Edition.{Edition}
use Rattle.meaning.specs.declared.Group.{Group}
use Rattle.meaning.specs.declared.Group.TheVariants.{Never, NotZero, Always}
use Rattle.meaning.specs.declared.Numeral.TheVariants.{Year}
use Rattle.meaning.specs.declared.ParseUnit.{ParseUnit}
use Rattle.meaning.specs.declared.ParseUnit.TheVariants as unit
use Rattle.meaning.specs.declared.Quantity.{Quantity}
use Rattle.meaning.specs.declared.Rule.{Rule}
use Rattle.meaning.specs.declared.Rule.TheVariants.{Number, SkippedNumber, LetterQuarter, SkippedName, MatchedName, Letters, Years, FixedYear, TwoDigitYear, Zone}
use Rattle.laws.proofs.Digits.{all-num, digit-behind, digit-in, length-num, num-some}
use Rattle.laws.proofs.Readers.{take-goes-on}
use Rattle.laws.proofs.Takes.{Takes, takes-got, takes-both, takes-then, takes-done, takes-unit, takes-full-year, takes-passed, takes-group, reach-bounds, reach-past}
use Rattle.laws.proofs.Tests.{both-no, both_true, by-test, when-is, true-is-not-false}
use Rattle.laws.proofs.Years.{no_minus}
use Rattle.laws.proofs.Zones.{group-comes-back, sign_read, two_digits}
use Rattle.laws.specs.Widths.{most_digits}
use Rattle.trust.proofs.Sound.{Back}
use Rattle.trust.proofs.Table.{number_fits, zone_fits, fits, read_fits_lem, number_fits_lem}
use Rattle.trust.proofs.Witness.{of-witness}
use Rattle.trust.specs.Check.{short_numbers, long_numbers, long_year, witness}
use Rattle.trust.specs.Needs.{number_need, group_need, last_group, rule_need}
use Rattle.trust.specs.declared.Need.{Need}
use Rattle.trust.specs.declared.Need.TheVariants.{Nothing, NoDigit, NoSecondDigit, Broken, LosesYear}

-- a text shows what a need forbids
abbrev pub Shown : Need → List ℕ → Type 0
Shown Nothing r = ⊥
Shown NoDigit r = digit_at 0 r ≡ true
Shown NoSecondDigit r = digit_at 1 r ≡ true
Shown Broken r = Unit
Shown LosesYear r = Unit

-- numbers

-- how many bytes of a number are read, before r
reached : Quantity → ℕ → ℕ → Need → List ℕ → ℕ
reached q least most need r = reach (most - least) least (num least (quantity_of q (witness need)) ++ r)

Cut : Quantity → ℕ → ℕ → List ℕ → Need → Type 0
Cut q least most r need = Shown need r → length (num least (quantity_of q (witness need))) ≡ reached q least most need r → ⊥

digits-through : (s r : List ℕ) → all_digits s ≡ true → digit_at 0 r ≡ true → (j : ℕ) → j ≤ length s → digit_at j (s ++ r) ≡ true
digits-through s r all digit j h =
    by-test (ltb j (length s)) (λ e. digit-in s r all j (ltb-true j (length s) e))
    (λ e.
    let last : j ≡ length s = omega (arith, ltb-false j (length s) e) in
    rw (last, digit-behind s r) digit)

module _ (q : Quantity) (least most : ℕ) (fit : number_fits q least most ≡ true) (r : List ℕ) where
  too_long : most < most_digits q → Cut q least most r Broken
  unfolding Cut reached
  too_long h _ e =
      let n = number_fits_lem q least most fit in
      omega (arith, n.long, n.order, (reach-bounds (most - least) least (num least (quantity_of q long_numbers) ++ r)).1)

  too_far : least < most → Cut q least most r NoDigit
  unfolding Cut reached
  too_far h digit e =
      let s = num least (quantity_of q short_numbers) in
      let filled : least ≤ length s = rw length-num (omega arith) in
      let fewer = (number_fits_lem q least most fit).short h in
      omega (arith, reach-past (most - least) least (s ++ r) (length s) filled (omega arith) (digits-through s r (all-num least _) digit))

  number_cut : Cut q least most r (number_need q least most)
  unfolding Cut
  number_cut =
      when-is (Cut q least most r) (ltb most (most_digits q)) (λ e. too_long (ltb-true most (most_digits q) e))
      (λ _. when-is (Cut q least most r) (ltb least most) (λ e. too_far (ltb-true least most e)) (λ _ h _. h))

  number-fails : (u : ParseUnit) (z : ℕ) (c : Option Carried) → Shown (number_need q least most) r
      → taken_unit u z (reached q least most (number_need q least most) r) (num least (quantity_of q (witness (number_need q least most))) ++ r)
      ≡ got (length (num least (quantity_of q (witness (number_need q least most))))) c → ⊥
  unfolding Cut
  number-fails u z c shown e =
      let k = reached q least most (number_need q least most) r in
      number_cut shown (takes-got k (takes-unit u z k _) e)

  skipped-number-fails : (c : Option Carried) → Shown (number_need q least most) r
      → passed (reached q least most (number_need q least most) r) (num least (quantity_of q (witness (number_need q least most))) ++ r)
      ≡ got (length (num least (quantity_of q (witness (number_need q least most))))) c → ⊥
  unfolding Cut
  skipped-number-fails c shown e =
      let k = reached q least most (number_need q least most) r in
      number_cut shown (takes-got k (takes-passed k _) e)

-- years

run_past : (s r : List ℕ) → all_digits s ≡ true → digit_at 0 r ≡ true → length s < digit_run (s ++ r)
unfolding digit_run all_digits digit_at
run_past [] [] all h = true-is-not-false (sym h)
run_past [] (b ∷ r) all h = rw h (omega arith)
run_past (b ∷ s) r all h =
    let t = both_true (is_digit b) (all_digits s) all in
    rw t.0 (omega (arith, run_past s r t.1 h))

no-minus-first : (k n : ℕ) (r : List ℕ) → minus_first (num k n ++ r) ≡ 0
no-minus-first k n r = no_minus (num k n) r (all-num k n) (num-some k n)

years-fail : (edition : Edition) (book : Book) (current k : ℕ) (r : List ℕ) → digit_at 0 r ≡ true → Back edition book current (Years k) short_numbers r → ⊥
unfolding read_rule rule_text
years-fail edition book current k r digit e =
    let s = num k 2024 in
    let taken : length s ≡ 0 + digit_run (s ++ r)
    = rw (no-minus-first k 2024 r) at (takes-got (year_length (s ++ r)) (takes-full-year (year_length (s ++ r)) (s ++ r)) e) in
    omega (arith, run_past s r (all-num k 2024) digit)

seven-digits : (k : ℕ) → 7 ≤ length (num k 1000001)
unfolding width
seven-digits k = rw length-num (omega arith)

fixed-year-fails : (edition : Edition) (book : Book) (current k : ℕ) (r : List ℕ) → k < 7 → Back edition book current (FixedYear k) long_year r → ⊥
unfolding read_rule rule_text
fixed-year-fails edition book current k r short e =
    let s = num k 1000001 in
    let taken : length s ≡ 0 + k
    = rw (no-minus-first k 1000001 r) at (takes-got (minus_first (s ++ r) + k) (takes-full-year (minus_first (s ++ r) + k) (s ++ r)) e) in
    omega (arith, seven-digits k)

-- yy reads 01 as a year that is no later than the last of its millennium, or of its window
two-digit-read : (edition : Edition) (book : Book) (current : ℕ) (r : List ℕ) → read_rule edition book current TwoDigitYear (two_digit_text (pos 1000001) ++ r)
    ≡ got 2 (value unit.Year (two_digits_mean edition current (pos 1)))
unfolding read_rule two_digit_text num number_of
two-digit-read edition book current r =
    let n : Signed = record { negative = false; size = 1 } in
    let s : List ℕ = 48 ∷ 49 ∷ r in
    rw (take-goes-on Year 2 s n (omega arith) refl)

two-digits-few : (edition : Edition) (current : ℕ) → current ≤ 9999 → nat_abs (two_digits_mean edition current (pos 1)) < 1000001
unfolding two_digits_mean
two-digits-few First current small = omega arith
two-digits-few Second current small = omega arith

two-digit-year-fails : (edition : Edition) (book : Book) (current : ℕ) → current ≤ 9999 → (r : List ℕ) → Back edition book current TwoDigitYear long_year r → ⊥
unfolding rule_text carried_rule
two-digit-year-fails edition book current small r e =
    let same : got 2 (value unit.Year (two_digits_mean edition current (pos 1))) ≡ got (length (two_digit_text (pos 1000001))) (value unit.Year (pos 1000001))
    = sym (two-digit-read edition book current r) ∙ e in
    let carried : value unit.Year (two_digits_mean edition current (pos 1)) ≡ value unit.Year (pos 1000001) = cc in
    let year : two_digits_mean edition current (pos 1) ≡ pos 1000001 = ap value_in carried in
    omega (arith, two-digits-few edition current small, ap nat_abs year)

-- zones: whole hours, with no minutes and no seconds

-- a group that is missing, where a digit stands in its place
takes-missing : (colon : Bool) (r : List ℕ) → digit_at (colon_length colon) r ≡ true → Takes (colon_length colon + 2) (zone_group colon NotZero r)
takes-missing colon r digit = rw digit (takes-group colon r)

takes-behind-sign : (negative : Bool) (k : ℕ) (size : Reader ℕ) (s : List ℕ) → Takes k (size s)
    → Takes k (zone_behind size (when negative behind_utc ahead) s)
takes-behind-sign true k size s h = takes-done k size _ s h
takes-behind-sign false k size s h = takes-done k size _ s h

-- the groups of a zone, of which the last is missing, behind the hour and before r
MissingTaken : Bool → Group → Group → List ℕ → Type 0
MissingTaken colon minutes seconds r =
    (h : ℕ) → Takes (length (group_text colon minutes 0) + (colon_length colon + 2))
    ((zone_group colon minutes >>= λ m. zone_group colon seconds >>= λ s. done (h * 3600 + m * 60 + s)) (group_text colon minutes 0 ++ r))

missing-minutes : (colon : Bool) (r : List ℕ) → digit_at (colon_length colon) r ≡ true → MissingTaken colon NotZero Never r
unfolding MissingTaken
missing-minutes colon r digit h =
    let e : 0 + (colon_length colon + 2) ≡ (colon_length colon + 2) + 0 = omega arith in
    rw e (takes-both (colon_length colon + 2) 0 (zone_group colon NotZero) _ r (takes-missing colon r digit) (λ n a _. refl))

missing-seconds : (colon : Bool) (r : List ℕ) → digit_at (colon_length colon) r ≡ true → MissingTaken colon Always NotZero r
unfolding MissingTaken
missing-seconds colon r digit h =
    takes-then (colon_length colon + 2) (zone_group colon Always) _ (group_text colon Always 0) r
    (group-comes-back colon Always 0 r (omega arith) tt)
    (takes-done (colon_length colon + 2) (zone_group colon NotZero) _ r (takes-missing colon r digit))

-- an offset of some whole hours
record WholeHours (z : ℤ) : Type 0 where
  hours : ℕ
  some : 0 < hours
  few : hours < 100
  size : nat_abs z ≡ hours * 3600

module _ (edition : Edition) (book : Book) (current : ℕ) (utc colon : Bool) (minutes seconds : Group) (no-seconds : group_text colon seconds 0 ≡ []) {z : ℤ} (whole : WholeHours z) (r : List ℕ) (missing : MissingTaken colon minutes seconds r) where
  hours-text : zone_text utc colon minutes seconds z
      ≡ when (is_minus colon minutes seconds z) minus plus ∷ num 2 whole.hours ++ group_text colon minutes 0
  unfolding offset_digits offset_text
  hours-text =
      let h = whole.hours in
      let not_none : eqb (h * 3600) 0 ≡ false = ne_eqb (h * 3600) 0 (λ e. omega (arith, whole.some)) in
      let hh : h * 3600 / 3600 ≡ h = omega arith in
      let mm : h * 3600 % 3600 / 60 ≡ 0 = omega arith in
      let ss : h * 3600 % 60 ≡ 0 = omega arith in
      rw (whole.size, not_none, both-no utc, hh, mm, ss, no-seconds) (append-nil (when (is_minus colon minutes seconds z) minus plus ∷ num 2 h ++ group_text colon minutes 0))

  takes-hours : Takes (1 + (length (num 2 whole.hours) + (length (group_text colon minutes 0) + (colon_length colon + 2))))
      (taken_zone utc colon minutes seconds (when (is_minus colon minutes seconds z) minus plus ∷ num 2 whole.hours ++ (group_text colon minutes 0 ++ r)))
  unfolding zone_size_with MissingTaken
  takes-hours =
      let hh = num 2 whole.hours in
      let m = group_text colon minutes 0 in
      let k = length hh + (length m + (colon_length colon + 2)) in
      let s = hh ++ (m ++ r) in
      let negative = is_minus colon minutes seconds z in
      let sign = when negative minus plus in
      let size = zone_size colon minutes seconds in
      takes-done (1 + k) (zone_sign utc >>= zone_behind size) _ (sign ∷ s)
      (takes-then k (zone_sign utc) (zone_behind size) (sign ∷ []) s (sign_read utc negative s)
      (takes-behind-sign negative k size s
      (takes-then (length m + (colon_length colon + 2)) (take_count 2) _ hh (m ++ r) (two_digits whole.hours (m ++ r) whole.few) (missing whole.hours))))

  missing-group-fails : (c : Option Carried) → read_rule edition book current (zoned utc colon minutes seconds) (zone_text utc colon minutes seconds z ++ r)
      ≡ got (length (zone_text utc colon minutes seconds z)) c → ⊥
  unfolding read_rule
  missing-group-fails c e =
      let hh = num 2 whole.hours in
      let m = group_text colon minutes 0 in
      let taken : length (when (is_minus colon minutes seconds z) minus plus ∷ hh ++ m) ≡ 1 + (length hh + (length m + (colon_length colon + 2)))
      = takes-got _ takes-hours (rw (hours-text, append_assoc) at e) in
      omega (arith, length-append hh m)

witness-hours : (need : Need) → WholeHours (witness need).offset
witness-hours =
    let nine : WholeHours long_numbers.offset = record { hours = 9; some = omega arith; few = omega arith; size = refl } in
    of-witness (λ f. WholeHours f.offset) (record { hours = 8; some = omega arith; few = omega arith; size = refl }) nine nine

digit-in-place : (colon : Bool) (r : List ℕ) → Shown (group_need colon NotZero) r → digit_at (colon_length colon) r ≡ true
digit-in-place true r shown = shown
digit-in-place false r shown = shown

zone-fails : (edition : Edition) (book : Book) (current : ℕ) (utc colon : Bool) (minutes seconds : Group) → zone_fits minutes seconds ≡ true → (r : List ℕ)
    → Shown (group_need colon (last_group minutes seconds)) r
    → Back edition book current (zoned utc colon minutes seconds) (witness (group_need colon (last_group minutes seconds))) r → ⊥
unfolding rule_text
zone-fails edition book current utc colon Never seconds fit r shown e = true-is-not-false (sym fit)
zone-fails edition book current utc colon NotZero Never fit r shown e =
    missing-group-fails edition book current utc colon NotZero Never refl (witness-hours (group_need colon NotZero)) r
    (missing-minutes colon r (digit-in-place colon r shown)) _ e
zone-fails edition book current utc colon NotZero NotZero fit r shown e = true-is-not-false (sym fit)
zone-fails edition book current utc colon NotZero Always fit r shown e = true-is-not-false (sym fit)
zone-fails edition book current utc colon Always Never fit r shown e = shown
zone-fails edition book current utc colon Always NotZero fit r shown e =
    missing-group-fails edition book current utc colon Always NotZero refl (witness-hours (group_need colon NotZero)) r
    (missing-seconds colon r (digit-in-place colon r shown)) _ e
zone-fails edition book current utc colon Always Always fit r shown e = shown

-- every rule

pub rule-fails : (edition : Edition) (book : Book) (current : ℕ) → current ≤ 9999 → (rule : Rule) → fits book rule ≡ true → (r : List ℕ) → Shown (rule_need edition rule) r
    → Back edition book current rule (witness (rule_need edition rule)) r → ⊥
unfolding fits rule_need read_rule rule_text carried_rule reached
rule-fails edition book current small (Number q least most u z) fit r shown e =
    number-fails q least (most_read edition q most) (read_fits_lem q least most u z book fit edition) r u z _ shown e
rule-fails edition book current small (SkippedNumber q least most) fit r shown e = skipped-number-fails q least most fit r _ shown e
rule-fails edition book current small LetterQuarter fit r shown e = shown
rule-fails edition book current small (SkippedName l n) fit r shown e = shown
rule-fails edition book current small (MatchedName l) fit r shown e = shown
rule-fails edition book current small (Letters l n) fit r shown e = shown
rule-fails edition book current small (Years k) fit r shown e = years-fail edition book current k r shown e
rule-fails edition book current small (FixedYear k) fit r shown e =
    when-is (λ need. Shown need r → Back edition book current (FixedYear k) (witness need) r → ⊥) (leb 7 k) (λ _ h _. h)
    (λ short _ d. fixed-year-fails edition book current k r (leb-false 7 k short) d) shown e
rule-fails edition book current small TwoDigitYear fit r shown e = two-digit-year-fails edition book current small r e
rule-fails edition book current small (Zone zone) fit r shown e = zone-fails edition book current zone.utc zone.colon zone.minutes zone.seconds fit r shown e
