-- The second edition beside the first. Two digits stand for the one year of its window that ends in them; at a minus yy is read as
-- before; single M is read as d is; and whatever has neither of the two is read alike in both.
use Rattle.std.specs.Prelude.{Option}
use mathlib.Core.Bool.{Bool, true, false}
use mathlib.Core.List.{List, [], ◌∷◌}
use mathlib.Core.Path.{◌≡◌, refl, sym, ap, ◌∙◌}
use Prim.Native.Nat.{ℕ, suc, ◌+◌, ◌-◌, ◌%◌, ◌≤◌, ◌<◌}
use native.Mathlib.Omega.{arith}
use lib.Dec.{eqb}
use lib.IntN.{ℤ, pos, nat_abs}
use lib.ListN.{drop}
use borrow.Author.Tests.{eqb-true}
use Rattle.meaning.specs.Answers.{current_year_check}
use Rattle.meaning.specs.Bytes.{is_digit, minus}
use Rattle.meaning.specs.Names.{Book}
use Rattle.meaning.specs.Numerals.{all_digits, decimal, number_of}
use Rattle.meaning.specs.Readers.{Got, got, stopped}
use Rattle.meaning.specs.Reading.{year, year_from, two_digits_mean, most_read, read_rule, read_step}
use Rattle.meaning.specs.Rules as rules
use Rattle.meaning.specs.Whole.{Gave, Walk, walk, read_check, read}
use Rattle.meaning.specs.Writing.{Step, literal, field, steps}
use Rattle.meaning.specs.declared.Carried.{Carried}
use Rattle.meaning.specs.declared.Choices.{Choices}
use Rattle.meaning.specs.declared.Edition.{Edition}
use Rattle.meaning.specs.declared.Edition.TheVariants.{First, Second}
use Rattle.meaning.specs.declared.Numeral.TheVariants.{Year}
use Rattle.meaning.specs.declared.ParseUnit.TheVariants as unit
use Rattle.meaning.specs.declared.Quantity.TheVariants as quantity
use Rattle.meaning.specs.declared.Rule.{Rule}
use Rattle.meaning.specs.declared.Rule.TheVariants.{Number, SkippedNumber, LetterQuarter, SkippedName, MatchedName, Letters, Years, FixedYear, TwoDigitYear, Zone}
use Rattle.laws.proofs.Digits.{digit-bounds}
use Rattle.laws.proofs.Numbers.{digits-come-back}
use Rattle.laws.proofs.Pluses.{behind_part}
use Rattle.laws.proofs.Table.{step_passes}
use Rattle.laws.proofs.Tests.{both_true, true-is-not-false, every}
use Rattle.laws.proofs.Years.{no_minus, year-carried}

-- yy

-- a year from current year - 80 to current year + 19 with these last two digits
pub record InWindow (current digits y : ℕ) : Type 0 where
  pub from : current ≤ y + 80
  pub up_to : y ≤ current + 19
  pub ends : y % 100 ≡ digits

-- there is one
pub year-in-window : (current digits : ℕ) → 81 ≤ current → digits < 100 → InWindow current digits (year_from (current - 80) digits)
year-in-window current digits h k = record { from = omega arith; up_to = omega arith; ends = omega arith }

-- and no other
pub one-in-window : (current digits y y' : ℕ) → InWindow current digits y → InWindow current digits y' → y ≡ y'
one-in-window current digits y y' h h' = omega (arith, h.from, h.up_to, h.ends, h'.from, h'.up_to, h'.ends)

-- two digits are read as that year
pub window-read : (book : Book) (current a b : ℕ) (r : List ℕ) → 81 ≤ current → is_digit a ≡ true → is_digit b ≡ true → (y : ℕ)
    → InWindow current (decimal 0 (a ∷ b ∷ [])) y → read_rule Second book current TwoDigitYear (a ∷ b ∷ r) ≡ got 2 (year (pos y))
unfolding read_rule two_digits_mean all_digits decimal
window-read book current a b r h d e y there =
    let s : List ℕ = a ∷ b ∷ [] in
    let small : decimal 0 s < 100 = omega (arith, digit-bounds a d, digit-bounds b e) in
    let number : number_of Year s ≡ _ = digits-come-back Year s (omega arith) (rw (d, e)) (omega arith) in
    let is : year_from (current - 80) (decimal 0 s) ≡ y = one-in-window current _ _ y (year-in-window current _ h small) there in
    rw (no_minus s r (rw (d, e)) (omega arith))
    (year-carried (two_digits_mean Second current) 2 s r _ refl number ∙ ap (λ (m : ℕ). got 2 (year (pos m))) is)

-- at a minus the edition is no matter
pub minus-alike : (edition : Edition) (book : Book) (current : ℕ) (s : List ℕ)
    → read_rule edition book current TwoDigitYear (minus ∷ s) ≡ read_rule First book current TwoDigitYear (minus ∷ s)
unfolding read_rule
minus-alike edition book current s = refl

-- single M: the rule of M at a count of one reads a month as that of d reads a day
pub month-as-day : (book : Book) (current : ℕ) (s : List ℕ)
    → read_rule Second book current (rules.rule_of rules.month 1) s ≡ read_rule First book current (Number quantity.Day 1 2 unit.Month 0) s
unfolding read_rule most_read rules.rule_of
month-as-day book current s = refl

-- everything else

-- whether both editions read a rule alike
unfoldable pub alike : Rule → Bool
alike (Number q least most u z) = eqb (most_read Second q most) most
alike (SkippedNumber q least most) = true
alike LetterQuarter = true
alike (SkippedName l n) = true
alike (MatchedName l) = true
alike (Letters l n) = true
alike (Years k) = true
alike (FixedYear k) = true
alike TwoDigitYear = false
alike (Zone zone) = true

rule-alike : (edition : Edition) (book : Book) (current : ℕ) (rule : Rule) → alike rule ≡ true → (s : List ℕ)
    → read_rule edition book current rule s ≡ read_rule First book current rule s
unfolding read_rule most_read alike
rule-alike First book current rule h s = refl
rule-alike Second book current (Number q least most u z) h s = rw (eqb-true (most_read Second q most) most h)
rule-alike Second book current (SkippedNumber q least most) h s = refl
rule-alike Second book current LetterQuarter h s = refl
rule-alike Second book current (SkippedName l n) h s = refl
rule-alike Second book current (MatchedName l) h s = refl
rule-alike Second book current (Letters l n) h s = refl
rule-alike Second book current (Years k) h s = refl
rule-alike Second book current (FixedYear k) h s = refl
rule-alike Second book current TwoDigitYear h s = true-is-not-false (sym h)
rule-alike Second book current (Zone zone) h s = refl

-- what follows a part, where it is alike for all that the part can give
parts-alike : (i at : ℕ) (next next' : ℕ → Option Carried → Walk) → ((n : ℕ) (c : Option Carried) → next n c ≡ next' n c) → (g : Got (Option Carried))
    → behind_part i at next g ≡ behind_part i at next' g
parts-alike i at next next' h (got n c) = h n c
parts-alike i at next next' h (stopped why place) = refl

-- choices in an edition
abbrev pub in_edition : Edition → Choices → Choices
in_edition edition choices = record { pair = choices.pair; strict = choices.strict; edition = edition }

module _ (edition : Edition) (choices : Choices) (book : Book) (current : ℕ) where
  step-alike : (step : Step) → step_passes alike step ≡ true → (s : List ℕ)
      → read_step (in_edition edition choices) book current step s ≡ read_step (in_edition First choices) book current step s
  unfolding read_step
  step-alike (literal w lost) h s = refl
  step-alike (field rule) h s = rule-alike edition book current rule h s

  walk-alike : (i at : ℕ) (ss : List Step) (s : List ℕ) (gave : List Gave) → every (step_passes alike) ss ≡ true
      → walk (in_edition edition choices) book current i at ss s gave ≡ walk (in_edition First choices) book current i at ss s gave
  unfolding walk every
  walk-alike i at [] s gave h = refl
  walk-alike i at (step ∷ ss) s gave h =
      let t = both_true (step_passes alike step) (every (step_passes alike) ss) h in
      ap (behind_part i at (λ n c. walk (in_edition edition choices) book current (suc i) (at + n) ss (drop n s) (record { carried = c; start = at; end = at + n } ∷ gave))) (step-alike step t.0 s)
      ∙ parts-alike i at _ _ (λ n c. walk-alike (suc i) (at + n) ss (drop n s) _ t.1) (read_step (in_edition First choices) book current step s)

-- where no part is a single M or yy, a text is read alike in both
pub read_alike : (edition : Edition) (choices : Choices) (book : Book) (p s : List ℕ) (current : ℤ) → every (step_passes alike) (steps choices.pair p) ≡ true
    → current_year_check edition current ≡ current_year_check First current
    → read (in_edition edition choices) book p s current ≡ read (in_edition First choices) book p s current
unfolding read read_check
read_alike edition choices book p s current h e = rw (e, walk-alike edition choices book (nat_abs current) 0 0 (steps choices.pair p) s [] h)
