-- Digits that stand at a place are the number that its rule reads there.
use Rattle.std.specs.Prelude.{Some, None}
use mathlib.Core.Bool.{true, false}
use mathlib.Core.List.{List, [], ◌∷◌, ◌++◌}
use mathlib.Core.Path.{◌≡◌, refl}
use Prim.Native.Nat.{ℕ, suc, ◌+◌, ◌-◌, ◌*◌, ◌≤◌, ◌<◌}
use native.Mathlib.Omega.{arith}
use lib.IntN.{pos}
use lib.ListN.{length, get_or, drop, length-drop, drop_of_length-le}
use lib.Seq.{drop-cons}
use borrow.Author.Tests.{ne_eqb, le-leb}
use Rattle.laws.proofs.Digits.{digit-bounds}
use Rattle.laws.proofs.Numbers.{digits-come-back}
use Rattle.laws.proofs.Years.{no_minus, run-of-digits, year-carried}
use Rattle.meaning.specs.Bytes.{is_digit, digit_at}
use Rattle.meaning.specs.Names.{Book, english}
use Rattle.meaning.specs.Numerals.{all_digits, decimal}
use Rattle.meaning.specs.Readers.{got}
use Rattle.meaning.specs.Reading.{value, most_read, minus_first, digit_run, read_rule, read_step}
use Rattle.meaning.specs.Writing.{field}
use Rattle.meaning.specs.declared.Choices.{Choices}
use Rattle.meaning.specs.declared.Edition.{Edition}
use Rattle.meaning.specs.declared.Edition.TheVariants.{First, Second}
use Rattle.meaning.specs.declared.Numeral.TheVariants.{Year}
use Rattle.meaning.specs.declared.ParseUnit.TheVariants as unit
use Rattle.parse.proofs.rule.Within.{within_step}
use Rattle.parse.proofs.short.Taken.{digits-read}
use Rattle.parse.specs.ShortReads.{found, short_digits}
use Rattle.parse.specs.declared.short.Digits.{Digits}
use Rattle.rules.specs.ShortRules.{short_quantity, short_unit, short_most, short_rule}
use Rattle.rules.specs.Steps.{long_year}
use Rattle.rules.specs.declared.short.Short.{Short}
use Rattle.rules.specs.declared.short.Short.TheVariants as short
use Rattle.word_reader.specs.Quick.{Two, FourDigits}

-- two digits

two-there : (text : List ℕ) (at : ℕ) → at + 2 ≤ length text → drop at text ≡ get_or text at 0 ∷ get_or text (at + 1) 0 ∷ drop (at + 2) text
two-there text at h =
    let one : suc at ≡ at + 1 = omega arith in
    let two : suc (at + 1) ≡ at + 2 = omega arith in
    rw (drop-cons text at 0 (omega arith), one, drop-cons text (at + 1) 0 (omega arith), two)

pub two-small : (text : List ℕ) (at n : ℕ) → Two text at n → n < 100
two-small text at n two =
    omega (arith, two.2, (digit-bounds (get_or text at 0) two.0).1, (digit-bounds (get_or text (at + 1) 0) two.1).1)

two-found : (text : List ℕ) (at n : ℕ) → at + 2 ≤ length text → Two text at n → short_digits 2 2 (drop at text) ≡ found n 2
unfolding short_digits
two-found text at n h two =
    let a = get_or text at 0 in
    let b = get_or text (at + 1) 0 in
    rw (two-there text at h, two.0, two.1, two.2)

two-most : (edition : Edition) (s : Short) → most_read edition (short_quantity s) (short_most s 2) ≡ 2
unfolding most_read
two-most First short.Month = refl
two-most First short.Day = refl
two-most First short.Hour = refl
two-most First short.Minute = refl
two-most First short.Second = refl
two-most Second short.Month = refl
two-most Second short.Day = refl
two-most Second short.Hour = refl
two-most Second short.Minute = refl
two-most Second short.Second = refl

module _ (choices : Choices) (book : Book) (current : ℕ) (s : Short) (text : List ℕ) (at : ℕ) where
  pub two-got : (n : ℕ) → at + 2 ≤ length text → Two text at n
      → read_step choices book current (field (short_rule s 2)) (drop at text) ≡ got 2 (value (short_unit s) (pos n))
  unfolding read_step read_rule
  two-got n h two =
      rw (two-most choices.edition s) (digits-read (short_unit s) 2 2 (omega arith) (omega arith) (omega arith) (drop at text) (two-found text at n h two))

  -- one digit, or two if so many may be read

  few-most : (edition : Edition) (number : Short) → (1 ≤ most_read edition (short_quantity number) (short_most number 1)) × (most_read edition (short_quantity number) (short_most number 1) ≤ 2)
  unfolding most_read
  few-most First short.Month = (omega arith, omega arith)
  few-most First short.Day = (omega arith, omega arith)
  few-most First short.Hour = (omega arith, omega arith)
  few-most First short.Minute = (omega arith, omega arith)
  few-most First short.Second = (omega arith, omega arith)
  few-most Second short.Month = (omega arith, omega arith)
  few-most Second short.Day = (omega arith, omega arith)
  few-most Second short.Hour = (omega arith, omega arith)
  few-most Second short.Minute = (omega arith, omega arith)
  few-most Second short.Second = (omega arith, omega arith)

  pub few-got : {d : Digits} → short_digits 1 (most_read choices.edition (short_quantity s) (short_most s 1)) (drop at text) ≡ Some d
      → read_step choices book current (field (short_rule s 1)) (drop at text) ≡ got d.taken (value (short_unit s) (pos d.size))
  unfolding read_step read_rule
  few-got told =
      let most = few-most choices.edition s in
      digits-read (short_unit s) 1 (most_read choices.edition (short_quantity s) (short_most s 1)) (omega arith) most.0 most.1 (drop at text) told

pub few-inside : (choices : Choices) (s : Short) (text : List ℕ) (at : ℕ) {d : Digits}
    → short_digits 1 (most_read choices.edition (short_quantity s) (short_most s 1)) (drop at text) ≡ Some d → at ≤ length text
    → at + d.taken ≤ length text
few-inside choices s text at told h =
    let within = rw (few-got choices english 0 s text at told) at (within_step choices english 0 (field (short_rule s 1)) (drop at text)) in
    omega (arith, within, length-drop at text)

-- a year of four digits

four-there : (text : List ℕ) (at : ℕ) → at + 4 ≤ length text
    → drop at text ≡ get_or text at 0 ∷ get_or text (at + 1) 0 ∷ get_or text (at + 2) 0 ∷ get_or text (at + 2 + 1) 0 ∷ drop (at + 4) text
four-there text at h =
    let four : at + 2 + 2 ≡ at + 4 = omega arith in
    rw (two-there text at (omega arith), two-there text (at + 2) (omega arith), four)

module _ (choices : Choices) (book : Book) (current k : ℕ) (few : k ≤ 4) (text : List ℕ) (at n : ℕ) (there : at + 4 ≤ length text) (four : FourDigits text at n) where
  abbrev high : Two text at four.0
  high = four.2

  abbrev low : Two text (at + 2) four.1
  low = four.3

  abbrev digits : List ℕ
  digits = get_or text at 0 ∷ get_or text (at + 1) 0 ∷ get_or text (at + 2) 0 ∷ get_or text (at + 2 + 1) 0 ∷ []

  all_digits_lem : all_digits digits ≡ true
  unfolding all_digits
  all_digits_lem = rw (high.0, high.1, low.0, low.1)

  counts : decimal 0 digits ≡ n
  unfolding decimal
  counts = omega (arith, high.2, low.2, four.4)

  pub four-got : read_step choices book current (field (long_year k)) (drop at text) ≡ got 4 (value unit.Year (pos n))
  unfolding read_step read_rule
  four-got =
      let rest = drop (at + 4) text in
      let small : decimal 0 digits ≤ 2147483647 = rw counts (omega (arith, four.4, two-small text at four.0 high, two-small text (at + 2) four.1 low)) in
      let number = digits-come-back Year digits (omega arith) all_digits_lem small in
      let long : minus_first (digits ++ rest) + digit_run (drop (minus_first (digits ++ rest)) (digits ++ rest)) ≡ 4
      = rw (no_minus digits rest all_digits_lem (omega arith)) (omega (arith, run-of-digits digits rest all_digits_lem four.5)) in
      rw (le-leb k 4 few, four-there text at there, ← counts) (year-carried (λ z. z) _ digits rest _ long number)

-- none, one by itself, or what follows it too

module _ (most : ℕ) (text : List ℕ) (at : ℕ) (there : at < length text) where
  pub few-none : is_digit (get_or text at 0) ≡ false → None ≡ short_digits 1 most (drop at text)
  unfolding short_digits
  few-none e = rw (drop-cons text at 0 there, e)

  module _ (first : is_digit (get_or text at 0) ≡ true) where
    pub few-one : most ≡ 1 → found (get_or text at 0 - 48) 1 ≡ short_digits 1 most (drop at text)
    unfolding short_digits
    few-one e = rw (drop-cons text at 0 there, first, e)

    module _ (more : most ≡ 1 → ⊥) where
      pub few-last : length text ≤ at + 1 → found (get_or text at 0 - 48) 1 ≡ short_digits 1 most (drop at text)
      unfolding short_digits
      few-last h =
          let next : suc at ≡ at + 1 = omega arith in
          rw (drop-cons text at 0 there, first, ne_eqb most 1 more, next, drop_of_length-le text {i = at + 1} h)

      pub few-alone : at + 1 < length text → is_digit (get_or text (at + 1) 0) ≡ false → found (get_or text at 0 - 48) 1 ≡ short_digits 1 most (drop at text)
      unfolding short_digits
      few-alone h e =
          let next : suc at ≡ at + 1 = omega arith in
          rw (drop-cons text at 0 there, first, ne_eqb most 1 more, next, drop-cons text (at + 1) 0 h, e)

      pub few-both : at + 1 < length text → is_digit (get_or text (at + 1) 0) ≡ true
          → found ((get_or text at 0 - 48) * 10 + (get_or text (at + 1) 0 - 48)) 2 ≡ short_digits 1 most (drop at text)
      unfolding short_digits
      few-both h e =
          let next : suc at ≡ at + 1 = omega arith in
          rw (drop-cons text at 0 there, first, ne_eqb most 1 more, next, drop-cons text (at + 1) 0 h, e)

pub free-there : (text : List ℕ) (at : ℕ) → at < length text → is_digit (get_or text at 0) ≡ false → digit_at 0 (drop at text) ≡ false
unfolding digit_at
free-there text at h e = rw (drop-cons text at 0 h, e)

pub free-end : (text : List ℕ) (at : ℕ) → length text ≤ at → digit_at 0 (drop at text) ≡ false
unfolding digit_at
free-end text at h = rw (drop_of_length-le text {i = at} h)
