-- The text of a word, by its code, and of words, one after the other.
use mathlib.Core.Bool.{true, false}
use mathlib.Core.List.{List, [], ◌∷◌, ◌++◌, map, append-nil}
use mathlib.Core.Path.{◌≡◌, refl, sym}
use Prim.Native.Nat.{ℕ, zero, suc, ◌+◌, ◌/◌, ◌%◌, ◌≤◌, ◌<◌}
use native.Mathlib.Numerals.{add-one}
use native.Mathlib.Omega.{arith}
use lib.Dec.{eqb, ltb}
use lib.IntN.{ℤ, pos, negsuc, nat_abs}
use lib.ListN.{length, get_or, take, drop, replicate, drop_of_length-le}
use lib.Seq.{drop-cons, get_or-take, length-take-le}
use borrow.Author.Tests.{ne_eqb, eqb-true, eqb-false, ltb-true}
use Rattle.format.proofs.step.Texts.{year-text}
use Rattle.laws.proofs.Digits.{num-digits}
use Rattle.laws.proofs.Fields.{Allowed}
use Rattle.laws.proofs.Tests.{by-test, both_true, true-is-not-false}
use Rattle.laws.proofs.Texts.{texts-join}
use Rattle.meaning.specs.Bytes.{when, digits, num}
use Rattle.meaning.specs.Names.{Book}
use Rattle.meaning.specs.Writing.{is_negative, quantity_of, name_text, signed_text, rule_text, step_text, texts}
use Rattle.meaning.specs.declared.Fields.{Fields}
use Rattle.meaning.specs.declared.Quantity.TheVariants.{Month, Day, Hour0To23, Minute, Second}
use Rattle.word_writer.specs.Written.{behind_text, two_more, held_text, plain_year, numbers_of, Small, is_quick, quick_text, other_text}
use Rattle.rules.specs.ShortRules.{short_quantity}
use Rattle.words.specs.Coding.{list_in, rule_of_kind, rule_in}
use Rattle.words.specs.Fields.{code, slot, count, is_lost, last_byte, kind, item}
use Rattle.words.specs.Pieces.{piece_step, behind, short_in, pieces_of_code, pieces_in, steps_in, steps_of}

module _ (book : Book) (tail : List ℕ) (f : Fields) where
  behind-text : (w : ℕ) → texts book f (map (piece_step tail) (behind w)) ≡ behind_text w
  unfolding texts step_text piece_step
  behind-text w = by-test (eqb (last_byte w) 0) (λ e. rw e) (λ e. rw e)

  pub byte-text : (w : ℕ) → code w ≡ 1 → texts book f (steps_in tail w) ≡ last_byte w ∷ []
  unfolding texts step_text steps_in piece_step pieces_in pieces_of_code
  byte-text w e = rw e

  pub full-text : (w : ℕ) → code w ≡ 3 → texts book f (steps_in tail w) ≡ num 2 (quantity_of (short_quantity (short_in (slot w))) f) ++ behind_text w
  unfolding texts step_text rule_text steps_in piece_step pieces_in pieces_of_code
  full-text w e = rw (e, behind-text w)

  pub few-text : (w : ℕ) → code w ≡ 4 → texts book f (steps_in tail w) ≡ num 1 (quantity_of (short_quantity (short_in (slot w))) f) ++ behind_text w
  unfolding texts step_text rule_text steps_in piece_step pieces_in pieces_of_code
  few-text w e = rw (e, behind-text w)

  pub year-word-text : (w : ℕ) → code w ≡ 9 → texts book f (steps_in tail w) ≡ signed_text (slot w) f.year ++ behind_text w
  unfolding texts step_text steps_in piece_step pieces_in pieces_of_code
  year-word-text w e = rw (e, behind-text w, year-text book (slot w) f)

  pub time-text : (w : ℕ) → code w ≡ 10
      → texts book f (steps_in tail w) ≡ num 2 (quantity_of Hour0To23 f) ++ two_more (num 2 (quantity_of Minute f)) (num 2 (quantity_of Second f)) w
  unfolding texts step_text rule_text steps_in piece_step pieces_in pieces_of_code
  time-text w e = rw (e, behind-text w)

  pub date-text : (w : ℕ) → code w ≡ 15
      → texts book f (steps_in tail w) ≡ signed_text 4 f.year ++ two_more (num 2 (quantity_of Month f)) (num 2 (quantity_of Day f)) w
  unfolding texts step_text rule_text steps_in piece_step pieces_in pieces_of_code
  date-text w e = rw (e, behind-text w)

  pub rule-word-text : (w : ℕ) → code w ≡ 22 → texts book f (steps_in tail w) ≡ rule_text book (rule_in w) f ++ behind_text w
  unfolding texts step_text steps_in piece_step pieces_in pieces_of_code
  rule-word-text w e = rw (e, behind-text w)

  pub name-word-text : (w : ℕ) → code w ≡ 22 → eqb (kind w) 4 ≡ true → texts book f (steps_in tail w) ≡ name_text book (list_in (item w)) f ++ behind_text w
  unfolding rule_text rule_of_kind
  name-word-text w e k = rw (rule-word-text w e, eqb-true (kind w) 4 k)

  pub long-year-text : (w : ℕ) → code w ≡ 29 → texts book f (steps_in tail w) ≡ signed_text (count w) f.year
  unfolding texts step_text steps_in piece_step pieces_in pieces_of_code
  long-year-text w e = rw (e, year-text book (count w) f, append-nil)

  pub times-text : (w : ℕ) → code w ≡ 30 → texts book f (steps_in tail w) ≡ replicate (count w) (last_byte w)
  unfolding texts step_text steps_in piece_step pieces_in pieces_of_code
  times-text w e = rw (e, append-nil)

  pub held-text : (w : ℕ) → code w ≡ 31 → texts book f (steps_in tail w) ≡ held_text tail w
  unfolding texts step_text steps_in piece_step pieces_in pieces_of_code
  held-text w e = rw (e, append-nil) (by-test (is_lost w) (λ t. rw t) (λ t. rw t))

  -- a word with any other code writes nothing
  pub none-text : (w : ℕ) → (code w ≡ 1 → ⊥) → (code w ≡ 3 → ⊥) → (code w ≡ 4 → ⊥) → (code w ≡ 9 → ⊥) → (code w ≡ 10 → ⊥) → (code w ≡ 15 → ⊥)
      → (code w ≡ 22 → ⊥) → (code w ≡ 29 → ⊥) → (code w ≡ 30 → ⊥) → (code w ≡ 31 → ⊥) → texts book f (steps_in tail w) ≡ []
  unfolding texts steps_in pieces_in pieces_of_code
  none-text w byte full few year time date rule long times held =
      simp (
        ne_eqb _ _ byte,
        ne_eqb _ _ full,
        ne_eqb _ _ few,
        ne_eqb _ _ year,
        ne_eqb _ _ time,
        ne_eqb _ _ date,
        ne_eqb _ _ rule,
        ne_eqb _ _ long,
        ne_eqb _ _ times,
        ne_eqb _ _ held,
      )

  -- the first so many words of a row: the next of those that are left, and the others
  module _ (used : ℕ) (there : used ≤ length tail) where
    abbrev words : List ℕ
    words = take used tail

    pub next_word : (i : ℕ) → i < used
        → texts book f (steps_of tail (drop i words)) ≡ texts book f (steps_in tail (get_or tail i 0)) ++ texts book f (steps_of tail (drop (i + 1) words))
    unfolding steps_of
    next_word i h =
        let within : i < length words = omega (arith, length-take-le used tail there) in
        rw (add-one i, drop-cons words i 0 within, texts-join book f, get_or-take used tail i 0 h)

    pub no_word : (i : ℕ) → used ≤ i → texts book f (steps_of tail (drop i words)) ≡ []
    unfolding steps_of texts
    no_word i h =
        let past : length words ≤ i = omega (arith, length-take-le used tail there) in
        rw (drop_of_length-le words past)

-- the numbers of a record by their places

pub slot-number : (f : Fields) (n : ℕ) → n < 8 → get_or (numbers_of f) n 0 ≡ quantity_of (short_quantity (short_in n)) f
unfolding numbers_of short_in
slot-number f zero h = refl
slot-number f (suc zero) h = refl
slot-number f (suc (suc zero)) h = refl
slot-number f (suc (suc (suc zero))) h = refl
slot-number f (suc (suc (suc (suc zero)))) h = refl
slot-number f (suc (suc (suc (suc (suc zero))))) h = refl
slot-number f (suc (suc (suc (suc (suc (suc zero)))))) h = refl
slot-number f (suc (suc (suc (suc (suc (suc (suc zero))))))) h = refl
slot-number f (suc (suc (suc (suc (suc (suc (suc (suc n)))))))) h = absurd (omega arith)

-- all but the year have at most two digits
pub small-numbers : (f : Fields) → Allowed f → Small (numbers_of f)
unfolding numbers_of quantity_of
small-numbers f ok zero h = omega arith
small-numbers f ok (suc zero) h = omega arith
small-numbers f ok (suc (suc zero)) h = omega arith
small-numbers f ok (suc (suc (suc zero))) h = omega arith
small-numbers f ok (suc (suc (suc (suc zero)))) h = omega arith
small-numbers f ok (suc (suc (suc (suc (suc zero))))) h = omega arith
small-numbers f ok (suc (suc (suc (suc (suc (suc zero)))))) h = omega arith
small-numbers f ok (suc (suc (suc (suc (suc (suc (suc zero))))))) h = omega arith
small-numbers f ok (suc (suc (suc (suc (suc (suc (suc (suc zero)))))))) h = omega arith
small-numbers f ok (suc (suc (suc (suc (suc (suc (suc (suc (suc zero))))))))) h = omega arith
small-numbers f ok (suc (suc (suc (suc (suc (suc (suc (suc (suc (suc n)))))))))) h = absurd (omega arith)

-- a year of four digits
pub plain-year : (z : ℤ) (n : ℕ) → n ≡ when (is_negative z) 10000 (nat_abs z) → n < 10000 → signed_text 4 z ≡ digits 4 n
unfolding signed_text
plain-year (pos m) n e h = rw e (num-digits 4 m (omega arith) (omega arith))
plain-year (negsuc m) n e h = absurd (omega arith)

-- Words by their kinds.

quick-or : (year w : ℕ) → is_quick year w ≡ true
    → (P : Type 0) → (code w ≡ 1 → P) → (code w ≡ 3 → P) → (code w ≡ 4 → P) → (code w ≡ 9 → slot w ≡ 4 → year < 10000 → P) → (code w ≡ 10 → P) → (code w ≡ 15 → year < 10000 → P) → P
quick-or year w q P byte full few long time date =
    by-test (eqb (code w) 1) (λ t. byte (eqb-true (code w) 1 t)) (λ no_byte.
    by-test (eqb (code w) 3) (λ t. full (eqb-true (code w) 3 t)) (λ no-full.
    by-test (eqb (code w) 4) (λ t. few (eqb-true (code w) 4 t)) (λ no-few.
    by-test (eqb (code w) 9)
    (λ t.
    let both_of = both_true (eqb (slot w) 4) (ltb year 10000) (rw (no_byte, no-full, no-few, t) at q) in
    long (eqb-true (code w) 9 t) (eqb-true (slot w) 4 both_of.0) (ltb-true year 10000 both_of.1)) (λ no-long.
    by-test (eqb (code w) 10) (λ t. time (eqb-true (code w) 10 t)) (λ no-time.
    by-test (eqb (code w) 15)
    (λ t. date (eqb-true (code w) 15 t) (ltb-true year 10000 (rw (no_byte, no-full, no-few, no-long, no-time, t) at q)))
    (λ no-date. true-is-not-false (sym (rw (no_byte, no-full, no-few, no-long, no-time, no-date) at q))))))))

-- the last of them is a date
pub quick-date : (year w : ℕ) → is_quick year w ≡ true → (code w ≡ 1 → ⊥) → (code w ≡ 3 → ⊥) → (code w ≡ 4 → ⊥) → (code w ≡ 9 → ⊥) → (code w ≡ 10 → ⊥)
    → (code w ≡ 15) × (year < 10000)
quick-date year w q byte full few long time =
    quick-or year w q ((code w ≡ 15) × (year < 10000)) (λ e. absurd (byte e)) (λ e. absurd (full e)) (λ e. absurd (few e)) (λ e _ _. absurd (long e)) (λ e. absurd (time e))
    (λ e h. (e, h))

pub quick-year : (year w : ℕ) → is_quick year w ≡ true → code w ≡ 9 → year < 10000
quick-year year w q e = ltb-true year 10000 (both_true (eqb (slot w) 4) (ltb year 10000) (rw e at q)).1

-- the places of a date's numbers
pub date-places : (w : ℕ) → code w ≡ 15 → (w % 8 ≡ 7) × (w / 8 % 2 ≡ 1)
date-places w e = (omega arith, omega arith)

-- the numbers that a code says
pub record Numbers (f : Fields) : Type 0 where
  pub hour : get_or (numbers_of f) 2 0 ≡ quantity_of Hour0To23 f
  pub minute : get_or (numbers_of f) 3 0 ≡ quantity_of Minute f
  pub second : get_or (numbers_of f) 4 0 ≡ quantity_of Second f
  pub month : get_or (numbers_of f) 8 0 ≡ quantity_of Month f
  pub day : get_or (numbers_of f) 9 0 ≡ quantity_of Day f
  pub year : get_or (numbers_of f) 10 0 ≡ plain_year f

pub numbers-are : (f : Fields) → Numbers f
unfolding numbers_of
numbers-are f = record { hour = refl; minute = refl; second = refl; month = refl; day = refl; year = refl }

module _ (book : Book) (tail : List ℕ) (f : Fields) (w : ℕ) where
  pub quick-word : is_quick (plain_year f) w ≡ true → texts book f (steps_in tail w) ≡ quick_text (numbers_of f) w
  unfolding quick_text
  quick-word q =
      let are = numbers-are f in
      quick-or (plain_year f) w q (texts book f (steps_in tail w) ≡ quick_text (numbers_of f) w)
      (λ e. rw (byte-text book tail f w e, e))
      (λ e. rw (full-text book tail f w e, e, slot-number f (slot w) (omega arith)))
      (λ e. rw (few-text book tail f w e, e, slot-number f (slot w) (omega arith)))
      (λ e four small. rw (year-word-text book tail f w e, e, four, are.year, plain-year f.year (plain_year f) refl small))
      (λ e. rw (time-text book tail f w e, e, are.hour, are.minute, are.second))
      (λ e small. rw (date-text book tail f w e, e, are.month, are.day, are.year, plain-year f.year (plain_year f) refl small))

  pub other_word : is_quick (plain_year f) w ≡ false → (code w ≡ 22 → ⊥) → texts book f (steps_in tail w) ≡ other_text tail f w
  unfolding other_text quantity_of
  other_word q rule =
      by-test (eqb (code w) 9) (λ t. rw (year-word-text book tail f w (eqb-true (code w) 9 t), t)) (λ year.
      by-test (eqb (code w) 15) (λ t. rw (date-text book tail f w (eqb-true (code w) 15 t), year, t)) (λ date.
      by-test (eqb (code w) 29) (λ t. rw (long-year-text book tail f w (eqb-true (code w) 29 t), year, date, t)) (λ long.
      by-test (eqb (code w) 30) (λ t. rw (times-text book tail f w (eqb-true (code w) 30 t), year, date, long, t)) (λ times.
      by-test (eqb (code w) 31) (λ t. rw (held-text book tail f w (eqb-true (code w) 31 t), year, date, long, times, t)) (λ held.
      rw (
        none-text book tail f w
            (λ e. true-is-not-false (rw e at q)) (λ e. true-is-not-false (rw e at q)) (λ e. true-is-not-false (rw e at q))
            (eqb-false _ _ year) (λ e. true-is-not-false (rw e at q)) (eqb-false _ _ date) rule (eqb-false _ _ long) (eqb-false _ _ times) (eqb-false _ _ held),
        year,
        date,
        long,
        times,
        held,
      ))))))
