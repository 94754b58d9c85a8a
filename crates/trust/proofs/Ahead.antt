-- The lookahead is right: where the check sees no digit, no allowed record has one there; for the records that it shows, the
-- lookahead is the text's own test.
use mathlib.Core.Bool.{Bool, true, false}
use mathlib.Core.List.{List, [], ◌∷◌, ◌++◌, append-nil}
use mathlib.Core.Path.{◌≡◌, refl, sym, ◌∙◌}
use Prim.Native.Nat.{ℕ, zero, suc, ◌-◌, ◌≤◌, ◌<◌}
use native.Mathlib.Omega.{arith}
use lib.Dec.{ltb}
use lib.ListN.{length, take}
use borrow.Author.Tests.{eqb-true, ltb-true, ltb-false}
use Rattle.meaning.specs.Bytes.{when, digit_at, quote}
use Rattle.meaning.specs.Names.{Book}
use Rattle.meaning.specs.Writing.{Step, literal, ends_in_quote, is_negative, step_text, texts}
use Rattle.meaning.specs.declared.Fields.{Fields}
use Rattle.laws.proofs.Fields.{Allowed}
use Rattle.laws.proofs.Tests.{by-test, true-is-not-false, when-is}
use Rattle.trust.proofs.Fitting.{Fitting, no-parts, symbol-first, literal-first, open-last}
use Rattle.trust.proofs.RulesAhead.{behind-one, digit-within, rule-first, rule-second, rule-second-shown, long-numbers-allowed}
use Rattle.trust.specs.Ahead.{digit_first, digit_second}
use Rattle.trust.specs.Check.{long_numbers}

-- literals

less_one : (n : ℕ) → suc n - 1 ≡ n
less_one n = omega arith

-- the quote that an unclosed part loses is no digit
lost-quote : (s : List ℕ) → ends_in_quote s ≡ true → (i : ℕ) → digit_at i (take (length s - 1) s) ≡ digit_at i s
unfolding ends_in_quote digit_at
lost-quote [] e i = true-is-not-false (sym e)
lost-quote (b ∷ []) e zero = rw (eqb-true b quote e)
lost-quote (b ∷ []) e (suc i) = refl
lost-quote (a ∷ b ∷ s) e zero = rw (less_one (suc (length s)))
lost-quote (a ∷ b ∷ s) e (suc i) = rw (less_one (suc (length s))) (rw (less_one (length s)) at (lost-quote (b ∷ s) e i))

open-digit : (book : Book) (s : List ℕ) (lost : Bool) → lost ≡ ends_in_quote s → (f : Fields) (i : ℕ)
    → digit_at i (step_text book f (literal s lost) ++ []) ≡ digit_at i s
unfolding step_text
open-digit book s true e f i = rw append-nil (lost-quote s (sym e) i)
open-digit book s false e f i = rw append-nil

no-digit-past : (i : ℕ) (s : List ℕ) → length s ≤ i → digit_at i s ≡ false
unfolding digit_at
no-digit-past i [] h = refl
no-digit-past zero (b ∷ s) h = absurd (omega arith)
no-digit-past (suc i) (b ∷ s) h = no-digit-past i s (omega arith)

-- the second byte of a literal before t
literal-second : (s t : List ℕ) → 0 < length s → digit_at 1 (s ++ t) ≡ when (ltb (length s) 2) (digit_at 0 t) (digit_at 1 s)
literal-second s t h =
    when-is (λ b. digit_at 1 (s ++ t) ≡ b) (ltb (length s) 2) (λ e. behind-one s t (omega (arith, ltb-true (length s) 2 e)))
    (λ e. digit-within 1 s t (omega (arith, ltb-false (length s) 2 e)))

open-second : (s : List ℕ) → digit_at 1 s ≡ when (ltb (length s) 2) false (digit_at 1 s)
open-second s =
    when-is (λ b. digit_at 1 s ≡ b) (ltb (length s) 2) (λ e. no-digit-past 1 s (omega (arith, ltb-true (length s) 2 e))) (λ e. refl)

-- The first byte, for every record where it can be no digit, and for one of a positive year where it can.
pub first_byte : {book : Book} {ss : List Step} → Fitting book ss → (f : Fields) → Allowed f → (digit_first ss ≡ true → is_negative f.year ≡ false)
    → digit_at 0 (texts book f ss) ≡ digit_first ss
unfolding digit_first texts
first_byte no-parts f h year = unfold digit_at in refl
first_byte {book} (symbol-first {rule} {ss} fit rest) f h year = rule-first book rule fit f h (texts book f ss) year
first_byte {book} (literal-first {s} {ss} k rest) f h year = digit-within 0 s (texts book f ss) k
first_byte {book} (open-last {s} {lost} e) f h year = open-digit book s lost e f 0

pub no-first-digit : {book : Book} {ss : List Step} → Fitting book ss → (f : Fields) → Allowed f → digit_first ss ≡ false → digit_at 0 (texts book f ss) ≡ false
no-first-digit fit f h e = first_byte fit f h (λ k. true-is-not-false (sym k ∙ e)) ∙ e

-- The second byte, where it can be no digit.
pub no-second-digit : {book : Book} {ss : List Step} → Fitting book ss → (f : Fields) → Allowed f → digit_second ss ≡ false → digit_at 1 (texts book f ss) ≡ false
unfolding digit_second texts
no-second-digit no-parts f h e = unfold digit_at in refl
no-second-digit {book} (symbol-first {rule} {ss} fit rest) f h e =
    rule-second book rule fit f h (digit_first ss) (texts book f ss) e (λ k. no-first-digit rest f h k)
no-second-digit {book} (literal-first {s} {ss} k rest) f h e =
    by-test (ltb (length s) 2)
    (λ l. literal-second s (texts book f ss) k ∙ rw l (no-first-digit rest f h (rw l at e)))
    (λ l. literal-second s (texts book f ss) k ∙ rw l (rw l at e))
no-second-digit {book} (open-last {s} {lost} k) f h e = open-digit book s lost k f 1 ∙ open-second s ∙ unfold digit_first in e

-- The second byte of the record with long numbers.
pub second-byte : {book : Book} {ss : List Step} → Fitting book ss → digit_at 1 (texts book long_numbers ss) ≡ digit_second ss
unfolding digit_second texts
second-byte no-parts = unfold digit_at in refl
second-byte {book} (symbol-first {rule} {ss} fit rest) =
    rule-second-shown book rule fit (texts book long_numbers ss) ∙ rw (first_byte rest long_numbers long-numbers-allowed (λ _. refl))
second-byte {book} (literal-first {s} {ss} k rest) =
    literal-second s (texts book long_numbers ss) k ∙ rw (first_byte rest long_numbers long-numbers-allowed (λ _. refl))
second-byte {book} (open-last {s} {lost} k) = open-digit book s lost k long_numbers 1 ∙ unfold digit_first in open-second s
