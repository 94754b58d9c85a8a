-- Laws of the cursor's steps: what a step answers, from what the number reader and the matcher found in the remaining text.
use Rattle.std.specs.Prelude.{Result, Ok, Err, Some, None, IsErrAnd}
use Rattle.std.proofs.lemmas.Result.{err_from_is_err_and}
use mathlib.Core.List.{List}
use mathlib.Core.Option.{Option, none, some}
use mathlib.Core.Path.{◌≡◌, refl, sym, ap, ◌∙◌}
use Prim.Native.Nat.{ℕ, ◌+◌, ◌≤◌, ◌<◌}
use native.Mathlib.Nat.{add-zero}
use native.Mathlib.Omega.{arith}
use lib.Dec.{ltb}
use lib.ListN.{length, take}
use borrow.Author.Tests.{ltb-true, ltb-false, lt-ltb, le-ltb}
use Rattle.names.proofs.tables.Answers.{found_name, found_nothing}
use Rattle.names.specs.Table.{found_in}
use Rattle.laws.proofs.Readers.{skip_goes_on, skip-stops}
use Rattle.laws.proofs.Tests.{by-test}
use Rattle.meaning.specs.Numerals.{Signed, plus_first, number_of}
use Rattle.meaning.specs.Readers.{taken_number, take_number, skip, match_name, letters}
use Rattle.meaning.specs.declared.Numeral.{Numeral}
use Rattle.meaning.specs.declared.Trouble.TheVariants.{TooFew, NoName}
use Rattle.numerals.specs.Numbers.{got_number}
use Rattle.parse.specs.Steps.{taken_at, skipped_at, matched_at}
use Rattle.meaning.specs.declared.Trouble.{Trouble}
use Rattle.names.specs.declared.tables.Found.{Found}
use Rattle.numerals.specs.declared.Number.{Number}
use Rattle.parse.specs.declared.cursor.Cursor.{Cursor}
use Rattle.parse.specs.declared.cursor.Read.{Read}
use Rattle.parse.specs.declared.cursor.Stop.{Stop}

abbrev pub stop : Trouble → ℕ → Stop
stop why at = record { trouble = why; place = at }

pub same_ok : {A E : Type 0} {a b : A} → ◌≡◌ {A = Result A E} (Ok a) (Ok b) → a ≡ b
same_ok e = cc

pub same_err : {A E : Type 0} {a b : E} → ◌≡◌ {A = Result A E} (Err a) (Err b) → a ≡ b
same_err e = cc

-- what `?` hands on is the same
pub left_by : {A E : Type 0} {r : Result A E} {e : E} → IsErrAnd r (λ y. y ≡ e) → r ≡ Err e
left_by {r = r} h = let p = err_from_is_err_and r h in rw (p.1, p.2)

-- taking

abbrev pub number_taken : ℕ → ℕ → Result Number Trouble → Result (Read Number) Stop
number_taken at k (Ok n) = Ok (record { value = n; next = record { at = at + k } })
number_taken at k (Err why) = Err (stop why at)

found_number : (at k : ℕ) (n : Option Signed) → taken_at at (taken_number k n) ≡ number_taken at k (got_number (taken_number k n))
found_number at k none = rw add-zero
found_number at k (some n) = refl

pub taken-by : (at : ℕ) (kind : Numeral) (k : ℕ) (s : List ℕ)
    → taken_at at (take_number kind k s) ≡ number_taken at k (got_number (take_number kind k s))
unfolding take_number
taken-by at kind k s =
    by-test (ltb (length s) k) (λ e. rw (e, add-zero))
    (λ e. by-test (plus_first (take k s)) (λ p. rw (e, p, add-zero)) (λ p. rw (e, p) (found_number at k (number_of kind (take k s)))))

pub taken-within : (kind : Numeral) (k : ℕ) (s : List ℕ) {n : Number} → got_number (take_number kind k s) ≡ Ok n → k ≤ length s
unfolding take_number
taken-within kind k s h =
    by-test (ltb (length s) k)
    (λ e. absurd (let few = rw e at h in let z : ◌≡◌ {A = ℕ} 0 1 = cc in omega arith)) (λ e. ltb-false (length s) k e)

-- skipping

pub skipped-few : (at k : ℕ) (s : List ℕ) → length s < k → skipped_at at (skip k s) ≡ Err (stop TooFew at)
skipped-few at k s h = rw (skip-stops k s h, add-zero)

pub skipped-past : (at k : ℕ) (s : List ℕ) → k ≤ length s → skipped_at at (skip k s) ≡ Ok (record { at = at + k })
skipped-past at k s h = rw (skip_goes_on k s h)

-- matching

pub matched-name : (at : ℕ) (names : List (List ℕ)) (s : List ℕ) {f : Found} → found_in (match_name names s) ≡ Some f
    → matched_at at (match_name names s) ≡ Ok (record { value = f.index; next = record { at = at + f.length } })
matched-name at names s h = rw (found_name (match_name names s) h)

pub matched-nothing : (at : ℕ) (names : List (List ℕ)) (s : List ℕ) → found_in (match_name names s) ≡ None
    → matched_at at (match_name names s) ≡ Err (stop NoName at)
matched-nothing at names s h = rw (found_nothing names s h, add-zero)

-- letters are a match in the bytes that they have
pub letters-match : (k : ℕ) (names : List (List ℕ)) (s : List ℕ) → k ≤ length s → letters k names s ≡ match_name names (take k s)
unfolding letters match_name
letters-match k names s h = rw (le-ltb (length s) k h)

pub letters-few : (at k : ℕ) (names : List (List ℕ)) (s : List ℕ) → length s < k → matched_at at (letters k names s) ≡ Err (stop TooFew at)
unfolding letters
letters-few at k names s h = rw (lt-ltb (length s) k h, add-zero)

-- letters behind a skip
abbrev pub letters_by : ℕ → ℕ → List (List ℕ) → List ℕ → Result Cursor Stop → Result (Read ℕ) Stop
letters_by at k names s (Err stop') = Err stop'
letters_by at k names s (Ok next) = matched_at at (match_name names (take k s))

pub letters-skipped : (at k : ℕ) (names : List (List ℕ)) (s : List ℕ)
    → matched_at at (letters k names s) ≡ letters_by at k names s (skipped_at at (skip k s))
letters-skipped at k names s =
    by-test (ltb (length s) k)
    (λ e. let h = ltb-true (length s) k e in rw (letters-few at k names s h, skipped-few at k s h))
    (λ e. let h = ltb-false (length s) k e in rw (letters-match k names s h, skipped-past at k s h))

pub skipped-end : (at k : ℕ) (s : List ℕ) {next : Cursor} → skipped_at at (skip k s) ≡ Ok next → (next.at ≡ at + k) × (k ≤ length s)
skipped-end at k s {next} e =
    by-test (ltb (length s) k)
    (λ t. absurd (let few = sym (skipped-few at k s (ltb-true (length s) k t)) ∙ e in let z : ◌≡◌ {A = ℕ} 0 1 = cc in omega arith))
    (λ t. let h = ltb-false (length s) k t in (ap (λ (c : Cursor). c.at) (same_ok (sym e ∙ skipped-past at k s h)), h))
