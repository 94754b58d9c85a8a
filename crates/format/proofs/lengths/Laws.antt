-- How long what is measured is: a year with its sign, yy, the groups of a zone, an unclosed part.
use mathlib.Core.Bool.{Bool, true, false}
use mathlib.Core.List.{List, [], ◌∷◌, ◌++◌}
use mathlib.Core.Path.{◌≡◌, sym}
use Prim.Native.Nat.{ℕ, suc, ◌+◌, ◌-◌, ◌/◌, ◌%◌, ◌≤◌, ◌<◌}
use native.Mathlib.Omega.{arith}
use borrow.Author.Tests.{ltb-true, ltb-false}
use lib.Dec.{eqb, ltb}
use lib.IntN.{ℤ, pos, negsuc, nat_abs}
use lib.ListN.{length, get_or, length-append, length-take}
use Rattle.format.specs.Literals.{open_text}
use Rattle.laws.proofs.Digits.{num-fits}
use Rattle.laws.proofs.Tests.{by-test, true-is-not-false, when-is}
use Rattle.laws.proofs.Years.{two-digit-whole, two-digit-cut}
use Rattle.meaning.specs.Bytes.{when, both, num, quote}
use Rattle.meaning.specs.Writing.{is_negative, signed_text, two_digit_text, is_there, colon_text, group_text, offset_digits, offset_text, ends_in_quote}
use Rattle.meaning.specs.declared.Group.{Group}
use Rattle.pattern.specs.First.{unescaped}
use Rattle.pattern.specs.Next.{Lost}

pub signed-length : (k : ℕ) (z : ℤ) → length (signed_text k z) ≡ when (is_negative z) 1 0 + length (num k (nat_abs z))
unfolding signed_text
signed-length k (pos n) = omega arith
signed-length k (negsuc n) = omega arith

-- yy has two digits, and a minus from -9 to -1
pub two-digit-length : (z : ℤ) → length (two_digit_text z) ≡ when (both (is_negative z) (ltb (nat_abs z) 10)) 3 2
two-digit-length (pos n) =
    by-test (ltb n 100)
    (λ e.
    let small : n < 100 = ltb-true n 100 e in
    rw (two-digit-whole (pos n) small, signed-length) (omega (arith, num-fits 2 n (omega arith) small)))
    (λ e. rw (two-digit-cut (pos n) (ltb-false n 100 e)) (num-fits 2 (n % 100) (omega arith) (omega arith)))
two-digit-length (negsuc n) =
    by-test (ltb (suc n) 10)
    (λ e.
    let small : suc n < 10 = ltb-true (suc n) 10 e in
    rw (e, two-digit-whole (negsuc n) small, signed-length) (omega (arith, num-fits 2 (suc n) (omega arith) (omega arith))))
    (λ e. rw (e, two-digit-cut (negsuc n) (ltb-false (suc n) 10 e)) (num-fits 2 (suc n % 100) (omega arith) (omega arith)))

pub colon-length : (c : Bool) (n : ℕ) → n < 100 → length (colon_text c ++ num 2 n) ≡ when c 3 2
colon-length true n h = omega (arith, num-fits 2 n (omega arith) h)
colon-length false n h = num-fits 2 n (omega arith) h

-- a group has a colon and two digits at most
pub group-most : (c : Bool) (g : Group) (n : ℕ) → n < 100 → length (group_text c g n) ≤ 3
group-most c g n h =
    let most : when c 3 2 ≤ 3 = when-is (λ (k : ℕ). k ≤ 3) c (λ _. omega arith) (λ _. omega arith) in
    when-is (λ (s : List ℕ). length s ≤ 3) (is_there g n) (λ _. omega (arith, colon-length c n h)) (λ _. omega arith)

-- a sign, two digits of hours, and the groups
pub offset-length : (c : Bool) (minutes seconds : Group) (z : ℤ) → nat_abs z ≤ 86399
    → length (offset_text c minutes seconds z)
    ≡ 3 + length (group_text c minutes (nat_abs z % 3600 / 60)) + length (group_text c seconds (nat_abs z % 60))
unfolding offset_digits offset_text
offset-length c minutes seconds z h =
    rw (length-append, length-append) (omega (arith, num-fits 2 (nat_abs z / 3600) (omega arith) (omega arith)))

some_byte : (s : List ℕ) → ends_in_quote s ≡ true → 1 ≤ length s
unfolding ends_in_quote
some_byte [] e = true-is-not-false (sym e)
some_byte (b ∷ s) e = omega arith

-- an unclosed part that ends in a quote has a byte to lose
pub open-less : (s : List ℕ) → Lost s → eqb (get_or s (length s - 1) 0) quote ≡ true
    → (1 ≤ length (unescaped s)) × (length (open_text s) ≡ length (unescaped s) - 1)
unfolding open_text
open-less s l e =
    let last : ends_in_quote (unescaped s) ≡ true = rw l.told e in
    (some_byte (unescaped s) last, rw last (simp length-take (omega arith)))
