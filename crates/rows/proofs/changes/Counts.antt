-- Numbers of a lent row as counts and as bytes: below 0, over 255, and what they are else; and the four of a change.
use mathlib.Core.Bool.{true, false}
use mathlib.Core.Path.{◌≡◌, refl, sym}
use Prim.Native.Nat.{◌≤◌}
use native.Mathlib.Omega.{arith}
use lib.Dec.{T}
use lib.IntN.{ℤ, pos, negsuc, nat_abs}
use lib.Signed.{lt_z, non_neg}
use borrow.Author.Tests.{ltb-true, ltb-false, le-leb, lt-leb, leb-true}
use Rattle.laws.proofs.Tests.{true-is-not-false, both_true}
use Rattle.meaning.specs.Bytes.{both}
use Rattle.rows.specs.Changes.{is_count, is_byte, is_change}

pub count-below : (z : ℤ) → lt_z z (pos 0) ≡ true → is_count z ≡ false
count-below (pos n) t = absurd (omega (arith, ltb-true n 0 t))
count-below (negsuc n) t = refl

pub count-is : (z : ℤ) → lt_z z (pos 0) ≡ false → is_count z ≡ true
count-is (pos n) t = refl
count-is (negsuc n) t = true-is-not-false t

pub byte-below : (z : ℤ) → lt_z z (pos 0) ≡ true → is_byte z ≡ false
byte-below (pos n) t = absurd (omega (arith, ltb-true n 0 t))
byte-below (negsuc n) t = refl

pub byte-over : (z : ℤ) → lt_z (pos 255) z ≡ true → is_byte z ≡ false
byte-over (pos n) t = lt-leb n 255 (ltb-true 255 n t)
byte-over (negsuc n) t = refl

pub byte-is : (z : ℤ) → lt_z z (pos 0) ≡ false → lt_z (pos 255) z ≡ false → is_byte z ≡ true
byte-is (pos n) t u = le-leb n 255 (ltb-false 255 n u)
byte-is (negsuc n) t u = true-is-not-false t

pub not_negative : (z : ℤ) → is_count z ≡ true → T (non_neg z)
not_negative (pos n) e = tt
not_negative (negsuc n) e = true-is-not-false (sym e)

pub small : (z : ℤ) → is_byte z ≡ true → T (non_neg z) × (nat_abs z ≤ 255)
small (pos n) e = (tt, leb-true n 255 e)
small (negsuc n) e = true-is-not-false (sym e)

pub change-is : (place byte before after : ℤ) → is_change place byte before after ≡ true
    → (is_count place ≡ true) × (is_byte byte ≡ true) × (is_count before ≡ true) × (is_count after ≡ true)
change-is place byte before after e =
    let a = both_true (is_count place) (both (is_byte byte) (both (is_count before) (is_count after))) e in
    let b = both_true (is_byte byte) (both (is_count before) (is_count after)) a.1 in
    let c = both_true (is_count before) (is_count after) b.1 in
    (a.0, b.0, c.0, c.1)
