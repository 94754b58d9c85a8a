-- Words that are sums of their fields: each field is found again.
use mathlib.Core.Path.{◌≡◌, ap, ◌∙◌}
use Prim.Native.Nat.{ℕ, ◌+◌, ◌*◌, ◌/◌, ◌%◌, ◌<◌}
use native.Mathlib.Nat.{div-eq_of_lt, mod-eq_of_lt, mul-add-mod_self_left}
use native.Mathlib.Omega.{arith}
use Rattle.laws.proofs.Quotients.{on-div}

-- a field between what lies below and above it
pub field_is : (d m low x high n : ℕ) → n ≡ d * (m * high + x) + low → low < d → x < m → n / d % m ≡ x
field_is d m low x high n e small fits =
    let q : n / d ≡ m * high + x = on-div d (omega arith) (m * high + x) low n e ∙ omega (arith, div-eq_of_lt small) in
    ap (λ (k : ℕ). k % m) q ∙ mul-add-mod_self_left m high x ∙ mod-eq_of_lt fits

-- a field whose bits lie below a byte behind all else is the same with and without that
pub same-field : (d m k : ℕ) → 0 < d → d * (m * k) ≡ 72057594037927936 → (w q : ℕ) → (w + 72057594037927936 * q) / d % m ≡ w / d % m
same-field d m k some e w q =
    let sum : w + 72057594037927936 * q ≡ d * (m * (k * q)) + w = omega (arith, ap (λ (n : ℕ). n * q) e) in
    ap (λ (n : ℕ). n % m) (on-div d some (m * (k * q)) w _ sum) ∙ mul-add-mod_self_left m (k * q) (w / d)

-- the word of three numbers
module _ (k a b : ℕ) (coded : k < 32) (first : a < 256) (second : b < 256) where
  pub three-code : (k + 1099511627776 * a + 281474976710656 * b) % 32 ≡ k
  three-code = omega arith

  pub three-first : (k + 1099511627776 * a + 281474976710656 * b) / 1099511627776 % 256 ≡ a
  three-first = field_is 1099511627776 256 k a b _ (omega arith) (omega arith) first

  pub three-second : (k + 1099511627776 * a + 281474976710656 * b) / 281474976710656 % 256 ≡ b
  three-second = field_is 281474976710656 256 (k + 1099511627776 * a) b 0 _ (omega arith) (omega arith) second

  pub three-last : (k + 1099511627776 * a + 281474976710656 * b) / 72057594037927936 % 256 ≡ 0
  three-last = omega arith
