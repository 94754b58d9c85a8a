-- Quotients and remainders by any number but 0, where one law serves several divisors: `omega` reads only division by numerals.
use mathlib.Core.Bool.{Bool, true, false}
use mathlib.Core.Path.{◌≡◌, sym, ap, ◌∙◌}
use Prim.Native.Nat.{ℕ, suc, ◌+◌, ◌-◌, ◌*◌, ◌/◌, ◌%◌, ◌≤◌, ◌<◌}
use native.Mathlib.Nat.{div-add-mod, mod-lt, mod_self, mod-eq_of_lt, div_self, div-eq_of_lt, mul-add-div, mul-add-mod_self_left, add-mod_right, zero-mod, mul-sub, mul-suc, mul-le-mul_left}
use native.Mathlib.Omega.{arith}
use borrow.Author.Tests.{ltb-true, ltb-false, eqb-true, eq-eqb, ne_eqb}
use lib.Dec.{eqb, ltb}
use Rattle.meaning.specs.Bytes.{when}
use Rattle.meaning.specs.Calendar.{divides}
use Rattle.laws.proofs.Tests.{by-test, same_test}

-- one for a true test
abbrev pub one : Bool → ℕ
one t = when t 1 0

-- sums in which the products are plain numbers

more : (p r a : ℕ) → p + r ≡ a → suc a ≡ p + suc r
more p r a e = omega arith

not-past : (p q s x y j r k : ℕ) → q + r ≡ y + j → y ≤ p → s ≡ p + k → suc j ≡ k → s ≤ q → ⊥
not-past p q s x y j r k e h m f le = omega arith

rest : (p q n y j r : ℕ) → n + y ≡ p → q + r ≡ y + j → r ≤ j → q ≤ p → n ≡ p - q + (j - r)
rest p q n y j r e f h le = omega arith

left : (p q n y : ℕ) → n + y ≡ p → q ≡ n → y ≡ p - q + 0
left p q n y e d = omega arith

module _ (k : ℕ) (some : 0 < k) where
  pub on-div : (x y n : ℕ) → n ≡ k * x + y → n / k ≡ x + y / k
  on-div x y n e = ap (λ (m : ℕ). m / k) e ∙ mul-add-div some x y

  pub on-mod : (x y n : ℕ) → n ≡ k * x + y → n % k ≡ y % k
  on-mod x y n e = ap (λ (m : ℕ). m % k) e ∙ mul-add-mod_self_left k x y

  -- the quotient of the next number
  pub next-div : (a : ℕ) → suc a / k ≡ a / k + one (divides k (suc a))
  next-div a =
      let r = a % k in
      let e = more (k * (a / k)) r a (div-add-mod a k) in
      by-test (ltb (suc r) k)
      (λ t.
      let h = ltb-true (suc r) k t in
      let m : suc a % k ≡ suc r = on-mod (a / k) (suc r) (suc a) e ∙ mod-eq_of_lt h in
      let f : divides k (suc a) ≡ false = ne_eqb (suc a % k) 0 (λ z. omega (arith, m)) in
      on-div (a / k) (suc r) (suc a) e ∙ rw (div-eq_of_lt h, f))
      (λ t.
      let h : suc r ≡ k = omega (arith, ltb-false (suc r) k t, mod-lt a some) in
      let m : suc a % k ≡ 0 = on-mod (a / k) (suc r) (suc a) e ∙ ap (λ (n : ℕ). n % k) h ∙ mod_self k in
      let f : divides k (suc a) ≡ true = eq-eqb (suc a % k) 0 m in
      on-div (a / k) (suc r) (suc a) e ∙ ap (λ (n : ℕ). a / k + n / k) h ∙ rw (div_self some, f))

  module _ (j : ℕ) (last : suc j ≡ k) where
    -- rounded up
    pub next_up : (a : ℕ) → (suc a + j) / k ≡ (a + j) / k + one (divides k a)
    next_up a =
        let s : suc a + j ≡ suc (a + j) = omega arith in
        let e : suc (a + j) ≡ a + k = omega arith in
        let m : suc (a + j) % k ≡ a % k = ap (λ (n : ℕ). n % k) e ∙ add-mod_right a k in
        ap (λ (n : ℕ). n / k) s ∙ next-div (a + j) ∙ ap (λ (n : ℕ). (a + j) / k + one (eqb n 0)) m

    -- two numbers that make up so many k: the one rounded down, the other up
    pub back-div : (x y n : ℕ) → n + y ≡ k * x → n / k + (y + j) / k ≡ x
    back-div x y n e =
        let q = (y + j) / k in
        let r = (y + j) % k in
        let d = div-add-mod (y + j) k in
        let h : r ≤ j = omega (arith, mod-lt (y + j) some) in
        let low : q ≤ x =
        by-test (ltb x q)
        (λ t. absurd (not-past (k * x) (k * q) (k * suc x) x y j r k d (omega arith) (mul-suc k x) last (mul-le-mul_left k (ltb-true x q t))))
        (λ t. ltb-false x q t) in
        let f : n ≡ k * (x - q) + (j - r) = rest (k * x) (k * q) n y j r e d h (mul-le-mul_left k low) ∙ ap (λ (m : ℕ). m + (j - r)) (sym (mul-sub k x q)) in
        let g : (j - r) / k ≡ 0 = div-eq_of_lt (omega arith) in
        omega (arith, on-div (x - q) (j - r) n f)

  back-mod : (x y n : ℕ) → n + y ≡ k * x → n % k ≡ 0 → y % k ≡ 0
  back-mod x y n e h =
      let d : k * (n / k) ≡ n = omega (arith, div-add-mod n k) in
      let f : y ≡ k * (x - n / k) + 0 = left (k * x) (k * (n / k)) n y e d ∙ ap (λ (m : ℕ). m + 0) (sym (mul-sub k x (n / k))) in
      on-mod (x - n / k) 0 y f ∙ zero-mod k

  -- of two such numbers k divides both or none
  pub back-divides : (x y n : ℕ) → n + y ≡ k * x → divides k n ≡ divides k y
  back-divides x y n e =
      let f : y + n ≡ k * x = omega arith in
      same_test (divides k n) (divides k y) (λ t. eq-eqb (y % k) 0 (back-mod x y n e (eqb-true (n % k) 0 t)))
      (λ t. eq-eqb (n % k) 0 (back-mod x n y f (eqb-true (y % k) 0 t)))
