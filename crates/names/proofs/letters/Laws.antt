-- Numbers and the bytes that they are made of, and names cut to so many letters.
use mathlib.Core.List.{List, [], ◌∷◌, ◌++◌}
use mathlib.Core.Path.{◌≡◌, refl, sym, ap, ◌∙◌}
use Prim.Native.Nat.{ℕ, zero, suc, ◌+◌, ◌-◌, ◌*◌, ◌/◌, ◌%◌, ◌^◌, ◌≤◌, ◌<◌, min}
use native.Mathlib.Nat.{pow-zero, pow-suc, pow-le-pow_right, mul-div_cancel, mul-mod_left, eq_of_mul-eq-mul_right}
use native.Mathlib.Omega.{arith}
use lib.Arith.{mod-mul}
use lib.ListN.{length, get_or, set, take, drop, length-take, length-drop}
use lib.Seq.{sets, drop-cons, take-nil, take-suc, take-take, take-append-le, get_or-take, get_or-drop}
use Rattle.laws.proofs.Tests.{tabulate, tables_agree}
use Rattle.names.specs.Letters.{bytes_of, number_of, spelled_by}
use Rattle.names.specs.declared.letters.Spelling.{Spelling}

pub length-bytes : (n w : ℕ) → length (bytes_of n w) ≡ n
unfolding bytes_of
length-bytes zero w = refl
length-bytes (suc n) w = ap suc (length-bytes n (w / 256))

pub take-bytes : (n m w : ℕ) → n ≤ m → take n (bytes_of m w) ≡ bytes_of n w
unfolding bytes_of
take-bytes zero m w h = refl
take-bytes (suc n) zero w h = absurd (omega arith)
take-bytes (suc n) (suc m) w h = ap (λ (l : List ℕ). (w % 256) ∷ l) (take-bytes n m (w / 256) (omega arith))

pub bytes_next : (n b w : ℕ) → b < 256 → bytes_of (suc n) (256 * w + b) ≡ b ∷ bytes_of n w
unfolding bytes_of
bytes_next n b w h =
    let low : (256 * w + b) % 256 ≡ b = omega arith in
    let high : (256 * w + b) / 256 ≡ w = omega arith in
    rw (low, high)

-- bytes are the bytes of their number
bytes-number : (s : List ℕ) → ((i : ℕ) → i < length s → get_or s i 0 < 256) → bytes_of (length s) (number_of s) ≡ s
unfolding bytes_of number_of
bytes-number [] h = refl
bytes-number (a ∷ s) h =
    let e : a + 256 * number_of s ≡ 256 * number_of s + a = omega arith in
    rw (e, bytes_next (length s) a (number_of s) (h 0 (omega arith)))
    (ap (λ (l : List ℕ). a ∷ l) (bytes-number s (λ i k. h (suc i) (omega arith))))

pub bytes-taken : (at : ℕ) (l : List ℕ) → ((i : ℕ) → get_or l i 0 < 256)
    → bytes_of (min 8 (length l - at)) (number_of (take 8 (drop at l))) ≡ take 8 (drop at l)
bytes-taken at l h =
    let s = take 8 (drop at l) in
    let e : length s ≡ min 8 (length l - at) = simp (length-take, length-drop) in
    rw (← e) (bytes-number s (λ i k. rw (get_or-take 8 (drop at l) i 0 (omega arith), get_or-drop at l i 0) (h (at + i))))

number-next : (n at next : ℕ) (l : List ℕ) → next ≡ suc at → number_of (take (suc n) (drop at l)) ≡ get_or l at 0 + 256 * number_of (take n (drop next l))
unfolding number_of
number-next n zero next [] e = rw (e, take-nil)
number-next n (suc at) next [] e = rw (e, take-nil)
number-next n zero next (a ∷ l) e = rw e
number-next n (suc at) next (a ∷ l) e = rw e (number-next n at (suc at) l refl)

-- eight bytes as one number
pub number_at : (at : ℕ) (l : List ℕ)
    → number_of (take 8 (drop at l))
    ≡ get_or l at 0 + 256 * (get_or l (at + 1) 0 + 256 * (get_or l (at + 2) 0 + 256 * get_or l (at + 3) 0))
    + 4294967296 * (get_or l (at + 4) 0 + 256 * (get_or l (at + 5) 0 + 256 * (get_or l (at + 6) 0 + 256 * get_or l (at + 7) 0)))
unfolding number_of
number_at at l =
    omega (
      arith,
      number-next 7 at (at + 1) l (omega arith),
      number-next 6 (at + 1) (at + 2) l (omega arith),
      number-next 5 (at + 2) (at + 3) l (omega arith),
      number-next 4 (at + 3) (at + 4) l (omega arith),
      number-next 3 (at + 4) (at + 5) l (omega arith),
      number-next 2 (at + 5) (at + 6) l (omega arith),
      number-next 1 (at + 6) (at + 7) l (omega arith),
      number-next 0 (at + 7) (at + 8) l (omega arith),
    )

positive : (b n : ℕ) → 0 < b → 0 < b ^ n
positive b n h = omega (arith, rw pow-zero at (pow-le-pow_right {n = b} h {i = 0} {j = n} (omega arith)))

-- numbers that are the same in their lowest bytes, and what a shift leaves of them
low_same : (n a b : ℕ) → a % 256 ^ n ≡ b % 256 ^ n → bytes_of n a ≡ bytes_of n b
unfolding bytes_of
low_same zero a b h = refl
low_same (suc n) a b h =
    let p = positive 256 n (omega arith) in
    let parts = rw (pow-suc, mod-mul a {m = 256 ^ n} {c = 256} p (omega arith), mod-mul b {m = 256 ^ n} {c = 256} p (omega arith)) at h in
    let low : a % 256 ≡ b % 256 = omega arith in
    let high : a / 256 % 256 ^ n ≡ b / 256 % 256 ^ n = omega arith in
    rw (low, low_same n (a / 256) (b / 256) high)

same_rest : (k m a b : ℕ) → 0 < k → 0 < m → a * m % (k * m) ≡ b * m % (k * m) → a % k ≡ b % k
same_rest k m a b h p e =
    let d = rw (mod-mul (a * m) {m = k} {c = m} h p, mod-mul (b * m) {m = k} {c = m} h p, mul-div_cancel a p, mul-div_cancel b p, mul-mod_left a m, mul-mod_left b m) at e in
    eq_of_mul-eq-mul_right m p (a % k) (b % k) (omega arith)

whole : (n : ℕ) → n < 8 → 256 ^ suc n * 2 ^ ((64 - 8 * suc n) % 64) ≡ 18446744073709551616
unfolding tabulate
whole n h = tables_agree (λ (i : ℕ). 256 ^ suc i * 2 ^ ((64 - 8 * suc i) % 64)) (λ (i : ℕ). 18446744073709551616) 8 n refl h

pub shifted : (n a b : ℕ) → n ≤ 8 → a * 2 ^ ((64 - 8 * n) % 64) % 18446744073709551616 ≡ b * 2 ^ ((64 - 8 * n) % 64) % 18446744073709551616
    → bytes_of n a ≡ bytes_of n b
unfolding bytes_of
shifted zero a b h e = refl
shifted (suc n) a b h e =
    let m = 2 ^ ((64 - 8 * suc n) % 64) in
    low_same (suc n) a b
    (same_rest (256 ^ suc n) m a b (positive 256 (suc n) (omega arith)) (positive 2 ((64 - 8 * suc n) % 64) (omega arith))
    (rw (whole n (omega arith)) e))

-- a turn of the loop that reads fewer than eight bytes, from the last on
pub few-turn : (t : List ℕ) (i w : ℕ) → i < length t → get_or t i 0 < 256 → w < 256 ^ (length t - suc i)
    → bytes_of (length t - suc i) w ≡ drop (suc i) t
    → (256 * w + get_or t i 0 < 256 ^ (length t - i)) × (bytes_of (length t - i) (256 * w + get_or t i 0) ≡ drop i t)
few-turn t i w h small below e =
    let f : length t - i ≡ suc (length t - suc i) = omega arith in (
      rw (f, pow-suc) (omega arith),
      rw (f, bytes_next (length t - suc i) (get_or t i 0) w small, e) (sym (drop-cons t i 0 h)),
    )

-- a turn of the loop that lays the bytes of a number
pub lay-byte : (l : List ℕ) (at n j w : ℕ) → j < n
    → sets (set l (at + j) (w % 256)) (at + (j + 1)) (bytes_of (n - (j + 1)) (w / 256)) ≡ sets l (at + j) (bytes_of (n - j) w)
unfolding bytes_of
lay-byte l at n j w h =
    let e : at + (j + 1) ≡ suc (at + j) = omega arith in
    let f : n - j ≡ suc (n - (j + 1)) = omega arith in
    rw (f, e)

-- the first letters of a name, and all of them
pub first-letters : (n w : ℕ) (s : List ℕ) → n ≤ 8 → take n (bytes_of 8 w ++ s) ≡ bytes_of n w
first-letters n w s h = take-append-le n (bytes_of 8 w) s (omega (arith, length-bytes 8 w)) ∙ take-bytes n 8 w h

-- the first bytes of a text are those of the number that it begins with
pub begins-few : (n w at : ℕ) (l : List ℕ) → n ≤ 8 → n ≤ length l - at → bytes_of (min 8 (length l - at)) w ≡ take 8 (drop at l)
    → take n (drop at l) ≡ bytes_of n w
begins-few n w at l h k e = sym (take-take n 8 (drop at l) h) ∙ rw (← e) (take-bytes n (min 8 (length l - at)) w (omega arith))

pub begins-nine : (w at : ℕ) (l : List ℕ) → 9 ≤ length l - at → bytes_of (min 8 (length l - at)) w ≡ take 8 (drop at l)
    → take 9 (drop at l) ≡ bytes_of 8 w ++ get_or l (at + 8) 0 ∷ []
begins-nine w at l h e =
    take-suc (drop at l) 8 0 (rw length-drop (omega arith))
    ∙ rw (begins-few 8 w at l (omega arith) (omega arith) e, get_or-drop at l 8 0)

pub nine-letters : (w b : ℕ) → take 9 (bytes_of 8 w ++ b ∷ []) ≡ bytes_of 8 w ++ b ∷ []
unfolding bytes_of
nine-letters w b = refl

pub length-spelled : (s : Spelling) {t : List ℕ} → (spelled_by s ≡ t) × (s.length ≤ 9) → length t ≡ s.length
unfolding bytes_of
length-spelled s h = rw (← h.0, length-take) (omega arith)

-- a number that is none of the first so many
unfoldable pub NoneOf : ℕ → ℕ → Type 0
NoneOf zero n = Unit {0}
NoneOf (suc k) n = NoneOf k n × (n ≡ k → ⊥)

pub none_of : (k n : ℕ) → NoneOf k n → k ≤ n
unfolding NoneOf
none_of zero n h = omega arith
none_of (suc k) n h = omega (arith, none_of k n h.0, h.1)
