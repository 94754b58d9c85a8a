-- Laws of the rows of fifteen that a reading holds, and of its mask: the entry at a place is that of the unit, and bit k is the k-th
-- mark.
use mathlib.Core.Bool.{Bool, true, false}
use mathlib.Core.List.{List, [], ◌∷◌}
use mathlib.Core.Path.{◌≡◌, refl}
use Prim.Native.Nat.{ℕ, zero, suc, ◌+◌, ◌*◌, ◌/◌, ◌%◌, ◌<◌}
use native.Mathlib.Nat.{pow-succ', div-div-eq-div-mul, div-one}
use native.Mathlib.Omega.{arith}
use lib.Dec.{eqb}
use lib.ListN.{get_or}
use Rattle.meaning.specs.Bytes.{when}
use Rattle.meaning.specs.Whole.{bits, marked}

-- the first n values of a function
unfoldable pub entries : {A : Type 0} → ℕ → (ℕ → A) → List A
entries zero f = []
entries (suc n) f = f 0 ∷ entries n (λ k. f (suc k))

pub get-entry : {A : Type 0} (n : ℕ) (f : ℕ → A) (d : A) (j : ℕ) → j < n → get_or (entries n f) j d ≡ f j
unfolding entries
get-entry zero f d j h = absurd (omega arith)
get-entry (suc n) f d zero h = refl
get-entry (suc n) f d (suc j) h = get-entry n (λ k. f (suc k)) d j (omega arith)

pub half : (mark : Bool) (n : ℕ) → (when mark 1 0 + 2 * n) / 2 ≡ n
half true n = omega arith
half false n = omega arith

pub odd : (mark : Bool) (n : ℕ) → (when mark 1 0 + 2 * n) % 2 ≡ when mark 1 0
odd true n = omega arith
odd false n = omega arith

is_one : (mark : Bool) → eqb (when mark 1 0) 1 ≡ mark
is_one true = refl
is_one false = refl

pub marked-bits : (marks : List Bool) (k : ℕ) → marked (bits marks) k ≡ get_or marks k false
unfolding marked bits
marked-bits [] zero = refl
marked-bits [] (suc k) = rw (pow-succ' 2 k, ← div-div-eq-div-mul) (marked-bits [] k)
marked-bits (mark ∷ marks) zero = rw (div-one, odd mark (bits marks)) (is_one mark)
marked-bits (mark ∷ marks) (suc k) =
    rw (pow-succ' 2 k, ← div-div-eq-div-mul, half mark (bits marks)) (marked-bits marks k)
