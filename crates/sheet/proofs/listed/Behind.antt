-- Numbers laid over the start of a part of a row, the part being what stands from a place on: they lie in the row from that place on.
use mathlib.Core.List.{List, [], ◌∷◌, ◌++◌, append-nil}
use mathlib.Core.Path.{◌≡◌, refl, ap, ◌∙◌}
use Prim.Native.Nat.{ℕ, zero, suc, ◌-◌, ◌≤◌}
use native.Mathlib.Omega.{arith}
use lib.IntN.{ℤ}
use lib.ListN.{length, take, drop}
use lib.Seq.{sets, take-length, drop-length}
use Rattle.rows.proofs.Laying.{laid-behind}
use Rattle.rows.specs.Rows.{laid}

sets-past : (z : ℤ) (row : List ℤ) (i : ℕ) (ns : List ℤ) → sets (z ∷ row) (suc i) ns ≡ z ∷ sets row i ns
sets-past z row i [] = refl
sets-past z row i (n ∷ ns) = sets-past z _ (suc i) ns

-- the part, and the row with another in its place
abbrev pub part : ℕ → List ℤ → List ℤ
part i row = take (length row - i) (drop i row)

abbrev pub with_part : ℕ → List ℤ → List ℤ → List ℤ
with_part i row new = take i row ++ (new ++ drop (length row - i) (drop i row))

laid-part : (row : List ℤ) (i : ℕ) (ns : List ℤ) → i ≤ length row → with_part i row (laid ns (part i row)) ≡ sets row i ns
laid-part row zero ns h =
    let e : length row - 0 ≡ length row = omega arith in
    rw (e, take-length row, drop-length row, append-nil)
laid-part [] (suc i) ns h = absurd (omega arith)
laid-part (z ∷ row) (suc i) ns h =
    let e : suc (length row) - suc i ≡ length row - i = omega arith in
    rw (e, sets-past z row i ns) (ap (λ (l : List ℤ). z ∷ l) (laid-part row i ns (omega arith)))

-- more numbers behind those that are laid, by way of the part behind them
pub part-behind : (old : List ℤ) {row new : List ℤ} (ns more : List ℤ) (i : ℕ) → i ≤ length row → row ≡ laid ns old → length ns ≡ i
    → new ≡ laid more (part i row) → with_part i row new ≡ laid (ns ++ more) old
part-behind old {row} ns more i h e long n = rw n (laid-part row i more h ∙ laid-behind old ns more i e long)
