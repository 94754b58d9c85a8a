-- Laws of laying a list over another, of bytes or of numbers: neighbours join, a turn of a loop that lays one after the other,
-- and two writers one after the other. The library's own laws of `sets` are in `lib.Seq`.
use mathlib.Core.List.{List, [], ◌∷◌, ◌++◌}
use mathlib.Core.Path.{◌≡◌, refl, ap, ◌∙◌}
use Prim.Native.Nat.{ℕ, suc, ◌+◌, ◌-◌, ◌≤◌, ◌<◌}
use native.Mathlib.Nat.{add-zero}
use native.Mathlib.Omega.{arith}
use lib.ListN.{length, get_or, set, drop, replicate, length-append}
use lib.Seq.{sets, set_comm, drop-cons, drop-length}
use Rattle.laws.specs.Laid.{Laid}

module _ {A : Type 0} where
  -- texts that lie side by side are their join
  pub sets-append : (l : List A) (i : ℕ) (a b : List A) → sets l i (a ++ b) ≡ sets (sets l i a) (i + length a) b
  sets-append l i [] b = rw add-zero
  sets-append l i (x ∷ a) b =
      let e : suc i + length a ≡ i + suc (length a) = omega arith in
      sets-append (set l i x) (suc i) a b ∙ ap (λ (k : ℕ). sets (sets (set l i x) (suc i) a) k b) e

  -- what is stored behind a text may be stored before it is laid
  pub set-sets : (l : List A) (i : ℕ) (vs : List A) (p : ℕ) (d : A) → i + length vs ≤ p → set (sets l i vs) p d ≡ sets (set l p d) i vs
  set-sets l i [] p d h = refl
  set-sets l i (v ∷ vs) p d h =
      set-sets (set l i v) (suc i) vs p d (omega arith)
      ∙ ap (λ (r : List A). sets r (suc i) vs) (set_comm l i p v d (omega arith))

  -- a turn of a loop that goes up: what is still to be laid loses its first
  pub lay-next : (l : List A) (at : ℕ) (s : List A) (j : ℕ) (d : A) → j < length s
      → sets (set l (at + j) (get_or s j d)) (at + (j + 1)) (drop (j + 1) s) ≡ sets l (at + j) (drop j s)
  lay-next l at s j d h =
      let e : at + (j + 1) ≡ suc (at + j) = omega arith in
      let f : j + 1 ≡ suc j = omega arith in
      rw (drop-cons s j d h, e, f)

  -- and at its end nothing is left
  pub lay_done : (l : List A) (at : ℕ) (s : List A) (j : ℕ) → length s ≤ j → j ≤ length s → sets l (at + j) (drop j s) ≡ l
  lay_done l at s j h k =
      let e : j ≡ length s = omega arith in
      rw (e, drop-length s)

  -- the same for one again and again
  pub lay-next-time : (l : List A) (at : ℕ) (b : A) (times j : ℕ) → j < times
      → sets (set l (at + j) b) (at + (j + 1)) (replicate (times - (j + 1)) b) ≡ sets l (at + j) (replicate (times - j) b)
  lay-next-time l at b times j h =
      let e : at + (j + 1) ≡ suc (at + j) = omega arith in
      let f : times - j ≡ suc (times - (j + 1)) = omega arith in
      rw (f, e)

  pub lay-times-done : (l : List A) (at : ℕ) (b : A) (times j : ℕ) → times ≤ j → sets l (at + j) (replicate (times - j) b) ≡ l
  lay-times-done l at b times j h =
      let e : times - j ≡ 0 = omega arith in
      rw e

-- two writers, one after the other
pub laid_then : {a b c : List ℕ} {i j k : ℕ} {s t : List ℕ} → Laid a b i j s → Laid b c j k t → Laid a c i k (s ++ t)
laid_then {a} {b} {c} {i} {j} {k} {s} {t} x y =
    record {
      end = omega (arith, x.end, y.end, length-append s t);
      held = y.held ∙ rw (x.held, x.end, sets-append);
    }
