-- Bytes compared with what a part stands for, one after the other: the first that differs, at its place in the whole text.
use mathlib.Core.List.{List, [], ◌∷◌}
use mathlib.Core.Path.{◌≡◌, sym}
use Prim.Native.Nat.{ℕ, suc, ◌+◌, ◌-◌, ◌<◌}
use native.Mathlib.Numerals.{add-one}
use native.Mathlib.Omega.{arith}
use lib.ListN.{length, get_or, drop, replicate}
use lib.Seq.{drop-cons}
use borrow.Author.Tests.{eq-eqb, ne_eqb}
use Rattle.laws.proofs.Readers.{same_byte, other_byte, no_byte}
use Rattle.parse.specs.Literals.{compared_from}
use Rattle.std.specs.Prelude.{Some, None}

-- a byte of a text, where the rest of what it is compared with begins with a byte
module _ (text : List ℕ) (i : ℕ) {rest : List ℕ} {a : ℕ} {w : List ℕ} (first : rest ≡ a ∷ w) (there : i < length text) where
  pub same-on : get_or text i 0 ≡ a → compared_from (i + 1) w text ≡ compared_from i rest text
  same-on e =
      let b = get_or text i 0 in
      rw (first, drop-cons text i 0 there, add-one i, same_byte i a w b (drop (suc i) text) (eq-eqb a b (sym e)))

  pub differs_at : (get_or text i 0 ≡ a → ⊥) → compared_from i rest text ≡ Some i
  differs_at e =
      let b = get_or text i 0 in
      rw (first, drop-cons text i 0 there, other_byte i a w b (drop (suc i) text) (ne_eqb a b (λ d. e (sym d))))

-- and where none is left
pub all_same : (text : List ℕ) (i : ℕ) {rest : List ℕ} → rest ≡ [] → compared_from i rest text ≡ None
all_same text i none = rw (none, no_byte i (drop i text))

-- one byte again and again
pub times-from : (b i end : ℕ) → i < end → replicate (end - i) b ≡ b ∷ replicate (end - (i + 1)) b
times-from b i end h = let e : end - i ≡ suc (end - (i + 1)) = omega arith in rw e
