-- The pieces of a word whose code is known, and those behind the first.
use mathlib.Core.List.{List, [], ◌∷◌}
use mathlib.Core.Path.{◌≡◌, refl, ap}
use Prim.Native.Nat.{ℕ, zero, suc, ◌≤◌, ◌<◌}
use native.Mathlib.Omega.{arith}
use lib.Dec.{eqb}
use lib.ListN.{length, get_or}
use borrow.Author.Tests.{ne_eqb, eqb-true}
use Rattle.laws.proofs.Tests.{by-test, when-is}
use Rattle.words.specs.Fields.{code, last_byte}
use Rattle.words.specs.Pieces.{once, behind, three, pieces_of_code, pieces_in}
use Rattle.words.specs.declared.pieces.Piece.{Piece}

pub of_code : (w : ℕ) {n : ℕ} → code w ≡ n → pieces_in w ≡ pieces_of_code n w
unfolding pieces_in
of_code w e = ap (λ (c : ℕ). pieces_of_code c w) e

-- the byte behind all else; where there is none, 0 stands for it
pub behind-at : (w : ℕ) → get_or (behind w) 0 (once 0) ≡ once (last_byte w)
behind-at w = by-test (eqb (last_byte w) 0) (λ e. rw (e, eqb-true (last_byte w) 0 e)) (λ e. rw e)

module _ (w k : ℕ) (later : 0 < k) where
  abbrev Later : List Piece → Type 0
  Later l = k < length l → get_or l k (once 0) ≡ once (last_byte w)

  none-later : (p : Piece) → Later (p ∷ [])
  none-later p h = absurd (omega arith)

  nothing-later : Later []
  nothing-later h = absurd (omega arith)

  one_later : (p : Piece) → Later (p ∷ behind w)
  one_later p h =
      by-test (eqb (last_byte w) 0) (λ e. let z : k < 1 = rw e at h in absurd (omega arith))
      (λ e. let z : k < 2 = rw e at h in let one : k ≡ 1 = omega arith in rw (one, e))

  -- with no three numbers, the byte behind is all that follows
  pub later-byte : (c : ℕ) → (c ≡ 10 → ⊥) → (c ≡ 15 → ⊥) → Later (pieces_of_code c w)
  unfolding pieces_of_code
  later-byte c no-times no-dates =
      rw (ne_eqb c 10 no-times, ne_eqb c 15 no-dates)
      (when-is Later (eqb c 1) (λ _. none-later _)
      (λ _. when-is Later (eqb c 3) (λ _. one_later _)
      (λ _. when-is Later (eqb c 4) (λ _. one_later _)
      (λ _. when-is Later (eqb c 9) (λ _. one_later _)
      (λ _. when-is Later (eqb c 22) (λ _. one_later _)
      (λ _. when-is Later (eqb c 29) (λ _. none-later _)
      (λ _. when-is Later (eqb c 30) (λ _. none-later _)
      (λ _. when-is Later (eqb c 31) (λ _. none-later _) (λ _. nothing-later)))))))))

-- a word with no known code has none
pub of_none : (w c : ℕ) → (c ≡ 1 → ⊥) → (c ≡ 3 → ⊥) → (c ≡ 4 → ⊥) → (c ≡ 9 → ⊥) → (c ≡ 10 → ⊥) → (c ≡ 15 → ⊥) → (c ≡ 22 → ⊥) → (c ≡ 29 → ⊥) → (c ≡ 30 → ⊥)
    → (c ≡ 31 → ⊥) → pieces_of_code c w ≡ []
unfolding pieces_of_code
of_none w c n1 n3 n4 n9 n10 n15 n22 n29 n30 n31 =
    rw (ne_eqb c 1 n1, ne_eqb c 3 n3, ne_eqb c 4 n4, ne_eqb c 9 n9, ne_eqb c 10 n10, ne_eqb c 15 n15, ne_eqb c 22 n22, ne_eqb c 29 n29, ne_eqb c 30 n30, ne_eqb c 31 n31)

-- of three numbers: no piece but those behind the first, and those whatever the first is
pub none-of-three : (p q : Piece) (w k : ℕ) → (k ≡ 1 → ⊥) → (k ≡ 2 → ⊥) → (k ≡ 3 → ⊥) → (k ≡ 4 → ⊥) → (k ≡ 5 → ⊥) → get_or (three (once 0) p q w) k (once 0) ≡ once 0
none-of-three p q w zero n1 n2 n3 n4 n5 = refl
none-of-three p q w (suc zero) n1 n2 n3 n4 n5 = absurd (n1 refl)
none-of-three p q w (suc (suc zero)) n1 n2 n3 n4 n5 = absurd (n2 refl)
none-of-three p q w (suc (suc (suc zero))) n1 n2 n3 n4 n5 = absurd (n3 refl)
none-of-three p q w (suc (suc (suc (suc zero)))) n1 n2 n3 n4 n5 = absurd (n4 refl)
none-of-three p q w (suc (suc (suc (suc (suc zero))))) n1 n2 n3 n4 n5 = absurd (n5 refl)
none-of-three p q w (suc (suc (suc (suc (suc (suc k)))))) n1 n2 n3 n4 n5 =
    by-test (eqb (last_byte w) 0) (λ e. rw e) (λ e. rw e)

pub first-apart : (a p q : Piece) (w k : ℕ) → (k ≡ 0 → ⊥) → get_or (three (once 0) p q w) k (once 0) ≡ get_or (three a p q w) k (once 0)
first-apart a p q w zero n = absurd (n refl)
first-apart a p q w (suc k) n = refl

-- at most three numbers and a byte behind each
behind-small : (w : ℕ) → length (behind w) ≤ 1
behind-small w = by-test (eqb (last_byte w) 0) (λ e. rw e (omega arith)) (λ e. rw e (omega arith))

abbrev Few : List Piece → Type 0
Few l = length l ≤ 6

pub few-pieces : (w : ℕ) → length (pieces_in w) ≤ 6
unfolding pieces_in pieces_of_code
few-pieces w =
    let c = code w in
    let one = behind-small w in
    when-is Few (eqb c 1) (λ _. omega arith)
    (λ _. when-is Few (eqb c 3) (λ _. omega arith)
    (λ _. when-is Few (eqb c 4) (λ _. omega arith)
    (λ _. when-is Few (eqb c 9) (λ _. omega arith)
    (λ _. when-is Few (eqb c 10) (λ _. omega arith)
    (λ _. when-is Few (eqb c 15) (λ _. omega arith)
    (λ _. when-is Few (eqb c 22) (λ _. omega arith)
    (λ _. when-is Few (eqb c 29) (λ _. omega arith)
    (λ _. when-is Few (eqb c 30) (λ _. omega arith) (λ _. when-is Few (eqb c 31) (λ _. omega arith) (λ _. omega arith))))))))))
