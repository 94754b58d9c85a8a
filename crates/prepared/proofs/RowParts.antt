-- The parts of a row that is laid: its head, its words of steps and its held bytes lie where they are looked for.
use mathlib.Core.List.{List, [], ◌∷◌, ◌++◌, append-nil}
use mathlib.Core.Path.{◌≡◌, refl, ap, ◌∙◌}
use Prim.Native.Nat.{ℕ, suc, ◌+◌, ◌-◌, ◌≤◌}
use native.Mathlib.Omega.{arith}
use lib.ListN.{length, take, drop, length-append}
use lib.Seq.{sets, sets-eq, length-sets, take-length, drop-length, take-take, take-append_seam, take-set-le, take_at, drop_at, length-take-le}
use Rattle.words.specs.Rows.{tail, mark, found, check_word}
use Rattle.prepared.specs.PreparedRows.{headed, worded, held_start}

sets-past : (z : ℕ) (row : List ℕ) (i : ℕ) (ns : List ℕ) → sets (z ∷ row) (suc i) ns ≡ z ∷ sets row i ns
sets-past z row i [] = refl
sets-past z row i (n ∷ ns) = sets-past z _ (suc i) ns

past_three : (x y z : ℕ) (row : List ℕ) (i : ℕ) (ns : List ℕ) → sets (x ∷ y ∷ z ∷ row) (3 + i) ns ≡ x ∷ y ∷ z ∷ sets row i ns
past_three x y z row i ns =
    let e : 3 + i ≡ suc (suc (suc i)) = omega arith in
    rw e
    (sets-past x (y ∷ z ∷ row) (suc (suc i)) ns
    ∙ ap (λ (l : List ℕ). x ∷ l) (sets-past y (z ∷ row) (suc i) ns ∙ ap (λ (l : List ℕ). y ∷ l) (sets-past z row i ns)))

take-sets : (n : ℕ) (l : List ℕ) (i : ℕ) (vs : List ℕ) → n ≤ i → take n (sets l i vs) ≡ take n l
take-sets n l i [] h = refl
take-sets n l i (v ∷ vs) h = take-sets n _ (suc i) vs (omega arith) ∙ take-set-le n l i v h

-- words at the front and held bytes at the end of 256
module _ (l ws hs : List ℕ) (long : 256 ≤ length l) (few : length ws + length hs ≤ 256) where
  words-first : take (length ws) (take 256 (sets (sets l 0 ws) (held_start hs) hs)) ≡ ws
  words-first =
      take-take (length ws) 256 _ (omega arith)
      ∙ (take-sets (length ws) (sets l 0 ws) (held_start hs) hs (omega arith)
      ∙ (ap (take (length ws)) (sets-eq ws l 0 (omega arith)) ∙ take-append_seam ws _))

  held-last : drop (held_start hs) (take 256 (sets (sets l 0 ws) (held_start hs) hs)) ≡ hs
  held-last =
      let m = sets l 0 ws in
      let i = held_start hs in
      let inside : i + length hs ≤ length m = omega (arith, length-sets l 0 ws) in
      let front = length-take-le i m (omega arith) in
      let whole : take 256 (sets m i hs) ≡ take i m ++ hs =
      ap (take 256) (sets-eq hs m i inside)
      ∙ take_at (take i m ++ hs) _ 256 (omega (arith, length-append (take i m) hs)) in
      ap (drop i) whole ∙ drop_at (take i m) hs i front

-- so they lie in a row, behind its head
behind-head : (x y z : ℕ) (l ws hs : List ℕ) → worded (x ∷ y ∷ z ∷ l) ws hs ≡ x ∷ y ∷ z ∷ sets (sets l 0 ws) (held_start hs) hs
behind-head x y z l ws hs =
    ap (λ (r : List ℕ). sets r (3 + held_start hs) hs) (past_three x y z l 0 ws) ∙ past_three x y z (sets l 0 ws) (held_start hs) hs

pub words-lie : (row ws hs : List ℕ) → 259 ≤ length row → length ws + length hs ≤ 256 → take (length ws) (tail (worded row ws hs)) ≡ ws
words-lie [] ws hs long few = absurd (omega arith)
words-lie (x ∷ []) ws hs long few = absurd (omega arith)
words-lie (x ∷ y ∷ []) ws hs long few = absurd (omega arith)
words-lie (x ∷ y ∷ z ∷ l) ws hs long few = rw (behind-head x y z l ws hs) (words-first l ws hs (omega arith) few)

pub held-lie : (row ws hs : List ℕ) → 259 ≤ length row → length ws + length hs ≤ 256 → drop (held_start hs) (tail (worded row ws hs)) ≡ hs
held-lie [] ws hs long few = absurd (omega arith)
held-lie (x ∷ []) ws hs long few = absurd (omega arith)
held-lie (x ∷ y ∷ []) ws hs long few = absurd (omega arith)
held-lie (x ∷ y ∷ z ∷ l) ws hs long few = rw (behind-head x y z l ws hs) (held-last l ws hs (omega arith) few)

pub worded-length : (row ws hs : List ℕ) → length (worded row ws hs) ≡ length row
worded-length row ws hs = length-sets (sets row 3 ws) (3 + held_start hs) hs ∙ length-sets row 3 ws

-- a part of a row that words are laid into, the part being what stands behind the head
pub part-worded : (row ws hs : List ℕ) → 3 ≤ length row
    → take 3 row ++ (sets (sets (take (length row - 3) (drop 3 row)) 0 ws) (held_start hs) hs ++ drop (length row - 3) (drop 3 row))
    ≡ worded row ws hs
part-worded [] ws hs long = absurd (omega arith)
part-worded (x ∷ []) ws hs long = absurd (omega arith)
part-worded (x ∷ y ∷ []) ws hs long = absurd (omega arith)
part-worded (x ∷ y ∷ z ∷ l) ws hs long =
    let e : suc (suc (suc (length l))) - 3 ≡ length l = omega arith in
    rw (e, take-length l, drop-length l, append-nil, behind-head x y z l ws hs)

-- what is read of a head, and that nothing else of the row has changed
pub record Headed (row new : List ℕ) (m c f : ℕ) : Type 0 where
  pub marked : mark new ≡ m
  pub checked : check_word new ≡ c
  pub finds : found new ≡ f
  pub rest : tail new ≡ tail row

pub headed-length : (row : List ℕ) (m c f : ℕ) → length (headed row m c f) ≡ length row
headed-length row m c f = length-sets row 0 (m ∷ c ∷ f ∷ [])

pub headed-so : (row : List ℕ) (m c f : ℕ) → 3 ≤ length row → Headed row (headed row m c f) m c f
headed-so [] m c f long = absurd (omega arith)
headed-so (x ∷ []) m c f long = absurd (omega arith)
headed-so (x ∷ y ∷ []) m c f long = absurd (omega arith)
headed-so (x ∷ y ∷ z ∷ l) m c f long = record { marked = refl; checked = refl; finds = refl; rest = refl }
