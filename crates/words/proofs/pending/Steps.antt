-- The words joined, step by step, and a word that is kept.
use mathlib.Core.Bool.{Bool, true, false}
use mathlib.Core.List.{List, [], ◌∷◌, ◌++◌}
use mathlib.Core.Path.{◌≡◌, ap, ◌∙◌}
use Prim.Native.Nat.{ℕ, ◌+◌, ◌-◌, ◌≤◌, ◌<◌, ◌%◌}
use native.Mathlib.Omega.{arith}
use lib.Dec.{eqb, ltb}
use borrow.Author.Tests.{eqb-true, ltb-true}
use Rattle.meaning.specs.Bytes.{both}
use Rattle.words.specs.Fields.{code, last_byte}
use lib.ListN.{length, length-append}
use lib.Seq.{sets}
use Rattle.laws.proofs.Laid.{sets-append}
use Rattle.laws.proofs.Tests.{by-test, both_true}
use Rattle.laws.specs.Laid.{Laid}
use Rattle.words.specs.Packing.{is_number, joins_byte, with_byte, is_date, is_time, three_word, kept, joined}

-- a word joins the one before it, or is the third of three, or makes the first that is pending final
module _ (a b w : ℕ) (ws : List ℕ) where
  abbrev by_time : Bool → List ℕ
  by_time t = elim t as (λ x. List ℕ) [ true ↦ joined 0 (three_word 10 a b) ws | false ↦ kept a (joined b w ws) ]

  abbrev by_date : Bool → Bool → List ℕ
  by_date d t = elim d as (λ x. List ℕ) [ true ↦ joined 0 (three_word 15 a b) ws | false ↦ by_time t ]

  abbrev by_byte : Bool → Bool → Bool → List ℕ
  by_byte j d t = elim j as (λ x. List ℕ) [ true ↦ joined a (with_byte b w) ws | false ↦ by_date d t ]

  pub joined-byte : joins_byte b w ≡ true → joined a b (w ∷ ws) ≡ joined a (with_byte b w) ws
  unfolding joined
  joined-byte e = ap (λ (t : Bool). by_byte t (is_date a b w) (is_time a b w)) e

  pub joined-date : joins_byte b w ≡ false → is_date a b w ≡ true → joined a b (w ∷ ws) ≡ joined 0 (three_word 15 a b) ws
  unfolding joined
  joined-date e f = ap (λ (t : Bool). by_byte t (is_date a b w) (is_time a b w)) e ∙ ap (λ (t : Bool). by_date t (is_time a b w)) f

  pub joined-time : joins_byte b w ≡ false → is_date a b w ≡ false → is_time a b w ≡ true
      → joined a b (w ∷ ws) ≡ joined 0 (three_word 10 a b) ws
  unfolding joined
  joined-time e f g =
      ap (λ (t : Bool). by_byte t (is_date a b w) (is_time a b w)) e ∙ ap (λ (t : Bool). by_date t (is_time a b w)) f ∙ ap by_time g

  pub joined-kept : joins_byte b w ≡ false → is_date a b w ≡ false → is_time a b w ≡ false
      → joined a b (w ∷ ws) ≡ kept a (joined b w ws)
  unfolding joined
  joined-kept e f g =
      ap (λ (t : Bool). by_byte t (is_date a b w) (is_time a b w)) e ∙ ap (λ (t : Bool). by_date t (is_time a b w)) f ∙ ap by_time g

-- a word that is kept, before others
pub kept-before : (w : ℕ) (ws : List ℕ) → kept w ws ≡ kept w [] ++ ws
kept-before w ws = by-test (eqb w 0) (λ e. rw e) (λ e. rw e)

pub kept-laid : {old new : List ℕ} {used next : ℕ} (w : ℕ) → Laid old new used next (kept w []) → (ws : List ℕ)
    → sets new next ws ≡ sets old used (kept w ws)
kept-laid {old} {new} {used} {next} w h ws = rw (h.held, h.end, kept-before w ws, sets-append)

pub kept-end : {old new : List ℕ} {used next : ℕ} (w : ℕ) → Laid old new used next (kept w []) → (ws : List ℕ)
    → next + length ws ≡ used + length (kept w ws)
kept-end {old} {new} {used} {next} w h ws = rw (h.end, kept-before w ws, length-append) (omega arith)

pub kept-fits : (w : ℕ) (ws : List ℕ) → length (kept w []) ≤ length (kept w ws)
kept-fits w ws = rw (kept-before w ws, length-append) (omega arith)

-- a byte that joins a word fits beside it
pub byte_fits : (w byte : ℕ) → joins_byte w byte ≡ true → byte < 18446744073709551616 → (1 ≤ byte) × (w + (byte - 1) < 18446744073709551616)
byte_fits w byte e h =
    let t = both_true (both (ltb w 72057594037927936) (is_number (code w))) (both (eqb (byte % 72057594037927936) 1) (ltb 0 (last_byte byte))) e in
    let few = ltb-true w 72057594037927936 (both_true (ltb w 72057594037927936) (is_number (code w)) t.0).0 in
    let one = eqb-true (byte % 72057594037927936) 1 (both_true (eqb (byte % 72057594037927936) 1) (ltb 0 (last_byte byte)) t.1).0 in
    (omega arith, omega arith)
