-- Request [11]: what happens to the words that are pending when another follows.
use Rattle.std.specs.Prelude.{List, ◌∷◌, ◌≡◌, ℕ, ◌+◌, ◌≤◌, length}
use Rattle.std.proofs.lemmas.List.Edits.{sets}
use Rattle.words.specs.Packing.{joined}
use Rattle.words.specs.declared.pending.Pending.{Pending}

-- the words that those pending, and others behind them, become
abbrev pub pending_words : Pending → List ℕ → List ℕ
pending_words p ws = joined p.first p.second ws

-- there is room for all words, whatever follows
pub record Room (tail : List ℕ) (before : Pending) (w : ℕ) : Type 0 where
  pub rest : List ℕ
  pub fits : before.used + length (pending_words before (w ∷ rest)) ≤ length tail

-- whatever follows, the same words come to lie there
pub record Joins (old new : List ℕ) (before : Pending) (w : ℕ) (after : Pending) : Type 0 where
  pub laid : (ws : List ℕ) → sets new after.used (pending_words after ws) ≡ sets old before.used (pending_words before (w ∷ ws))
  pub end : (ws : List ℕ) → after.used + length (pending_words after ws) ≡ before.used + length (pending_words before (w ∷ ws))
