-- Two half patterns, a date pattern beside a time pattern: when their join is the one and then the other. That it is, is in
-- proofs/Halves.
use Rattle.std.specs.Prelude.{Bool, true, false, List, [], ◌∷◌, ◌≡◌, ℕ, ◌+◌, ◌≤◌, eqb, length, Ok}
use Rattle.meaning.specs.Answers.{pattern_check}
use Rattle.meaning.specs.Splitting.{Content, run, quotes, quoted, unclosed, contents}
use Rattle.meaning.specs.declared.Part.{Part}

-- whether the last part is a quote that nothing closes
unfoldable pub ends_open : List Content → Bool
ends_open [] = false
ends_open (run b n ∷ cs) = ends_open cs
ends_open (quotes n ∷ cs) = ends_open cs
ends_open (quoted s ∷ cs) = ends_open cs
ends_open (unclosed s ∷ cs) = true

-- whether the second has a byte, and an open quote of the first stands before it
unfoldable pub starts_quoted : List ℕ → List ℕ → Bool
unfolding ends_open contents
starts_quoted p [] = false
starts_quoted p (b ∷ q) = ends_open (contents p)

-- whether neither is empty, and the first's last byte is the second's first
unfoldable pub meet_equal : List ℕ → List ℕ → Bool
meet_equal [] q = false
meet_equal (a ∷ []) [] = false
meet_equal (a ∷ []) (b ∷ q) = eqb a b
meet_equal (a ∷ b ∷ p) q = meet_equal (b ∷ p) q

-- two accepted patterns that can be laid side by side
pub record Beside (p q : List ℕ) : Type 0 where
  pub first : pattern_check p ≡ Ok tt
  pub second : pattern_check q ≡ Ok tt
  pub closed : starts_quoted p q ≡ false
  pub apart : meet_equal p q ≡ false
  pub short : length p + length q ≤ 256

-- a part with so many bytes more before it
abbrev pub moved : ℕ → Part → Part
moved k part = record { kind = part.kind; start = k + part.start; length = part.length }
