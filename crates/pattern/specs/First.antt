-- Specification, "Splitting", as a scan from the left: what the first part of a rest of the pattern holds. That the contents of
-- the whole pattern are these, one after the other, is the law `contents-first` of proofs/First.
use Rattle.std.specs.Prelude.{List, [], ◌∷◌, ℕ, suc, ◌+◌, ◌-◌, ◌/◌, eqb, ltb, length, get_or, take, drop}
use Rattle.meaning.specs.Bytes.{when, quote}
use Rattle.meaning.specs.Splitting.{Content, run, quotes, quoted, unclosed, kind_of, length_of}
use Rattle.meaning.specs.declared.Kind.{Kind}
use Rattle.meaning.specs.declared.Kind.TheVariants.{Run, Quotes, Quoted, Open}
use Rattle.meaning.specs.declared.Part.{Part}

-- how many bytes b stand first
unfoldable pub run_length : ℕ → List ℕ → ℕ
run_length b [] = 0
run_length b (a ∷ s) = when (eqb b a) (suc (run_length b s)) 0

-- how many escaped quotes stand first
unfoldable pub escaped_count : List ℕ → ℕ
escaped_count [] = 0
escaped_count (a ∷ []) = 0
escaped_count (a ∷ b ∷ s) = when (eqb a quote) (when (eqb b quote) (suc (escaped_count s)) 0) 0

-- how many bytes stand before the quote that closes, or before the pattern's end
unfoldable pub inside_size : List ℕ → ℕ
inside_size [] = 0
inside_size (a ∷ []) = when (eqb a quote) 0 1
inside_size (a ∷ b ∷ s) = when (eqb a quote) (when (eqb b quote) (suc (suc (inside_size s))) 0) (suc (inside_size (b ∷ s)))

-- what bytes inside quotes stand for: a quote there is the first byte of an escaped one
unfoldable pub unescaped : List ℕ → List ℕ
unescaped [] = []
unescaped (a ∷ []) = a ∷ []
unescaped (a ∷ b ∷ s) = when (eqb a quote) (a ∷ unescaped s) (a ∷ unescaped (b ∷ s))

-- what stands behind an opening quote, up to there
unfoldable pub inside_of : List ℕ → List ℕ
unfolding inside_size unescaped
inside_of s = unescaped (take (inside_size s) s)

-- what a part holds that an opening quote before this rest starts
unfoldable pub opened_content : List ℕ → Content
unfolding inside_of
opened_content s = when (ltb (inside_size s) (length s)) quoted unclosed (inside_of s)

-- what the first part of this rest holds
unfoldable pub first_content : List ℕ → Content
unfolding run_length escaped_count opened_content
first_content s =
    when (eqb (get_or s 0 0) quote) (when (ltb 0 (escaped_count s)) (quotes (escaped_count s)) (opened_content (drop 1 s)))
    (run (get_or s 0 0) (run_length (get_or s 0 0) s))

-- the part with this content at a place
abbrev pub part_of : ℕ → Content → Part
part_of at c = record { kind = kind_of c; start = at; length = length_of c }

-- and back: what a part of this kind, place and length holds
abbrev pub held : Kind → ℕ → ℕ → List ℕ → Content
held Run at n p = run (get_or p at 0) n
held Quotes at n p = quotes (n / 2)
held Quoted at n p = quoted (unescaped (take (n - 2) (drop (at + 1) p)))
held Open at n p = unclosed (unescaped (drop (at + 1) p))

abbrev pub content_of : List ℕ → Part → Content
content_of p part = held part.kind part.start part.length p
