-- Specification, "Splitting": the elements of a pattern from left to right, what its parts hold, and the parts with their
-- places. What a part does is in Writing and Reading.
use Rattle.std.specs.Prelude.{true, false, List, [], ◌∷◌, ℕ, suc, ◌+◌, ◌*◌, eqb}
use Rattle.meaning.specs.Bytes.{when, both, quote}
use Rattle.meaning.specs.declared.Kind.{Kind}
use Rattle.meaning.specs.declared.Kind.TheVariants.{Run, Quotes, Quoted, Open}
use Rattle.meaning.specs.declared.Part.{Part}

-- Two quotes together are one escaped quote; a remaining single quote opens or closes.
pub data Element : Type 0 where
  byte : ℕ → Element
  escaped : Element
  single : Element

abbrev pub element_of : ℕ → Element
element_of b = when (eqb b quote) single (byte b)

unfoldable pub elements : List ℕ → List Element
elements [] = []
elements (a ∷ []) = element_of a ∷ []
elements (a ∷ b ∷ p) =
    elim (both (eqb a quote) (eqb b quote)) [ true ↦ escaped ∷ elements p | false ↦ element_of a ∷ elements (b ∷ p) ]

-- What a part holds. The inside of a quoted part has a quote for each escaped quote.
pub data Content : Type 0 where
  run : ℕ → ℕ → Content  -- a byte, and how often it stands there
  quotes : ℕ → Content  -- how many escaped quotes
  quoted : List ℕ → Content  -- the bytes between the quotes
  unclosed : List ℕ → Content  -- the bytes after a quote that nothing closes

-- Outside quotes, equal neighbouring bytes join in one part.
abbrev pub join_byte : ℕ → List Content → List Content
join_byte b [] = run b 1 ∷ []
join_byte b (run a n ∷ cs) = when (eqb b a) (run b (suc n) ∷ cs) (run b 1 ∷ run a n ∷ cs)
join_byte b (quotes n ∷ cs) = run b 1 ∷ quotes n ∷ cs
join_byte b (quoted s ∷ cs) = run b 1 ∷ quoted s ∷ cs
join_byte b (unclosed s ∷ cs) = run b 1 ∷ unclosed s ∷ cs

-- Escaped quotes join likewise.
abbrev pub join_escaped : List Content → List Content
join_escaped [] = quotes 1 ∷ []
join_escaped (run a n ∷ cs) = quotes 1 ∷ run a n ∷ cs
join_escaped (quotes n ∷ cs) = quotes (suc n) ∷ cs
join_escaped (quoted s ∷ cs) = quotes 1 ∷ quoted s ∷ cs
join_escaped (unclosed s ∷ cs) = quotes 1 ∷ unclosed s ∷ cs

-- Inside quotes, a byte joins the part that it stands in.
abbrev pub join_inside : ℕ → List Content → List Content
join_inside b [] = []
join_inside b (run a n ∷ cs) = run a n ∷ cs
join_inside b (quotes n ∷ cs) = quotes n ∷ cs
join_inside b (quoted s ∷ cs) = quoted (b ∷ s) ∷ cs
join_inside b (unclosed s ∷ cs) = unclosed (b ∷ s) ∷ cs

-- What the parts of these elements hold, outside quotes; inside quotes, the first is the part that is open.
unfoldable mutual
  pub outside : List Element → List Content
  outside [] = []
  outside (byte b ∷ es) = join_byte b (outside es)
  outside (escaped ∷ es) = join_escaped (outside es)
  outside (single ∷ es) = inside es

  pub inside : List Element → List Content
  inside [] = unclosed [] ∷ []
  inside (byte b ∷ es) = join_inside b (inside es)
  inside (escaped ∷ es) = join_inside quote (inside es)
  inside (single ∷ es) = quoted [] ∷ outside es

unfoldable pub contents : List ℕ → List Content
unfolding elements outside inside
contents p = outside (elements p)

-- how many pattern bytes the inside of a quoted part takes
abbrev pub inside_length : List ℕ → ℕ
inside_length [] = 0
inside_length (b ∷ s) = when (eqb b quote) 2 1 + inside_length s

-- how many pattern bytes a part takes
unfoldable pub length_of : Content → ℕ
length_of (run b n) = n
length_of (quotes n) = 2 * n
length_of (quoted s) = 2 + inside_length s
length_of (unclosed s) = 1 + inside_length s

abbrev pub kind_of : Content → Kind
kind_of (run b n) = Run
kind_of (quotes n) = Quotes
kind_of (quoted s) = Quoted
kind_of (unclosed s) = Open

-- the parts with these contents, of which the first starts at a place
unfoldable pub parts_from : ℕ → List Content → List Part
unfolding length_of
parts_from at [] = []
parts_from at (c ∷ cs) = record { kind = kind_of c; start = at; length = length_of c } ∷ parts_from (at + length_of c) cs

unfoldable pub parts : List ℕ → List Part
unfolding contents parts_from
parts p = parts_from 0 (contents p)

-- what a place of a split holds that no part uses
abbrev pub no_part : Part
no_part = record { kind = Run; start = 0; length = 0 }
