-- What the parts of a pattern are: each literal has a byte, a part that no quote closes is the last, and rules are the
-- table's. The check's lookahead by two rests on it.
use mathlib.Core.Bool.{Bool, true, false}
use mathlib.Core.List.{List, [], ◌∷◌, map}
use mathlib.Core.Path.{◌≡◌, refl}
use Prim.Native.Nat.{ℕ, zero, suc, ◌<◌}
use native.Mathlib.Omega.{arith}
use lib.Dec.{eqb}
use lib.ListN.{length, drop, replicate, length-replicate}
use Rattle.meaning.specs.Books.{Valid}
use Rattle.meaning.specs.Bytes.{both, quote}
use Rattle.meaning.specs.Names.{Book}
use Rattle.meaning.specs.Rules.{role_of}
use Rattle.meaning.specs.Splitting.{Element, byte, escaped, single, element_of, elements, Content, run, quotes, quoted, unclosed, join_byte, join_escaped, join_inside, outside, inside}
use Rattle.meaning.specs.Trust.{part_at}
use Rattle.meaning.specs.Writing.{Step, literal, field, run_step, ends_in_quote, step_of, steps}
use Rattle.meaning.specs.declared.Pair.TheVariants.{Full}
use Rattle.meaning.specs.declared.Role.{Role}
use Rattle.meaning.specs.declared.Role.TheVariants as role
use Rattle.meaning.specs.declared.Rule.{Rule}
use Rattle.laws.proofs.Splitting.{elements-step, elements-escaped}
use Rattle.laws.proofs.Table.{RoleHas}
use Rattle.laws.proofs.Tests.{by-test, when-is}
use Rattle.trust.proofs.BookTable.{role-fits}
use Rattle.trust.proofs.Table.{fits}

pub data Fitting (book : Book) : List Step → Type 0 where
  no-parts : Fitting book []
  symbol-first : {rule : Rule} {ss : List Step} → fits book rule ≡ true → Fitting book ss → Fitting book (field rule ∷ ss)
  literal-first : {s : List ℕ} {ss : List Step} → 0 < length s → Fitting book ss → Fitting book (literal s false ∷ ss)
  open-last : {s : List ℕ} {lost : Bool} → lost ≡ ends_in_quote s → Fitting book (literal s lost ∷ [])

-- the same from part i on
pub fitting-from : {book : Book} {ss : List Step} → Fitting book ss → (i : ℕ) → i < length ss → Fitting book (part_at ss i ∷ drop (suc i) ss)
fitting-from no-parts i h = absurd (omega arith)
fitting-from (symbol-first e r) zero h = symbol-first e r
fitting-from (symbol-first e r) (suc i) h = fitting-from r i (omega arith)
fitting-from (literal-first e r) zero h = literal-first e r
fitting-from (literal-first e r) (suc i) h = fitting-from r i (omega arith)
fitting-from (open-last e) zero h = open-last e
fitting-from (open-last e) (suc i) h = absurd (omega arith)

-- a single quote has a byte behind it, or nothing: two quotes together are one element

Paired : List Element → Type 0
Paired [] = Unit
Paired (byte b ∷ es) = Paired es
Paired (escaped ∷ es) = Paired es
Paired (single ∷ []) = Unit
Paired (single ∷ byte b ∷ es) = Paired es
Paired (single ∷ escaped ∷ es) = ⊥
Paired (single ∷ single ∷ es) = ⊥

element-paired : (b : ℕ) → Paired (element_of b ∷ [])
unfolding Paired
element-paired b = by-test (eqb b quote) (λ e. rw e tt) (λ e. rw e tt)

-- where the first byte is no quote, it is the first element
byte-first : (b : ℕ) (p : List ℕ) → eqb b quote ≡ false → Paired (elements (b ∷ p)) → Paired (single ∷ elements (b ∷ p))
unfolding Paired elements
byte-first b [] e h = rw e tt
byte-first b (c ∷ p) e h =
    let apart : both (eqb b quote) (eqb c quote) ≡ false = rw e in
    rw (elements-step b c p apart, e) (rw (elements-step b c p apart, e) at h)

elements-paired : (p : List ℕ) → Paired (elements p)
unfolding Paired elements
elements-paired [] = tt
elements-paired (a ∷ []) = element-paired a
elements-paired (a ∷ b ∷ p) = go (eqb a quote) refl (eqb b quote) refl (elements-paired p) (elements-paired (b ∷ p))
  where
    go : (s : Bool) → eqb a quote ≡ s → (t : Bool) → eqb b quote ≡ t → Paired (elements p) → Paired (elements (b ∷ p))
        → Paired (elements (a ∷ b ∷ p))
    go true e true d rest rest' = rw (elements-escaped a b p (rw (e, d))) rest
    go true e false d rest rest' = rw (elements-step a b p (rw (e, d)), e) (byte-first b p d rest')
    go false e t d rest rest' = rw (elements-step a b p (rw e), e) rest'

-- parts that hold a byte each; and those behind a quote that opens, of which the first may have none yet

Filled : List Content → Type 0
Filled [] = Unit
Filled (run b n ∷ cs) = (0 < n) × Filled cs
Filled (quotes n ∷ cs) = (0 < n) × Filled cs
Filled (quoted s ∷ cs) = (0 < length s) × Filled cs
Filled (unclosed s ∷ cs) = cs ≡ []

Opened : List Content → Type 0
Opened [] = ⊥
Opened (run b n ∷ cs) = ⊥
Opened (quotes n ∷ cs) = ⊥
Opened (quoted s ∷ cs) = Filled cs
Opened (unclosed s ∷ cs) = cs ≡ []

byte-filled : (b : ℕ) (cs : List Content) → Filled cs → Filled (join_byte b cs)
unfolding Filled
byte-filled b [] h = (omega arith, tt)
byte-filled b (run a n ∷ cs) h = when-is Filled (eqb b a) (λ e. (omega arith, h.1)) (λ e. (omega arith, h))
byte-filled b (quotes n ∷ cs) h = (omega arith, h)
byte-filled b (quoted s ∷ cs) h = (omega arith, h)
byte-filled b (unclosed s ∷ cs) h = (omega arith, h)

escaped-filled : (cs : List Content) → Filled cs → Filled (join_escaped cs)
unfolding Filled
escaped-filled [] h = (omega arith, tt)
escaped-filled (run a n ∷ cs) h = (omega arith, h)
escaped-filled (quotes n ∷ cs) h = (omega arith, h.1)
escaped-filled (quoted s ∷ cs) h = (omega arith, h)
escaped-filled (unclosed s ∷ cs) h = (omega arith, h)

inside-filled : (b : ℕ) (cs : List Content) → Opened cs → Filled (join_inside b cs) × Opened (join_inside b cs)
unfolding Filled Opened
inside-filled b [] h = absurd h
inside-filled b (run a n ∷ cs) h = absurd h
inside-filled b (quotes n ∷ cs) h = absurd h
inside-filled b (quoted s ∷ cs) h = ((omega arith, h), h)
inside-filled b (unclosed s ∷ cs) h = (h, h)

mutual
  unfolding inside Paired Filled Opened

  outside-filled : (es : List Element) → Paired es → Filled (outside es)
  outside-filled [] h = tt
  outside-filled (byte b ∷ es) h = byte-filled b (outside es) (outside-filled es h)
  outside-filled (escaped ∷ es) h = escaped-filled (outside es) (outside-filled es h)
  outside-filled (single ∷ []) h = refl
  outside-filled (single ∷ byte b ∷ es) h = (inside-filled b (inside es) (inside-opened es h)).0
  outside-filled (single ∷ escaped ∷ es) h = absurd h
  outside-filled (single ∷ single ∷ es) h = absurd h

  inside-opened : (es : List Element) → Paired es → Opened (inside es)
  inside-opened [] h = refl
  inside-opened (byte b ∷ es) h = (inside-filled b (inside es) (inside-opened es h)).1
  inside-opened (escaped ∷ es) h = (inside-filled quote (inside es) (inside-opened es h)).1
  inside-opened (single ∷ es) h = outside-filled es (after-single es h)

  after-single : (es : List Element) → Paired (single ∷ es) → Paired es
  after-single [] h = tt
  after-single (byte b ∷ es) h = h
  after-single (escaped ∷ es) h = absurd h
  after-single (single ∷ es) h = absurd h

-- what such parts do

times-some : (n b : ℕ) → 0 < n → 0 < length (replicate n b)
times-some n b h = rw length-replicate h

run-fitting : {book : Book} (r : Role) (b n : ℕ) {ss : List Step} → RoleHas (λ rule. fits book rule ≡ true) r → 0 < n → Fitting book ss → Fitting book (run_step r b n ∷ ss)
run-fitting role.Literal b n e h rest = literal-first (times-some n b h) rest
run-fitting (role.Symbol rule) b n e h rest = symbol-first e rest

filled-fitting : (book : Book) → Valid book → (cs : List Content) → Filled cs → Fitting book (map (step_of Full) cs)
unfolding Filled step_of
filled-fitting book v [] h = no-parts
filled-fitting book v (run b n ∷ cs) h = run-fitting (role_of Full b n) b n (role-fits book v b n) h.0 (filled-fitting book v cs h.1)
filled-fitting book v (quotes n ∷ cs) h = literal-first (times-some n quote h.0) (filled-fitting book v cs h.1)
filled-fitting book v (quoted s ∷ cs) h = literal-first h.0 (filled-fitting book v cs h.1)
filled-fitting book v (unclosed s ∷ cs) h = rw h (open-last refl)

pub steps-fit : (book : Book) → Valid book → (p : List ℕ) → Fitting book (steps Full p)
unfolding steps
steps-fit book v p = filled-fitting book v (outside (elements p)) (outside-filled (elements p) (elements-paired p))
