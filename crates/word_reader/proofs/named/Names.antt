-- A name that is spelled is the one that a match finds, and what it carries.
use mathlib.Core.Bool.{Bool, true, false}
use mathlib.Core.List.{List, [], ◌++◌}
use mathlib.Core.Logic.{⊎_elim}
use mathlib.Core.Path.{◌≡◌, refl, sym, ap, ◌∙◌}
use Rattle.std.specs.Prelude.{None, Some, Option}
use Rattle.std.proofs.lemmas.Option.{none-some}
use Prim.Native.Nat.{ℕ, ◌+◌, ◌-◌, ◌≤◌, ◌<◌}
use native.Mathlib.Nat.{add-zero}
use native.Mathlib.Omega.{arith}
use lib.IntN.{ℤ, pos}
use lib.ListN.{length, get_or, take, drop, take-append-drop, length-take, length-drop}
use borrow.Author.Tests.{eq-eqb, eqb-true, ltb-true, ltb-false}
use Rattle.laws.proofs.Names.{apart, all_apart, name-comes-back}
use Rattle.laws.proofs.Tests.{every, true-is-not-false}
use Rattle.meaning.specs.Bytes.{bytes}
use Rattle.meaning.specs.Names.{Book, names, english}
use Rattle.meaning.specs.Readers.{got, match_name}
use Rattle.meaning.specs.Reading.{value, month_at, name_carries, read_rule, read_step}
use Rattle.meaning.specs.Writing.{field}
use Rattle.meaning.specs.declared.Carried.{Carried}
use Rattle.meaning.specs.declared.Choices.{Choices}
use Rattle.meaning.specs.declared.NameList.{NameList}
use Rattle.meaning.specs.declared.ParseUnit.TheVariants.{Month}
use Rattle.names.specs.Letters.{name_numbered, IsSpelled, Begun}
use Rattle.names.specs.declared.letters.Spelled.{Spelled}
use Rattle.words.proofs.SpelledWords.{spelled-kinds, spelled-word}
use Rattle.words.specs.Coding.{list_in, rule_of_kind, rule_in, is_spelled, is_weekday, first_spelled, most_letters}
use Rattle.words.specs.Fields.{code, item}
use Rattle.word_reader.proofs.keeping.Moving.{moves-to}
use Rattle.word_reader.proofs.quick.Pieces.{rule-steps, quick-symbol}
use Rattle.word_reader.specs.Quick.{gave_one, Kept, Named, Behind}
use Rattle.word_reader.specs.declared.keeping.Moved.{Moved}

module _ (w : ℕ) (text : List ℕ) (at : ℕ) (r : Spelled) where
  -- what is told of a name that is found
  pub begun-told : {weekday : Bool} {most : ℕ} → weekday ≡ is_weekday w → most ≡ most_letters w → Begun weekday most (drop at text) r
      → Begun (is_weekday w) (most_letters w) (drop at text) r
  begun-told e d told = rw (e, d) at told

  -- it ends inside the text
  pub name-inside : at ≤ length text → Begun (is_weekday w) (most_letters w) (drop at text) r → at + r.length ≤ length text
  name-inside h begun =
      let size = begun.size ∙ sym (ap length begun.letters) in
      omega (arith, size, length-take r.length (drop at text), length-drop at text)

month-carried : (n : ℕ) → month_at (n - 0) ≡ value Month (pos (n + 1))
month-carried n = ap (λ (k : ℕ). value Month (pos k)) (omega arith)

module _ (text : List ℕ) (r : Spelled) where
  -- in a list whose names are those from a number on
  found : (l : NameList) (from most : ℕ) → IsSpelled l from most → all_apart (names english l) ≡ true → from ≤ r.name → r.name - from < length (names english l)
      → r.length ≡ length (take most (name_numbered r.name)) → take r.length text ≡ take most (name_numbered r.name)
      → match_name (names english l) text ≡ got r.length (r.name - from)
  found l from most spelled apart-all h there size letters =
      let i = r.name - from in
      let is : from + i ≡ r.name = omega arith in
      let name : take most (name_numbered r.name) ≡ get_or (names english l) i [] = rw is at (spelled i there) in
      let begun : get_or (names english l) i [] ++ drop r.length text ≡ text = rw (← name, ← letters) (take-append-drop r.length text) in
      ap (match_name (names english l)) (sym begun) ∙ name-comes-back (names english l) i (drop r.length text) apart-all there ∙ ap (λ (n : ℕ). got n i) (sym (size ∙ ap length name))

  module _ (w : ℕ) (spelled : is_spelled w ≡ true) (begun : Begun (is_weekday w) (most_letters w) text r) where
    facts : (all_apart (names english (list_in (item w))) ≡ true) × (first_spelled w ≤ r.name) × (r.name - first_spelled w < length (names english (list_in (item w))))
    unfolding list_in names english bytes all_apart every apart
    facts =
        ⊎_elim (λ e. let k = ltb-true r.name 12 (rw e at begun.kind) in rw e (refl, omega arith, omega arith))
        (⊎_elim (λ e. let k = ltb-true r.name 12 (rw e at begun.kind) in rw e (refl, omega arith, omega arith))
        (λ e. let k = ltb-false r.name 12 (rw e at begun.kind) in rw e (refl, omega arith, omega (arith, begun.below))))
        (spelled-kinds w spelled)

    name-read : (choices : Choices) (current : ℕ)
        → read_step choices english current (field (rule_in w)) text ≡ got r.length (name_carries (list_in (item w)) (r.name - first_spelled w))
    unfolding read_step read_rule rule_of_kind
    name-read choices current =
        let word = spelled-word w spelled in
        let l = list_in (item w) in
        rw (word.0, found l (first_spelled w) (most_letters w) word.1 facts.0 facts.1 facts.2 begun.size begun.letters, add-zero)

    pub weekday-carries : is_weekday w ≡ true → name_carries (list_in (item w)) (r.name - first_spelled w) ≡ None
    unfolding name_carries list_in
    weekday-carries h = rw (eqb-true (item w) 8 h)

    pub month-carries : is_weekday w ≡ false → name_carries (list_in (item w)) (r.name - first_spelled w) ≡ value Month (pos (r.name + 1))
    unfolding name_carries list_in
    month-carries h =
        ⊎_elim (λ e. rw e (month-carried r.name))
        (⊎_elim (λ e. rw e (month-carried r.name)) (λ e. true-is-not-false (sym (eq-eqb (item w) 8 e) ∙ h)))
        (spelled-kinds w spelled)

-- given up, with the row as it was
pub named-lost : {choices : Choices} {book : Book} {w : ℕ} {text : List ℕ} {from : Moved} {row : List ℤ} → Named choices book w text from row row None
named-lost =
    record { lost = λ _. refl; quick = λ current row. record { beyond = refl; reads = tt } }

-- a name, and the byte behind it
pub named-read : (choices : Choices) (w : ℕ) (text : List ℕ) (from : Moved) {old new : List ℤ} (r : Moved) (s : Spelled) {c : Option Carried}
    → code w ≡ 22 → (spelled : is_spelled w ≡ true) → from.next ≤ length text → (begun : Begun (is_weekday w) (most_letters w) (drop from.next text) s)
    → name_carries (list_in (item w)) (s.name - first_spelled w) ≡ c → Behind choices w text (from.next + s.length) r.next
    → Kept (gave_one c from.next (from.next + s.length)) old new from.mask r.mask → drop 48 new ≡ drop 48 old → Named choices english w text from old new (Some r)
named-read choices w text from r s e spelled h begun carries back kept beyond =
    record {
      lost = λ k. absurd (none-some r (sym k));
      quick = λ current row.
          let at = from.next in
          let moves = moves-to choices english current text at (at + s.length) (field (rule_in w)) h refl (rw carries at (name-read (drop at text) s w spelled begun choices current)) in
          quick-symbol choices english current w row text r (rule-steps w row e) moves back kept beyond;
    }
