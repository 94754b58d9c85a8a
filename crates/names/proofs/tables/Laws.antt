-- Laws of rooms and matches, for the loops of the matcher and of the writer and for the calls over them: what a room holds, rooms
-- that hold some names, a turn over the bytes of a name, its first letter, and a turn over names.
use mathlib.Core.Bool.{Bool, true, false}
use Rattle.std.specs.Prelude.{Option}
use mathlib.Core.List.{List, [], ◌∷◌}
use mathlib.Core.Path.{◌≡◌, refl, ap, sym, ◌∙◌}
use Prim.Native.Nat.{ℕ, zero, suc, ◌+◌, ◌*◌, ◌≤◌, ◌<◌, min}
use native.Mathlib.Numerals.{add-one}
use native.Mathlib.Omega.{arith}
use borrow.Author.Tests.{eq-eqb, ne_eqb}
use lib.Dec.{eqb}
use lib.ListN.{length, take, drop, get_or, length-take, length-drop, drop_of_length-le}
use lib.Seq.{drop-cons, drop-drop, get_or-take, get_or-drop}
use Rattle.laws.proofs.OpenedBooks.{count_at}
use Rattle.laws.proofs.Tests.{true-is-not-false, when_true, when_false}
use Rattle.meaning.specs.Bytes.{both, when}
use Rattle.meaning.specs.OpenedBooks.{name_room, names_at}
use Rattle.meaning.specs.Readers.{begins, first_name, match_name, got, stopped}
use Rattle.meaning.specs.declared.Trouble.TheVariants.{NoName}
use Rattle.laws.specs.Laid.{Laid}
use Rattle.names.specs.Table.{name_in, found_in, IsTable}
use Rattle.names.specs.declared.tables.Found.{Found}

-- ---- what a room holds

room-name : (most : ℕ) (rows : List ℕ) (i : ℕ) → i * name_room < length rows
    → name_in most rows i ≡ take (min (get_or rows (i * name_room) 0) most) (drop (suc (i * name_room)) rows)
room-name most rows i h = rw (drop-cons rows (i * name_room) 0 h)

pub record Room (most : ℕ) (rows : List ℕ) (i : ℕ) : Type 0 where
  pub size : length (name_in most rows i) ≡ min (get_or rows (i * name_room) 0) most
  pub inside : i * name_room + 1 + length (name_in most rows i) ≤ length rows
  pub byte : (j : ℕ) → j < length (name_in most rows i) → get_or (name_in most rows i) j 0 ≡ get_or rows (i * name_room + 1 + j) 0

pub room : (most : ℕ) (rows : List ℕ) (i : ℕ) → most ≤ 20 → i * name_room + name_room ≤ length rows → Room most rows i
room most rows i short h =
    let e = room-name most rows i (omega arith) in
    let n : length (name_in most rows i) ≡ min (get_or rows (i * name_room) 0) most = rw e (simp (length-take, length-drop) (omega arith)) in
    record {
      size = n;
      inside = omega arith;
      byte = λ j k.
          let m : j < min (get_or rows (i * name_room) 0) most = omega arith in
          let p : suc (i * name_room) + j ≡ i * name_room + 1 + j = omega arith in
          rw (e, get_or-take, get_or-drop, p);
    }

-- the letters, as a part of the rows
pub room-part : (most : ℕ) (rows : List ℕ) (i n : ℕ) → most ≤ 20 → i * name_room + name_room ≤ length rows → n ≡ length (name_in most rows i)
    → take n (drop (i * name_room + 1) rows) ≡ name_in most rows i
room-part most rows i n short h e =
    let m : n ≡ min (get_or rows (i * name_room) 0) most = e ∙ (room most rows i short h).size in
    let p : i * name_room + 1 ≡ suc (i * name_room) = omega arith in
    rw (m, p) (sym (room-name most rows i (omega arith)))

-- ---- rooms, one after the other

pub names-at : (most count : ℕ) (rows : List ℕ) (i : ℕ) → i < count → get_or (names_at most count rows) i [] ≡ name_in most rows i
unfolding names_at
names-at most zero rows i h = absurd (omega arith)
names-at most (suc k) rows zero h = refl
names-at most (suc k) rows (suc i) h =
    let e : name_room + i * name_room ≡ suc i * name_room = omega arith in
    names-at most k (drop name_room rows) i (omega arith) ∙ rw (drop-drop, e)

-- ---- rooms that hold these names, for the calls over them

module _ {most count : ℕ} {rows : List ℕ} {these : List (List ℕ)} (t : IsTable most count rows these) where
  index_below : (i : ℕ) → i < length these → i < count
  index_below i h = omega (arith, count_at most count rows, ap length t.held)

  name-told : (i : ℕ) → i < length these → name_in most rows i ≡ get_or these i []
  name-told i h = sym (names-at most count rows i (index_below i h)) ∙ rw t.held

  pub index-asked : (i : ℕ) → i < length these → (most ≤ 20) × (i * name_room + name_room ≤ length rows)
  index-asked i h = let k = index_below i h in (t.short, omega arith)

  pub length-told : (i : ℕ) → i < length these → length (name_in most rows i) ≡ length (get_or these i [])
  length-told i h = ap length (name-told i h)

  pub put-asked : (i at room : ℕ) → i < length these → at + length (get_or these i []) ≤ room
      → ((most ≤ 20) × (i * name_room + name_room ≤ length rows)) × (at + length (name_in most rows i) ≤ room)
  put-asked i at room h k = (index-asked i h, omega (arith, length-told i h))

  pub put-told : {old new : List ℕ} {at next : ℕ} (i : ℕ) → i < length these → Laid old new at next (name_in most rows i) → Laid old new at next (get_or these i [])
  put-told i h l = rw (name-told i h) at l

  pub match-told : {r : Option Found} (s : List ℕ) → r ≡ found_in (match_name (names_at most count rows) s) → r ≡ found_in (match_name these s)
  match-told s l = rw t.held at l

-- ---- a turn over the bytes of a name

pub too_long : (name s : List ℕ) → length s < length name → begins name s ≡ false
unfolding begins
too_long [] s h = absurd (omega arith)
too_long (a ∷ name) [] h = refl
too_long (a ∷ name) (b ∷ s) h = both_false (eqb a b) (too_long name s (omega arith)) where
  both_false : (t : Bool) {u : Bool} → u ≡ false → both t u ≡ false
  both_false true e = e
  both_false false e = refl

module _ (name s : List ℕ) (j : ℕ) where
  pub same_byte : j < length name → j < length s → get_or name j 0 ≡ get_or s j 0
      → begins (drop j name) (drop j s) ≡ begins (drop (j + 1) name) (drop (j + 1) s)
  unfolding begins
  same_byte h k e = rw (add-one, drop-cons name j 0, drop-cons s j 0, eq-eqb _ _ e)

  pub other_byte : j < length name → j < length s → (get_or name j 0 ≡ get_or s j 0 → ⊥) → begins (drop j name) (drop j s) ≡ false
  unfolding begins
  other_byte h k e = rw (drop-cons name j 0, drop-cons s j 0, ne_eqb _ _ e)

  pub all-bytes : length name ≤ j → begins (drop j name) (drop j s) ≡ true
  unfolding begins
  all-bytes h = rw (drop_of_length-le name h)

-- ---- the first letter of a name

same_first : (name s : List ℕ) → 0 < length s → (0 < length name → get_or name 0 0 ≡ get_or s 0 0) → begins (take 1 name) s ≡ true
unfolding begins
same_first [] s h e = refl
same_first (a ∷ name) [] h e = absurd (omega arith)
same_first (a ∷ name) (b ∷ s) h e = rw (eq-eqb a b (e (omega arith)))

other-first : (name s : List ℕ) → (0 < length s → 0 < length name → get_or name 0 0 ≡ get_or s 0 0 → ⊥) → begins (take 1 name) s ≡ eqb (length name) 0
unfolding begins
other-first [] s e = refl
other-first (a ∷ name) [] e = sym (ne_eqb (suc (length name)) 0 (λ z. omega arith))
other-first (a ∷ name) (b ∷ s) e = rw (ne_eqb a b (e (omega arith) (omega arith)), ne_eqb (suc (length name)) 0 (λ z. omega arith))

same_none : (n most k : ℕ) → (most ≡ 0 → ⊥) → k ≡ min n most → eqb n 0 ≡ eqb k 0
same_none zero most k h e = sym (eq-eqb k 0 (omega arith))
same_none (suc n) most k h e = ne_eqb (suc n) 0 (λ z. omega arith) ∙ sym (ne_eqb k 0 (λ z. h (omega arith)))

-- the letter as it stands in the room, and where it is another one, the room's size
module _ (most : ℕ) (rows s : List ℕ) (i : ℕ) (at : Room most rows i) where
  abbrev own : List ℕ
  own = name_in most rows i

  room-letter : 0 < length own → get_or own 0 0 ≡ get_or rows (i * name_room + 1) 0
  room-letter h = let p : i * name_room + 1 + 0 ≡ i * name_room + 1 = omega arith in rw (at.byte 0 h, p)

  pub letter-same : 0 < length s → get_or rows (i * name_room + 1) 0 ≡ get_or s 0 0 → begins (take 1 own) s ≡ true
  letter-same h e = same_first own s h (λ k. room-letter k ∙ e)

  module _ (apart : 0 < length s → get_or rows (i * name_room + 1) 0 ≡ get_or s 0 0 → ⊥) where
    by_length : begins (take 1 own) s ≡ eqb (length own) 0
    by_length = other-first own s (λ h k e. apart h (sym (room-letter k) ∙ e))

    pub letter-none : most ≡ 0 → begins (take 1 own) s ≡ true
    letter-none e = let k : length own ≡ 0 = omega (arith, at.size) in by_length ∙ eq-eqb (length own) 0 k

    pub letter-apart : (most ≡ 0 → ⊥) → begins (take 1 own) s ≡ eqb (get_or rows (i * name_room) 0) 0
    letter-apart h = by_length ∙ sym (same_none (get_or rows (i * name_room) 0) most (length own) h at.size)

pub other-letter : (name s : List ℕ) → begins (take 1 name) s ≡ false → begins name s ≡ false
unfolding begins
other-letter [] s e = e
other-letter (a ∷ name) [] e = refl
other-letter (a ∷ name) (b ∷ s) e = only-first (eqb a b) (begins name s) e where
  only-first : (t u : Bool) → both t true ≡ false → both t u ≡ false
  only-first true u f = true-is-not-false f
  only-first false u f = refl

-- ---- a turn over names

module _ (most count : ℕ) (rows s : List ℕ) (i : ℕ) where
  abbrev name : List ℕ
  name = name_in most rows i

  abbrev all : List (List ℕ)
  all = names_at most count rows

  step : i < count → first_name i (drop i all) s ≡ when (begins name s) (got (length name) i) (first_name (i + 1) (drop (i + 1) all) s)
  unfolding first_name
  step h =
      let k : i < length all = omega (arith, count_at most count rows) in
      rw (drop-cons all i [] k, names-at most count rows i h, add-one i)

  pub this-name : i < count → begins name s ≡ true → first_name i (drop i all) s ≡ got (length name) i
  this-name h e = step h ∙ when_true _ _ e

  pub next-name : i < count → begins name s ≡ false → first_name i (drop i all) s ≡ first_name (i + 1) (drop (i + 1) all) s
  next-name h e = step h ∙ when_false _ _ e

  pub no_name : count ≤ i → first_name i (drop i all) s ≡ stopped NoName 0
  unfolding first_name
  no_name h =
      let k : length all ≤ i = omega (arith, count_at most count rows) in
      rw (drop_of_length-le all k)
