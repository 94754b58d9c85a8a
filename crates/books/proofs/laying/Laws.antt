-- Laws of names laid one after the other: a name and those behind it, the room of a name, and a turn of the loops.
use mathlib.Core.List.{List, [], ◌∷◌, ◌++◌}
use mathlib.Core.Path.{◌≡◌, refl, ap, ◌∙◌}
use Prim.Native.Nat.{ℕ, zero, suc, ◌+◌, ◌-◌, ◌≤◌, ◌<◌}
use native.Mathlib.Numerals.{add-one}
use native.Mathlib.Omega.{arith}
use lib.ListN.{length, get_or, take, drop, replicate, length-append, length-take, drop_of_length-le}
use lib.Seq.{sets, drop-cons, take-append-add}
use Rattle.books.specs.Places.{name_in, names_by}
use Rattle.laws.proofs.Laid.{sets-append}
use Rattle.laws.specs.Laid.{Laid}
use Rattle.meaning.specs.Books.{shelve_names, book_bytes}
use Rattle.meaning.specs.Bytes.{bytes}
use Rattle.meaning.specs.OpenedBooks.{name_at, in_room, opened_names}

short-name : (s : List ℕ) → length (name_at 255 s) < 256
short-name [] = omega arith
short-name (n ∷ s) = simp length-take (omega arith)

pub name-short : (s : List ℕ) (at : ℕ) → length (name_in s at) < 256
name-short s at = short-name (drop at s)

module _ (s places : List ℕ) (i : ℕ) where
  names-from : i < length places → names_by s (drop i places) ≡ name_in s (get_or places i 0) ∷ names_by s (drop (i + 1) places)
  unfolding names_by
  names-from h = rw (drop-cons places i 0 h, add-one)

  names-over : length places ≤ i → names_by s (drop i places) ≡ []
  unfolding names_by
  names-over h = rw (drop_of_length-le places h)

  abbrev here : List ℕ
  here = name_in s (get_or places i 0)

  pub shelved-from : i < length places
      → shelve_names (names_by s (drop i places)) ≡ (length here ∷ here) ++ shelve_names (names_by s (drop (i + 1) places))
  unfolding shelve_names
  shelved-from h = rw (names-from h)

  pub shelved-length : i < length places
      → length (shelve_names (names_by s (drop i places))) ≡ suc (length here + length (shelve_names (names_by s (drop (i + 1) places))))
  shelved-length h = ap length (shelved-from h) ∙ ap suc (length-append here (shelve_names (names_by s (drop (i + 1) places))))

  pub opened-from : i < length places
      → opened_names (names_by s (drop i places)) ≡ in_room here ++ opened_names (names_by s (drop (i + 1) places))
  unfolding opened_names
  opened-from h = rw (names-from h)

  pub none-shelved : length places ≤ i → shelve_names (names_by s (drop i places)) ≡ []
  unfolding shelve_names
  none-shelved h = rw (names-over h)

  pub none-opened : length places ≤ i → opened_names (names_by s (drop i places)) ≡ []
  unfolding opened_names
  none-opened h = rw (names-over h)

-- what stands before the names

pub book-is : (ns : List (List ℕ)) → book_bytes ns ≡ (76 ∷ 78 ∷ 66 ∷ 0 ∷ 1 ∷ []) ++ shelve_names ns
unfolding book_bytes bytes
book-is ns = refl

pub book-size : (ns : List (List ℕ)) → length (book_bytes ns) ≡ 5 + length (shelve_names ns)
book-size ns = ap length (book-is ns) ∙ omega arith

-- the room of a name

zeros : (n k : ℕ) → n ≤ k → ◌≡◌ {A = List ℕ} (take n (replicate k 0)) (replicate n 0)
zeros zero k h = refl
zeros (suc n) zero h = absurd (omega arith)
zeros (suc n) (suc k) h = ap (λ (s : List ℕ). 0 ∷ s) (zeros n k (omega arith))

pub short-room : (name : List ℕ) → length name ≤ 20 → in_room name ≡ length name ∷ name ++ replicate (20 - length name) 0
short-room name h =
    let all : 20 ≡ length name + (20 - length name) = omega arith in
    ap (λ (s : List ℕ). length name ∷ s)
    (ap (λ (n : ℕ). take n (name ++ replicate 20 0)) all
    ∙ take-append-add name (replicate 20 0) (20 - length name)
    ∙ ap (λ (s : List ℕ). name ++ s) (zeros (20 - length name) 20 (omega arith)))

pub room-length : (name : List ℕ) → length (in_room name) ≡ 21
room-length name = simp (length-take, length-append) (omega arith)

-- what is laid, and what is left to be
module _ {out new : List ℕ} {at next : ℕ} {text : List ℕ} (laid : Laid out new at next text) (all rest : List ℕ) (e : all ≡ text ++ rest) where
  pub still-laid : {whole : List ℕ} → sets out at all ≡ whole → sets new next rest ≡ whole
  still-laid h = rw (laid.held, laid.end, ← sets-append, ← e) h

  pub still-long : {n : ℕ} → at + length all ≡ n → next + length rest ≡ n
  still-long h = omega (arith, laid.end, length-append text rest, ap length e)
