-- Laws of the check of names: the lists as the code has them, the earlier names of a list, the names of a list.
use Rattle.std.specs.Prelude.{Ok, Err}
use mathlib.Core.Bool.{Bool, true, false, ◌&&◌}
use mathlib.Core.List.{List, [], ◌∷◌, map}
use mathlib.Core.Path.{◌≡◌, refl, sym, ap, ◌∙◌}
use Prim.Native.Nat.{ℕ, zero, suc, ◌+◌, ◌-◌, ◌≤◌, ◌<◌}
use native.Mathlib.Numerals.{add-one}
use native.Mathlib.Omega.{arith}
use lib.ListN.{length, get_or, take, drop, length-drop, drop_of_length-le}
use lib.Seq.{drop-cons, drop-drop}
use Rattle.std.proofs.lemmas.List.{get_or-drop}
use Rattle.std.specs.List.{list_all}
use Rattle.std.proofs.lemmas.List.Folds.{list_all_more}
use Rattle.meaning.specs.Bytes.{both}
use Rattle.books.specs.Places.{name_in, names_by, earlier}
use Rattle.books.specs.Shelves.{meant}
use Rattle.books.specs.declared.shelves.Shelf.{Shelf}
use Rattle.meaning.specs.Books as books
use Rattle.meaning.specs.declared.Refusal.{Refusal}
use Rattle.meaning.specs.declared.Refusal.TheVariants.{BookName}

-- the lists as the code has them
abbrev pub lists : List Shelf
lists =
    record { count = 12; least = 2; most = 20; apart = true }
    ∷ record { count = 12; least = 2; most = 20; apart = true }
    ∷ record { count = 7; least = 2; most = 20; apart = true }
    ∷ record { count = 7; least = 3; most = 3; apart = false }
    ∷ record { count = 7; least = 2; most = 2; apart = false }
    ∷ record { count = 7; least = 1; most = 1; apart = false }
    ∷ record { count = 12; least = 1; most = 1; apart = false }
    ∷ []

abbrev pub list_at : ℕ → books.Shelf
list_at k = meant (get_or lists k (record { count = 0; least = 0; most = 0; apart = false }))

behind-list : (all : List Shelf) (k : ℕ) (none : Shelf) → k < length all → drop k (map meant all) ≡ meant (get_or all k none) ∷ drop (suc k) (map meant all)
behind-list [] k none h = absurd (omega arith)
behind-list (s ∷ all) zero none h = refl
behind-list (s ∷ all) (suc k) none h = behind-list all k none (omega arith)

pub shelf-there : (k : ℕ) → k < 7 → drop k books.shelves ≡ list_at k ∷ drop (suc k) books.shelves
shelf-there k h = behind-list lists k (record { count = 0; least = 0; most = 0; apart = false }) h

-- the earlier names

turned : (p q : Bool) → (p && q) ≡ both q p
turned true true = refl
turned true false = refl
turned false true = refl
turned false false = refl

pub all-apart : (s places : List ℕ) (first count : ℕ) (name : List ℕ) → first + count ≤ length places
    → list_all (λ at. books.apart (name_in s at) name) (take count (drop first places)) ≡ books.apart_from (earlier s places first count) name
unfolding books.apart_from earlier
all-apart s places first zero name h = refl
all-apart s places first (suc k) name h =
    let p : ℕ → Bool = λ at. books.apart (name_in s at) name in
    let there : k < length (drop first places) = omega (arith, length-drop first places) in
    ap (λ (n : ℕ). list_all p (take n (drop first places))) (sym (add-one k))
    ∙ list_all_more p (drop first places) k 0 there
    ∙ turned (list_all p (take k (drop first places))) (p (get_or (drop first places) k 0))
    ∙ ap (λ (n : ℕ). both (p n) (list_all p (take k (drop first places)))) (get_or-drop first places k 0)
    ∙ ap (both (p (get_or places (first + k) 0))) (all-apart s places first k name (omega arith))

-- the names of a list

module _ (s : books.Shelf) (t places : List ℕ) (first k j : ℕ) (there : first + k < length places) (left : k < j) where
  abbrev here : List ℕ
  here = name_in t (get_or places (first + k) 0)

  pub bad-name : books.is_good s (earlier t places first k) here ≡ false
      → books.shelf_check s (j - k) (suc (first + k)) (earlier t places first k) (names_by t (drop (first + k) places)) ≡ Err (BookName (first + k + 1))
  unfolding books.shelf_check names_by
  bad-name e =
      let more : j - k ≡ suc (j - (k + 1)) = omega arith in
      rw (more, drop-cons places (first + k) 0 there, e, add-one)

  pub good-name : books.is_good s (earlier t places first k) here ≡ true
      → books.shelf_check s (j - k) (suc (first + k)) (earlier t places first k) (names_by t (drop (first + k) places))
      ≡ books.shelf_check s (j - (k + 1)) (suc (first + (k + 1))) (earlier t places first (k + 1)) (names_by t (drop (first + (k + 1)) places))
  unfolding books.shelf_check names_by earlier
  good-name e =
      let more : j - k ≡ suc (j - (k + 1)) = omega arith in
      let next : first + (k + 1) ≡ suc (first + k) = omega arith in
      rw (more, drop-cons places (first + k) 0 there, e, next, add-one)

pub names-done : (s : books.Shelf) (k j i : ℕ) (before ns : List (List ℕ)) → j ≤ k → books.shelf_check s (j - k) i before ns ≡ Ok tt
unfolding books.shelf_check
names-done s k j i before ns h = let none : j - k ≡ 0 = omega arith in rw none

-- list by list

names-behind : (s places : List ℕ) (n : ℕ) → drop n (names_by s places) ≡ names_by s (drop n places)
unfolding names_by
names-behind s places zero = refl
names-behind s [] (suc n) = refl
names-behind s (at ∷ places) (suc n) = names-behind s places n

-- how many names the lists have
unfoldable pub total : List books.Shelf → ℕ
total [] = 0
total (s ∷ ss) = s.count + total ss

pub counted : (first k : ℕ) (s : books.Shelf) → drop k books.shelves ≡ s ∷ drop (suc k) books.shelves
    → first + total (drop k books.shelves) ≡ 64 → first + s.count + total (drop (k + 1) books.shelves) ≡ 64
unfolding total
counted first k s there h = rw add-one (omega (arith, rw there at h))

module _ (t places : List ℕ) (first k : ℕ) (s : books.Shelf) (there : drop k books.shelves ≡ s ∷ drop (suc k) books.shelves) where
  abbrev left : List (List ℕ)
  left = names_by t (drop first places)

  pub bad-list : {why : Refusal} → books.shelf_check s s.count (suc first) [] left ≡ Err why
      → books.names_check (drop k books.shelves) (suc first) left ≡ Err why
  unfolding books.names_check
  bad-list e = rw (there, e)

  pub good-list : books.shelf_check s s.count (suc first) [] left ≡ Ok tt
      → books.names_check (drop k books.shelves) (suc first) left
      ≡ books.names_check (drop (k + 1) books.shelves) (suc (first + s.count)) (names_by t (drop (first + s.count) places))
  unfolding books.names_check
  good-list e =
      let next : suc first + s.count ≡ suc (first + s.count) = omega arith in
      rw (there, e, next, names-behind t (drop first places) s.count, drop-drop, add-one)

pub lists-done : (k i : ℕ) (ns : List (List ℕ)) → 7 ≤ k → books.names_check (drop k books.shelves) i ns ≡ Ok tt
unfolding books.names_check
lists-done k i ns h = let none : length books.shelves ≤ k = omega arith in rw (drop_of_length-le books.shelves none)
