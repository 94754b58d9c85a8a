-- Laws of the places of names, found one by one.
use mathlib.Core.List.{List, [], ◌∷◌, ◌++◌, map}
use Rattle.std.specs.List.{range_with_len}
use mathlib.Core.Path.{◌≡◌, refl, sym, ap, ◌∙◌}
use Prim.Native.Nat.{ℕ, zero, suc, ◌+◌, ◌-◌, ◌*◌, ◌≤◌, ◌<◌}
use native.Mathlib.Numerals.{add-one}
use native.Mathlib.Omega.{arith}
use borrow.Author.Tests.{le-leb, lt-leb}
use lib.ListN.{length, get_or, take, drop, set, length-drop, drop_of_length-le}
use lib.Seq.{drop-cons, drop-drop, take-suc-set, take_all}
use Rattle.books.proofs.names.Laws.{name-there}
use Rattle.books.specs.Places.{name_in, names_by}
use Rattle.meaning.specs.Books.{Shelved, cut, shelved, behind_name, names_in}
use Rattle.meaning.specs.OpenedBooks.{names_at}

names-then : (s ps qs : List ℕ) → names_by s (ps ++ qs) ≡ names_by s ps ++ names_by s qs
unfolding names_by
names-then s [] qs = refl
names-then s (p ∷ ps) qs = ap (λ (ns : List (List ℕ)). name_in s p ∷ ns) (names-then s ps qs)

-- one place more
names_more : (s places : List ℕ) (i at : ℕ) → i < length places
    → names_by s (take (i + 1) (set places i at)) ≡ names_by s (take i places) ++ (name_in s at ∷ [])
unfolding names_by
names_more s places i at h = rw (add-one, take-suc-set places i at h, names-then s (take i places) (at ∷ []))

-- in a book's bytes

abbrev pub behind_names : List (List ℕ) → Shelved → Shelved
behind_names [] found = found
behind_names (name ∷ ns) found = behind_name name (behind_names ns found)

behind-then : (ns ms : List (List ℕ)) (found : Shelved) → behind_names (ns ++ ms) found ≡ behind_names ns (behind_names ms found)
behind-then [] ms found = refl
behind-then (name ∷ ns) ms found = ap (behind_name name) (behind-then ns ms found)

behind-cut : (ns : List (List ℕ)) → behind_names ns cut ≡ cut
behind-cut [] = refl
behind-cut (name ∷ ns) = ap (behind_name name) (behind-cut ns)

behind-none : (ns : List (List ℕ)) (rest : List ℕ) → behind_names ns (shelved [] rest) ≡ shelved ns rest
behind-none [] rest = refl
behind-none (name ∷ ns) rest = ap (behind_name name) (behind-none ns rest)

module _ (s places : List ℕ) (i at : ℕ) where
  -- the names up to a place, and those from there on
  abbrev pub walked : Shelved
  walked = behind_names (names_by s (take i places)) (names_in (64 - i) (drop at s))

  module _ (more : i < 64) where
    one_more : 64 - i ≡ suc (64 - (i + 1))
    one_more = omega arith

    pub no_length : length s ≤ at → walked ≡ cut
    unfolding names_in
    no_length h = rw (one_more, drop_of_length-le s h) (behind-cut (names_by s (take i places)))

    pub no-letters : at < length s → length s < at + 1 + get_or s at 0 → walked ≡ cut
    unfolding names_in
    no-letters there short =
        let e = lt-leb (get_or s at 0) (length (drop (suc at) s)) (omega (arith, length-drop (suc at) s)) in
        rw (one_more, drop-cons s at 0 there, e) (behind-cut (names_by s (take i places)))

    pub name-more : length places ≡ 64 → at < length s → get_or s at 0 < 256 → at + 1 + get_or s at 0 ≤ length s
        → walked ≡ behind_names (names_by s (take (i + 1) (set places i at))) (names_in (64 - (i + 1)) (drop (at + 1 + get_or s at 0) s))
    unfolding names_in
    name-more all there byte fits =
        let e = le-leb (get_or s at 0) (length (drop (suc at) s)) (omega (arith, length-drop (suc at) s)) in
        let h : i < length places = omega arith in
        rw (one_more, drop-cons s at 0 there, e, names_more s places i at h, behind-then, name-there s at there byte, drop-drop, add-one at)

  pub all-walked : length places ≡ 64 → 64 ≤ i → walked ≡ shelved (names_by s places) (drop at s)
  unfolding names_in
  all-walked all done =
      let none : 64 - i ≡ 0 = omega arith in
      rw (none, take_all i places (omega arith)) (behind-none (names_by s places) (drop at s))

-- in an opened book

pub rooms-from : (row : List ℕ) (n a : ℕ) → names_by row (map (λ i. i * 21) (range_with_len a n)) ≡ names_at 255 n (drop (a * 21) row)
unfolding names_by names_at
rooms-from row zero a = refl
rooms-from row (suc n) a =
    let next : a * 21 + 21 ≡ (a + 1) * 21 = omega arith in
    ap (λ (ns : List (List ℕ)). name_in row (a * 21) ∷ ns)
    (rooms-from row n (a + 1) ∙ ap (λ (k : ℕ). names_at 255 n (drop k row)) (sym next) ∙ ap (names_at 255 n) (sym (drop-drop 21 (a * 21) row)))
