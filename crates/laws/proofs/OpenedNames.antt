-- Books that are opened: the row stands for the book that was read, which is a valid one; what was written reads as itself; and a
-- book of version 1 that was read is written as it was.
use Rattle.std.specs.Prelude.{Ok}
use mathlib.Core.Bool.{Bool, true}
use mathlib.Core.List.{List, [], ◌∷◌, ◌++◌, map, append_assoc}
use mathlib.Core.Path.{◌≡◌, refl, sym, ap, ◌∙◌}
use Prim.Native.Nat.{ℕ, suc, min, ◌+◌, ◌*◌, ◌≤◌}
use native.Mathlib.Omega.{arith}
use lib.Dec.{leb}
use lib.ListN.{length, take, drop, replicate, length-append, length-drop, length-replicate, take-append-drop, drop_of_length-le}
use lib.Seq.{length-take-le, take-append_seam, take-append-le, take-take, drop-append_seam, drop-drop}
use borrow.Author.Tests.{eq-eqb, le-leb, leb-true}
use Rattle.meaning.specs.Answers.{within}
use Rattle.meaning.specs.Books.{Shelf, shelves, book_of, lists_of, joined, names_of, all_letters, names_check, Valid}
use Rattle.meaning.specs.Names.{Book}
use Rattle.meaning.specs.OpenedBooks.{name_at, names_at, book_in, in_room, opened_names}
use Rattle.laws.proofs.BookRules.{fits, Goods, good-lists}
use Rattle.laws.proofs.Tests.{both_true, every, every_append, every-weaker}

-- a name in its room

room-size : (name : List ℕ) → length (in_room name) ≡ 21
room-size name = length-take-le 21 (length name ∷ name ++ replicate 20 0) (simp (length-append, length-replicate) (omega arith))

name-kept : (most : ℕ) (name r : List ℕ) → length name ≤ most → length name ≤ 20 → name_at most (in_room name ++ r) ≡ name
name-kept most name r h k =
    let zeros : List ℕ = replicate 20 0 in
    let size : length (take 20 (name ++ zeros)) ≡ 20 = length-take-le 20 (name ++ zeros) (simp (length-append, length-replicate) (omega arith)) in
    let own : min (length name) most ≡ length name = omega arith in
    rw own
    (take-append-le (length name) (take 20 (name ++ zeros)) r (omega arith) ∙ take-take (length name) 20 (name ++ zeros) k ∙ take-append_seam name zeros)

-- names, one behind the other

abbrev pub short : ℕ → List ℕ → Bool
short most name = leb (length name) most

pub names-held : (most limit : ℕ) → limit ≤ most → limit ≤ 20 → (ns : List (List ℕ)) (r : List ℕ) → every (short limit) ns ≡ true
    → names_at most (length ns) (opened_names ns ++ r) ≡ ns
unfolding names_at opened_names every
names-held most limit few room [] r h = refl
names-held most limit few room (name ∷ ns) r h =
    let t = both_true (short limit name) (every (short limit) ns) h in
    let size = leb-true (length name) limit t.0 in
    let behind = opened_names ns ++ r in
    let e : (in_room name ++ opened_names ns) ++ r ≡ in_room name ++ behind = append_assoc (in_room name) (opened_names ns) r in
    let rest : drop 21 (in_room name ++ behind) ≡ behind = ap (λ (n : ℕ). drop n (in_room name ++ behind)) (sym (room-size name)) ∙ drop-append_seam (in_room name) behind in
    ap (names_at most (suc (length ns))) e
    ∙ ap (λ (own : List ℕ). own ∷ names_at most (length ns) (drop 21 (in_room name ++ behind))) (name-kept most name behind (omega arith) (omega arith))
    ∙ ap (λ (others : List (List ℕ)). name ∷ others) (ap (names_at most (length ns)) rest ∙ names-held most limit few room ns r t.1)

pub opened-append : (a b : List (List ℕ)) → opened_names (a ++ b) ≡ opened_names a ++ opened_names b
unfolding opened_names
opened-append [] b = refl
opened-append (name ∷ a) b = rw (opened-append a b) (sym (append_assoc (in_room name) (opened_names a) (opened_names b)))

pub opened-length : (ns : List (List ℕ)) → length (opened_names ns) ≡ 21 * length ns
unfolding opened_names
opened-length [] = refl
opened-length (name ∷ ns) = length-append (in_room name) (opened_names ns) ∙ omega (arith, room-size name, opened-length ns)

-- the lists of a book, one behind the other in a row

abbrev HeldLists : List Shelf → List (List (List ℕ)) → ℕ → List ℕ → Type 0
HeldLists [] ls from row = Unit
HeldLists (s ∷ ss) [] from row = Unit
HeldLists (s ∷ ss) (l ∷ ls) from row = (names_at s.most s.count (drop from row) ≡ l) × HeldLists ss ls (from + 21 * s.count) row

fit-short : (s : Shelf) (ns : List (List ℕ)) → every (fits s) ns ≡ true → every (short s.most) ns ≡ true
fit-short s =
    every-weaker (fits s) (short s.most) (λ name h.
    (both_true (leb s.least (length name)) (leb (length name) s.most) (both_true (within s.least s.most (length name)) (all_letters name) h).0).1)

abbrev few_letters : Shelf → Bool
few_letters s = leb s.most 20

lists-held : (ss : List Shelf) (ls : List (List (List ℕ))) (before : List ℕ) → every few_letters ss ≡ true → map length ls ≡ map (λ s. s.count) ss → Goods ss ls
    → HeldLists ss ls (length before) (before ++ opened_names (joined ls))
unfolding joined every
lists-held [] ls before few e good = tt
lists-held (s ∷ ss) [] before few e good = tt
lists-held (s ∷ ss) (l ∷ ls) before few e good =
    let t = both_true (few_letters s) (every few_letters ss) few in
    let size : length l ≡ s.count = cc in
    let sizes : map length ls ≡ map (λ s. s.count) ss = cc in
    let behind = opened_names (joined ls) in
    let own : names_at s.most s.count (opened_names l ++ behind) ≡ l
    = ap (λ (n : ℕ). names_at s.most n (opened_names l ++ behind)) (sym size)
    ∙ names-held s.most s.most (omega arith) (leb-true s.most 20 t.0) l behind (fit-short s l good.0.fit) in
    let next : length (before ++ opened_names l) ≡ length before + 21 * s.count
    = length-append before (opened_names l) ∙ ap (λ (n : ℕ). length before + n) (opened-length l ∙ ap (λ (n : ℕ). 21 * n) size) in
    let others : HeldLists ss ls (length before + 21 * s.count) (before ++ (opened_names l ++ behind))
    = rw (append_assoc, next) at (lists-held ss ls (before ++ opened_names l) t.1 sizes good.1) in
    rw (opened-append l (joined ls), drop-append_seam before (opened_names l ++ behind)) (own, others)

-- a valid book

abbrev pub added : List ℕ → ℕ
added [] = 0
added (n ∷ ns) = n + added ns

joined_length : (ls : List (List (List ℕ))) → length (joined ls) ≡ added (map length ls)
unfolding joined
joined_length [] = refl
joined_length (l ∷ ls) = length-append l (joined ls) ∙ omega (arith, joined_length ls)

pub all-names : (b : Book) → Valid b → length (names_of b) ≡ 64
all-names b v = joined_length (lists_of b) ∙ ap added v.counts

-- what it is opened into stands for it
pub opened-is : (b : Book) → Valid b → book_in (opened_names (names_of b)) ≡ b
unfolding book_in every
opened-is b v =
    let row = opened_names (names_of b) in
    let size : length row ≡ 1344 = opened-length (names_of b) ∙ ap (λ (n : ℕ). 21 * n) (all-names b v) in
    let h = lists-held shelves (lists_of b) [] refl v.counts (good-lists b v) in
    rw (
      eq-eqb (length row) 1344 size,
      h.0,
      h.1.0,
      h.1.1.0,
      h.1.1.1.0,
      h.1.1.1.1.0,
      h.1.1.1.1.1.0,
      h.1.1.1.1.1.1.0,
    )

-- 64 good names make a valid book

joined-short : (ss : List Shelf) (ls : List (List (List ℕ))) → every few_letters ss ≡ true → map length ls ≡ map (λ s. s.count) ss → Goods ss ls
    → every (short 20) (joined ls) ≡ true
unfolding joined every
joined-short ss [] few e good = refl
joined-short [] (l ∷ ls) few e good = absurd (let z : ◌≡◌ {A = ℕ} 0 1 = cc in omega arith)
joined-short (s ∷ ss) (l ∷ ls) few e good =
    let t = both_true (few_letters s) (every few_letters ss) few in
    let sizes : map length ls ≡ map (λ s. s.count) ss = cc in
    let most = leb-true s.most 20 t.0 in
    every_append (short 20) l (joined ls)
    (every-weaker (short s.most) (short 20) (λ name h. le-leb (length name) 20 (omega (arith, leb-true (length name) s.most h))) l (fit-short s l good.0.fit))
    (joined-short ss ls t.1 sizes good.1)

abbrev cuts : List ℕ → ℕ → List (List ℕ) → List (List (List ℕ))
cuts [] from ns = []
cuts (n ∷ counts) from ns = take n (drop from ns) ∷ cuts counts (from + n) ns

joined-cuts : (counts : List ℕ) (from : ℕ) (ns : List (List ℕ)) → length ns ≡ from + added counts → joined (cuts counts from ns) ≡ drop from ns
unfolding joined
joined-cuts [] from ns h =
    let past : length ns ≤ from = omega arith in
    sym (drop_of_length-le ns past)
joined-cuts (n ∷ counts) from ns h =
    rw (joined-cuts counts (from + n) ns (omega arith), ← drop-drop n from ns) (take-append-drop n (drop from ns))

count-cuts : (counts : List ℕ) (from : ℕ) (ns : List (List ℕ)) → length ns ≡ from + added counts → map length (cuts counts from ns) ≡ counts
count-cuts [] from ns h = refl
count-cuts (n ∷ counts) from ns h =
    let room : n ≤ length (drop from ns) = rw length-drop (omega arith) in
    rw (length-take-le n (drop from ns) room, count-cuts counts (from + n) ns (omega arith))

module _ (ns : List (List ℕ)) (all : length ns ≡ 64) where
  pub names-of-book : names_of (book_of ns) ≡ ns
  names-of-book = joined-cuts (map (λ s. s.count) shelves) 0 ns all

  pub book-valid : names_check shelves 1 ns ≡ Ok tt → Valid (book_of ns)
  book-valid good = record { counts = count-cuts (map (λ s. s.count) shelves) 0 ns all; good = rw names-of-book good }

  -- none has more letters than its room
  pub all_short : names_check shelves 1 ns ≡ Ok tt → every (short 20) ns ≡ true
  unfolding every
  all_short good =
      let v = book-valid good in
      rw names-of-book at (joined-short shelves (lists_of (book_of ns)) refl v.counts (good-lists (book_of ns) v))

  -- so a row that they are opened into stands for their book
  pub opened-book : names_check shelves 1 ns ≡ Ok tt → book_in (opened_names ns) ≡ book_of ns
  opened-book good = rw names-of-book at (opened-is (book_of ns) (book-valid good))
