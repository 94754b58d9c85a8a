-- Name books: what is written is read as itself, and what is read of version 1 is written as it was.
use Rattle.std.specs.Prelude.{Ok}
use mathlib.Core.Bool.{true}
use mathlib.Core.List.{List, [], ◌∷◌, ◌++◌, append_assoc, append-nil}
use mathlib.Core.Path.{◌≡◌, refl, sym, ap, ◌∙◌}
use Prim.Native.Nat.{ℕ, zero, suc, ◌≤◌}
use native.Mathlib.Omega.{arith}
use borrow.Author.Tests.{eqb-true, le-leb, leb-true}
use lib.Dec.{eqb, leb}
use lib.ListN.{length, take, drop, length-append, take-append-drop}
use lib.Seq.{length-take-le, take-append_seam, drop-append_seam}
use Rattle.meaning.specs.Answers.{◌else◌, refuse_unless}
use Rattle.meaning.specs.Books.{shelves, is_mark, is_version, version_of, shelved_check, Shelved, cut, shelved, behind_name, names_in, names_check, mark, book_check, shelve_names, book_bytes}
use Rattle.meaning.specs.Bytes.{both, bytes}
use Rattle.meaning.specs.Readers.{begins}
use Rattle.meaning.specs.declared.Refusal.TheVariants.{BookMark, BookVersion, BookCut}
use Rattle.laws.proofs.Checks.{else-fine, fine-unless}
use Rattle.laws.proofs.Tests.{both_true, by-test}

-- names that were written are read as themselves, and what is behind them is left
pub names-read : (ns : List (List ℕ)) (rest : List ℕ) → names_in (length ns) (shelve_names ns ++ rest) ≡ shelved ns rest
unfolding names_in shelve_names
names-read [] rest = refl
names-read (name ∷ ns) rest =
    let behind = shelve_names ns ++ rest in
    let e : (name ++ shelve_names ns) ++ rest ≡ name ++ behind = append_assoc name (shelve_names ns) rest in
    let room : length name ≤ length (name ++ behind) = simp length-append (omega arith) in
    rw (e, le-leb (length name) (length (name ++ behind)) room, take-append_seam name behind, drop-append_seam name behind, names-read ns rest)

-- and the other way: what so many names were read from are those names behind their lengths, and what is left

abbrev pub Kept : ℕ → List ℕ → Shelved → Type 0
Kept k s cut = Unit
Kept k s (shelved ns rest) = (s ≡ shelve_names ns ++ rest) × (length ns ≡ k)

kept-behind : (k n : ℕ) (s : List ℕ) → n ≤ length s → (found : Shelved) → Kept k (drop n s) found → Kept (suc k) (n ∷ s) (behind_name (take n s) found)
unfolding shelve_names
kept-behind k n s h cut kept = tt
kept-behind k n s h (shelved ns rest) kept =
    let whole : s ≡ take n s ++ (shelve_names ns ++ rest) = sym (take-append-drop n s) ∙ ap (λ (t : List ℕ). take n s ++ t) kept.0 in
    let size : length (take n s) ≡ n = length-take-le n s h in
    (rw size (ap (λ (t : List ℕ). n ∷ t) (whole ∙ sym (append_assoc (take n s) (shelve_names ns) rest))), ap suc kept.1)

pub names-kept : (k : ℕ) (s : List ℕ) → Kept k s (names_in k s)
unfolding names_in shelve_names
names-kept zero s = (refl, refl)
names-kept (suc k) [] = tt
names-kept (suc k) (n ∷ s) =
    by-test (leb n (length s))
    (λ t. rw t (kept-behind k n s (leb-true n (length s) t) (names_in k (drop n s)) (names-kept k (drop n s))))
    (λ t. rw t tt)

-- a whole book

-- what was written is checked by its names alone, and has them
pub written-checked : (ns : List (List ℕ)) → length ns ≡ 64 → book_check (book_bytes ns) ≡ names_check shelves 1 ns
unfolding book_check book_bytes bytes begins
written-checked ns h =
    let s = shelve_names ns in
    let found : names_in 64 s ≡ shelved ns [] = rw (h, append-nil s) at (names-read ns []) in
    rw (le-leb 3 (length (mark ++ 0 ∷ 1 ∷ s)) (omega arith), le-leb 5 (length (mark ++ 0 ∷ 1 ∷ s)) (omega arith), found)

pub written_read : (ns : List (List ℕ)) → length ns ≡ 64 → names_in 64 (drop 5 (book_bytes ns)) ≡ shelved ns []
unfolding book_bytes bytes
written_read ns h = rw (h, append-nil (shelve_names ns)) at (names-read ns [])

-- what a book that was read is: its mark, its version, its names, and nothing behind them in version 1
pub record Opened (s : List ℕ) : Type 0 where
  pub is_book : is_mark s ≡ true
  pub has-version : 5 ≤ length s
  pub known : is_version (version_of s) ≡ true
  pub there : shelved_check (version_of s) (names_in 64 (drop 5 s)) ≡ Ok tt

pub opened : (s : List ℕ) → book_check s ≡ Ok tt → Opened s
unfolding book_check
opened s h =
    let names = shelved_check (version_of s) (names_in 64 (drop 5 s)) in
    let version = refuse_unless (is_version (version_of s)) BookVersion in
    let long = refuse_unless (leb 5 (length s)) BookCut in
    let a = else-fine (refuse_unless (is_mark s) BookMark) (long else version else names) h in
    let b = else-fine long (version else names) a.1 in
    let c = else-fine version names b.1 in
    record {
      is_book = fine-unless (is_mark s) BookMark a.0;
      has-version = leb-true 5 (length s) (fine-unless (leb 5 (length s)) BookCut b.0);
      known = fine-unless (is_version (version_of s)) BookVersion c.0;
      there = c.1;
    }

-- a book of version 1 that was read is written as it was
first-five : (s : List ℕ) → 5 ≤ length s → is_mark s ≡ true → version_of s ≡ 1 → s ≡ mark ++ 0 ∷ 1 ∷ drop 5 s
unfolding begins bytes
first-five (a ∷ b ∷ c ∷ d ∷ e ∷ t) h m v =
    let begun = (both_true (leb 3 (length (a ∷ b ∷ c ∷ d ∷ e ∷ t))) (begins mark (a ∷ b ∷ c ∷ d ∷ e ∷ t)) m).1 in
    let x = both_true (eqb 76 a) (both (eqb 78 b) (both (eqb 66 c) true)) begun in
    let y = both_true (eqb 78 b) (both (eqb 66 c) true) x.1 in
    let z = both_true (eqb 66 c) true y.1 in
    let high : d ≡ 0 = omega arith in
    let low : e ≡ 1 = omega arith in
    rw (← eqb-true 76 a x.0, ← eqb-true 78 b y.0, ← eqb-true 66 c z.0, high, low)
first-five [] h m v = absurd (omega arith)
first-five (a ∷ []) h m v = absurd (omega arith)
first-five (a ∷ b ∷ []) h m v = absurd (omega arith)
first-five (a ∷ b ∷ c ∷ []) h m v = absurd (omega arith)
first-five (a ∷ b ∷ c ∷ d ∷ []) h m v = absurd (omega arith)

none_left : (s : List ℕ) → eqb (length s) 0 ≡ true → s ≡ []
none_left [] h = refl
none_left (b ∷ s) h = absurd (omega (arith, eqb-true (length (b ∷ s)) 0 h))

pub read-written : (s : List ℕ) (ns : List (List ℕ)) (rest : List ℕ) → book_check s ≡ Ok tt → version_of s ≡ 1
    → names_in 64 (drop 5 s) ≡ shelved ns rest → (book_bytes ns ≡ s) × (length ns ≡ 64) × (names_check shelves 1 ns ≡ Ok tt)
unfolding book_bytes
read-written s ns rest h v e =
    let o = opened s h in
    let ended = eqb (length rest) 0 in
    let there : (refuse_unless ended BookCut else names_check shelves 1 ns) ≡ Ok tt = rw (v, e) at o.there in
    let t = else-fine (refuse_unless ended BookCut) (names_check shelves 1 ns) there in
    let last : rest ≡ [] = none_left rest (fine-unless ended BookCut t.0) in
    let kept : Kept 64 (drop 5 s) (shelved ns rest) = rw e at (names-kept 64 (drop 5 s)) in
    let names : drop 5 s ≡ shelve_names ns = kept.0 ∙ rw last (append-nil (shelve_names ns)) in
    (sym (first-five s o.has-version o.is_book v ∙ rw names), kept.1, t.1)
