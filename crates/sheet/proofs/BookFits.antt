-- The answers about books fit a row: a bad name is one of 64, and a book has at most 1,349 bytes.
use Rattle.std.specs.Prelude.{Ok}
use mathlib.Core.Bool.{true}
use mathlib.Core.List.{List, [], ◌∷◌, map}
use mathlib.Core.Path.{◌≡◌}
use Prim.Native.Nat.{ℕ, zero, suc, ◌+◌, ◌*◌, ◌≤◌}
use native.Mathlib.Omega.{arith}
use lib.Dec.{eqb, leb}
use lib.ListN.{length, drop, length-append}
use borrow.Author.Tests.{leb-true}
use Rattle.laws.proofs.BookCopies.{opened-size, read_names, held_all}
use Rattle.laws.proofs.Checks.{else-fine}
use Rattle.laws.proofs.OpenedNames.{short, all_short, added}
use Rattle.laws.proofs.Tests.{both_true, every}
use Rattle.meaning.specs.Answers.{◌else◌, refuse_unless, room_check, details}
use Rattle.meaning.specs.Books.{Shelf, shelves, is_good, shelf_check, names_check, Shelved, cut, shelved, names_in, version_of, is_mark, is_version, may_go_on, shelved_check, book_check, shelve_names, book_bytes}
use Rattle.meaning.specs.Bytes.{when, bytes}
use Rattle.meaning.specs.OpenedBooks.{opened_size, book_names, opened_names, open_check, open_book, held_names, book_write_check, write_book}
use Rattle.meaning.specs.declared.Refusal.TheVariants.{NoRoom, BookMark, BookVersion, BookCut, BookName}
use Rattle.rows.proofs.WriteFits.{wrote-fits}
use Rattle.rows.proofs.entries.Fits.{else-fits, unless-fits}
use Rattle.rows.specs.Fits.{NumberFits, CheckedFits, CountFits}

-- 23

shelf-fits : (s : Shelf) (k i : ℕ) (earlier ns : List (List ℕ)) → NumberFits (i + k) → CheckedFits (shelf_check s k i earlier ns)
unfolding shelf_check details
shelf-fits s zero i earlier ns h = tt
shelf-fits s (suc k) i earlier [] h = tt
shelf-fits s (suc k) i earlier (name ∷ ns) h =
    else-fits (refuse_unless (is_good s earlier name) (BookName i)) (shelf_check s k (suc i) (name ∷ earlier) ns)
    (unless-fits (is_good s earlier name) (BookName i) (omega arith, tt)) (λ _. shelf-fits s k (suc i) (name ∷ earlier) ns (omega arith))

names-fit : (ss : List Shelf) (i : ℕ) (ns : List (List ℕ)) → NumberFits (i + added (map (λ s. s.count) ss)) → CheckedFits (names_check ss i ns)
unfolding names_check
names-fit [] i ns h = tt
names-fit (s ∷ ss) i ns h =
    else-fits (shelf_check s s.count i [] ns) (names_check ss (i + s.count) (drop s.count ns)) (shelf-fits s s.count i [] ns (omega arith))
    (λ _. names-fit ss (i + s.count) (drop s.count ns) (omega arith))

-- reading

shelved-fits : (v : ℕ) (found : Shelved) → CheckedFits (shelved_check v found)
unfolding details
shelved-fits v cut = (omega arith, tt)
shelved-fits v (shelved ns rest) =
    let ended = when (may_go_on v) true (eqb (length rest) 0) in
    else-fits (refuse_unless ended BookCut) (names_check shelves 1 ns) (unless-fits ended BookCut (omega arith, tt)) (λ _. names-fit shelves 1 ns (omega arith))

book-fits : (s : List ℕ) → CheckedFits (book_check s)
unfolding book_check details
book-fits s =
    let names = shelved_check (version_of s) (names_in 64 (drop 5 s)) in
    let version = refuse_unless (is_version (version_of s)) BookVersion in
    let long = refuse_unless (leb 5 (length s)) BookCut in
    else-fits (refuse_unless (is_mark s) BookMark) (long else version else names) (unless-fits (is_mark s) BookMark (omega arith, tt))
    (λ _. else-fits long (version else names) (unless-fits (leb 5 (length s)) BookCut (omega arith, tt))
    (λ _. else-fits version names (unless-fits (is_version (version_of s)) BookVersion (omega arith, tt)) (λ _. shelved-fits (version_of s) (names_in 64 (drop 5 s)))))

pub open-fits : (s out : List ℕ) → NumberFits (length out) → CountFits (open_book s out)
unfolding open_book open_check details
open-fits s out h =
    wrote-fits (open_check s (length out)) (opened_names (book_names s))
    (else-fits (book_check s) (room_check (length out) opened_size) (book-fits s) (λ _. unless-fits (leb opened_size (length out)) (NoRoom opened_size) (omega arith, tt)))
    (λ e.
    let t = else-fine (book_check s) (room_check (length out) opened_size) e in
    omega (arith, opened-size (book_names s) (read_names s t.0).0 (read_names s t.0).1))

-- writing

shelved-length : (ns : List (List ℕ)) → every (short 20) ns ≡ true → length (shelve_names ns) ≤ 21 * length ns
unfolding shelve_names every
shelved-length [] h = omega arith
shelved-length (name ∷ ns) h =
    let t = both_true (short 20 name) (every (short 20) ns) h in
    omega (arith, length-append name (shelve_names ns), leb-true (length name) 20 t.0, shelved-length ns t.1)

book-length : (row : List ℕ) → names_check shelves 1 (held_names row) ≡ Ok tt → length (book_bytes (held_names row)) ≤ 1349
unfolding book_bytes bytes
book-length row good =
    omega (arith, shelved-length (held_names row) (all_short (held_names row) (held_all row) good), held_all row)

pub write-book-fits : (row out : List ℕ) → NumberFits (length out) → CountFits (write_book row out)
unfolding write_book book_write_check details
write-book-fits row out h =
    let names = names_check shelves 1 (held_names row) in
    let n = length (book_bytes (held_names row)) in
    wrote-fits (book_write_check row (length out)) (book_bytes (held_names row))
    (else-fits names (room_check (length out) n) (names-fit shelves 1 (held_names row) (omega arith))
    (λ good. unless-fits (leb n (length out)) (NoRoom n) (omega (arith, book-length row good), tt)))
    (λ e. omega (arith, book-length row (else-fine names (room_check (length out) n) e).0))
