-- Books, read and written: the row that a book was opened into stands for that book, which is a valid one, and is written as the same
-- bytes where they were of version 1; and what was written of a row reads as itself.
use Rattle.std.specs.Prelude.{Ok}
use mathlib.Core.Bool.{true}
use mathlib.Core.List.{List, [], append-nil}
use mathlib.Core.Path.{◌≡◌, refl, ap, ◌∙◌}
use Prim.Native.Nat.{ℕ, ◌*◌}
use native.Mathlib.Omega.{arith}
use lib.Dec.{eqb}
use lib.ListN.{length, drop}
use borrow.Author.Tests.{eq-eqb}
use Rattle.meaning.proofs.Books.{english-valid}
use Rattle.meaning.specs.Answers.{refuse_unless}
use Rattle.meaning.specs.Books.{shelves, book_of, names_check, Valid, Shelved, cut, shelved, names_in, may_go_on, shelved_check, version_of, book_check, book_bytes}
use Rattle.meaning.specs.Bytes.{when}
use Rattle.meaning.specs.Names.{english}
use Rattle.meaning.specs.OpenedBooks.{opened_size, book_in, opened_names, all_names, book_names, held_names}
use Rattle.meaning.specs.declared.Refusal.TheVariants.{BookCut}
use Rattle.laws.proofs.Books.{Kept, names-kept, written-checked, written_read, opened, read-written}
use Rattle.laws.proofs.Checks.{else-fine}
use Rattle.laws.proofs.OpenedBooks.{count_at}
use Rattle.laws.proofs.OpenedNames.{all-names, all_short, names-held, opened-length, book-valid, opened-book}
use Rattle.laws.proofs.Tests.{when-is}

-- good names, opened

module _ (ns : List (List ℕ)) (all : length ns ≡ 64) (good : names_check shelves 1 ns ≡ Ok tt) where
  pub opened-size : length (opened_names ns) ≡ opened_size
  opened-size = opened-length ns ∙ ap (λ (n : ℕ). 21 * n) all

  -- the row holds them
  pub opened-holds : held_names (opened_names ns) ≡ ns
  unfolding held_names
  opened-holds = rw (eq-eqb (length (opened_names ns)) opened_size opened-size) (rw (all, append-nil) at (names-held 255 20 (omega arith) (omega arith) ns [] (all_short ns all good)))

-- a book that was read

names-there : (v : ℕ) (s : List ℕ) (found : Shelved) → Kept 64 s found → shelved_check v found ≡ Ok tt
    → (length (all_names found) ≡ 64) × (names_check shelves 1 (all_names found) ≡ Ok tt)
names-there v s cut kept h = absurd (let z : ◌≡◌ {A = ℕ} 0 1 = cc in omega arith)
names-there v s (shelved ns rest) kept h =
    (kept.1, (else-fine (refuse_unless (when (may_go_on v) true (eqb (length rest) 0)) BookCut) (names_check shelves 1 ns) h).1)

module _ (s : List ℕ) (fine : book_check s ≡ Ok tt) where
  pub read_names : (length (book_names s) ≡ 64) × (names_check shelves 1 (book_names s) ≡ Ok tt)
  read_names = names-there (version_of s) (drop 5 s) (names_in 64 (drop 5 s)) (names-kept 64 (drop 5 s)) (opened s fine).there

  -- what it was opened into stands for its names
  pub read-stands : book_in (opened_names (book_names s)) ≡ book_of (book_names s)
  read-stands = opened-book (book_names s) read_names.0 read_names.1

  pub read-valid : Valid (book_in (opened_names (book_names s)))
  read-valid = rw read-stands (book-valid (book_names s) read_names.0 read_names.1)

  pub read-holds : held_names (opened_names (book_names s)) ≡ book_names s
  read-holds = opened-holds (book_names s) read_names.0 read_names.1

  -- and is written as it was, where it was of version 1
  pub read-written-again : version_of s ≡ 1 → book_bytes (held_names (opened_names (book_names s))) ≡ s
  read-written-again v = rw read-holds (go (names_in 64 (drop 5 s)) refl)
    where
      go : (found : Shelved) → names_in 64 (drop 5 s) ≡ found → book_bytes (all_names found) ≡ s
      go cut e = absurd (let none : length (book_names s) ≡ 0 = ap (λ (g : Shelved). length (all_names g)) e in omega (arith, read_names.0))
      go (shelved ns rest) e = (read-written s ns rest fine v e).0

-- a row that was written

pub held_all : (row : List ℕ) → length (held_names row) ≡ 64
unfolding held_names
held_all row =
    when-is (λ (ns : List (List ℕ)). length ns ≡ 64) (eqb (length row) opened_size) (λ _. count_at 255 64 row) (λ _. all-names english english-valid)

module _ (row : List ℕ) (good : names_check shelves 1 (held_names row) ≡ Ok tt) where
  pub written-fine : book_check (book_bytes (held_names row)) ≡ Ok tt
  written-fine = written-checked (held_names row) (held_all row) ∙ good

  written-names : book_names (book_bytes (held_names row)) ≡ held_names row
  written-names = ap all_names (written_read (held_names row) (held_all row))

  -- it reads as itself: the same names, so the same bytes when it is written again
  pub written-reads : held_names (opened_names (book_names (book_bytes (held_names row)))) ≡ held_names row
  written-reads = read-holds (book_bytes (held_names row)) written-fine ∙ written-names
