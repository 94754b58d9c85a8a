-- A lent row: the book that it stands for, and the rooms of a list in the part of it from where they begin.
use mathlib.Core.List.{List}
use mathlib.Core.Path.{◌≡◌, sym, ◌∙◌}
use Prim.Native.Nat.{ℕ, ◌-◌, ◌≤◌, ◌<◌}
use native.Mathlib.Omega.{arith}
use borrow.Author.Tests.{eq-eqb, ne_eqb, ltb-true, ltb-false}
use lib.Dec.{ltb}
use lib.ListN.{length, take, drop, length-drop}
use lib.Seq.{take_all}
use Rattle.laws.proofs.Tests.{by-test}
use Rattle.meaning.specs.Names.{names, english}
use Rattle.meaning.specs.OpenedBooks.{opened_size, opened_book, book_in}
use Rattle.meaning.specs.declared.NameList.{NameList}
use Rattle.names.specs.Lists.{list_at}
use Rattle.names.specs.Table.{Numbered, IsTable, InBook}
use Rattle.names.specs.declared.rooms.Rooms.{Rooms}
use Rattle.names.proofs.constants.Numbers.{fixed-names}

pub lent-english : (row : List ℕ) → (length row ≡ opened_size → ⊥) → book_in row ≡ english
unfolding book_in
lent-english row h = rw (ne_eqb (length row) opened_size h)

lent-opened : (row : List ℕ) → length row ≡ opened_size → book_in row ≡ opened_book row
unfolding book_in
lent-opened row h = rw (eq-eqb (length row) opened_size h)

pub part-holds : {r : Rooms} {list : NameList} → InBook r list → (row : List ℕ) → length row ≡ opened_size
    → IsTable r.most r.count (take (length row - r.from) (drop r.from row)) (names (book_in row) list)
part-holds {r} b row h =
    rw (take_all (length row - r.from) (drop r.from row) (rw length-drop (omega arith)), lent-opened row h) (b.holds row h)

-- the list of a table in the book of a row
module _ {n : ℕ} {list : NameList} (t : Numbered n list) (row : List ℕ) where
  pub fixed-list : n < 10 → names (book_in row) list ≡ names english (list_at n)
  fixed-list h = sym (t.same (book_in row)) ∙ fixed-names (book_in row) n h

  pub english-list : (length row ≡ opened_size → ⊥) → names (book_in row) list ≡ names english (list_at n)
  english-list h = sym (t.same (book_in row)) ∙ rw (lent-english row h)

  pub opened-list : names (book_in row) list ≡ names (book_in row) (list_at n)
  opened-list = sym (t.same (book_in row))

  -- one that is the same in every book, or where none is lent
  pub unlent-list : (10 ≤ n → length row ≡ opened_size → ⊥) → names (book_in row) list ≡ names english (list_at n)
  unlent-list h = by-test (ltb n 10) (λ e. fixed-list (ltb-true n 10 e)) (λ e. english-list (h (ltb-false n 10 e)))
