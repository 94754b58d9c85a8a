-- Request [8]: a book as it is lent to those who write and read. It is opened once, into a row in which every name has the same room,
-- so that none has to look at the whole book to find a name.
use Rattle.std.specs.Prelude.{List, [], ◌∷◌, ◌++◌, ℕ, zero, suc, min, eqb, length, take, drop, replicate}
use Rattle.meaning.specs.Answers.{◌else◌, room_check}
use Rattle.meaning.specs.Books.{shelves, names_of, Shelved, cut, shelved, names_in, names_check, book_check, book_bytes}
use Rattle.meaning.specs.Bytes.{when}
use Rattle.meaning.specs.Names.{Book, english}
use Rattle.meaning.specs.Whole.{wrote_by, output_by}
use Rattle.meaning.specs.Results.{Checked, Wrote}

-- the room of a name: a byte that is its length, and 20 for its letters
abbrev pub name_room : ℕ
name_room = 21

-- that of 64 names
abbrev pub opened_size : ℕ
opened_size = 1344

-- The name that has its room at the start of a row. Any bytes have one: a length counts as the most that a name may have where it is more.
abbrev pub name_at : ℕ → List ℕ → List ℕ
name_at most [] = []
name_at most (n ∷ s) = take (min n most) s

-- so many names, of at most so many letters
unfoldable pub names_at : ℕ → ℕ → List ℕ → List (List ℕ)
names_at most zero row = []
names_at most (suc k) row = name_at most row ∷ names_at most k (drop name_room row)

-- the lists of an opened book, in book order, with their most letters
abbrev pub opened_book : List ℕ → Book
opened_book row =
    record {
      month_wide = names_at 20 12 row;
      month_abbreviated = names_at 20 12 (drop 252 row);
      wday_wide = names_at 20 7 (drop 504 row);
      wday_abbreviated = names_at 3 7 (drop 651 row);
      wday_short = names_at 2 7 (drop 798 row);
      wday_narrow = names_at 1 7 (drop 945 row);
      month_narrow = names_at 1 12 (drop 1092 row);
    }

-- Any row that is lent stands for a book: one of that size for the book that was opened into it, every other for English.
unfoldable pub book_in : List ℕ → Book
unfolding english names_at
book_in row = when (eqb (length row) opened_size) (opened_book row) english

-- opening: 20 to 23 of the book's bytes, then 5 where the row is shorter

-- the room of a name, filled up with zeros
abbrev pub in_room : List ℕ → List ℕ
in_room name = take name_room (length name ∷ name ++ replicate 20 0)

unfoldable pub opened_names : List (List ℕ) → List ℕ
opened_names [] = []
opened_names (name ∷ ns) = in_room name ++ opened_names ns

-- the names of a book's bytes, where they are all there
abbrev pub all_names : Shelved → List (List ℕ)
all_names cut = []
all_names (shelved ns rest) = ns

abbrev pub book_names : List ℕ → List (List ℕ)
book_names s = all_names (names_in 64 (drop 5 s))

unfoldable pub open_check : List ℕ → ℕ → Checked
unfolding book_check
open_check s room = book_check s else room_check room opened_size

-- the answer, the length of the opened book, and the lent row afterwards
unfoldable pub open_book : List ℕ → List ℕ → Wrote
unfolding open_check opened_names names_in
open_book s out = wrote_by (open_check s (length out)) (opened_names (book_names s))

unfoldable pub open_output : List ℕ → List ℕ → List ℕ
unfolding open_check opened_names names_in
open_output s out = output_by (open_check s (length out)) (opened_names (book_names s)) out

-- writing: 23, then 5

-- the names that a row holds, each length as it stands
unfoldable pub held_names : List ℕ → List (List ℕ)
unfolding names_at english
held_names row = when (eqb (length row) opened_size) (names_at 255 64 row) (names_of english)

unfoldable pub book_write_check : List ℕ → ℕ → Checked
unfolding held_names names_check book_bytes
book_write_check row room = names_check shelves 1 (held_names row) else room_check room (length (book_bytes (held_names row)))

unfoldable pub write_book : List ℕ → List ℕ → Wrote
unfolding book_write_check
write_book row out = wrote_by (book_write_check row (length out)) (book_bytes (held_names row))

unfoldable pub book_output : List ℕ → List ℕ → List ℕ
unfolding book_write_check
book_output row out = output_by (book_write_check row (length out)) (book_bytes (held_names row)) out
