-- Names in rooms, and what a match among them finds.
use Rattle.std.specs.Prelude.{Option, Some, None, List, ◌≡◌, ℕ, ◌*◌, ◌≤◌, ◌<◌, length, drop}
use Rattle.meaning.specs.Names.{Book, names}
use Rattle.meaning.specs.OpenedBooks.{name_room, opened_size, name_at, names_at, opened_book}
use Rattle.meaning.specs.Readers.{Got, got, stopped}
use Rattle.meaning.specs.declared.NameList.{NameList}
use Rattle.names.specs.Lists.{list_at}
use Rattle.names.specs.declared.rooms.Rooms.{Rooms}
use Rattle.names.specs.declared.tables.Found.{Found}

-- the name of a room, cut to the most letters
abbrev pub name_in : ℕ → List ℕ → ℕ → List ℕ
name_in most rows i = name_at most (drop (i * name_room) rows)

-- what a match gives, as the matcher answers it
abbrev pub found_in : Got ℕ → Option Found
found_in (got length' index) = Some (record { index = index; length = length' })
found_in (stopped why place) = None

-- the number of a table that has a list's names
pub record Numbered (n : ℕ) (list : NameList) : Type 0 where
  pub below : n < 17
  pub same : (book : Book) → names book (list_at n) ≡ names book list

-- rows whose rooms hold these names, cut to the most letters
pub record IsTable (most count : ℕ) (rows : List ℕ) (these : List (List ℕ)) : Type 0 where
  pub short : most ≤ 20
  pub inside : count * name_room ≤ length rows
  pub held : names_at most count rows ≡ these

-- where a list is in every opened book
pub record InBook (r : Rooms) (list : NameList) : Type 0 where
  pub inside : r.from ≤ opened_size
  pub holds : (row : List ℕ) → length row ≡ opened_size → IsTable r.most r.count (drop r.from row) (names (opened_book row) list)

-- a lent row that is an opened book, and the number of a list of it
pub record IsOpened (row : List ℕ) (table : ℕ) : Type 0 where
  pub opened : length row ≡ opened_size
  pub from : 10 ≤ table
  pub below : table < 17
