-- What the writing of names as a book promises: its answer, and the lent output afterwards.
use Rattle.std.specs.Prelude.{List, ◌≡◌, ℕ, length}
use Rattle.meaning.specs.Answers.{◌else◌, room_check}
use Rattle.meaning.specs.Books.{shelves, names_check, book_bytes}
use Rattle.meaning.specs.Whole.{wrote_by, output_by}
use Rattle.meaning.specs.Results.{Checked, Wrote}

abbrev pub names_write_check : List (List ℕ) → ℕ → Checked
names_write_check ns room = names_check shelves 1 ns else room_check room (length (book_bytes ns))

pub record WritesNames (ns : List (List ℕ)) (out : List ℕ) (r : Wrote) (after : List ℕ) : Type 0 where
  pub told : r ≡ wrote_by (names_write_check ns (length out)) (book_bytes ns)
  pub held : after ≡ output_by (names_write_check ns (length out)) (book_bytes ns) out
