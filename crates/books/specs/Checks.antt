-- What the check of a book's bytes promises: its answer, and the places of the names where it is fine.
use Rattle.std.specs.Prelude.{List, ◌≡◌, ℕ, leb, length, Ok}
use Rattle.books.specs.Places.{names_by}
use Rattle.meaning.specs.Answers.{◌else◌, refuse_unless}
use Rattle.meaning.specs.Books.{is_mark, is_version, version_of, book_check}
use Rattle.meaning.specs.OpenedBooks.{book_names}
use Rattle.meaning.specs.Results.{Checked}
use Rattle.meaning.specs.declared.Refusal.TheVariants.{BookMark, BookVersion, BookCut}

-- what stands before the names
abbrev pub start_check : List ℕ → Checked
start_check s =
    refuse_unless (is_mark s) BookMark else
    refuse_unless (leb 5 (length s)) BookCut else
    refuse_unless (is_version (version_of s)) BookVersion

pub record Checks (s places : List ℕ) (r : Checked) : Type 0 where
  pub checked : r ≡ book_check s
  pub found : r ≡ Ok tt → names_by s places ≡ book_names s
