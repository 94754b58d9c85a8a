-- Name books, by samples: English as a book is read as the English names, and what is refused, in its order.
use Rattle.std.specs.Prelude.{Ok, Err}
use mathlib.Core.List.{List, [], ◌∷◌, ◌++◌}
use mathlib.Core.Path.{◌≡◌, refl}
use Prim.Native.Nat.{ℕ}
use lib.ListN.{take, drop}
use Rattle.meaning.specs.Bytes.{bytes}
use Rattle.meaning.specs.Books.{book_of, joined, names_of, Valid, names_check, book_bytes, book_check, names_in, shelved}
use Rattle.meaning.specs.Names.{english}
use Rattle.meaning.specs.OpenedBooks.{names_at, book_in, opened_names, held_names}
use Rattle.meaning.specs.Results.{Checked}
use Rattle.meaning.specs.declared.Refusal.TheVariants.{BookMark, BookVersion, BookCut, BookName}
use Rattle.meaning.proofs.Tables.{Sample, ◌↦'◌, Answered}

abbrev english_book : List ℕ
english_book = book_bytes (names_of english)

pub english-read : names_in 64 (drop 5 english_book) ≡ shelved (names_of english) []
unfolding english bytes joined book_bytes names_in
english-read = refl

pub english-again : book_of (names_of english) ≡ english
unfolding english bytes joined
english-again = refl

-- opened, it stands for English, as a row of any other size does
pub english-opened : book_in (opened_names (names_of english)) ≡ english
unfolding english bytes joined opened_names book_in names_at
english-opened = refl

pub english-held : held_names (opened_names (names_of english)) ≡ names_of english
unfolding english bytes joined opened_names held_names names_at
english-held = refl

pub english-unopened : book_in [] ≡ english
unfolding book_in
english-unopened = refl

pub english-valid : Valid english
unfolding english bytes joined names_check
english-valid = record { counts = refl; good = refl }

pub table : List (Sample (List ℕ) Checked)
table =
    [] ↦' Err BookMark
    ∷ bytes "LN" ↦' Err BookMark
    ∷ bytes "LNX" ↦' Err BookMark
    ∷ bytes "LNB" ↦' Err BookCut
    ∷ (bytes "LNB" ++ (0 ∷ [])) ↦' Err BookCut
    ∷ (bytes "LNB" ++ (0 ∷ 3 ∷ [])) ↦' Err BookVersion
    ∷ (bytes "LNB" ++ (1 ∷ 0 ∷ [])) ↦' Err BookVersion
    ∷ (bytes "LNB" ++ (0 ∷ 1 ∷ [])) ↦' Err BookCut
    ∷ english_book ↦' (Ok tt)
    ∷ (english_book ++ (0 ∷ [])) ↦' Err BookCut
    ∷ take 100 english_book ↦' Err BookCut
    ∷ (bytes "LNB" ++ (0 ∷ 2 ∷ []) ++ drop 5 english_book ++ (7 ∷ 8 ∷ [])) ↦' (Ok tt)
    ∷ book_bytes (bytes "January" ∷ bytes "Jan" ∷ drop 2 (names_of english)) ↦' Err (BookName 2)
    ∷ book_bytes (bytes "J" ∷ drop 1 (names_of english)) ↦' Err (BookName 1)
    ∷ book_bytes (take 63 (names_of english) ++ (bytes "DD" ∷ [])) ↦' Err (BookName 64)
    ∷ book_bytes (take 24 (names_of english) ++ (bytes "Sun-day" ∷ drop 25 (names_of english))) ↦' Err (BookName 25)
    ∷ []

pub samples : Answered book_check table
unfolding table english bytes joined book_bytes book_check
samples = refl
