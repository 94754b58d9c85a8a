-- Any row that is lent stands for a book with as many names as there must be, none longer than it may be: so what is written with it
-- has its eight bytes for each pattern byte, whatever the row holds.
use Rattle.std.specs.Prelude.{Ok}
use mathlib.Core.List.{List, [], ◌∷◌}
use mathlib.Core.Option.{Option, none, some}
use mathlib.Core.Path.{◌≡◌, refl, sym, ap, ◌∙◌}
use Prim.Native.Nat.{ℕ, zero, suc, ◌*◌, ◌≤◌, ◌<◌}
use native.Mathlib.Omega.{arith}
use lib.Dec.{eqb}
use lib.ListN.{length, drop, length-take}
use Rattle.meaning.proofs.Books.{english-valid}
use Rattle.meaning.specs.Answers.{fields_check, pattern_check}
use Rattle.meaning.specs.Books.{Shelf}
use Rattle.meaning.specs.Names.{Book, english, names}
use Rattle.meaning.specs.OpenedBooks.{name_at, names_at, opened_size, opened_book, book_in}
use Rattle.meaning.specs.Whole.{text}
use Rattle.meaning.specs.Writing.{place_of}
use Rattle.meaning.specs.declared.Fields.{Fields}
use Rattle.meaning.specs.declared.NameList.{NameList}
use Rattle.meaning.specs.declared.NameList.TheVariants.{EraAbbreviated, EraNarrow, EraWide, QuarterWide, MonthAbbreviated, MonthWide, MonthNarrow, WdayAbbreviated, WdayWide, WdayNarrow, WdayShort, PeriodUpper, PeriodLower, PeriodDotted, PeriodLetter, NoonUpper, NoonLower, NoonDotted, NoonLetter}
use Rattle.meaning.specs.declared.Pair.{Pair}
use Rattle.laws.specs.Shelves.{shelf_of}
use Rattle.laws.specs.Widths.{longest, most_on, most_letters}
use Rattle.laws.proofs.BookNames.{valid-short}
use Rattle.laws.proofs.BookRules.{Listed, listed}
use Rattle.laws.proofs.Fields.{Allowed}
use Rattle.laws.proofs.Places.{place-there}
use Rattle.laws.proofs.Sizes.{Short, eight-bytes, text-fits}
use Rattle.laws.proofs.Tests.{when-is}

-- the names of a row

pub count_at : (most k : ℕ) (row : List ℕ) → length (names_at most k row) ≡ k
unfolding names_at
count_at most zero row = refl
count_at most (suc k) row = ap suc (count_at most k (drop 21 row))

name-short : (most : ℕ) (row : List ℕ) → length (name_at most row) ≤ most
name-short most [] = omega arith
name-short most (n ∷ s) = rw length-take (omega arith)

short-at : (most k : ℕ) (row : List ℕ) → longest (names_at most k row) ≤ most
unfolding names_at longest
short-at most zero row = omega arith
short-at most (suc k) row = omega (arith, name-short most row, short-at most k (drop 21 row))

-- what a list of an opened book is: the same in every book, or the names of its shelf from a place on
abbrev HeldAs : List ℕ → NameList → Option Shelf → Type 0
HeldAs row l none = names (opened_book row) l ≡ names english l
HeldAs row l (some s) = (from : ℕ) × (names (opened_book row) l ≡ names_at s.most s.count (drop from row))

held : (row : List ℕ) (l : NameList) → HeldAs row l (shelf_of l)
unfolding names
held row EraAbbreviated = refl
held row EraNarrow = refl
held row EraWide = refl
held row QuarterWide = refl
held row MonthAbbreviated = (252, refl)
held row MonthWide = (0, refl)
held row MonthNarrow = (1092, refl)
held row WdayAbbreviated = (651, refl)
held row WdayWide = (504, refl)
held row WdayNarrow = (945, refl)
held row WdayShort = (798, refl)
held row PeriodUpper = refl
held row PeriodLower = refl
held row PeriodDotted = refl
held row PeriodLetter = refl
held row NoonUpper = refl
held row NoonLower = refl
held row NoonDotted = refl
held row NoonLetter = refl

held-short : (row : List ℕ) (l : NameList) (o : Option Shelf) → HeldAs row l o → longest (names (opened_book row) l) ≤ most_on o l
held-short row l none same = rw same (omega arith)
held-short row l (some s) at = rw at.1 (short-at s.most s.count (drop at.0 row))

held-count : (row : List ℕ) (l : NameList) (o : Option Shelf) → HeldAs row l o → Listed english l o → length (names (opened_book row) l) ≡ length (names english l)
held-count row l none same there = ap length same
held-count row l (some s) at there = rw at.1 (count_at s.most s.count (drop at.0 row) ∙ sym there.1)

-- of any row

pub opened-short : (row : List ℕ) → Short (book_in row)
unfolding book_in most_letters
opened-short row l =
    when-is (λ (b : Book). longest (names b l) ≤ most_on (shelf_of l) l) (eqb (length row) opened_size)
    (λ _. held-short row l (shelf_of l) (held row l)) (λ _. valid-short english english-valid l)

pub opened-as-many : (row : List ℕ) (l : NameList) → length (names (book_in row) l) ≡ length (names english l)
unfolding book_in
opened-as-many row l =
    when-is (λ (b : Book). length (names b l) ≡ length (names english l)) (eqb (length row) opened_size)
    (λ _. held-count row l (shelf_of l) (held row l) (listed english english-valid l)) (λ _. refl)

pub opened-there : (row : List ℕ) (l : NameList) (f : Fields) → Allowed f → place_of l f < length (names (book_in row) l)
opened-there row l f h = rw (opened-as-many row l) (place-there l f h)

pub opened-eight-bytes : (row : List ℕ) (pair : Pair) (p : List ℕ) (f : Fields) → fields_check f ≡ Ok tt → length (text pair (book_in row) p f) ≤ 8 * length p
opened-eight-bytes row pair p f h = eight-bytes (book_in row) (opened-short row) f pair p h

pub opened-text-fits : (row : List ℕ) (pair : Pair) (p : List ℕ) (f : Fields) → pattern_check p ≡ Ok tt → fields_check f ≡ Ok tt
    → length (text pair (book_in row) p f) ≤ 2048
opened-text-fits row pair p f h k = text-fits (book_in row) (opened-short row) f pair p h k
