-- What the numbers and rows that a caller lends stand for: the choices of a reading, a book, the mark of a stamp, the mask of a reading.
use Rattle.std.specs.Prelude.{Bool, true, false, List, ℕ, ◌/◌, ◌%◌, eqb, leb, ℤ, pos, negsuc, length}
use Rattle.meaning.specs.Bytes.{when, both}
use Rattle.meaning.specs.OpenedBooks.{opened_size}
use Rattle.meaning.specs.Whole.{marked}
use Rattle.meaning.specs.declared.Choices.{Choices}
use Rattle.meaning.specs.declared.Edition.{Edition}
use Rattle.meaning.specs.declared.Edition.TheVariants.{First, Second}
use Rattle.meaning.specs.declared.Pair.{Pair}
use Rattle.meaning.specs.declared.Pair.TheVariants.{Full, Date}

-- the choices that a number stands for: 1 is the Date pair, 2 a strict reading, 4 the second edition, added
abbrev pub pair_of : ℕ → Pair
pair_of n = when (eqb (n % 2) 1) Date Full

abbrev pub edition_of : ℕ → Edition
edition_of n = when (eqb (n / 4 % 2) 1) Second First

abbrev pub choices_of : ℕ → Choices
choices_of n = record { pair = pair_of n; strict = eqb (n / 2 % 2) 1; edition = edition_of n }

-- whether a number stands for choices of a reading, and for those of a check, which is of the full pair
abbrev pub of_reading : ℕ → Bool
of_reading n = leb n 7

abbrev pub of_check : ℕ → Bool
of_check n = both (of_reading n) (eqb (n % 2) 0)

-- whether a lent row is a book: an opened one, or an empty row, which stands for English
abbrev pub is_book : List ℕ → Bool
is_book book = when (eqb (length book) 0) true (eqb (length book) opened_size)

-- whether a number is the mark of a stamp, and whether that says that the offset is unknown
abbrev pub is_mark : ℕ → Bool
is_mark n = leb n 1

abbrev pub marks_unknown : ℕ → Bool
marks_unknown n = eqb n 1

-- whether a mask has the bit of a unit, of which there are fifteen; a number below 0 is no mask and has none
abbrev pub is_marked : ℤ → ℕ → Bool
is_marked (pos mask) unit = both (leb unit 14) (marked mask unit)
is_marked (negsuc n) unit = false
