-- What words write, as their writers name it: the text of a word and of words, the byte behind all else, three numbers in one word, and the
-- numbers of a record by their places.
use Rattle.std.specs.Prelude.{Bool, true, false, List, [], ◌∷◌, ◌++◌, ℕ, ◌+◌, ◌-◌, ◌<◌, eqb, ltb, nat_abs, length, get_or, take, replicate}
use Rattle.meaning.specs.Bytes.{when, both, digits, num}
use Rattle.meaning.specs.OpenedBooks.{book_in}
use Rattle.meaning.specs.Writing.{is_negative, quantity_of, place_of, name_text, signed_text, texts}
use Rattle.meaning.specs.declared.Fields.{Fields}
use Rattle.meaning.specs.declared.Quantity.TheVariants.{Month, Day, Hour0To23, Minute, Second}
use Rattle.words.specs.Coding.{list_in, first_spelled}
use Rattle.words.specs.Fields.{code, slot, count, from, is_lost, first_byte, second_byte, last_byte, item}
use Rattle.words.specs.Pieces.{held_bytes, steps_in, steps_of}

-- with the names of a lent book, and the row's words
abbrev pub word_text : List ℕ → List ℕ → Fields → ℕ → List ℕ
word_text book tail f w = texts (book_in book) f (steps_in tail w)

abbrev pub words_text : List ℕ → List ℕ → Fields → List ℕ → List ℕ
words_text book tail f ws = texts (book_in book) f (steps_of tail ws)

abbrev pub behind_text : ℕ → List ℕ
behind_text w = when (eqb (last_byte w) 0) [] (last_byte w ∷ [])

-- a name that is matched, and the byte behind it
abbrev pub matched_text : List ℕ → Fields → ℕ → List ℕ
matched_text book f w = name_text (book_in book) (list_in (item w)) f ++ behind_text w

-- the number of a record's name among those that are spelled
abbrev pub spelled_name : Fields → ℕ → ℕ
spelled_name f w = first_spelled w + place_of (list_in (item w)) f

-- behind the first of three numbers
abbrev pub two_more : List ℕ → List ℕ → ℕ → List ℕ
two_more b c w = first_byte w ∷ b ++ (second_byte w ∷ c ++ behind_text w)

-- the bytes that a word holds in the row, of which a write may lose the last
abbrev pub held_text : List ℕ → ℕ → List ℕ
held_text tail w =
    let held = held_bytes tail (from w) (count w) in
    when (is_lost w) (take (length held - 1) held) held

-- a year that may have four digits; a negative one has no such number
abbrev pub plain_year : Fields → ℕ
plain_year f = when (is_negative f.year) 10000 (nat_abs f.year)

-- the numbers of the slots, the last two of a date, and the year
unfoldable pub numbers_of : Fields → List ℕ
numbers_of f =
    quantity_of Month f ∷ quantity_of Day f ∷ quantity_of Hour0To23 f ∷ quantity_of Minute f ∷ quantity_of Second f
    ∷ quantity_of Day f ∷ quantity_of Day f ∷ quantity_of Day f
    ∷ quantity_of Month f ∷ quantity_of Day f
    ∷ plain_year f ∷ []

-- Quick words: those that patterns have most, whose numbers have at most two digits, and a year four.

abbrev pub Small : List ℕ → Type 0
Small numbers = (i : ℕ) → i < 10 → get_or numbers i 0 < 100

abbrev pub is_quick : ℕ → ℕ → Bool
is_quick year w =
    when (eqb (code w) 1) true
    (when (eqb (code w) 3) true
    (when (eqb (code w) 4) true
    (when (eqb (code w) 9) (both (eqb (slot w) 4) (ltb year 10000))
    (when (eqb (code w) 10) true (when (eqb (code w) 15) (ltb year 10000) false)))))

-- what they write, by the numbers
unfoldable pub quick_text : List ℕ → ℕ → List ℕ
quick_text numbers w =
    when (eqb (code w) 1) (last_byte w ∷ [])
    (when (eqb (code w) 3) (num 2 (get_or numbers (slot w) 0) ++ behind_text w)
    (when (eqb (code w) 4) (num 1 (get_or numbers (slot w) 0) ++ behind_text w)
    (when (eqb (code w) 9) (digits 4 (get_or numbers 10 0) ++ behind_text w)
    (when (eqb (code w) 10) (num 2 (get_or numbers 2 0) ++ two_more (num 2 (get_or numbers 3 0)) (num 2 (get_or numbers 4 0)) w)
    (digits 4 (get_or numbers 10 0) ++ two_more (num 2 (get_or numbers 8 0)) (num 2 (get_or numbers 9 0)) w)))))

-- what any other word writes, but one that holds a rule
unfoldable pub other_text : List ℕ → Fields → ℕ → List ℕ
other_text tail f w =
    when (eqb (code w) 9) (signed_text (slot w) f.year ++ behind_text w)
    (when (eqb (code w) 15) (signed_text 4 f.year ++ two_more (num 2 f.month) (num 2 f.day) w)
    (when (eqb (code w) 29) (signed_text (count w) f.year)
    (when (eqb (code w) 30) (replicate (count w) (last_byte w)) (when (eqb (code w) 31) (held_text tail w) []))))
