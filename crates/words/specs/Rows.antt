-- Request [11]: the row of a prepared pattern: a mark, a check word, what was found of the pattern, and 256 words, of which the first are
-- those of its steps and the last the bytes that these hold.
use Rattle.std.specs.Prelude.{Bool, List, [], ◌∷◌, ℕ, ◌-◌, ◌%◌, eqb, leb, ltb, length, get_or, take, drop, Ok, Err}
use Rattle.std.specs.Int.Bits.{bit_xor}
use Rattle.meaning.specs.Bytes.{when, both}
use Rattle.meaning.specs.Writing.{Step}
use Rattle.meaning.specs.Results.{Checked}
use Rattle.meaning.specs.declared.Refusal.{Refusal}
use Rattle.meaning.specs.declared.Refusal.TheVariants.{PatternTooLong, PatternByte, LoneQuote}
use Rattle.words.specs.Pieces.{steps_of}

abbrev pub row_length : ℕ
row_length = 259

-- "Sheet" and three zero bytes, read as one number; the mark adds to it how many words have steps, or 1024 and the refusal's number
abbrev pub tag : ℕ
tag = 6010165189138186240

abbrev pub mark : List ℕ → ℕ
mark row = get_or row 0 0

abbrev pub check_word : List ℕ → ℕ
check_word row = get_or row 1 0

-- where the held bytes start, and the two verdicts; of a refused pattern, the refusal's detail
abbrev pub found : List ℕ → ℕ
found row = get_or row 2 0

abbrev pub held_from : List ℕ → ℕ
held_from row = found row % 512

-- the 256 words, those of steps, and those of held bytes
abbrev pub tail : List ℕ → List ℕ
tail row = take 256 (drop 3 row)

abbrev pub used : List ℕ → ℕ
used row = mark row - tag

abbrev pub step_words : List ℕ → List ℕ
step_words row = take (used row) (tail row)

abbrev pub held_words : List ℕ → List ℕ
held_words row = drop (held_from row) (tail row)

-- all of some words, by exclusive or, from one on
unfoldable pub xor_from : ℕ → List ℕ → ℕ
xor_from n [] = n
xor_from n (w ∷ ws) = xor_from (bit_xor n w) ws

-- whether a row is that of an accepted pattern: so it says, and its words are those that were laid
abbrev pub is_accepted : List ℕ → Bool
is_accepted row =
    both (leb row_length (length row))
    (both (leb tag (mark row))
    (both (leb (used row) 256)
    (both (leb (held_from row) 256) (eqb (xor_from (xor_from (found row) (step_words row)) (held_words row)) (check_word row)))))

-- the refusal of a pattern that was refused, by what its mark adds and the detail
abbrev pub refusal_of : ℕ → ℕ → Refusal
refusal_of n detail = when (eqb n 1025) (PatternTooLong detail) (when (eqb n 1026) (PatternByte detail) (LoneQuote detail))

abbrev pub refusal_in : List ℕ → Refusal
refusal_in row = refusal_of (used row) (found row)

-- whether a row is that of a refused pattern; a detail is the length of what memory can hold, or a place in it
abbrev pub is_refused : List ℕ → Bool
is_refused row =
    both (leb row_length (length row))
    (both (leb tag (mark row))
    (both (leb 1025 (used row))
    (both (leb (used row) 1027) (both (ltb (found row) 9223372036854775808) (eqb (found row) (check_word row))))))

-- what its pattern was refused for, and its steps
abbrev pub checked_in : List ℕ → Checked
checked_in row = when (is_accepted row) (Ok tt) (Err (refusal_in row))

abbrev pub steps_held : List ℕ → List Step
steps_held row = steps_of (tail row) (step_words row)
