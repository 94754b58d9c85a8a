-- Request [11]: what a row is found to be before it is used.
use Rattle.std.specs.Prelude.{ℕ, List, eqb, leb, ltb, take, Option, Some, None, Result, Ok, Err}
use Rattle.meaning.specs.Bytes.{when, both}
use Rattle.meaning.specs.declared.Refusal.{Refusal}
use Rattle.words.specs.Rows.{is_accepted, is_refused, refusal_in, refusal_of, used, found, held_from, check_word, tail, held_words, xor_from}

-- of a pattern that was refused, by what its mark adds
abbrev pub refused_by : ℕ → List ℕ → Option (Result ℕ Refusal)
refused_by n row =
    when (both (leb 1025 n) (both (leb n 1027) (both (ltb (found row) 9223372036854775808) (eqb (found row) (check_word row)))))
    (Some (Err (refusal_of n (found row)))) None

-- of an accepted one with so many words of steps
abbrev pub accepted_by : ℕ → List ℕ → Option (Result ℕ Refusal)
accepted_by n row =
    when (both (leb (held_from row) 256) (eqb (xor_from (xor_from (found row) (take n (tail row))) (held_words row)) (check_word row)))
    (Some (Ok n)) None

-- no prepared pattern; one that is refused; or its words
unfoldable pub opened : List ℕ → Option (Result ℕ Refusal)
unfolding xor_from
opened row =
    when (is_accepted row) (Some (Ok (used row))) (when (is_refused row) (Some (Err (refusal_in row))) None)
