-- Request [11]: what a word of a prepared pattern stands for: no step, one, or some that follow one another. Every word stands for such a
-- list, also one that nobody made.
use Rattle.std.specs.Prelude.{false, List, [], ◌∷◌, ◌++◌, map, ℕ, ◌+◌, ◌%◌, eqb, leb, take, drop, replicate}
use Rattle.meaning.specs.Bytes.{when}
use Rattle.meaning.specs.Writing.{Step, literal, field}
use Rattle.rules.specs.ShortRules.{short_rule}
use Rattle.rules.specs.Steps.{long_year}
use Rattle.rules.specs.declared.short.Short.{Short}
use Rattle.rules.specs.declared.short.Short.TheVariants as short
use Rattle.words.specs.Coding.{rule_in}
use Rattle.words.specs.Fields.{code, slot, count, from, is_lost, first_byte, second_byte, last_byte}
use Rattle.words.specs.declared.pieces.Piece.{Piece}
use Rattle.words.specs.declared.pieces.Piece.TheVariants.{Times, Held, Symbol}

-- the bytes that a word holds in the row, each a word of its own
unfoldable pub held_bytes : List ℕ → ℕ → ℕ → List ℕ
held_bytes row i n = map (λ w. w % 256) (take n (drop i row))

-- the step that a piece is
unfoldable pub piece_step : List ℕ → Piece → Step
unfolding held_bytes
piece_step row (Times b n) = literal (replicate n b) false
piece_step row (Held i n lost) = literal (held_bytes row i n) lost
piece_step row (Symbol rule) = field rule

-- one of the numbers that patterns have most, by its slot; any other slot than theirs is the day
unfoldable pub short_in : ℕ → Short
short_in n =
    when (eqb n 0) short.Month
    (when (eqb n 2) short.Hour (when (eqb n 3) short.Minute (when (eqb n 4) short.Second short.Day)))

abbrev pub once : ℕ → Piece
once b = Times b 1

-- so many digits of one of them
abbrev pub shortly : Short → ℕ → Piece
shortly number digits = Symbol (short_rule number digits)

abbrev pub yearly : ℕ → Piece
yearly digits = Symbol (long_year digits)

-- the byte behind all else, where there is one
abbrev pub behind : ℕ → List Piece
behind w = when (eqb (last_byte w) 0) [] (once (last_byte w) ∷ [])

-- three numbers with a byte between them, and the byte behind them
abbrev pub three : Piece → Piece → Piece → ℕ → List Piece
three a b c w = a ∷ once (first_byte w) ∷ b ∷ once (second_byte w) ∷ c ∷ behind w

-- the pieces of a word, by its code
unfoldable pub pieces_of_code : ℕ → ℕ → List Piece
unfolding short_in
pieces_of_code c w =
    when (eqb c 1) (once (last_byte w) ∷ [])
    (when (eqb c 3) (shortly (short_in (slot w)) 2 ∷ behind w)
    (when (eqb c 4) (shortly (short_in (slot w)) 1 ∷ behind w)
    (when (eqb c 9) (yearly (slot w) ∷ behind w)
    (when (eqb c 10) (three (shortly short.Hour 2) (shortly short.Minute 2) (shortly short.Second 2) w)
    (when (eqb c 15) (three (yearly 4) (shortly short.Month 2) (shortly short.Day 2) w)
    (when (eqb c 22) (Symbol (rule_in w) ∷ behind w)
    (when (eqb c 29) (yearly (count w) ∷ [])
    (when (eqb c 30) (Times (last_byte w) (count w) ∷ [])
    (when (eqb c 31) (Held (from w) (count w) (is_lost w) ∷ [])
    [])))))))))

unfoldable pub pieces_in : ℕ → List Piece
unfolding pieces_of_code
pieces_in w = pieces_of_code (code w) w

-- the steps that a word, and that words one after the other stand for
unfoldable pub steps_in : List ℕ → ℕ → List Step
unfolding pieces_in piece_step
steps_in row w = map (piece_step row) (pieces_in w)

unfoldable pub steps_of : List ℕ → List ℕ → List Step
unfolding steps_in
steps_of row [] = []
steps_of row (w ∷ ws) = steps_in row w ++ steps_of row ws

-- at most so many bytes are written by a word: its code, and behind 28 its count besides
unfoldable pub most_bytes : ℕ → ℕ
most_bytes w = code w + when (leb 29 (code w)) (count w) 0

unfoldable pub most_of : List ℕ → ℕ
unfolding most_bytes
most_of [] = 0
most_of (w ∷ ws) = most_bytes w + most_of ws
