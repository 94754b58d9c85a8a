-- Whether the second byte of a literal's text can be a digit, where `behind` says it of the byte behind it.
use Rattle.std.specs.Prelude.{Bool, List, ℕ, ltb, length}
use Rattle.meaning.specs.Bytes.{when, digit_at}

unfoldable pub inside_second : List ℕ → Bool → Bool
unfolding digit_at
inside_second s behind = when (ltb (length s) 2) behind (digit_at 1 s)
