-- Whether a byte is the letter of one of some symbols.
use Rattle.std.specs.Prelude.{Bool, true, false, List, [], ◌∷◌, ℕ, eqb}
use Rattle.meaning.specs.Bytes.{when}
use Rattle.meaning.specs.Rules.{Symbol}

unfoldable pub is_among : List Symbol → ℕ → Bool
is_among [] b = false
is_among (symbol ∷ symbols) b = when (eqb b symbol.letter) true (is_among symbols b)
