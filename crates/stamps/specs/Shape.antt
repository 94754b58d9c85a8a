-- A date-time has its bytes at fixed places up to the fraction: 2025-12-03T07:05:09. What each place takes, and the first that is not taken.
-- An offset's 05:30 is as the places from 11 on.
use Rattle.std.specs.Prelude.{Bool, true, false, List, ℕ, zero, suc, eqb, get_or}
use Rattle.meaning.specs.Bytes.{when, is_digit}
use Rattle.meaning.specs.StampGrammar.{is_dash, is_colon, is_t}

unfoldable pub takes : ℕ → ℕ → Bool
takes i b =
    when (eqb i 4) (is_dash b)
    (when (eqb i 7) (is_dash b)
    (when (eqb i 10) (is_t b)
    (when (eqb i 13) (is_colon b)
    (when (eqb i 16) (is_colon b) (is_digit b)))))

-- of so many bytes from a place on, held to the shape from i on, the place of the first that is not taken; else that behind them
unfoldable pub first_wrong : ℕ → ℕ → ℕ → List ℕ → ℕ
unfolding takes
first_wrong zero i at s = at
first_wrong (suc k) i at s = elim (takes i (get_or s at 0)) [ true ↦ first_wrong k (suc i) (suc at) s | false ↦ at ]
