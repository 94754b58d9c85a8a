-- The nanoseconds of a fraction as the code adds them up: each digit by its weight, which is none from the tenth on.
use Rattle.std.specs.Prelude.{List, [], ◌∷◌, ℕ, zero, suc, ◌+◌, ◌*◌, ◌-◌, ◌^◌}
use Rattle.meaning.specs.Bytes.{when, is_digit}

-- the weight of the next digit where k are left that count
abbrev pub weight : ℕ → ℕ
weight zero = 0
weight (suc k) = 10 ^ k

unfoldable pub weighted : ℕ → List ℕ → ℕ
weighted k [] = 0
weighted k (b ∷ s) = when (is_digit b) ((b - 48) * weight k + weighted (k - 1) s) 0
