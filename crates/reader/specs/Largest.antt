-- The largest byte of a text, 0 if it has none.
use Rattle.std.specs.Prelude.{List, [], ◌∷◌, ℕ, max}

unfoldable pub largest_of : List ℕ → ℕ
largest_of [] = 0
largest_of (b ∷ s) = max b (largest_of s)
