-- Specification, "Splitting": what an unclosed part writes, from the pattern bytes behind its quote.
use Rattle.std.specs.Prelude.{List, ℕ, ◌-◌, length, take}
use Rattle.meaning.specs.Bytes.{when}
use Rattle.meaning.specs.Writing.{ends_in_quote}
use Rattle.pattern.specs.First.{unescaped}

-- its inside, less an escaped quote at its end
unfoldable pub open_text : List ℕ → List ℕ
open_text s = when (ends_in_quote (unescaped s)) (take (length (unescaped s) - 1) (unescaped s)) (unescaped s)
