-- What an unclosed part writes, by its last byte.
use mathlib.Core.Bool.{true, false}
use mathlib.Core.List.{List}
use mathlib.Core.Path.{◌≡◌}
use Prim.Native.Nat.{ℕ, ◌-◌}
use lib.Dec.{eqb}
use lib.ListN.{length, get_or, take}
use borrow.Author.Tests.{eqb-true}
use Rattle.meaning.specs.Bytes.{quote}
use Rattle.pattern.specs.Next.{Lost}
use Rattle.pattern.specs.First.{unescaped}
use Rattle.format.specs.Literals.{open_text}

pub open-lost : (s : List ℕ) → Lost s → eqb (get_or s (length s - 1) 0) quote ≡ true → open_text s ≡ unescaped (take (length s - 2) s)
unfolding open_text
open-lost s l e = rw (l.told, e) (l.rest (eqb-true (get_or s (length s - 1) 0) quote e))

pub open_kept : (s : List ℕ) → Lost s → eqb (get_or s (length s - 1) 0) quote ≡ false → open_text s ≡ unescaped s
unfolding open_text
open_kept s l e = rw (l.told, e)
