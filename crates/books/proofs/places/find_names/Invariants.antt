-- The names of the places that are known, and those of the bytes that are left.
use mathlib.Core.Path.{◌≡◌}
use lib.ListN.{length, drop}
use Rattle.meaning.specs.Books.{names_in}
use Rattle.books.proofs.places.Laws.{walked}
use Rattle.books.proofs.places.find_names.Given as goal

abbrev pub invariant-loop-place : goal.invariant-loop-place
invariant-loop-place l = (length l.places ≡ 64) × (walked l.bytes l.places l.place-index l.at ≡ names_in 64 (drop 5 l.bytes))
