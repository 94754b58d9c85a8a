-- Laws of the check of a book's bytes: its mark, and all of it.
use mathlib.Core.List.{List, [], ◌∷◌}
use mathlib.Core.Path.{◌≡◌, refl}
use Rattle.std.proofs.Common.{rules}
use Rattle.std.specs.List.{starts_with}
use Prim.Native.Nat.{ℕ}
use native.Mathlib.Omega.{arith}
use lib.Dec.{eqb}
use lib.ListN.{length, drop}
use borrow.Author.Tests.{le-leb, lt-leb}
use Rattle.books.specs.Checks.{start_check}
use Rattle.laws.proofs.Checks.{else-assoc}
use Rattle.meaning.specs.Answers.{◌else◌}
use Rattle.meaning.specs.Books.{names_in, is_mark, version_of, shelved_check, book_check}
use Rattle.meaning.specs.Bytes.{bytes}
use Rattle.meaning.specs.Readers.{begins}

-- the mark

pub marked : (s : List ℕ) → starts_with eqb s (76 ∷ 78 ∷ 66 ∷ []) ≡ is_mark s
unfolding bytes begins
marked [] = refl
marked (a ∷ []) = rw (lt-leb 3 (length (a ∷ [])) (omega arith)) (search rules)
marked (a ∷ b ∷ []) = rw (lt-leb 3 (length (a ∷ b ∷ [])) (omega arith)) (search rules)
marked (a ∷ b ∷ c ∷ s) = rw (le-leb 3 (length (a ∷ b ∷ c ∷ s)) (omega arith)) (search rules)

-- all of it

pub start_then : (s : List ℕ) → book_check s ≡ (start_check s else shelved_check (version_of s) (names_in 64 (drop 5 s)))
unfolding book_check
start_then s = rw (else-assoc, else-assoc)
