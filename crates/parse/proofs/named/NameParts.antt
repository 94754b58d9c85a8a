-- Laws of what a match in a list gives, and that its place is one of the list.
use mathlib.Core.List.{List}
use mathlib.Core.Path.{◌≡◌, refl}
use Prim.Native.Nat.{ℕ, ◌<◌}
use borrow.Author.Tests.{ltb-true, ltb-false}
use lib.Dec.{ltb}
use lib.ListN.{length, take}
use Rattle.names.proofs.tables.Answers.{found_within}
use Rattle.laws.proofs.Tests.{by-test}
use Rattle.meaning.specs.Readers.{Got, got, stopped, Reader, ◌>>=◌, done, match_name, letters}
use Rattle.meaning.specs.Reading.{name_carries}
use Rattle.meaning.specs.declared.NameList.{NameList}
use Rattle.parse.proofs.cursor.Moves.{letters-few, letters-match}
use Rattle.parse.proofs.steps.Parts.{made_of, made}
use Rattle.parse.specs.Steps.{matched_at, part_at}
use Rattle.parse.specs.Matches.{named_by, IndexBelow}

named-got : (l : NameList) (at : ℕ) (g : Got ℕ) → part_at at (made_of (name_carries l) g) ≡ named_by l (matched_at at g)
named-got l at (got n i) = refl
named-got l at (stopped why i) = refl

pub part-named : (l : NameList) (at : ℕ) (m : Reader ℕ) (s : List ℕ)
    → part_at at ((m >>= λ i. done (name_carries l i)) s) ≡ named_by l (matched_at at (m s))
part-named l at m s = rw (made (name_carries l) m s) (named-got l at (m s))

-- its place is one of the list

known-below : (n at : ℕ) (g : Got ℕ) → ((i k : ℕ) → g ≡ got k i → i < n) → IndexBelow n (matched_at at g)
known-below n at (got k i) h = h i k refl
known-below n at (stopped why i) h = tt

pub match-below : (at : ℕ) (l : List (List ℕ)) (s : List ℕ) → IndexBelow (length l) (matched_at at (match_name l s))
match-below at l s = known-below (length l) at (match_name l s) (λ i k e. (found_within l s e).0)

pub letters-below : (at k : ℕ) (l : List (List ℕ)) (s : List ℕ) → IndexBelow (length l) (matched_at at (letters k l s))
letters-below at k l s =
    by-test (ltb (length s) k) (λ e. rw (letters-few at k l s (ltb-true (length s) k e)) tt)
    (λ e. rw (letters-match k l s (ltb-false (length s) k e)) (match-below at l (take k s)))
