-- What the laws of texts ask of a book's names, any valid book has: as many names as English in each list, of bytes that are ASCII, none
-- empty and none longer than it may be.
use mathlib.Core.Bool.{true}
use mathlib.Core.List.{List, [], ◌∷◌}
use mathlib.Core.Option.{Option, none, some}
use mathlib.Core.Path.{◌≡◌, refl, sym, ap, ◌∙◌}
use Prim.Native.Nat.{ℕ, ◌≤◌, ◌<◌}
use native.Mathlib.Omega.{arith}
use lib.Dec.{leb}
use lib.ListN.{length}
use borrow.Author.Tests.{le-leb, leb-true}
use Rattle.meaning.proofs.Books.{english-valid}
use Rattle.meaning.specs.Answers.{within}
use Rattle.meaning.specs.Books.{Shelf, is_letter, all_letters, Valid}
use Rattle.meaning.specs.Names.{Book, english, names}
use Rattle.meaning.specs.Writing.{place_of}
use Rattle.meaning.specs.declared.Fields.{Fields}
use Rattle.meaning.specs.declared.NameList.{NameList}
use Rattle.meaning.specs.declared.Rule.{Rule}
use Rattle.meaning.specs.declared.Rule.TheVariants.{Number, SkippedNumber, LetterQuarter, SkippedName, MatchedName, Letters, Years, FixedYear, TwoDigitYear, Zone}
use Rattle.laws.specs.Shelves.{shelf_of}
use Rattle.laws.specs.Widths.{longest, most_on, most_letters}
use Rattle.laws.proofs.Ascii.{is_ascii, AsciiNames, english-ascii}
use Rattle.laws.proofs.BookRules.{fits, Listed, listed, every-name}
use Rattle.laws.proofs.Fields.{Allowed}
use Rattle.laws.proofs.Places.{place-there}
use Rattle.laws.proofs.Sizes.{Short}
use Rattle.laws.proofs.SomeBytes.{is_name, some_names, names_there, english-there}
use Rattle.laws.proofs.Table.{table-weaker}
use Rattle.laws.proofs.Tests.{both_true, both-are, by-test, every}

same_count : (b : Book) (l : NameList) (o : Option Shelf) → Listed b l o → Listed english l o → length (names b l) ≡ length (names english l)
same_count b l none here there = ap length here
same_count b l (some s) here there = here.1 ∙ sym there.1

pub as_many : (b : Book) → Valid b → (l : NameList) → length (names b l) ≡ length (names english l)
as_many b v l = same_count b l (shelf_of l) (listed b v l) (listed english english-valid l)

-- the name that a record asks for is there
pub name-there : (b : Book) → Valid b → (l : NameList) (f : Fields) → Allowed f → place_of l f < length (names b l)
name-there b v l f h = rw (as_many b v l) (place-there l f h)

-- letters are ASCII

letter-ascii : (b : ℕ) → is_letter b ≡ true → is_ascii b ≡ true
letter-ascii b h =
    by-test (within 65 90 b)
    (λ e. let small = leb-true b 90 (both_true (leb 65 b) (leb b 90) e).1 in rw (le-leb 0 b (omega arith), le-leb b 127 (omega arith)))
    (λ e.
    let t : within 97 122 b ≡ true = rw e at h in
    let small = leb-true b 122 (both_true (leb 97 b) (leb b 122) t).1 in
    rw (le-leb 0 b (omega arith), le-leb b 127 (omega arith)))

letters-ascii : (s : List ℕ) → all_letters s ≡ true → every is_ascii s ≡ true
unfolding all_letters every
letters-ascii [] h = refl
letters-ascii (b ∷ s) h =
    let t = both_true (is_letter b) (all_letters s) h in
    both-are (is_ascii b) (every is_ascii s) (letter-ascii b t.0) (letters-ascii s t.1)

pub valid-ascii : (b : Book) → Valid b → AsciiNames b
valid-ascii b v l =
    every-name b v (every is_ascii) l (english-ascii l)
    (λ s some' name fit. letters-ascii name (both_true (within s.least s.most (length name)) (all_letters name) fit).1)

-- no name is empty

some-letters : (b : Book) → Valid b → (l : NameList) → every is_name (names english l) ≡ true → every is_name (names b l) ≡ true
some-letters b v l h = every-name b v is_name l h (λ s some' name fit.
    let low = leb-true s.least (length name) (both_true (leb s.least (length name)) (leb (length name) s.most) (both_true (within s.least s.most (length name)) (all_letters name) fit).0).0 in
    le-leb 1 (length name) (omega arith))

rule-names : (b : Book) → Valid b → (rule : Rule) → some_names english rule ≡ true → some_names b rule ≡ true
rule-names b v (Number q least most u z) h = h
rule-names b v (SkippedNumber q least most) h = h
rule-names b v LetterQuarter h = h
rule-names b v (SkippedName l n) h = h
rule-names b v (MatchedName l) h = some-letters b v l h
rule-names b v (Letters l n) h = some-letters b v l h
rule-names b v (Years k) h = h
rule-names b v (FixedYear k) h = h
rule-names b v TwoDigitYear h = h
rule-names b v (Zone zone) h = h

pub valid-there : (b : Book) → Valid b → names_there b ≡ true
unfolding names_there
valid-there b v = table-weaker (some_names english) (some_names b) (rule-names b v) english-there

-- and none is longer than it may be

fit-short : (s : Shelf) (ns : List (List ℕ)) → every (fits s) ns ≡ true → longest ns ≤ s.most
unfolding every longest
fit-short s [] h = omega arith
fit-short s (name ∷ ns) h =
    let t = both_true (fits s name) (every (fits s) ns) h in
    let size = (both_true (within s.least s.most (length name)) (all_letters name) t.0).0 in
    omega (arith, leb-true (length name) s.most (both_true (leb s.least (length name)) (leb (length name) s.most) size).1, fit-short s ns t.1)

listed-short : (b : Book) (l : NameList) (o : Option Shelf) → Listed b l o → longest (names b l) ≤ most_on o l
listed-short b l none same = rw same (omega arith)
listed-short b l (some s) good = fit-short s (names b l) good.0.fit

pub valid-short : (b : Book) → Valid b → Short b
unfolding most_letters
valid-short b v l = listed-short b l (shelf_of l) (listed b v l)
