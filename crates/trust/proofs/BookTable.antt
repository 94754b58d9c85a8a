-- The table's rules are in order with every valid book: one test of a rule, computed for each row with the English names and for the
-- shelf of its names, lifted to whatever a run of bytes does.
use mathlib.Core.Bool.{Bool, true, false, not}
use mathlib.Core.List.{List, [], ◌∷◌}
use mathlib.Core.Option.{Option, none, some}
use mathlib.Core.Path.{◌≡◌, refl}
use Prim.Native.Nat.{ℕ, zero, suc, ◌≤◌}
use native.Mathlib.Omega.{arith}
use lib.Dec.{eqb, leb, ltb}
use lib.ListN.{length, get_or}
use borrow.Author.Tests.{eq-eqb, le-leb, leb-true, lt-leb, ltb-true}
use Rattle.meaning.specs.Answers.{within}
use Rattle.meaning.specs.Books.{Shelf, is_letter, all_letters, Valid}
use Rattle.meaning.specs.Bytes.{when, both, is_digit, digit_at, num}
use Rattle.meaning.specs.Names.{Book, english, names}
use Rattle.meaning.specs.Reading.{most_read}
use Rattle.meaning.specs.Rules.{role_of}
use Rattle.meaning.specs.Writing.{quantity_of, place_of, name_text}
use Rattle.meaning.specs.declared.NameList.{NameList}
use Rattle.meaning.specs.declared.Pair.TheVariants.{Full}
use Rattle.meaning.specs.declared.Rule.{Rule}
use Rattle.meaning.specs.declared.Rule.TheVariants.{Number, SkippedNumber, LetterQuarter, SkippedName, MatchedName, Letters, Years, FixedYear, TwoDigitYear, Zone}
use Rattle.laws.proofs.BookNames.{as_many, name-there}
use Rattle.laws.proofs.BookRules as book
use Rattle.laws.proofs.Names.{all_apart}
use Rattle.laws.proofs.Table.{RoleHas, table_passes, symbol_passes, table-weaker, role-passes}
use Rattle.laws.proofs.Tests.{both_true, both-are, by-test, every, every-at, every-weaker}
use Rattle.laws.specs.Shelves.{shelf_of}
use Rattle.laws.specs.Widths.{most_digits}
use Rattle.trust.proofs.RulesAhead.{long-numbers-allowed}
use Rattle.trust.proofs.Table.{number_fits, name_opens, one_letter, names_fit, same_length, fits}
use Rattle.trust.specs.Ahead.{opening, name_first, has_letters}
use Rattle.trust.specs.Check.{long_numbers}

-- what the shelf of a rule's names must be; names that are the same in every book are English's

abbrev opens_on : Option Shelf → NameList → Bool
opens_on none l = true
opens_on (some s) l = both (not (name_first l)) (when (has_letters l) (leb s.most 1) (leb 2 s.least))

abbrev size_on : Option Shelf → ℕ → Bool
size_on none n = true
size_on (some s) n = both (leb n s.least) (leb s.most n)

abbrev apart_on : Option Shelf → Bool
apart_on none = true
apart_on (some s) = s.apart

unfoldable shelf_fits : Rule → Bool
unfolding name_first has_letters
shelf_fits (Number q least most u z) = true
shelf_fits (SkippedNumber q least most) = true
shelf_fits LetterQuarter = true
shelf_fits (SkippedName l n) = both (opens_on (shelf_of l) l) (size_on (shelf_of l) n)
shelf_fits (MatchedName l) = both (opens_on (shelf_of l) l) (apart_on (shelf_of l))
shelf_fits (Letters l n) = both (opens_on (shelf_of l) l) (both (size_on (shelf_of l) n) (apart_on (shelf_of l)))
shelf_fits (Years k) = true
shelf_fits (FixedYear k) = true
shelf_fits TwoDigitYear = true
shelf_fits (Zone zone) = true

-- letters are no digits

letter-no-digit : (b : ℕ) → is_letter b ≡ true → is_digit b ≡ false
letter-no-digit b h =
    by-test (within 65 90 b)
    (λ e. let low = leb-true 65 b (both_true (leb 65 b) (leb b 90) e).0 in rw (le-leb 48 b (omega arith), lt-leb b 57 (omega arith)))
    (λ e.
    let t : within 97 122 b ≡ true = rw e at h in
    let low = leb-true 97 b (both_true (leb 97 b) (leb b 122) t).0 in
    rw (le-leb 48 b (omega arith), lt-leb b 57 (omega arith)))

no_digit : (i : ℕ) (s : List ℕ) → all_letters s ≡ true → digit_at i s ≡ false
unfolding digit_at all_letters
no_digit i [] h = refl
no_digit zero (b ∷ s) h = letter-no-digit b (both_true (is_letter b) (all_letters s) h).0
no_digit (suc i) (b ∷ s) h = no_digit i s (both_true (is_letter b) (all_letters s) h).1

-- a name that fits its shelf
module _ (s : Shelf) (some' : 1 ≤ s.least) (name : List ℕ) (fit : book.fits s name ≡ true) where
  parts : (within s.least s.most (length name) ≡ true) × (all_letters name ≡ true)
  parts = both_true (within s.least s.most (length name)) (all_letters name) fit

  sizes : (s.least ≤ length name) × (length name ≤ s.most)
  sizes =
      let t = both_true (leb s.least (length name)) (leb (length name) s.most) parts.0 in
      (leb-true s.least (length name) t.0, leb-true (length name) s.most t.1)

  opens : (l : NameList) → opens_on (some s) l ≡ true → name_opens l name ≡ true
  unfolding name_opens
  opens l h =
      let t = both_true (not (name_first l)) (when (has_letters l) (leb s.most 1) (leb 2 s.least)) h in
      let second : when (ltb (length name) 2) (has_letters l) (not (digit_at 1 name)) ≡ true
      = by-test (ltb (length name) 2)
      (λ e.
      rw e
      (by-test (has_letters l) (λ k. k)
      (λ k. absurd (omega (arith, ltb-true (length name) 2 e, leb-true 2 s.least (rw k at t.1), sizes.0)))))
      (λ e. rw (e, no_digit 1 name parts.1)) in
      rw (le-leb 1 (length name) (omega (arith, sizes.0)), no_digit 0 name parts.1, t.0, second)

  sized : (n : ℕ) → size_on (some s) n ≡ true → eqb (length name) n ≡ true
  sized n h =
      let t = both_true (leb n s.least) (leb s.most n) h in
      eq-eqb (length name) n (omega (arith, sizes.0, sizes.1, leb-true n s.least t.0, leb-true s.most n t.1))

-- a list of a valid book
module _ (b : Book) (v : Valid b) (l : NameList) where
  all-open : (o : Option Shelf) → book.Listed b l o → every (name_opens l) (names english l) ≡ true → opens_on o l ≡ true → every (name_opens l) (names b l) ≡ true
  all-open none same e h = rw same e
  all-open (some s) good e h = every-weaker (book.fits s) (name_opens l) (λ name fit. opens s good.2 name fit l h) (names b l) good.0.fit

  one-letter : (o : Option Shelf) → book.Listed b l o → one_letter english l ≡ true
      → opens_on o l ≡ true → one_letter b l ≡ true
  unfolding name_text
  one-letter none same e h = rw same e
  one-letter (some s) good e h =
      let name = get_or (names b l) (place_of l long_numbers) [] in
      let fit = every-at (book.fits s) (names b l) [] good.0.fit (place_of l long_numbers) (name-there b v l long_numbers long-numbers-allowed) in
      let t = both_true (not (name_first l)) (when (has_letters l) (leb s.most 1) (leb 2 s.least)) h in
      by-test (has_letters l)
      (λ k.
      let few = leb-true s.most 1 (rw k at t.1) in
      let size = sizes s good.2 name fit in
      rw (k, eq-eqb (length name) 1 (omega (arith, size.0, size.1))))
      (λ k. rw k)

  names-fit : names_fit english l ≡ true → opens_on (shelf_of l) l ≡ true → names_fit b l ≡ true
  unfolding names_fit
  names-fit e h =
      let t = both_true (every (name_opens l) (names english l)) (one_letter english l) (both_true (eqb (length (names english l)) (length (names english l))) _ e).1 in
      both-are (eqb (length (names b l)) (length (names english l))) (both (every (name_opens l) (names b l)) (one_letter b l))
      (eq-eqb (length (names b l)) (length (names english l)) (as_many b v l))
      (both-are (every (name_opens l) (names b l)) (one_letter b l) (all-open (shelf_of l) (book.listed b v l) t.0 h) (one-letter (shelf_of l) (book.listed b v l) t.1 h))

  same_length_lem : (n : ℕ) → same_length english n l ≡ true → size_on (shelf_of l) n ≡ true → same_length b n l ≡ true
  unfolding same_length
  same_length_lem n e h = go (shelf_of l) (book.listed b v l) h
    where
      go : (o : Option Shelf) → book.Listed b l o → size_on o n ≡ true → every (λ name. eqb (length name) n) (names b l) ≡ true
      go none same k = rw same e
      go (some s) good k = every-weaker (book.fits s) (λ name. eqb (length name) n) (λ name fit. sized s good.2 name fit n k) (names b l) good.0.fit

  all_apart_lem : all_apart (names english l) ≡ true → apart_on (shelf_of l) ≡ true → all_apart (names b l) ≡ true
  all_apart_lem e h = go (shelf_of l) (book.listed b v l) h
    where
      go : (o : Option Shelf) → book.Listed b l o → apart_on o ≡ true → all_apart (names b l) ≡ true
      go none same k = rw same e
      go (some s) good k = good.0.apart-each k

-- a rule

abbrev of_english : Rule → Bool
of_english rule = both (fits english rule) (shelf_fits rule)

module _ (b : Book) (v : Valid b) where
  book-fits : (rule : Rule) → fits english rule ≡ true → shelf_fits rule ≡ true → fits b rule ≡ true
  unfolding fits shelf_fits
  book-fits (Number q least most u z) e h = e
  book-fits (SkippedNumber q least most) e h = e
  book-fits LetterQuarter e h = e
  book-fits (SkippedName l n) e h =
      let s = both_true (names_fit english l) (same_length english n l) e in
      let t = both_true (opens_on (shelf_of l) l) (size_on (shelf_of l) n) h in
      both-are (names_fit b l) (same_length b n l) (names-fit b v l s.0 t.0) (same_length_lem b v l n s.1 t.1)
  book-fits (MatchedName l) e h =
      let s = both_true (names_fit english l) (all_apart (names english l)) e in
      let t = both_true (opens_on (shelf_of l) l) (apart_on (shelf_of l)) h in
      both-are (names_fit b l) (all_apart (names b l)) (names-fit b v l s.0 t.0) (all_apart_lem b v l s.1 t.1)
  book-fits (Letters l n) e h =
      let s = both_true (names_fit english l) (both (same_length english n l) (all_apart (names english l))) e in
      let t = both_true (opens_on (shelf_of l) l) (both (size_on (shelf_of l) n) (apart_on (shelf_of l))) h in
      let s' = both_true (same_length english n l) (all_apart (names english l)) s.1 in
      let t' = both_true (size_on (shelf_of l) n) (apart_on (shelf_of l)) t.1 in
      both-are (names_fit b l) (both (same_length b n l) (all_apart (names b l))) (names-fit b v l s.0 t.0)
      (both-are (same_length b n l) (all_apart (names b l)) (same_length_lem b v l n s'.0 t'.0) (all_apart_lem b v l s'.1 t'.1))
  book-fits (Years k) e h = e
  book-fits (FixedYear k) e h = e
  book-fits TwoDigitYear e h = e
  book-fits (Zone zone) e h = e

-- the whole table

table_fits : table_passes (symbol_passes of_english) ≡ true
unfolding fits shelf_fits most_read number_fits names_fit same_length all_apart english opening name_first has_letters most_digits quantity_of num digit_at name_text
table_fits = refl

fixed-fits : (b : Book) (c : ℕ) → fits b (FixedYear c) ≡ true
unfolding fits
fixed-fits b c = refl

-- the rule of any run of a pattern is in order
pub role-fits : (b : Book) → Valid b → (a c : ℕ) → RoleHas (λ rule. fits b rule ≡ true) (role_of Full a c)
role-fits b v a c =
    role-passes (fits b) (fixed-fits b)
    (table-weaker of_english (fits b) (λ rule h. let t = both_true (fits english rule) (shelf_fits rule) h in book-fits b v rule t.0 t.1) table_fits) Full a c
