-- The lookahead at one symbol is right. Where it sees no digit, no allowed record has one there; where it sees one, so do the
-- records that the check shows.
use mathlib.Core.Bool.{Bool, true, false, not}
use mathlib.Core.List.{List, [], ◌++◌}
use mathlib.Core.Path.{◌≡◌, refl, sym, ap, ◌∙◌}
use Prim.Native.Nat.{ℕ, ◌%◌, ◌^◌, ◌≤◌, ◌<◌}
use native.Mathlib.Nat.{lt_of_lt_of_le, pow-le-pow_right}
use native.Mathlib.Omega.{arith}
use lib.Dec.{eqb, leb, ltb}
use lib.IntN.{ℤ, nat_abs}
use lib.ListN.{length, get_or-append}
use borrow.Author.Tests.{eqb-true, leb-true, ltb-true, ltb-false, not-true}
use Rattle.meaning.specs.Bytes.{when, both, digit_at, num, width, width_in, digits}
use Rattle.meaning.specs.Names.{Book, english, names}
use Rattle.meaning.specs.Writing.{is_negative, name_text, place_of, offset_digits, is_minus, offset_text, quantity_of, rule_text, signed_text, two_digit_text, zone_text}
use Rattle.meaning.specs.declared.Edition.TheVariants.{First}
use Rattle.meaning.specs.declared.Fields.{Fields}
use Rattle.meaning.specs.declared.Group.{Group}
use Rattle.meaning.specs.declared.NameList.{NameList}
use Rattle.meaning.specs.declared.Quantity.{Quantity}
use Rattle.meaning.specs.declared.Quantity.TheVariants.{Quarter}
use Rattle.meaning.specs.declared.Rule.{Rule}
use Rattle.meaning.specs.declared.Rule.TheVariants.{Number, SkippedNumber, LetterQuarter, SkippedName, MatchedName, Letters, Years, FixedYear, TwoDigitYear, Zone}
use Rattle.laws.proofs.Digits.{all-num, digit-behind, digit-in, length-num, num-some, width-at-most}
use Rattle.laws.proofs.Fields.{Allowed, allowed, quantity-below}
use Rattle.laws.proofs.Places.{place-there}
use Rattle.laws.proofs.Tests.{both_true, by-test, every, every-at, true-is-not-false, when-is}
use Rattle.laws.specs.Widths.{most_digits}
use Rattle.trust.proofs.Table.{fits, name_opens, names_fit, number_fits, read_fits_lem, number_fits_lem}
use Rattle.trust.proofs.Witness.{witness-fine}
use Rattle.trust.specs.Ahead.{has_letters, name_first, number_second, rule_first, rule_second}
use Rattle.trust.specs.Check.{long_numbers}
use Rattle.trust.specs.declared.Need.TheVariants.{Broken}

pub long-numbers-allowed : Allowed long_numbers
long-numbers-allowed = allowed long_numbers (witness-fine Broken)

-- a text before another

pub digit-within : (i : ℕ) (s t : List ℕ) → i < length s → digit_at i (s ++ t) ≡ digit_at i s
unfolding digit_at
digit-within i s t h = rw (get_or-append s t 0 i h)

pub behind-one : (s t : List ℕ) → length s ≡ 1 → digit_at 1 (s ++ t) ≡ digit_at 0 t
behind-one s t e = ap (λ (i : ℕ). digit_at i (s ++ t)) (sym e) ∙ digit-behind s t

num-first : (k n : ℕ) (t : List ℕ) → digit_at 0 (num k n ++ t) ≡ true
num-first k n t = digit-in (num k n) t (all-num k n) 0 (num-some k n)

num-second : (k n : ℕ) (t : List ℕ) → 2 ≤ length (num k n) → digit_at 1 (num k n ++ t) ≡ true
num-second k n t h = digit-in (num k n) t (all-num k n) 1 h

-- names

record NameOpens (l : NameList) (name : List ℕ) : Type 0 where
  filled : 1 ≤ length name
  first : digit_at 0 name ≡ name_first l
  second : when (ltb (length name) 2) (has_letters l) (not (digit_at 1 name)) ≡ true

agree : (a b : Bool) → when a b (not b) ≡ true → a ≡ b
agree true b h = sym h
agree false b h = sym (not-true b h)

-- the name that a record asks for is there
pub named-there : (book : Book) (l : NameList) → names_fit book l ≡ true → (f : Fields) → Allowed f → place_of l f < length (names book l)
unfolding names_fit
named-there book l fit f h =
    let many = eqb-true (length (names book l)) (length (names english l)) (both_true (eqb (length (names book l)) (length (names english l))) _ fit).0 in
    rw many (place-there l f h)

name-opens : (book : Book) (l : NameList) → names_fit book l ≡ true → (f : Fields) → Allowed f → NameOpens l (name_text book l f)
unfolding names_fit name_text
name-opens book l fit f h =
    let name = name_text book l f in
    let first = when (digit_at 0 name) (name_first l) (not (name_first l)) in
    let second = when (ltb (length name) 2) (has_letters l) (not (digit_at 1 name)) in
    let all = (both_true (every (name_opens l) (names book l)) _ (both_true (eqb (length (names book l)) _) _ fit).1).0 in
    let a = both_true (leb 1 (length name)) (both first second)
    (every-at (name_opens l) (names book l) [] all (place_of l f) (named-there book l fit f h)) in
    let b = both_true first second a.1 in
    record { filled = leb-true 1 (length name) a.0; first = agree (digit_at 0 name) (name_first l) b.0; second = b.1 }

name-first : (book : Book) (l : NameList) → names_fit book l ≡ true → (f : Fields) → Allowed f → (t : List ℕ) → digit_at 0 (name_text book l f ++ t) ≡ name_first l
name-first book l fit f h t =
    let o = name-opens book l fit f h in
    digit-within 0 (name_text book l f) t (omega (arith, o.filled)) ∙ o.first

-- what is no digit behind a name of one byte
left_behind : (a d : Bool) → a ≡ true → both a d ≡ false → d ≡ false
left_behind a d e h = rw e at h

name-second : (book : Book) (l : NameList) → names_fit book l ≡ true → (f : Fields) → Allowed f → (d : Bool) (t : List ℕ) → both (has_letters l) d ≡ false
    → (d ≡ false → digit_at 0 t ≡ false) → digit_at 1 (name_text book l f ++ t) ≡ false
name-second book l fit f h d t e behind =
    let name = name_text book l f in
    let o = name-opens book l fit f h in
    by-test (ltb (length name) 2)
    (λ k.
    behind-one name t (omega (arith, o.filled, ltb-true (length name) 2 k))
    ∙ behind (left_behind (has_letters l) d (rw k at o.second) e))
    (λ k.
    digit-within 1 name t (omega (arith, ltb-false (length name) 2 k)) ∙ not-true (digit_at 1 name) (rw k at o.second))

name-second-shown : (book : Book) (l : NameList) → names_fit book l ≡ true → (t : List ℕ)
    → digit_at 1 (name_text book l long_numbers ++ t) ≡ both (has_letters l) (digit_at 0 t)
unfolding names_fit
name-second-shown book l fit t =
    let name = name_text book l long_numbers in
    by-test (has_letters l)
    (λ e.
    let one : when (has_letters l) (eqb (length name) 1) true ≡ true = (both_true (every (name_opens l) (names book l)) _ (both_true (eqb (length (names book l)) _) _ fit).1).1 in
    behind-one name t (eqb-true (length name) 1 (rw e at one)) ∙ rw e)
    (λ e. name-second book l fit long_numbers long-numbers-allowed true t (rw e) (λ k. true-is-not-false k) ∙ rw e)

-- numbers

number-one : (q : Quantity) (least most : ℕ) → number_fits q least most ≡ true → both (ltb least 2) (ltb (most_digits q) 2) ≡ true
    → (f : Fields) → Allowed f → length (num least (quantity_of q f)) ≡ 1
number-one q least most fit one f h =
    let n = number_fits_lem q least most fit in
    let t = both_true (ltb least 2) (ltb (most_digits q) 2) one in
    let small : most_digits q ≤ 1 = omega (arith, ltb-true (most_digits q) 2 t.1) in
    let ten : 10 ^ most_digits q ≤ 10 ^ 1 = pow-le-pow_right (omega arith) small in
    let wide = width-at-most 1 (quantity_of q f) (omega arith) (lt_of_lt_of_le (quantity-below q f h) ten) in
    length-num least (quantity_of q f) ∙ omega (arith, n.low, ltb-true least 2 t.0)

number-second : (q : Quantity) (least most : ℕ) → number_fits q least most ≡ true → (f : Fields) → Allowed f → (d : Bool) (t : List ℕ)
    → number_second q least d ≡ false → (d ≡ false → digit_at 0 t ≡ false) → digit_at 1 (num least (quantity_of q f) ++ t) ≡ false
number-second q least most fit f h d t =
    when-is (λ b. b ≡ false → (d ≡ false → digit_at 0 t ≡ false) → digit_at 1 (num least (quantity_of q f) ++ t) ≡ false)
    (both (ltb least 2) (ltb (most_digits q) 2))
    (λ one e behind. behind-one (num least (quantity_of q f)) t (number-one q least most fit one f h) ∙ behind e)
    (λ _ e behind. true-is-not-false e)

two-or-more : (a b : ℕ) → both (ltb a 2) (ltb b 2) ≡ false → (n : ℕ) → a ≤ n → b ≤ n → 2 ≤ n
two-or-more a b e n h k =
    by-test (ltb a 2) (λ s. omega (arith, ltb-false b 2 (rw s at e))) (λ s. omega (arith, ltb-false a 2 s))

number-second-shown : (q : Quantity) (least most : ℕ) → number_fits q least most ≡ true → (t : List ℕ)
    → digit_at 1 (num least (quantity_of q long_numbers) ++ t) ≡ number_second q least (digit_at 0 t)
number-second-shown q least most fit t =
    let n = quantity_of q long_numbers in
    when-is (λ b. digit_at 1 (num least n ++ t) ≡ b) (both (ltb least 2) (ltb (most_digits q) 2))
    (λ one. behind-one (num least n) t (number-one q least most fit one long_numbers long-numbers-allowed))
    (λ more.
    num-second least n t
    (two-or-more least (most_digits q) more (length (num least n)) (rw length-num (omega arith)) (number_fits_lem q least most fit).long))

-- years and zones

year-first : (k : ℕ) (z : ℤ) (t : List ℕ) → is_negative z ≡ false → digit_at 0 (signed_text k z ++ t) ≡ true
unfolding signed_text
year-first k z t e = rw e (num-first k (nat_abs z) t)

two-digit-first : (z : ℤ) (t : List ℕ) → is_negative z ≡ false → digit_at 0 (two_digit_text z ++ t) ≡ true
unfolding two_digit_text
two-digit-first z t e =
    when-is (λ (s : List ℕ). digit_at 0 (s ++ t) ≡ true) (ltb (nat_abs z) (when (is_negative z) 10 100)) (λ _. year-first 2 z t e)
    (λ _. num-first 2 (nat_abs z % 100) t)

year-second : (k : ℕ) (t : List ℕ) → digit_at 1 (signed_text k long_numbers.year ++ t) ≡ true
unfolding signed_text width
year-second k t = num-second k 2024 t (rw length-num (omega arith))

zone-first : (utc colon : Bool) (minutes seconds : Group) (z : ℤ) (t : List ℕ) → digit_at 0 (zone_text utc colon minutes seconds z ++ t) ≡ false
unfolding digit_at offset_text
zone-first utc colon minutes seconds z t =
    when-is (λ (s : List ℕ). digit_at 0 (s ++ t) ≡ false) (both utc (eqb (nat_abs z) 0)) (λ _. refl)
    (λ _. by-test (is_minus colon minutes seconds z) (λ e. rw e) (λ e. rw e))

zone-second-shown : (utc colon : Bool) (minutes seconds : Group) (t : List ℕ) → digit_at 1 (zone_text utc colon minutes seconds long_numbers.offset ++ t) ≡ true
unfolding digit_at offset_digits offset_text num
zone-second-shown true colon minutes seconds t = refl
zone-second-shown false colon minutes seconds t = refl

-- every rule, before t

-- The first byte, for every record where it can be no digit, and for one of a positive year where it can.
pub rule-first : (book : Book) (rule : Rule) → fits book rule ≡ true → (f : Fields) → Allowed f → (t : List ℕ)
    → (rule_first rule ≡ true → is_negative f.year ≡ false) → digit_at 0 (rule_text book rule f ++ t) ≡ rule_first rule
unfolding fits rule_first rule_text
rule-first book (Number q least most u z) fit f h t year = num-first least (quantity_of q f) t
rule-first book (SkippedNumber q least most) fit f h t year = num-first least (quantity_of q f) t
rule-first book LetterQuarter fit f h t year = unfold digit_at in refl
rule-first book (SkippedName l n) fit f h t year = name-first book l (both_true (names_fit book l) _ fit).0 f h t
rule-first book (MatchedName l) fit f h t year = name-first book l (both_true (names_fit book l) _ fit).0 f h t
rule-first book (Letters l n) fit f h t year = name-first book l (both_true (names_fit book l) _ fit).0 f h t
rule-first book (Years k) fit f h t year = year-first k f.year t (year refl)
rule-first book (FixedYear k) fit f h t year = year-first k f.year t (year refl)
rule-first book TwoDigitYear fit f h t year = two-digit-first f.year t (year refl)
rule-first book (Zone zone) fit f h t year = zone-first zone.utc zone.colon zone.minutes zone.seconds f.offset t

-- The second byte, where d says of the byte behind the rule's text that it can be a digit.
pub rule-second : (book : Book) (rule : Rule) → fits book rule ≡ true → (f : Fields) → Allowed f → (d : Bool) (t : List ℕ) → rule_second rule d ≡ false
    → (d ≡ false → digit_at 0 t ≡ false) → digit_at 1 (rule_text book rule f ++ t) ≡ false
unfolding fits rule_second rule_text
rule-second book (Number q least most u z) fit f h d t e behind =
    number-second q least _ (read_fits_lem q least most u z book fit First) f h d t e behind
rule-second book (SkippedNumber q least most) fit f h d t e behind = number-second q least most fit f h d t e behind
rule-second book LetterQuarter fit f h d t e behind = true-is-not-false e
rule-second book (SkippedName l n) fit f h d t e behind = name-second book l (both_true (names_fit book l) _ fit).0 f h d t e behind
rule-second book (MatchedName l) fit f h d t e behind = name-second book l (both_true (names_fit book l) _ fit).0 f h d t e behind
rule-second book (Letters l n) fit f h d t e behind = name-second book l (both_true (names_fit book l) _ fit).0 f h d t e behind
rule-second book (Years k) fit f h d t e behind = true-is-not-false e
rule-second book (FixedYear k) fit f h d t e behind = true-is-not-false e
rule-second book TwoDigitYear fit f h d t e behind = true-is-not-false e
rule-second book (Zone zone) fit f h d t e behind = true-is-not-false e

pub rule-second-shown : (book : Book) (rule : Rule) → fits book rule ≡ true → (t : List ℕ)
    → digit_at 1 (rule_text book rule long_numbers ++ t) ≡ rule_second rule (digit_at 0 t)
unfolding fits rule_second rule_text
rule-second-shown book (Number q least most u z) fit t = number-second-shown q least _ (read_fits_lem q least most u z book fit First) t
rule-second-shown book (SkippedNumber q least most) fit t = number-second-shown q least most fit t
rule-second-shown book LetterQuarter fit t = unfold digit_at in num-first 1 (quantity_of Quarter long_numbers) t
rule-second-shown book (SkippedName l n) fit t = name-second-shown book l (both_true (names_fit book l) _ fit).0 t
rule-second-shown book (MatchedName l) fit t = name-second-shown book l (both_true (names_fit book l) _ fit).0 t
rule-second-shown book (Letters l n) fit t = name-second-shown book l (both_true (names_fit book l) _ fit).0 t
rule-second-shown book (Years k) fit t = year-second k t
rule-second-shown book (FixedYear k) fit t = year-second k t
rule-second-shown book TwoDigitYear fit t = unfold two_digit_text digit_at num digits width width_in in refl
rule-second-shown book (Zone zone) fit t = zone-second-shown zone.utc zone.colon zone.minutes zone.seconds t
