-- Every value of a reading but the offset fits 32 signed bits: a number of the table has at most nine digits, a name is one of twelve at
-- most, a year is held to 32 bits, and two digits stand for a year near the current one.
use Rattle.std.specs.Prelude.{Ok, Err, Option, Some, None}
use mathlib.Core.Bool.{Bool, true, false}
use mathlib.Core.List.{List, [], ◌∷◌, map}
use mathlib.Core.Option as maths
use mathlib.Core.Option.{none, some}
use mathlib.Core.Path.{◌≡◌, refl, ap}
use Prim.Native.Nat.{ℕ, zero, suc, ◌+◌, ◌*◌, ◌-◌, ◌^◌, ◌≤◌, ◌<◌}
use native.Mathlib.Nat.{pow-succ', pow-le-pow_right, mul-le-mul_right, mul_assoc, lt_of_lt_of_le}
use native.Mathlib.Omega.{arith}
use lib.Dec.{eqb, leb, ltb}
use lib.IntN.{ℤ, pos, negsuc, neg_ℤ, nat_abs, ◌+ℤ◌}
use lib.ListN.{length, get_or, take, drop, length-take}
use borrow.Author.Tests.{eqb-true, leb-true}
use Rattle.meaning.specs.Answers.{◌else◌, first_current_year, current_year_check, pattern_check, text_check, rest_check}
use Rattle.meaning.specs.Bytes.{when, both, bytes, is_digit}
use Rattle.meaning.specs.Names.{Book, english, names}
use Rattle.meaning.specs.Numerals.{all_digits, decimal, Signed, integer, largest, sized, sign_of, sized_by, number_of, plus_first}
use Rattle.meaning.specs.OpenedBooks.{names_at, opened_book, book_in, opened_size}
use Rattle.meaning.specs.Readers.{Got, got, stopped, Reader, behind, go_on, ◌>>=◌, done, skip, same, taken_number, take_number, take_count, take_year, reach, begins, first_name, match_name, letters, zone_sign}
use Rattle.meaning.specs.Reading.{name_carries, minus_first, year_length, two_digits_mean, most_read, zero_for, zone_behind, zone_size, literal_read, taken_year, read_rule, read_step}
use Rattle.meaning.specs.Whole.{Gave, Walk, walked, refused_at, walked_by, walk, unit_number, is_of, value_in, last_of, value_of, fifteen, record_of, read_by, read_check, read}
use Rattle.meaning.specs.Writing.{Step, literal, field, steps, is_negative}
use Rattle.meaning.specs.declared.Carried.{Carried}
use Rattle.meaning.specs.Results.{Checked}
use Rattle.meaning.specs.declared.Choices.{Choices}
use Rattle.meaning.specs.declared.Edition.{Edition}
use Rattle.meaning.specs.declared.Edition.TheVariants.{First, Second}
use Rattle.meaning.specs.declared.NameList.{NameList}
use Rattle.meaning.specs.declared.NameList.TheVariants.{EraAbbreviated, EraNarrow, EraWide, QuarterWide, MonthAbbreviated, MonthWide, MonthNarrow, WdayAbbreviated, WdayWide, WdayNarrow, WdayShort, PeriodUpper, PeriodLower, PeriodDotted, PeriodLetter, NoonUpper, NoonLower, NoonDotted, NoonLetter}
use Rattle.meaning.specs.declared.Numeral.{Numeral}
use Rattle.meaning.specs.declared.Numeral.TheVariants.{Count, Year}
use Rattle.meaning.specs.declared.Pair.{Pair}
use Rattle.meaning.specs.declared.ParseUnit.{ParseUnit}
use Rattle.meaning.specs.declared.ParseUnit.TheVariants as unit
use Rattle.meaning.specs.declared.Quantity.{Quantity}
use Rattle.meaning.specs.declared.Quantity.TheVariants as quantity
use Rattle.meaning.specs.declared.Rule.{Rule}
use Rattle.meaning.specs.declared.Rule.TheVariants.{Number, SkippedNumber, LetterQuarter, SkippedName, MatchedName, Letters, Years, FixedYear, TwoDigitYear, Zone}
use Rattle.meaning.specs.declared.Sign.{Sign}
use Rattle.meaning.specs.declared.Sign.TheVariants.{Minus, Bare}
use Rattle.laws.specs.CalendarLine.{Short}
use Rattle.laws.proofs.Checks.{else-fine, within-is, fine-unless}
use Rattle.laws.proofs.Digits.{digit-bounds}
use Rattle.laws.proofs.Entries.{AllOf}
use Rattle.laws.proofs.Marks.{entries, get-entry}
use Rattle.laws.proofs.Pluses.{behind_part}
use Rattle.laws.proofs.Table.{step_passes, steps-pass}
use Rattle.laws.proofs.Takes.{reach-bounds}
use Rattle.laws.proofs.Tests.{by-test, both_true, when-is, every}

-- what holds of all that a reader gives

abbrev Gives : {A : Type 0} → (A → Type 0) → Got A → Type 0
Gives P (got n a) = P a
Gives P (stopped why i) = Unit

gives-behind : {A : Type 0} (P : A → Type 0) (n : ℕ) (g : Got A) → Gives P g → Gives P (behind n g)
gives-behind P n (got m a) h = h
gives-behind P n (stopped why i) h = tt

gives-on : {A B : Type 0} (P : A → Type 0) (Q : B → Type 0) (g : Got A) (next : A → Reader B) (s : List ℕ) → Gives P g
    → ((a : A) (t : List ℕ) → P a → Gives Q (next a t)) → Gives Q (go_on g next s)
gives-on P Q (got n a) next s h k = gives-behind Q n (next a (drop n s)) (k a (drop n s) h)
gives-on P Q (stopped why i) next s h k = tt

-- a number of so many bytes

decimal-below : (n : ℕ) (s : List ℕ) → all_digits s ≡ true → decimal n s < (n + 1) * 10 ^ length s
unfolding all_digits decimal
decimal-below n [] h = omega arith
decimal-below n (b ∷ s) h =
    let t = both_true (is_digit b) (all_digits s) h in
    let more : n * 10 + (b - 48) + 1 ≤ (n + 1) * 10 = omega (arith, digit-bounds b t.0) in
    let wide : (n * 10 + (b - 48) + 1) * 10 ^ length s ≤ (n + 1) * 10 * 10 ^ length s = mul-le-mul_right (10 ^ length s) more in
    rw (pow-succ', ← mul_assoc) (lt_of_lt_of_le (decimal-below (n * 10 + (b - 48)) s t.1) wide)

record SizedTo (k : ℕ) (kind : Numeral) (n : Signed) : Type 0 where
  below : n.size < 10 ^ k
  fits : n.size ≤ largest kind n.negative

some-sized : (kind : Numeral) (negative : Bool) (s : List ℕ) {n : Signed} → sized kind negative s ≡ some n → SizedTo (length s) kind n
unfolding sized
some-sized kind negative [] e = absurd (let z : ◌≡◌ {A = ℕ} 0 1 = cc in omega arith)
some-sized kind negative (b ∷ s) {n} e =
    by-test (both (all_digits (b ∷ s)) (leb (decimal 0 (b ∷ s)) (largest kind negative)))
    (λ t.
    let h = both_true (all_digits (b ∷ s)) (leb (decimal 0 (b ∷ s)) (largest kind negative)) t in
    let is : record { negative = negative; size = decimal 0 (b ∷ s) } ≡ n = let f = rw t at e in cc in
    rw (← is) (record { below = omega (arith, decimal-below 0 (b ∷ s) h.0); fits = leb-true (decimal 0 (b ∷ s)) (largest kind negative) h.1 }))
    (λ t. absurd (let f = rw t at e in let z : ◌≡◌ {A = ℕ} 0 1 = cc in omega arith))

wider : (j k : ℕ) (kind : Numeral) (n : Signed) → j ≤ k → SizedTo j kind n → SizedTo k kind n
wider j k kind n h z = record { below = omega (arith, z.below, pow-le-pow_right {n = 10} (omega arith) h); fits = z.fits }

some_number : (kind : Numeral) (s : List ℕ) {n : Signed} → number_of kind s ≡ some n → SizedTo (length s) kind n
unfolding number_of
some_number kind [] e = absurd (let z : ◌≡◌ {A = ℕ} 0 1 = cc in omega arith)
some_number kind (b ∷ s) {n} e = go (sign_of kind b) e
  where
    go : (sign : Sign) → sized_by kind sign b s ≡ some n → SizedTo (length (b ∷ s)) kind n
    go Minus f = wider (length s) (suc (length s)) kind n (omega arith) (some-sized kind true s f)
    go Bare f = some-sized kind false (b ∷ s) f

gives-number : (kind : Numeral) (k : ℕ) (s : List ℕ) → Gives (SizedTo k kind) (take_number kind k s)
unfolding take_number
gives-number kind k s =
    when-is (Gives (SizedTo k kind)) (ltb (length s) k) (λ _. tt)
    (λ _. when-is (Gives (SizedTo k kind)) (plus_first (take k s)) (λ _. tt) (λ _. go (number_of kind (take k s)) refl))
  where
    go : (o : maths.Option Signed) → number_of kind (take k s) ≡ o → Gives (SizedTo k kind) (taken_number k o)
    go none e = tt
    go (some n) e = wider (length (take k s)) k kind n (omega (arith, length-take k s)) (some_number kind (take k s) e)

gives-count : (k : ℕ) (s : List ℕ) → Gives (λ n. n < 10 ^ k) (take_count k s)
gives-count k s = gives-on (SizedTo k Count) (λ n. n < 10 ^ k) (take_number Count k s) _ s (gives-number Count k s) (λ n t h. h.below)

-- a year

record YearTo (k : ℕ) (z : ℤ) : Type 0 where
  below : nat_abs z < 10 ^ k
  short : Short z

minus-short : (n : ℕ) → n ≤ 2147483648 → Short (neg_ℤ (pos n))
minus-short zero h = omega arith
minus-short (suc n) h = omega arith

minus-size : (n : ℕ) → nat_abs (neg_ℤ (pos n)) ≡ n
minus-size zero = refl
minus-size (suc n) = refl

year-to : (k : ℕ) (negative : Bool) (n : ℕ) → n < 10 ^ k → n ≤ largest Year negative → YearTo k (integer (record { negative = negative; size = n }))
year-to k false n h f = record { below = h; short = omega arith }
year-to k true n h f = record { below = rw (minus-size n) h; short = minus-short n f }

gives-year : (k : ℕ) (s : List ℕ) → Gives (YearTo k) (take_year k s)
gives-year k s =
    gives-on (SizedTo k Year) (YearTo k) (take_number Year k s) _ s (gives-number Year k s) (λ n t h. year-to k n.negative n.size h.below h.fits)

sum-short : (z : ℤ) (m : ℕ) → nat_abs z < 100 → m ≤ 9999 → Short (z +ℤ pos m)
sum-short (pos n) m h k = omega arith
sum-short (negsuc n) m h k = by-test (ltb m (suc n)) (λ e. rw e (omega arith)) (λ e. rw e (omega arith))

two-digits-short : (edition : Edition) (current : ℕ) (z : ℤ) → current ≤ 9999 → nat_abs z < 100 → Short (two_digits_mean edition current z)
unfolding two_digits_mean
two-digits-short First current z h k = sum-short z _ k (omega arith)
two-digits-short Second current z h k = omega arith

-- a name is one of so many

gives-name : (i : ℕ) (ns : List (List ℕ)) (s : List ℕ) → Gives (λ j. j < i + length ns) (first_name i ns s)
unfolding first_name
gives-name i [] s = tt
gives-name i (name ∷ ns) s =
    when-is (Gives (λ j. j < i + suc (length ns))) (begins name s) (λ _. omega arith)
    (λ _. more (first_name (suc i) ns s) (gives-name (suc i) ns s))
  where
    more : (g : Got ℕ) → Gives (λ j. j < suc i + length ns) g → Gives (λ j. j < i + suc (length ns)) g
    more (got n j) h = omega arith
    more (stopped why at) h = tt

-- what is carried: any unit's value but the offset

abbrev ShortCarried : Option Carried → Type 0
ShortCarried None = Unit
ShortCarried (Some c) = unit_number c.unit < 14 → Short c.value

-- no more than twelve months
pub record FewMonths (book : Book) : Type 0 where
  pub wide : length book.month_wide ≤ 12
  pub abbreviated : length book.month_abbreviated ≤ 12

short-period : (t : Bool) → unit_number unit.Period < 14 → Short (pos (when t 0 1))
short-period true h = omega arith
short-period false h = omega arith

short-name : (book : Book) → FewMonths book → (l : NameList) (i : ℕ) → i < length (names book l) → ShortCarried (name_carries l i)
unfolding name_carries names
short-name book few EraAbbreviated i h = tt
short-name book few EraNarrow i h = tt
short-name book few EraWide i h = tt
short-name book few QuarterWide i h = tt
short-name book few MonthAbbreviated i h = λ _. omega (arith, few.abbreviated)
short-name book few MonthWide i h = λ _. omega (arith, few.wide)
short-name book few MonthNarrow i h = tt
short-name book few WdayAbbreviated i h = tt
short-name book few WdayWide i h = tt
short-name book few WdayNarrow i h = tt
short-name book few WdayShort i h = tt
short-name book few PeriodUpper i h = short-period (ltb i 2)
short-name book few PeriodLower i h = short-period (ltb i 2)
short-name book few PeriodDotted i h = short-period (ltb i 1)
short-name book few PeriodLetter i h = short-period (ltb i 1)
short-name book few NoonUpper i h = short-period (ltb i 3)
short-name book few NoonLower i h = short-period (ltb i 3)
short-name book few NoonDotted i h = short-period (ltb i 2)
short-name book few NoonLetter i h = short-period (ltb i 2)

gives_nothing : {A : Type 0} (g : Got A) (s : List ℕ) → Gives ShortCarried (go_on g (λ _. done None) s)
gives_nothing (got n a) s = tt
gives_nothing (stopped why i) s = tt

gives-any : {A : Type 0} (g : Got A) → Gives (λ _. Unit) g
gives-any (got n a) = tt
gives-any (stopped why i) = tt

-- the table: no number has more than nine digits

abbrev nine_digits : Rule → Bool
nine_digits (Number q least most u z) = both (leb least 9) (leb most 9)
nine_digits (SkippedNumber q least most) = true
nine_digits LetterQuarter = true
nine_digits (SkippedName l n) = true
nine_digits (MatchedName l) = true
nine_digits (Letters l n) = true
nine_digits (Years k) = true
nine_digits (FixedYear k) = true
nine_digits TwoDigitYear = true
nine_digits (Zone zone) = true

nine-read : (edition : Edition) (q : Quantity) (most : ℕ) → most ≤ 9 → most_read edition q most ≤ 9
unfolding most_read
nine-read First q most h = h
nine-read Second quantity.Month most h = omega arith
nine-read Second quantity.Quarter most h = h
nine-read Second quantity.Week most h = h
nine-read Second quantity.Day most h = h
nine-read Second quantity.DayOfYear most h = h
nine-read Second quantity.Weekday most h = h
nine-read Second quantity.WeekdayFromMonday most h = h
nine-read Second quantity.Hour1To12 most h = h
nine-read Second quantity.Hour0To11 most h = h
nine-read Second quantity.Hour0To23 most h = h
nine-read Second quantity.Hour1To24 most h = h
nine-read Second quantity.Minute most h = h
nine-read Second quantity.Second most h = h
nine-read Second (quantity.Fraction k) most h = h

zero-for : (z n : ℕ) → zero_for z n ≤ n
zero-for z n = when-is (λ (m : ℕ). m ≤ n) (eqb n z) (λ _. omega arith) (λ _. omega arith)

module _ (edition : Edition) (book : Book) (few : FewMonths book) (current : ℕ) (near : current ≤ 9999) where
  short-year : (k : ℕ) (s : List ℕ) → Gives ShortCarried (taken_year k s)
  short-year k s = gives-on (YearTo k) ShortCarried (take_year k s) _ s (gives-year k s) (λ z t h _. h.short)

  short-names : (l : NameList) (g : Got ℕ) (s : List ℕ) → Gives (λ i. i < 0 + length (names book l)) g → Gives ShortCarried (go_on g (λ i. done (name_carries l i)) s)
  short-names l g s h = gives-on (λ i. i < 0 + length (names book l)) ShortCarried g _ s h (λ i t j. short-name book few l i (omega arith))

  short-number : (q : Quantity) (least most : ℕ) (u : ParseUnit) (z : ℕ) (s : List ℕ) → least ≤ 9 → most ≤ 9
      → Gives ShortCarried (read_rule edition book current (Number q least most u z) s)
  unfolding read_rule
  short-number q least most u z s h j =
      let k = reach (most_read edition q most - least) least s in
      let few' : k ≤ 9 = omega (arith, (reach-bounds (most_read edition q most - least) least s).1, nine-read edition q most j) in
      gives-on (λ n. n < 10 ^ k) ShortCarried (take_count k s) _ s (gives-count k s)
      (λ n t below _. omega (arith, zero-for z n, pow-le-pow_right {n = 10} (omega arith) few'))

  short-rule : (rule : Rule) → nine_digits rule ≡ true → (s : List ℕ) → Gives ShortCarried (read_rule edition book current rule s)
  unfolding read_rule match_name letters
  short-rule (Number q least most u z) h s =
      let t = both_true (leb least 9) (leb most 9) h in
      short-number q least most u z s (leb-true least 9 t.0) (leb-true most 9 t.1)
  short-rule (SkippedNumber q least most) h s = gives_nothing (skip (reach (most - least) least s) s) s
  short-rule LetterQuarter h s = gives_nothing (skip 2 s) s
  short-rule (SkippedName l n) h s = gives_nothing (skip n s) s
  short-rule (MatchedName l) h s = short-names l (first_name 0 (names book l) s) s (gives-name 0 (names book l) s)
  short-rule (Letters l n) h s =
      short-names l (letters n (names book l) s) s
      (when-is (Gives (λ i. i < 0 + length (names book l))) (ltb (length s) n) (λ _. tt) (λ _. gives-name 0 (names book l) (take n s)))
  short-rule (Years k) h s = short-year (year_length s) s
  short-rule (FixedYear k) h s = short-year (minus_first s + k) s
  short-rule TwoDigitYear h s =
      when-is (Gives ShortCarried) (eqb (minus_first s) 1) (λ _. short-year 3 s)
      (λ _. gives-on (YearTo 2) ShortCarried (take_year 2 s) _ s (gives-year 2 s) (λ z t y _. two-digits-short edition current z near y.below))
  short-rule (Zone zone) h s =
      let offset = (zone_sign zone.utc >>= zone_behind (zone_size zone.colon zone.minutes zone.seconds)) s in
      gives-on (λ _. Unit) ShortCarried offset _ s (gives-any offset) (λ o t _ offset'. absurd (omega arith))

  short-literal : (strict : Bool) (w s : List ℕ) → Gives ShortCarried (literal_read strict w s)
  short-literal true w s = gives_nothing (same w s) s
  short-literal false w s = gives_nothing (skip (length w) s) s

nine-digits : (pair : Pair) (p : List ℕ) → every (step_passes nine_digits) (steps pair p) ≡ true
unfolding every
nine-digits = steps-pass nine_digits (λ c. refl) refl

-- the walk keeps what is short

abbrev ShortEntries : List Gave → Type 0
ShortEntries = AllOf (λ g. ShortCarried g.carried)

abbrev ShortWalk : Walk → Type 0
ShortWalk (walked taken gave) = ShortEntries gave
ShortWalk (refused_at why) = Unit

short-rest : (checked : Checked) (at : ℕ) (gave : List Gave) → ShortEntries gave → ShortWalk (walked_by checked at gave)
short-rest (Ok _) at gave h = h
short-rest (Err why) at gave h = tt

short-part : (i at : ℕ) (next : ℕ → Option Carried → Walk) (g : Got (Option Carried)) → Gives ShortCarried g → ((n : ℕ) (c : Option Carried) → ShortCarried c → ShortWalk (next n c))
    → ShortWalk (behind_part i at next g)
short-part i at next (got n c) h k = k n c h
short-part i at next (stopped why place) h k = tt

module _ (choices : Choices) (book : Book) (few : FewMonths book) (current : ℕ) (near : current ≤ 9999) where
  short-step : (step : Step) → step_passes nine_digits step ≡ true → (s : List ℕ) → Gives ShortCarried (read_step choices book current step s)
  unfolding read_step
  short-step (literal w lost) h s = short-literal choices.edition book few current near choices.strict w s
  short-step (field rule) h s = short-rule choices.edition book few current near rule h s

  short-walk : (i at : ℕ) (ss : List Step) (s : List ℕ) (gave : List Gave) → every (step_passes nine_digits) ss ≡ true → ShortEntries gave
      → ShortWalk (walk choices book current i at ss s gave)
  unfolding walk every AllOf
  short-walk i at [] s gave e h = short-rest (rest_check choices.strict at s) at gave h
  short-walk i at (step ∷ ss) s gave e h =
      let t = both_true (step_passes nine_digits step) (every (step_passes nine_digits) ss) e in
      short-part i at _ (read_step choices book current step s) (short-step step t.0 s)
      (λ n c k. short-walk (suc i) (at + n) ss (drop n s) _ t.1 (k, h))

-- the last value of a unit

carried-short : (c : Option Carried) (k : ℕ) → k < 14 → is_of k c ≡ true → ShortCarried c → Short (value_in c)
carried-short None k h e short = omega arith
carried-short (Some c) k h e short = short (omega (arith, eqb-true (unit_number c.unit) k e))

last-short : (gave : List Gave) (k : ℕ) → k < 14 → ShortEntries gave → Short (value_of gave k)
unfolding AllOf last_of
last-short [] k h all = omega arith
last-short (g ∷ gave) k h all =
    when-is Short (is_of k g.carried) (λ e. carried-short g.carried k h e all.0) (λ e. last-short gave k h all.1)

value-at : (gave : List Gave) (k : ℕ) → k < 14 → ShortEntries gave → Short (get_or (map (value_of gave) fifteen) k (pos 0))
unfolding entries
value-at gave k h all = rw (get-entry 15 (value_of gave) (pos 0) k (omega arith)) (last-short gave k h all)

year-near : (edition : Edition) (current : ℤ) → current_year_check edition current ≡ Ok tt → nat_abs current ≤ 9999
unfolding current_year_check
year-near edition current h =
    by-test (is_negative current) (λ e. absurd (let f = rw e at h in let z : ◌≡◌ {A = ℕ} 0 1 = cc in omega arith))
    (λ e. (within-is (first_current_year edition) 9999 (nat_abs current) (fine-unless _ _ (rw e at h))).1)

read_short : (checked : Checked) (w : Walk) (k : ℕ) → k < 14 → (checked ≡ Ok tt → ShortWalk w) → Short (get_or (record_of (read_by checked w)).values k (pos 0))
unfolding AllOf
read_short (Ok _) (walked taken gave) k h s = value-at gave k h (s refl)
read_short (Ok _) (refused_at why) k h s = value-at [] k h tt
read_short (Err why) w k h s = value-at [] k h tt

pub value-short : (choices : Choices) (book : Book) → FewMonths book → (p s : List ℕ) (current : ℤ) (k : ℕ) → k < 14
    → Short (get_or (record_of (read choices book p s current)).values k (pos 0))
unfolding read read_check AllOf
value-short choices book few p s current k h =
    let ss = steps choices.pair p in
    read_short (read_check choices.edition p s current) (walk choices book (nat_abs current) 0 0 ss s []) k h
    (λ fine.
    let a = else-fine (pattern_check p) (current_year_check choices.edition current else text_check s) fine in
    let near = year-near choices.edition current (else-fine (current_year_check choices.edition current) (text_check s) a.1).0 in
    short-walk choices book few (nat_abs current) near 0 0 ss s [] (nine-digits choices.pair p) tt)

-- any row that is lent stands for such a book

length-names : (most k : ℕ) (row : List ℕ) → length (names_at most k row) ≡ k
unfolding names_at
length-names most zero row = refl
length-names most (suc k) row = ap suc (length-names most k (drop 21 row))

few-opened : (row : List ℕ) → FewMonths (opened_book row)
few-opened row = record { wide = rw length-names (omega arith); abbreviated = rw length-names (omega arith) }

few-english : FewMonths english
unfolding english bytes
few-english = record { wide = omega arith; abbreviated = omega arith }

pub few-months : (row : List ℕ) → FewMonths (book_in row)
unfolding book_in
few-months row = when-is FewMonths (eqb (length row) opened_size) (λ _. few-opened row) (λ _. few-english)
