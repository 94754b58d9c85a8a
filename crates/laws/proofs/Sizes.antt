-- At most eight bytes are written for each pattern byte, with any book whose names are no longer than they may be, so a written
-- text always fits the text limit. The table of rules is tested as a whole by computation; the test is lifted to each symbol and count.
use Rattle.std.specs.Prelude.{Ok}
use mathlib.Core.Bool.{Bool, true, false}
use mathlib.Core.List.{List, [], ◌∷◌, ◌++◌, map}
use mathlib.Core.Path.{◌≡◌, refl}
use Prim.Native.Nat.{ℕ, zero, suc, ◌+◌, ◌*◌, ◌/◌, ◌%◌, ◌^◌, ◌≤◌, ◌<◌, max}
use native.Mathlib.Omega.{arith}
use lib.Dec.{eqb, leb, ltb}
use lib.IntN.{ℤ, pos, negsuc, nat_abs}
use lib.ListN.{length, get_or, replicate, length-append, length-take, length-replicate}
use borrow.Author.Tests.{leb-true, leb-false, eqb-true, eqb-false, ltb-true}
use Rattle.meaning.specs.Answers.{fields_check, pattern_check}
use Rattle.meaning.specs.Bytes.{when, both, bytes, num, quote}
use Rattle.meaning.specs.Names.{Book, english, names}
use Rattle.meaning.specs.Reading.{colon_length}
use Rattle.meaning.specs.Rules.{Counts, just, up_to, among, Row, ◌is◌, Otherwise, always, fixed_year, otherwise_rule, pick, Symbol, rule_of, role_of}
use Rattle.meaning.specs.Splitting.{Content, run, quotes, quoted, unclosed, contents, length_of, inside_length}
use Rattle.meaning.specs.Whole.{text}
use Rattle.meaning.specs.Writing.{quantity_of, signed_text, two_digit_text, offset_digits, offset_text, group_text, is_there, colon_text, zone_text, name_text, place_of, rule_text, is_negative, literal, run_step, step_of, ends_in_quote, steps, step_text, texts}
use Rattle.meaning.specs.declared.Fields.{Fields}
use Rattle.meaning.specs.declared.Group.{Group}
use Rattle.meaning.specs.declared.Group.TheVariants.{Never, NotZero, Always}
use Rattle.meaning.specs.declared.Pair.{Pair}
use Rattle.meaning.specs.declared.Quantity.TheVariants.{Quarter}
use Rattle.meaning.specs.declared.Role.{Role}
use Rattle.meaning.specs.declared.Role.TheVariants as role
use Rattle.meaning.specs.declared.Rule.{Rule}
use Rattle.meaning.specs.declared.Rule.TheVariants.{Number, SkippedNumber, LetterQuarter, SkippedName, MatchedName, Letters, Years, FixedYear, TwoDigitYear, Zone}
use Rattle.meaning.specs.declared.NameList.{NameList}
use Rattle.laws.specs.Widths.{most_digits, longest, group_most, most_letters, most_bytes}
use Rattle.laws.proofs.Checks.{pattern-fine}
use Rattle.laws.proofs.Digits.{length-num, width-at-most}
use Rattle.laws.proofs.Fields.{Allowed, allowed, quantity-below}
use Rattle.laws.proofs.Splitting.{total, parts-fill, is_some, runs-are-some}
use Rattle.laws.proofs.Table.{RoleHas, table_passes, role-has}
use Rattle.laws.proofs.Tests.{both_true, every, when-is}

-- what a rule writes

num-length : (k d n : ℕ) → n < 10 ^ d → length (num k n) ≤ max k (max 1 d)
num-length k zero n h = rw length-num (omega (arith, width-at-most 1 n (omega arith) (omega arith)))
num-length k (suc d) n h = rw length-num (omega (arith, width-at-most (suc d) n (omega arith) h))

name-length : (l : List (List ℕ)) (i : ℕ) → length (get_or l i []) ≤ longest l
unfolding longest
name-length [] i = omega arith
name-length (a ∷ l) zero = omega arith
name-length (a ∷ l) (suc i) = omega (arith, name-length l i)

sign-length : (z : ℤ) (m : ℕ) → length (when (is_negative z) (m ∷ []) []) ≤ 1
sign-length (pos n) m = omega arith
sign-length (negsuc n) m = omega arith

year-length : (k : ℕ) (z : ℤ) → nat_abs z ≤ 5879611 → length (signed_text k z) ≤ 1 + max k 7
unfolding signed_text
year-length k z h =
    rw length-append (omega (arith, sign-length z 45, num-length k 7 (nat_abs z) (omega arith)))

two-digit-length : (z : ℤ) → length (two_digit_text z) ≤ 3
unfolding two_digit_text signed_text
two-digit-length z =
    when-is (λ (t : List ℕ). length t ≤ 3) (ltb (nat_abs z) (when (is_negative z) 10 100))
    (λ e.
    let small : when (is_negative z) 10 100 ≤ 100 = when-is (λ (n : ℕ). n ≤ 100) (is_negative z) (λ _. omega arith) (λ _. omega arith) in
    let below : nat_abs z < when (is_negative z) 10 100 = ltb-true (nat_abs z) (when (is_negative z) 10 100) e in
    rw length-append (omega (arith, sign-length z 45, num-length 2 2 (nat_abs z) (omega arith))))
    (λ e. omega (arith, num-length 2 2 (nat_abs z % 100) (omega arith)))

colon-length : (c : Bool) → length (colon_text c) ≡ colon_length c
colon-length true = refl
colon-length false = refl

two-digits-length : (c : Bool) (n : ℕ) → n < 100 → length (colon_text c ++ num 2 n) ≤ colon_length c + 2
two-digits-length c n h = rw length-append (omega (arith, colon-length c, num-length 2 2 n h))

group-length : (c : Bool) (g : Group) (n : ℕ) → n < 100 → length (group_text c g n) ≤ group_most c g
group-length c Never n h = omega arith
group-length c NotZero n h =
    when-is (λ (t : List ℕ). length t ≤ colon_length c + 2) (is_there NotZero n) (λ e. two-digits-length c n h) (λ e. omega arith)
group-length c Always n h = two-digits-length c n h

offset-length : (c : Bool) (minutes seconds : Group) (z : ℤ) → nat_abs z ≤ 86399
    → length (offset_text c minutes seconds z) ≤ 3 + group_most c minutes + group_most c seconds
unfolding offset_digits offset_text
offset-length c minutes seconds z h =
    rw (length-append, length-append)
    (omega (arith, num-length 2 2 (nat_abs z / 3600) (omega arith), group-length c minutes (nat_abs z % 3600 / 60) (omega arith), group-length c seconds (nat_abs z % 60) (omega arith)))

zone-length : (utc c : Bool) (minutes seconds : Group) (z : ℤ) → nat_abs z ≤ 86399
    → length (zone_text utc c minutes seconds z) ≤ 3 + group_most c minutes + group_most c seconds
zone-length utc c minutes seconds z h =
    when-is (λ (t : List ℕ). length t ≤ 3 + group_most c minutes + group_most c seconds) (both utc (eqb (nat_abs z) 0))
    (λ e. omega arith) (λ e. offset-length c minutes seconds z h)

-- a book none of whose names is longer than it may be
abbrev pub Short : Book → Type 0
Short book = (l : NameList) → longest (names book l) ≤ most_letters l

pub rule-length : (book : Book) → Short book → (rule : Rule) (f : Fields) → Allowed f → length (rule_text book rule f) ≤ most_bytes rule
unfolding rule_text most_bytes name_text most_digits
rule-length book short (Number q least most u z) f h = num-length least (most_digits q) (quantity_of q f) (quantity-below q f h)
rule-length book short (SkippedNumber q least most) f h = num-length least (most_digits q) (quantity_of q f) (quantity-below q f h)
rule-length book short LetterQuarter f h = omega (arith, num-length 1 1 (quantity_of Quarter f) (quantity-below Quarter f h))
rule-length book short (SkippedName l n) f h = omega (arith, name-length (names book l) (place_of l f), short l)
rule-length book short (MatchedName l) f h = omega (arith, name-length (names book l) (place_of l f), short l)
rule-length book short (Letters l n) f h = omega (arith, name-length (names book l) (place_of l f), short l)
rule-length book short (Years k) f h = year-length k f.year h.year.1
rule-length book short (FixedYear k) f h = year-length k f.year h.year.1
rule-length book short TwoDigitYear f h = two-digit-length f.year
rule-length book short (Zone zone) f h = zone-length zone.utc zone.colon zone.minutes zone.seconds f.offset h.offset

-- the table: each row, and the rule of all other counts, at the least count that it is for

-- the least count of a row, and of those behind it, where no count is below `low`
abbrev least_of : ℕ → Counts → ℕ
least_of low (just k) = k
least_of low (up_to k) = low

abbrev least_behind : ℕ → Counts → ℕ
least_behind low (just k) = when (eqb low k) (suc low) low
least_behind low (up_to k) = when (leb low k) (suc low) low

abbrev other_fits : ℕ → Otherwise → Bool
other_fits low (always rule) = leb (most_bytes rule) (8 * low)
other_fits low fixed_year = leb 1 low

unfoldable rows_fit : ℕ → List Row → Otherwise → Bool
rows_fit low [] o = other_fits low o
rows_fit low (counts is rule ∷ rows) o =
    both (leb (most_bytes rule) (8 * least_of low counts)) (rows_fit (least_behind low counts) rows o)

least-of : (c low : ℕ) (counts : Counts) → low ≤ c → among c counts ≡ true → least_of low counts ≤ c
least-of c low (just k) h e = omega (arith, eqb-true c k e)
least-of c low (up_to k) h e = h

least-behind : (c low : ℕ) (counts : Counts) → low ≤ c → among c counts ≡ false → least_behind low counts ≤ c
least-behind c low (just k) h e =
    when-is (λ (n : ℕ). n ≤ c) (eqb low k) (λ t. omega (arith, eqb-false c k e, eqb-true low k t)) (λ t. h)
least-behind c low (up_to k) h e =
    when-is (λ (n : ℕ). n ≤ c) (leb low k) (λ t. omega (arith, leb-false c k e, leb-true low k t)) (λ t. h)

other_fits_lem : (c low : ℕ) (o : Otherwise) → low ≤ c → other_fits low o ≡ true → most_bytes (otherwise_rule c o) ≤ 8 * c
unfolding otherwise_rule most_bytes
other_fits_lem c low (always rule) h e = omega (arith, leb-true (most_bytes rule) (8 * low) e)
other_fits_lem c low fixed_year h e = omega (arith, leb-true 1 low e)

rows_fit_lem : (c low : ℕ) (rows : List Row) (o : Otherwise) → low ≤ c → rows_fit low rows o ≡ true
    → most_bytes (pick c rows o) ≤ 8 * c
unfolding rows_fit pick
rows_fit_lem c low [] o h e = other_fits_lem c low o h e
rows_fit_lem c low (counts is rule ∷ rows) o h e =
    let t = both_true (leb (most_bytes rule) (8 * least_of low counts)) (rows_fit (least_behind low counts) rows o) e in
    when-is (λ (r : Rule). most_bytes r ≤ 8 * c) (among c counts)
    (λ k. omega (arith, leb-true (most_bytes rule) (8 * least_of low counts) t.0, least-of c low counts h k))
    (λ k. rows_fit_lem c (least_behind low counts) rows o (least-behind c low counts h k) t.1)

symbol_fits : Symbol → Bool
unfolding rows_fit
symbol_fits symbol = rows_fit 1 symbol.rows symbol.otherwise

-- all of the table, in one test
table_fits : table_passes symbol_fits ≡ true
unfolding symbol_fits every rows_fit most_bytes most_digits most_letters longest names english bytes
table_fits = refl

-- what a role writes is at most eight times its count
abbrev RoleFits : ℕ → Role → Type 0
RoleFits c = RoleHas (λ rule. most_bytes rule ≤ 8 * c)

role-fits : (pair : Pair) (b c : ℕ) → 1 ≤ c → RoleFits c (role_of pair b c)
unfolding symbol_fits rule_of
role-fits pair b c h =
    role-has (λ rule. most_bytes rule ≤ 8 * c) c symbol_fits
    (λ symbol. rows_fit_lem c 1 symbol.rows symbol.otherwise h) table_fits pair b

-- what a part writes

inside-length : (s : List ℕ) → length s ≤ inside_length s
inside-length [] = omega arith
inside-length (b ∷ s) =
    omega (arith, inside-length s, when-is (λ (n : ℕ). 1 ≤ n) (eqb b quote) (λ _. let t : 1 ≤ 2 = omega arith in t) (λ _. let t : 1 ≤ 1 = omega arith in t))

module _ (book : Book) (short : Short book) (f : Fields) where
  literal-length : (s : List ℕ) (lost : Bool) → length (step_text book f (literal s lost)) ≤ length s
  unfolding step_text
  literal-length s false = omega arith
  literal-length s true = rw length-take (omega arith)

  run_length : Allowed f → (r : Role) (b n : ℕ) → RoleFits n r → length (step_text book f (run_step r b n)) ≤ 8 * n
  unfolding step_text
  run_length h role.Literal b n k = rw length-replicate (omega arith)
  run_length h (role.Symbol rule) b n k = omega (arith, rule-length book short rule f h)

  step-length : (pair : Pair) → Allowed f → (c : Content) → is_some c ≡ true → length (step_text book f (step_of pair c)) ≤ 8 * length_of c
  unfolding step_of length_of
  step-length pair h (run b n) k = run_length h (role_of pair b n) b n (role-fits pair b n (leb-true 1 n k))
  step-length pair h (quotes n) k = omega (arith, literal-length (replicate n quote) false, length-replicate n quote)
  step-length pair h (quoted s) k = omega (arith, literal-length s false, inside-length s)
  step-length pair h (unclosed s) k = omega (arith, literal-length s (ends_in_quote s), inside-length s)

  texts-length : (pair : Pair) → Allowed f → (cs : List Content) → every is_some cs ≡ true → length (texts book f (map (step_of pair) cs)) ≤ 8 * total cs
  unfolding texts total every
  texts-length pair h [] k = omega arith
  texts-length pair h (c ∷ cs) k =
      let t = both_true (is_some c) (every is_some cs) k in
      rw length-append (omega (arith, step-length pair h c t.0, texts-length pair h cs t.1))

  -- demand 1: "at most eight per pattern byte"
  pub eight-bytes : (pair : Pair) (p : List ℕ) → fields_check f ≡ Ok tt → length (text pair book p f) ≤ 8 * length p
  unfolding text steps
  eight-bytes pair p h = omega (arith, texts-length pair (allowed f h) (contents p) (runs-are-some p), parts-fill p)

  -- "Written text is at most 8 bytes per pattern byte, so it always fits the text limit."
  pub text-fits : (pair : Pair) (p : List ℕ) → pattern_check p ≡ Ok tt → fields_check f ≡ Ok tt → length (text pair book p f) ≤ 2048
  text-fits pair p h k = omega (arith, eight-bytes pair p k, (pattern-fine p h).short)
