-- A written text is ASCII, as a read asks for: digits and signs are, the English names, and the bytes of a pattern that is
-- accepted. With its length it passes the checks 6 and 7 of a read.
use Rattle.std.specs.Prelude.{Ok}
use mathlib.Core.Bool.{Bool, true, false}
use mathlib.Core.List.{List, [], ◌∷◌, ◌++◌, map}
use mathlib.Core.Path.{◌≡◌, refl}
use Prim.Native.Char.{code}
use Prim.Native.Nat.{ℕ, zero, suc, ◌-◌, ◌/◌, ◌%◌, ◌≤◌, max}
use native.Mathlib.Omega.{arith}
use lib.Dec.{eqb, leb, ltb}
use lib.IntN.{ℤ, nat_abs}
use lib.ListN.{length, get_or, replicate}
use borrow.Author.Tests.{le-leb, leb-true}
use Rattle.meaning.specs.Answers.{within, pattern_check, fields_check, text_check}
use Rattle.meaning.specs.Bytes.{when, both, bytes, is_digit, num, width, minus, plus, colon, quote}
use Rattle.meaning.specs.Names.{Book, english, names}
use Rattle.meaning.specs.Numerals.{all_digits}
use Rattle.meaning.specs.Rules.{role_of}
use Rattle.meaning.specs.Splitting.{Element, byte, escaped, single, element_of, elements, Content, run, quotes, quoted, unclosed, join_byte, join_escaped, join_inside, outside, inside, contents}
use Rattle.meaning.specs.Whole.{text}
use Rattle.meaning.specs.Writing.{quantity_of, signed_text, two_digit_text, colon_text, is_there, group_text, offset_digits, is_minus, offset_text, zone_text, place_of, name_text, rule_text, is_negative, run_step, step_of, ends_in_quote, steps, literal, step_text, texts}
use Rattle.meaning.specs.declared.Fields.{Fields}
use Rattle.meaning.specs.declared.Group.{Group}
use Rattle.meaning.specs.declared.NameList.{NameList}
use Rattle.meaning.specs.declared.NameList.TheVariants.{EraAbbreviated, EraNarrow, EraWide, QuarterWide, MonthAbbreviated, MonthWide, MonthNarrow, WdayAbbreviated, WdayWide, WdayNarrow, WdayShort, PeriodUpper, PeriodLower, PeriodDotted, PeriodLetter, NoonUpper, NoonLower, NoonDotted, NoonLetter}
use Rattle.meaning.specs.declared.Pair.{Pair}
use Rattle.meaning.specs.declared.Quantity.TheVariants.{Quarter}
use Rattle.meaning.specs.declared.Refusal.TheVariants.{TextByte}
use Rattle.meaning.specs.declared.Role.{Role}
use Rattle.meaning.specs.declared.Role.TheVariants as role
use Rattle.meaning.specs.declared.Rule.{Rule}
use Rattle.meaning.specs.declared.Rule.TheVariants.{Number, SkippedNumber, LetterQuarter, SkippedName, MatchedName, Letters, Years, FixedYear, TwoDigitYear, Zone}
use Rattle.laws.proofs.Checks.{within-bytes, pattern-fine}
use Rattle.laws.proofs.Digits.{digit-bounds, all_digits_lem}
use Rattle.laws.proofs.Sizes.{Short, text-fits}
use Rattle.laws.proofs.Splitting.{elements-step, elements-escaped}
use Rattle.laws.proofs.Tests.{by-test, both_true, both-are, every, every_append, every_take, every-again, every-weaker, when-is}

abbrev pub is_ascii : ℕ → Bool
is_ascii b = within 0 127 b

-- a text of such bytes
abbrev pub Ascii : List ℕ → Type 0
Ascii s = every is_ascii s ≡ true

ascii-yes : (b : ℕ) → b ≤ 127 → is_ascii b ≡ true
ascii-yes b h = rw (le-leb 0 b (omega arith), le-leb b 127 h)

none : Ascii []
unfolding every
none = refl

before : (b : ℕ) (s : List ℕ) → b ≤ 127 → Ascii s → Ascii (b ∷ s)
unfolding every
before b s h k = both-are (is_ascii b) (every is_ascii s) (ascii-yes b h) k

sign-before : (t : Bool) (s : List ℕ) → Ascii s → Ascii (when t minus plus ∷ s)
sign-before t s k =
    before (when t minus plus) s (when-is (λ (b : ℕ). b ≤ 127) t (λ _. omega arith) (λ _. omega arith)) k

-- what a rule writes

digits-ascii : (s : List ℕ) → all_digits s ≡ true → Ascii s
unfolding all_digits every
digits-ascii [] h = refl
digits-ascii (b ∷ s) h =
    let t = both_true (is_digit b) (all_digits s) h in
    both-are (is_ascii b) (every is_ascii s) (ascii-yes b (omega (arith, (digit-bounds b t.0).1))) (digits-ascii s t.1)

num-ascii : (k n : ℕ) → Ascii (num k n)
unfolding num
num-ascii k n = digits-ascii _ (all_digits_lem (max k (width n)) n)

signed-ascii : (k : ℕ) (z : ℤ) → Ascii (signed_text k z)
unfolding signed_text
signed-ascii k z =
    every_append is_ascii _ (num k (nat_abs z)) (when-is Ascii (is_negative z) (λ _. before minus [] (omega arith) none) (λ _. none)) (num-ascii k (nat_abs z))

two-digit-ascii : (z : ℤ) → Ascii (two_digit_text z)
unfolding two_digit_text
two-digit-ascii z =
    when-is Ascii (ltb (nat_abs z) (when (is_negative z) 10 100)) (λ _. signed-ascii 2 z) (λ _. num-ascii 2 (nat_abs z % 100))

group-ascii : (c : Bool) (g : Group) (n : ℕ) → Ascii (group_text c g n)
group-ascii c g n =
    when-is Ascii (is_there g n)
    (λ _. every_append is_ascii (colon_text c) (num 2 n) (when-is Ascii c (λ _. before colon [] (omega arith) none) (λ _. none)) (num-ascii 2 n)) (λ _. none)

offset-ascii : (c : Bool) (minutes seconds : Group) (z : ℤ) → Ascii (offset_text c minutes seconds z)
unfolding offset_text offset_digits
offset-ascii c minutes seconds z =
    let hour = nat_abs z / 3600 in
    let minute = nat_abs z % 3600 / 60 in
    let second = nat_abs z % 60 in
    let front = every_append is_ascii (num 2 hour) (group_text c minutes minute) (num-ascii 2 hour) (group-ascii c minutes minute) in
    sign-before (is_minus c minutes seconds z) _
    (every_append is_ascii (num 2 hour ++ group_text c minutes minute) (group_text c seconds second) front (group-ascii c seconds second))

zone-ascii : (utc c : Bool) (minutes seconds : Group) (z : ℤ) → Ascii (zone_text utc c minutes seconds z)
zone-ascii utc c minutes seconds z =
    when-is Ascii (both utc (eqb (nat_abs z) 0)) (λ _. before (code "Z") [] (omega arith) none) (λ _. offset-ascii c minutes seconds z)

-- a book of such names
abbrev pub AsciiNames : Book → Type 0
AsciiNames book = (l : NameList) → every (every is_ascii) (names book l) ≡ true

name-ascii : (l : List (List ℕ)) (i : ℕ) → every (every is_ascii) l ≡ true → Ascii (get_or l i [])
unfolding every
name-ascii [] i h = refl
name-ascii (a ∷ l) zero h = (both_true (every is_ascii a) (every (every is_ascii) l) h).0
name-ascii (a ∷ l) (suc i) h = name-ascii l i (both_true (every is_ascii a) (every (every is_ascii) l) h).1

module _ (book : Book) (known : AsciiNames book) (f : Fields) where
  rule-ascii : (rule : Rule) → Ascii (rule_text book rule f)
  unfolding rule_text name_text
  rule-ascii (Number q least most u z) = num-ascii least (quantity_of q f)
  rule-ascii (SkippedNumber q least most) = num-ascii least (quantity_of q f)
  rule-ascii LetterQuarter = before (code "Q") (num 1 (quantity_of Quarter f)) (omega arith) (num-ascii 1 (quantity_of Quarter f))
  rule-ascii (SkippedName l n) = name-ascii (names book l) (place_of l f) (known l)
  rule-ascii (MatchedName l) = name-ascii (names book l) (place_of l f) (known l)
  rule-ascii (Letters l n) = name-ascii (names book l) (place_of l f) (known l)
  rule-ascii (Years k) = signed-ascii k f.year
  rule-ascii (FixedYear k) = signed-ascii k f.year
  rule-ascii TwoDigitYear = two-digit-ascii f.year
  rule-ascii (Zone zone) = zone-ascii zone.utc zone.colon zone.minutes zone.seconds f.offset

pub english-ascii : AsciiNames english
unfolding every names english bytes
english-ascii EraAbbreviated = refl
english-ascii EraNarrow = refl
english-ascii EraWide = refl
english-ascii QuarterWide = refl
english-ascii MonthAbbreviated = refl
english-ascii MonthWide = refl
english-ascii MonthNarrow = refl
english-ascii WdayAbbreviated = refl
english-ascii WdayWide = refl
english-ascii WdayNarrow = refl
english-ascii WdayShort = refl
english-ascii PeriodUpper = refl
english-ascii PeriodLower = refl
english-ascii PeriodDotted = refl
english-ascii PeriodLetter = refl
english-ascii NoonUpper = refl
english-ascii NoonLower = refl
english-ascii NoonDotted = refl
english-ascii NoonLetter = refl

-- what the parts of a pattern hold

abbrev element_is : Element → Bool
element_is (byte b) = is_ascii b
element_is escaped = true
element_is single = true

abbrev content_is : Content → Bool
content_is (run b n) = is_ascii b
content_is (quotes n) = true
content_is (quoted s) = every is_ascii s
content_is (unclosed s) = every is_ascii s

element-ascii : (b : ℕ) → is_ascii b ≡ true → element_is (element_of b) ≡ true
element-ascii b h = by-test (eqb b quote) (λ e. rw e) (λ e. rw e h)

elements-ascii : (p : List ℕ) → Ascii p → every element_is (elements p) ≡ true
unfolding elements every
elements-ascii [] h = refl
elements-ascii (a ∷ []) h = rw (element-ascii a (both_true (is_ascii a) true h).0)
elements-ascii (a ∷ b ∷ p) h =
    let t = both_true (is_ascii a) (every is_ascii (b ∷ p)) h in
    let rest = elements-ascii (b ∷ p) t.1 in
    let behind = elements-ascii p (both_true (is_ascii b) (every is_ascii p) t.1).1 in
    by-test (both (eqb a quote) (eqb b quote)) (λ e. rw (elements-escaped a b p e) behind)
    (λ e. rw (elements-step a b p e, element-ascii a t.0) rest)

byte-joins : (b : ℕ) (cs : List Content) → is_ascii b ≡ true → every content_is cs ≡ true → every content_is (join_byte b cs) ≡ true
unfolding every
byte-joins b [] h k = rw h
byte-joins b (run a n ∷ cs) h k =
    when-is (λ (l : List Content). every content_is l ≡ true) (eqb b a)
    (λ _. rw h (both_true (is_ascii a) (every content_is cs) k).1) (λ _. rw h k)
byte-joins b (quotes n ∷ cs) h k = rw h k
byte-joins b (quoted s ∷ cs) h k = rw h k
byte-joins b (unclosed s ∷ cs) h k = rw h k

escaped-joins : (cs : List Content) → every content_is cs ≡ true → every content_is (join_escaped cs) ≡ true
unfolding every
escaped-joins [] k = refl
escaped-joins (run a n ∷ cs) k = k
escaped-joins (quotes n ∷ cs) k = k
escaped-joins (quoted s ∷ cs) k = k
escaped-joins (unclosed s ∷ cs) k = k

inside-joins : (b : ℕ) (cs : List Content) → is_ascii b ≡ true → every content_is cs ≡ true → every content_is (join_inside b cs) ≡ true
unfolding every
inside-joins b [] h k = k
inside-joins b (run a n ∷ cs) h k = k
inside-joins b (quotes n ∷ cs) h k = k
inside-joins b (quoted s ∷ cs) h k = rw h k
inside-joins b (unclosed s ∷ cs) h k = rw h k

mutual
  unfolding outside inside every

  outside-ascii : (es : List Element) → every element_is es ≡ true → every content_is (outside es) ≡ true
  outside-ascii [] h = refl
  outside-ascii (byte b ∷ es) h =
      let t = both_true (is_ascii b) (every element_is es) h in
      byte-joins b (outside es) t.0 (outside-ascii es t.1)
  outside-ascii (escaped ∷ es) h = escaped-joins (outside es) (outside-ascii es h)
  outside-ascii (single ∷ es) h = inside-ascii es h

  inside-ascii : (es : List Element) → every element_is es ≡ true → every content_is (inside es) ≡ true
  inside-ascii [] h = refl
  inside-ascii (byte b ∷ es) h =
      let t = both_true (is_ascii b) (every element_is es) h in
      inside-joins b (inside es) t.0 (inside-ascii es t.1)
  inside-ascii (escaped ∷ es) h = inside-joins quote (inside es) refl (inside-ascii es h)
  inside-ascii (single ∷ es) h = outside-ascii es h

contents-ascii : (p : List ℕ) → Ascii p → every content_is (contents p) ≡ true
unfolding contents
contents-ascii p h = outside-ascii (elements p) (elements-ascii p h)

-- what a part writes

literal-ascii : (book : Book) (f : Fields) (s : List ℕ) (lost : Bool) → Ascii s → Ascii (step_text book f (literal s lost))
unfolding step_text
literal-ascii book f s false h = h
literal-ascii book f s true h = every_take is_ascii (length s - 1) s h

module _ (book : Book) (known : AsciiNames book) (f : Fields) where
  run-ascii : (r : Role) (b n : ℕ) → is_ascii b ≡ true → Ascii (step_text book f (run_step r b n))
  unfolding step_text
  run-ascii role.Literal b n h = every-again is_ascii n b h
  run-ascii (role.Symbol rule) b n h = rule-ascii book known f rule

  step-ascii : (pair : Pair) (c : Content) → content_is c ≡ true → Ascii (step_text book f (step_of pair c))
  unfolding step_of
  step-ascii pair (run b n) h = run-ascii (role_of pair b n) b n h
  step-ascii pair (quotes n) h = literal-ascii book f (replicate n quote) false (every-again is_ascii n quote refl)
  step-ascii pair (quoted s) h = literal-ascii book f s false h
  step-ascii pair (unclosed s) h = literal-ascii book f s (ends_in_quote s) h

  texts-ascii : (pair : Pair) (cs : List Content) → every content_is cs ≡ true → Ascii (texts book f (map (step_of pair) cs))
  unfolding texts every
  texts-ascii pair [] h = refl
  texts-ascii pair (c ∷ cs) h =
      let t = both_true (content_is c) (every content_is cs) h in
      every_append is_ascii (step_text book f (step_of pair c)) (texts book f (map (step_of pair) cs)) (step-ascii pair c t.0) (texts-ascii pair cs t.1)

  pub text-ascii : (pair : Pair) (p : List ℕ) → Ascii p → Ascii (text pair book p f)
  unfolding text steps
  text-ascii pair p h = texts-ascii pair (contents p) (contents-ascii p h)

-- "Written text is at most 8 bytes per pattern byte, so it always fits the text limit", and a read takes its bytes
pattern-ascii : (p : List ℕ) → pattern_check p ≡ Ok tt → Ascii p
pattern-ascii p h =
    every-weaker (within 1 127) is_ascii (λ b k. ascii-yes b (leb-true b 127 (both_true (leb 1 b) (leb b 127) k).1)) p (pattern-fine p h).bytes

pub written-checks : (book : Book) → AsciiNames book → Short book → (pair : Pair) (p : List ℕ) (f : Fields) → pattern_check p ≡ Ok tt → fields_check f ≡ Ok tt
    → text_check (text pair book p f) ≡ Ok tt
unfolding text_check
written-checks book known short pair p f h k =
    let s = text pair book p f in
    rw (le-leb (length s) 2048 (text-fits book short f pair p h k)) (within-bytes TextByte 0 127 0 s (text-ascii book known f pair p (pattern-ascii p h)))
