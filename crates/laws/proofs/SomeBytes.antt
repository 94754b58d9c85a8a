-- A part that carries a value took a byte at least: a number and a year have a digit, a zone has a sign, and a name has a letter where
-- no name of the book is empty.
use Rattle.std.specs.Prelude.{Option, Some, None}
use mathlib.Core.Bool.{Bool, true, false}
use mathlib.Core.List.{List, [], ◌∷◌}
use mathlib.Core.Path.{◌≡◌, refl}
use Prim.Native.Nat.{ℕ, zero, suc, ◌+◌, ◌-◌, ◌<◌}
use native.Mathlib.Omega.{arith}
use lib.Dec.{eqb, leb, ltb}
use lib.IntN.{ℤ}
use lib.ListN.{length, take, drop}
use borrow.Author.Tests.{leb-true}
use Rattle.meaning.specs.Bytes.{bytes}
use Rattle.meaning.specs.Names.{Book, english, names}
use Rattle.meaning.specs.Numerals.{number_of}
use Rattle.meaning.specs.Readers.{Got, got, stopped, Reader, behind, go_on, ◌>>=◌, done, skip, same, take_number, take_count, take_year, reach, begins, first_name, match_name, letters, zone_sign}
use Rattle.meaning.specs.Reading.{value, minus_first, year_length, zone_behind, zone_size, literal_read, most_read, taken_year, read_rule, read_step}
use Rattle.meaning.specs.Writing.{Step, literal, field, steps}
use Rattle.meaning.specs.declared.Carried.{Carried}
use Rattle.meaning.specs.declared.Choices.{Choices}
use Rattle.meaning.specs.declared.Edition.{Edition}
use Rattle.meaning.specs.declared.Numeral.{Numeral}
use Rattle.meaning.specs.declared.Numeral.TheVariants.{Count, Year}
use Rattle.meaning.specs.declared.Pair.{Pair}
use Rattle.meaning.specs.declared.ParseUnit.{ParseUnit}
use Rattle.meaning.specs.declared.Rule.{Rule}
use Rattle.meaning.specs.declared.Rule.TheVariants.{Number, SkippedNumber, LetterQuarter, SkippedName, MatchedName, Letters, Years, FixedYear, TwoDigitYear, Zone}
use Rattle.laws.proofs.OwnReaders.{takes-sign}
use Rattle.laws.proofs.Table.{table_passes, symbol_passes, step_passes, names_pass, steps-pass}
use Rattle.laws.proofs.Takes.{Takes, takes-number}
use Rattle.laws.proofs.Tests.{both_true, when-is, every}

-- where it goes on, it took some

abbrev TakesSome : {A : Type 0} → Got A → Type 0
TakesSome (got n a) = 0 < n
TakesSome (stopped why i) = Unit

some-taken : {A : Type 0} (k : ℕ) (g : Got A) → 0 < k → Takes k g → TakesSome g
some-taken k (got n a) h t = omega arith
some-taken k (stopped why i) h t = tt

some-behind : {A : Type 0} (n : ℕ) (g : Got A) → 0 < n → TakesSome (behind n g)
some-behind n (got m a) h = omega arith
some-behind n (stopped why i) h = tt

some-on : {A B : Type 0} (g : Got A) (next : A → Reader B) (s : List ℕ) → TakesSome g → TakesSome (go_on g next s)
some-on (got n a) next s h = some-behind n (next a (drop n s)) h
some-on (stopped why i) next s h = tt

-- no byte is no number
some_number : (kind : Numeral) (k : ℕ) (s : List ℕ) → TakesSome (take_number kind k s)
unfolding take_number number_of
some_number kind zero s = when-is (λ (g : Got _). TakesSome g) (ltb (length s) 0) (λ _. tt) (λ _. tt)
some_number kind (suc k) s = some-taken (suc k) (take_number kind (suc k) s) (omega arith) (takes-number kind (suc k) s)

some-count : (k : ℕ) (s : List ℕ) → TakesSome (take_count k s)
some-count k s = some-on (take_number Count k s) _ s (some_number Count k s)

some-year : (k : ℕ) (s : List ℕ) → TakesSome (take_year k s)
some-year k s = some-on (take_number Year k s) _ s (some_number Year k s)

abbrev pub is_name : List ℕ → Bool
is_name name = leb 1 (length name)

some-name : (i : ℕ) (names : List (List ℕ)) (s : List ℕ) → every is_name names ≡ true → TakesSome (first_name i names s)
unfolding first_name every
some-name i [] s h = tt
some-name i (name ∷ names) s h =
    let t = both_true (is_name name) (every is_name names) h in
    when-is (λ (g : Got ℕ). TakesSome g) (begins name s) (λ _. leb-true 1 (length name) t.0) (λ _. some-name (suc i) names s t.1)

-- where it carries a value, it took some

abbrev CarriesSome : Got (Option Carried) → Type 0
CarriesSome (got n None) = Unit
CarriesSome (got n (Some c)) = 0 < n
CarriesSome (stopped why i) = Unit

some-carries : (g : Got (Option Carried)) → TakesSome g → CarriesSome g
some-carries (got n None) h = tt
some-carries (got n (Some c)) h = h
some-carries (stopped why i) h = tt

carries-on : {A : Type 0} (g : Got A) (next : A → Reader (Option Carried)) (s : List ℕ) → TakesSome g → CarriesSome (go_on g next s)
carries-on g next s h = some-carries (go_on g next s) (some-on g next s h)

carries-nothing : {A : Type 0} (g : Got A) (s : List ℕ) → CarriesSome (go_on g (λ _. done None) s)
carries-nothing (got n a) s = tt
carries-nothing (stopped why i) s = tt

-- the names that a rule finds are none of them empty
abbrev pub some_names : Book → Rule → Bool
some_names book = names_pass (λ l. every is_name (names book l)) (λ l n. every is_name (names book l))

carries-year : (k : ℕ) (s : List ℕ) → CarriesSome (taken_year k s)
carries-year k s = carries-on (take_year k s) _ s (some-year k s)

carries-rule : (edition : Edition) (book : Book) (current : ℕ) (rule : Rule) → some_names book rule ≡ true → (s : List ℕ) → CarriesSome (read_rule edition book current rule s)
unfolding read_rule match_name letters
carries-rule edition book current (Number q least most u z) h s = let k = reach (most_read edition q most - least) least s in carries-on (take_count k s) _ s (some-count k s)
carries-rule edition book current (SkippedNumber q least most) h s = carries-nothing (skip (reach (most - least) least s) s) s
carries-rule edition book current LetterQuarter h s = carries-nothing (skip 2 s) s
carries-rule edition book current (SkippedName l n) h s = carries-nothing (skip n s) s
carries-rule edition book current (MatchedName l) h s = carries-on (match_name (names book l) s) _ s (some-name 0 (names book l) s h)
carries-rule edition book current (Letters l n) h s =
    carries-on (letters n (names book l) s) _ s
    (when-is (λ (g : Got ℕ). TakesSome g) (ltb (length s) n) (λ _. tt) (λ _. some-name 0 (names book l) (take n s) h))
carries-rule edition book current (Years k) h s = carries-year (year_length s) s
carries-rule edition book current (FixedYear k) h s = carries-year (minus_first s + k) s
carries-rule edition book current TwoDigitYear h s =
    when-is CarriesSome (eqb (minus_first s) 1) (λ _. carries-year 3 s) (λ _. carries-on (take_year 2 s) _ s (some-year 2 s))
carries-rule edition book current (Zone zone) h s =
    let rest = zone_behind (zone_size zone.colon zone.minutes zone.seconds) in
    carries-on ((zone_sign zone.utc >>= rest) s) _ s
    (some-on (zone_sign zone.utc s) rest s (some-taken 1 (zone_sign zone.utc s) (omega arith) (takes-sign zone.utc s)))

carries-literal : (strict : Bool) (w s : List ℕ) → CarriesSome (literal_read strict w s)
carries-literal true w s = carries-nothing (same w s) s
carries-literal false w s = carries-nothing (skip (length w) s) s

carries-step : (choices : Choices) (book : Book) (current : ℕ) (step : Step) → step_passes (some_names book) step ≡ true → (s : List ℕ)
    → CarriesSome (read_step choices book current step s)
unfolding read_step
carries-step choices book current (literal w lost) h s = carries-literal choices.strict w s
carries-step choices book current (field rule) h s = carries-rule choices.edition book current rule h s

pub carries-some : (choices : Choices) (book : Book) (current : ℕ) (step : Step) (s : List ℕ) → step_passes (some_names book) step ≡ true
    → {n : ℕ} {u : ParseUnit} {z : ℤ} → read_step choices book current step s ≡ got n (value u z) → 0 < n
carries-some choices book current step s h e = rw e at (carries-step choices book current step h s)

-- no name of a book that a part can find is empty
unfoldable pub names_there : Book → Bool
unfolding every names
names_there book = table_passes (symbol_passes (some_names book))

pub english-there : names_there english ≡ true
unfolding names_there english names bytes every
english-there = refl

pub names-there : (book : Book) → names_there book ≡ true → (pair : Pair) (p : List ℕ) → every (step_passes (some_names book)) (steps pair p) ≡ true
unfolding names_there
names-there book h = steps-pass (some_names book) (λ c. refl) h
