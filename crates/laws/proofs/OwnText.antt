-- A part reads the same from its own text: where the text is cut behind what the part took of it, it takes the same and carries the
-- same. So what it took is all that it needed.
use Rattle.std.specs.Prelude.{Option, None}
use mathlib.Core.Bool.{Bool, true, false}
use mathlib.Core.List.{List, [], ◌∷◌}
use mathlib.Core.Path.{◌≡◌, refl, sym, ◌∙◌}
use Prim.Native.Nat.{ℕ, ◌+◌, ◌-◌, ◌≤◌}
use native.Mathlib.Omega.{arith}
use lib.Dec.{eqb}
use lib.IntN.{pos}
use lib.ListN.{length, take}
use Rattle.meaning.specs.Bytes.{when, bytes, digit_at, minus}
use Rattle.meaning.specs.Names.{Book, names}
use Rattle.meaning.specs.Numerals.{integer}
use Rattle.meaning.specs.Readers.{got, ◌>>=◌, done, skip, same, take_number, take_count, take_year, reach, match_name, letters, ZoneSign, utc, ahead, behind_utc, zone_sign}
use Rattle.meaning.specs.Reading.{value, name_carries, minus_first, year_length, year, two_digits_mean, most_read, colon_length, zone_behind, zero_for, passed, literal_read, taken_year, take_group, zone_group, zone_size_with, zone_size, taken_unit, read_rule, read_step}
use Rattle.meaning.specs.Writing.{Step, literal, field, steps}
use Rattle.meaning.specs.declared.Carried.{Carried}
use Rattle.meaning.specs.declared.Choices.{Choices}
use Rattle.meaning.specs.declared.Edition.{Edition}
use Rattle.meaning.specs.declared.Group.{Group}
use Rattle.meaning.specs.declared.Group.TheVariants.{Never, NotZero, Always}
use Rattle.meaning.specs.declared.Numeral.TheVariants.{Count, Year}
use Rattle.meaning.specs.declared.Pair.{Pair}
use Rattle.meaning.specs.declared.ParseUnit.{ParseUnit}
use Rattle.meaning.specs.declared.Rule.{Rule}
use Rattle.meaning.specs.declared.Rule.TheVariants.{Number, SkippedNumber, LetterQuarter, SkippedName, MatchedName, Letters, Years, FixedYear, TwoDigitYear, Zone}
use Rattle.laws.proofs.OwnReaders.{OwnText, Own, own-both, own-nothing, own-done, own-skip, own-number, own_same, own-letters, own_sign, own_first, own-chosen, own-when, digit-kept, no-digit-cut, reach-cut, minus-cut, year-cut}
use Rattle.laws.proofs.Table.{table_passes, symbol_passes, step_passes, names_pass, steps-pass}
use Rattle.laws.proofs.Takes.{takes-done, takes-unit, takes-year, takes-full-year, takes-passed, takes-group}
use Rattle.laws.proofs.Tests.{by-test, every}

-- numbers and years, of k bytes

own-count : (k : ℕ) → Own (take_count k)
own-count k = own-done (take_number Count k) (λ n. n.size) (own-number Count k)

own-unit : (u : ParseUnit) (z k : ℕ) → Own (taken_unit u z k)
own-unit u z k = own-done (take_count k) (λ n. value u (pos (zero_for z n))) (own-count k)

own-passed : (k : ℕ) → Own (passed k)
own-passed k = own-done (skip k) (λ _. None) (own-skip k)

own-year : (k : ℕ) → Own (take_year k)
own-year k = own-done (take_number Year k) integer (own-number Year k)

own-full-year : (k : ℕ) → Own (taken_year k)
own-full-year k = own-done (take_year k) year (own-year k)

minus_one : (s : List ℕ) → minus_first s ≤ 1
minus_one [] = omega arith
minus_one (b ∷ s) = by-test (eqb b minus) (λ e. rw e (omega arith)) (λ e. rw e (omega arith))

two-digit-cut : (s : List ℕ) (m : ℕ) → when (eqb (minus_first s) 1) 3 2 ≤ m → eqb (minus_first (take m s)) 1 ≡ eqb (minus_first s) 1
two-digit-cut s m h =
    let some' : 1 ≤ m = by-test (eqb (minus_first s) 1) (λ e. omega (arith, rw e at h)) (λ e. omega (arith, rw e at h)) in
    rw (minus-cut s m (omega (arith, minus_one s)))

-- zones

own-taken-group : (c : Bool) → Own (take_group c)
own-taken-group c = own-both (skip (colon_length c)) (λ _. take_count 2) (own-skip (colon_length c)) (λ _. own-count 2)

digit-cut : (i : ℕ) (s : List ℕ) (m : ℕ) → when (digit_at i s) (i + 2) 0 ≤ m → digit_at i (take m s) ≡ digit_at i s
digit-cut i s m h =
    by-test (digit_at i s) (λ e. digit-kept i m s (omega (arith, rw e at h))) (λ e. no-digit-cut i m s e ∙ sym e)

own-group : (c : Bool) (g : Group) → Own (zone_group c g)
own-group c Never = own-nothing 0
own-group c NotZero =
    own-when (digit_at (colon_length c)) (take_group c) (done 0) (colon_length c + 2) 0 (own-taken-group c) (own-nothing 0) (takes-group c) (λ s. refl)
    (digit-cut (colon_length c))
own-group c Always = own-taken-group c

own-size : (c : Bool) (minutes seconds : Group) → Own (zone_size c minutes seconds)
unfolding zone_size_with
own-size c minutes seconds =
    own-both (take_count 2) _ (own-count 2)
    (λ hh. own-both (zone_group c minutes) _ (own-group c minutes) (λ mm. own-done (zone_group c seconds) _ (own-group c seconds)))

own-behind-sign : (c : Bool) (minutes seconds : Group) (z : ZoneSign) → Own (zone_behind (zone_size c minutes seconds) z)
own-behind-sign c minutes seconds utc = own-nothing (pos 0)
own-behind-sign c minutes seconds ahead = own-done (zone_size c minutes seconds) _ (own-size c minutes seconds)
own-behind-sign c minutes seconds behind_utc = own-done (zone_size c minutes seconds) _ (own-size c minutes seconds)

-- rules and parts. Of so many letters each name of the list has just so many, as in the table: a shorter one would be taken alone, yet
-- not be read where it stands alone.

abbrev pub whole_letters : Book → Rule → Bool
whole_letters book = names_pass (λ l. true) (λ l n. every (λ name. eqb (length name) n) (names book l))

own-match : (names : List (List ℕ)) → Own (match_name names)
unfolding match_name
own-match names = own_first 0 names

own-rule : (edition : Edition) (book : Book) (current : ℕ) (rule : Rule) → whole_letters book rule ≡ true → Own (read_rule edition book current rule)
unfolding read_rule
own-rule edition book current (Number q least most u z) h =
    let more = most_read edition q most - least in
    own-chosen (reach more least) (taken_unit u z) (λ k. k) (own-unit u z) (takes-unit u z) (reach-cut more least)
own-rule edition book current (SkippedNumber q least most) h =
    own-chosen (reach (most - least) least) passed (λ k. k) own-passed takes-passed (reach-cut (most - least) least)
own-rule edition book current LetterQuarter h = own-passed 2
own-rule edition book current (SkippedName l n) h = own-passed n
own-rule edition book current (MatchedName l) h = own-done (match_name (names book l)) (name_carries l) (own-match (names book l))
own-rule edition book current (Letters l n) h = own-done (letters n (names book l)) (name_carries l) (own-letters n (names book l) h)
own-rule edition book current (Years k) h = own-chosen year_length taken_year (λ n. n) own-full-year takes-full-year year-cut
own-rule edition book current (FixedYear k) h =
    own-chosen minus_first (λ i. taken_year (i + k)) (λ i. i + k) (λ i. own-full-year (i + k)) (λ i. takes-full-year (i + k))
    (λ s m l. minus-cut s m (omega arith))
own-rule edition book current TwoDigitYear h =
    own-when (λ s. eqb (minus_first s) 1) (taken_year 3) (take_year 2 >>= λ z. done (year (two_digits_mean edition current z))) 3 2 (own-full-year 3)
    (own-done (take_year 2) _ (own-year 2)) (takes-full-year 3) (λ s. takes-done 2 (take_year 2) _ s (takes-year 2 s))
    two-digit-cut
own-rule edition book current (Zone zone) h =
    let size = zone_size zone.colon zone.minutes zone.seconds in
    own-done (zone_sign zone.utc >>= zone_behind size) _
    (own-both (zone_sign zone.utc) (zone_behind size) (own_sign zone.utc) (own-behind-sign zone.colon zone.minutes zone.seconds))

own-literal : (strict : Bool) (w : List ℕ) → Own (literal_read strict w)
own-literal true w = own-done (same w) (λ _. None) (own_same w)
own-literal false w = own-passed (length w)

own-step : (choices : Choices) (book : Book) (current : ℕ) (step : Step) → step_passes (whole_letters book) step ≡ true
    → Own (read_step choices book current step)
unfolding read_step
own-step choices book current (literal w lost) h = own-literal choices.strict w
own-step choices book current (field rule) h = own-rule choices.edition book current rule h

pub own-text : (choices : Choices) (book : Book) (current : ℕ) (step : Step) (s : List ℕ) → step_passes (whole_letters book) step ≡ true
    → {n : ℕ} {c : Option Carried} → read_step choices book current step s ≡ got n c
    → (n ≤ length s) × (read_step choices book current step (take n s) ≡ got n c)
own-text choices book current step s h {n} {c} e =
    let o : OwnText (read_step choices book current step) s (got n c) = rw e at (own-step choices book current step h s) in
    (o.0, o.1 n (omega arith))

table-whole : (book : Book) → table_passes (symbol_passes (whole_letters book)) ≡ true
unfolding every names bytes
table-whole book = refl

-- every part of a pattern is such a part
pub letters-whole : (book : Book) (pair : Pair) (p : List ℕ) → every (step_passes (whole_letters book)) (steps pair p) ≡ true
letters-whole book = steps-pass (whole_letters book) (λ c. refl) (table-whole book)
