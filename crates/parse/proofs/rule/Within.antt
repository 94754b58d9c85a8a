-- No reader takes more than there is, and none stops behind it: a year, a name, a rule, a part.
use Rattle.std.specs.Prelude.{Option}
use mathlib.Core.Bool.{Bool, true, false}
use mathlib.Core.List.{List, [], ◌∷◌}
use mathlib.Core.Path.{◌≡◌, refl}
use Prim.Native.Nat.{ℕ, suc, ◌+◌, ◌-◌, ◌≤◌}
use native.Mathlib.Omega.{arith}
use lib.Dec.{eqb, ltb}
use lib.ListN.{length, take, length-take}
use borrow.Author.Tests.{ltb-false}
use Rattle.laws.proofs.Readers.{same_byte, other_byte}
use Rattle.laws.proofs.Tests.{by-test, when-is}
use Rattle.meaning.specs.Names.{Book, names}
use Rattle.meaning.specs.Readers.{Got, got, stopped, ◌>>=◌, skip, first_differing, same_by, same, take_number, take_count, take_year, reach, match_name, letters, zone_sign}
use Rattle.meaning.specs.Reading.{literal_read, most_read, read_rule, read_step, passed, taken_year, minus_first, zone_behind, zone_size}
use Rattle.meaning.specs.Writing.{Step, literal, field}
use Rattle.meaning.specs.declared.Carried.{Carried}
use Rattle.meaning.specs.declared.Choices.{Choices}
use Rattle.meaning.specs.declared.Edition.{Edition}
use Rattle.meaning.specs.declared.Rule.{Rule}
use Rattle.meaning.specs.declared.Rule.TheVariants.{Number, SkippedNumber, LetterQuarter, SkippedName, MatchedName, Letters, Years, FixedYear, TwoDigitYear, Zone}
use Rattle.meaning.specs.declared.Trouble.TheVariants.{NoName}
use Rattle.parse.proofs.steps.Within.{Within, within_on, within-skip, within-take, within_count}
use Rattle.names.proofs.tables.Answers.{found_within, found_nothing}
use Rattle.parse.proofs.zones.Within.{within-sign, within-zone}

within-year : (k : ℕ) (s : List ℕ) → Within (length s) (take_year k s)
within-year k s = within_on (take_number _ k s) _ s (within-take _ k s) (λ n t. omega arith)

known-within : (l : List (List ℕ)) (s : List ℕ) (g : Got ℕ) → match_name l s ≡ g → Within (length s) g
known-within l s (got n i) e = (found_within l s e).1
known-within l s (stopped why i) e =
    let none : match_name l s ≡ stopped NoName 0 = found_nothing l s (rw e) in
    let start : i ≡ 0 = cc in
    omega arith

within-match : (l : List (List ℕ)) (s : List ℕ) → Within (length s) (match_name l s)
within-match l s = known-within l s (match_name l s) refl

wider : {A : Type 0} (g : Got A) (room more : ℕ) → room ≤ more → Within room g → Within more g
wider (got n a) room more h k = omega arith
wider (stopped why i) room more h k = omega arith

within-letters : (k : ℕ) (l : List (List ℕ)) (s : List ℕ) → Within (length s) (letters k l s)
unfolding letters match_name
within-letters k l s =
    when-is (λ (g : Got ℕ). Within (length s) g) (ltb (length s) k) (λ _. omega arith)
    (λ _. wider (match_name l (take k s)) (length (take k s)) (length s) (omega (arith, length-take k s)) (within-match l (take k s)))

-- a rule, a part

within-passed : (k : ℕ) (s : List ℕ) → Within (length s) (passed k s)
within-passed k s = within_on (skip k s) _ s (within-skip k s) (λ _ t. omega arith)

within-full-year : (k : ℕ) (s : List ℕ) → Within (length s) (taken_year k s)
within-full-year k s = within_on (take_year k s) _ s (within-year k s) (λ z t. omega arith)

within-rule : (edition : Edition) (book : Book) (current : ℕ) (rule : Rule) (s : List ℕ) → Within (length s) (read_rule edition book current rule s)
unfolding read_rule
within-rule edition book current (Number q least most u z) s =
    let k = reach (most_read edition q most - least) least s in within_on (take_count k s) _ s (within_count k s) (λ n t. omega arith)
within-rule edition book current (SkippedNumber q least most) s = within-passed _ s
within-rule edition book current LetterQuarter s = within-passed 2 s
within-rule edition book current (SkippedName l n) s = within-passed n s
within-rule edition book current (MatchedName l) s =
    within_on (match_name (names book l) s) _ s (within-match (names book l) s) (λ i t. omega arith)
within-rule edition book current (Letters l n) s =
    within_on (letters n (names book l) s) _ s (within-letters n (names book l) s) (λ i t. omega arith)
within-rule edition book current (Years k) s = within-full-year _ s
within-rule edition book current (FixedYear k) s = within-full-year _ s
within-rule edition book current TwoDigitYear s =
    when-is (λ (g : Got (Option Carried)). Within (length s) g) (eqb (minus_first s) 1) (λ _. within-full-year 3 s)
    (λ _. within_on (take_year 2 s) _ s (within-year 2 s) (λ z t. omega arith))
within-rule edition book current (Zone zone) s =
    within_on ((zone_sign zone.utc >>= zone_behind (zone_size zone.colon zone.minutes zone.seconds)) s) _ s
    (within_on (zone_sign zone.utc s) _ s (within-sign zone.utc s) (λ g t. within-zone zone.colon zone.minutes zone.seconds g t)) (λ o t. omega arith)

-- a difference lies in the literal, and the literal in the text
within-differing : (k room : ℕ) → k ≤ room → (i : ℕ) (w s : List ℕ) → i + length w ≤ k → Within room (same_by k (first_differing i w s))
unfolding first_differing
within-differing k room fits i [] s h = fits
within-differing k room fits i (a ∷ w) [] h = omega arith
within-differing k room fits i (a ∷ w) (b ∷ s) h =
    by-test (eqb a b) (λ e. rw (same_byte i a w b s e) (within-differing k room fits (suc i) w s (omega arith)))
    (λ e. rw (other_byte i a w b s e) (omega arith))

within_same : (w s : List ℕ) → Within (length s) (same w s)
unfolding same
within_same w s =
    when-is (λ (g : Got Unit). Within (length s) g) (ltb (length s) (length w)) (λ _. omega arith)
    (λ e. within-differing (length w) (length s) (ltb-false (length s) (length w) e) 0 w s (omega arith))

within-literal : (strict : Bool) (w s : List ℕ) → Within (length s) (literal_read strict w s)
within-literal true w s = within_on (same w s) _ s (within_same w s) (λ _ t. omega arith)
within-literal false w s = within-passed (length w) s

pub within_step : (choices : Choices) (book : Book) (current : ℕ) (step : Step) (s : List ℕ) → Within (length s) (read_step choices book current step s)
unfolding read_step
within_step choices book current (literal w lost) s = within-literal choices.strict w s
within_step choices book current (field rule) s = within-rule choices.edition book current rule s
