-- One law for the symbols that write one digit or two, and one for the numbers that the second edition reads as the first does.
use mathlib.Core.List.{List, [], ◌∷◌}
use mathlib.Core.Path.{◌≡◌, refl}
use Prim.Native.Nat.{ℕ}
use denote.Enum.Declared.{tag_of}
use lib.Dec.{eqb}
use types.Run.{OneOf, miss}
use Rattle.laws.proofs.Tests.{by-test}
use Rattle.meaning.specs.Bytes.{when}
use Rattle.meaning.specs.contracts.Quantity.{the_type}
use Rattle.meaning.specs.Reading.{most_read}
use Rattle.meaning.specs.Rules.{one_or_two, rule_of, pick, otherwise_rule}
use Rattle.meaning.specs.declared.Edition.TheVariants as edition
use Rattle.meaning.specs.declared.Quantity.{Quantity}
use Rattle.meaning.specs.declared.Quantity.TheVariants.{Month, Quarter, Week, Day, DayOfYear, Weekday, WeekdayFromMonday, Hour1To12, Hour0To11, Hour0To23, Hour1To24, Minute, Second, Fraction}
use Rattle.meaning.specs.declared.Rule.{Rule}

pub one-or-two-rule : (letter : ℕ) (rule : ℕ → Rule) (c : ℕ) → rule (when (eqb c 1) 1 2) ≡ rule_of (one_or_two letter rule) c
unfolding rule_of pick otherwise_rule
one-or-two-rule letter rule c = by-test (eqb c 1) (λ e. rw e) (λ e. rw e)

-- the quantities but the month
abbrev others : List ℕ
others = 1 ∷ 2 ∷ 3 ∷ 4 ∷ 5 ∷ 6 ∷ 7 ∷ 8 ∷ 9 ∷ 10 ∷ 11 ∷ 12 ∷ 13 ∷ []

pub read-as-ruled : (q : Quantity) (most : ℕ) → OneOf others (tag_of the_type q) → most_read edition.Second q most ≡ most
unfolding most_read
read-as-ruled Month most h = absurd (miss others 0 tt h)
read-as-ruled Quarter most h = refl
read-as-ruled Week most h = refl
read-as-ruled Day most h = refl
read-as-ruled DayOfYear most h = refl
read-as-ruled Weekday most h = refl
read-as-ruled WeekdayFromMonday most h = refl
read-as-ruled Hour1To12 most h = refl
read-as-ruled Hour0To11 most h = refl
read-as-ruled Hour0To23 most h = refl
read-as-ruled Hour1To24 most h = refl
read-as-ruled Minute most h = refl
read-as-ruled Second most h = refl
read-as-ruled (Fraction k) most h = refl

-- the same, where it is known to be no month
pub as-ruled-unless-month : (q : Quantity) (most : ℕ) → (q ≡ Month → ⊥) → most_read edition.Second q most ≡ most
unfolding most_read
as-ruled-unless-month Month most h = absurd (h refl)
as-ruled-unless-month Quarter most h = refl
as-ruled-unless-month Week most h = refl
as-ruled-unless-month Day most h = refl
as-ruled-unless-month DayOfYear most h = refl
as-ruled-unless-month Weekday most h = refl
as-ruled-unless-month WeekdayFromMonday most h = refl
as-ruled-unless-month Hour1To12 most h = refl
as-ruled-unless-month Hour0To11 most h = refl
as-ruled-unless-month Hour0To23 most h = refl
as-ruled-unless-month Hour1To24 most h = refl
as-ruled-unless-month Minute most h = refl
as-ruled-unless-month Second most h = refl
as-ruled-unless-month (Fraction k) most h = refl
