-- How the short numbers and the long years begin, for the code that asks a step for no rule.
use mathlib.Core.Bool.{Bool, true}
use mathlib.Core.Path.{◌≡◌, refl}
use Prim.Native.Nat.{ℕ}
use lib.Dec.{ltb, leb}
use Rattle.laws.proofs.Tests.{by-test}
use Rattle.laws.specs.Widths.{most_digits}
use Rattle.rules.specs.ShortRules.{short_quantity, short_rule}
use Rattle.rules.specs.Steps.{long_year}
use Rattle.rules.specs.declared.short.Short.{Short}
use Rattle.rules.specs.declared.short.Short.TheVariants.{Month, Day, Hour, Minute, Second}
use Rattle.trust.specs.Ahead.{rule_first, rule_second}

two_digits : (number : Short) → most_digits (short_quantity number) ≡ 2
unfolding most_digits
two_digits Month = refl
two_digits Day = refl
two_digits Hour = refl
two_digits Minute = refl
two_digits Second = refl

pub short_second : (number : Short) (c : ℕ) (behind : Bool) → rule_second (short_rule number c) behind ≡ true
unfolding rule_second
short_second number c behind = rw (two_digits number) (by-test (ltb c 2) (λ e. rw e) (λ e. rw e))

pub year_first : (c : ℕ) → rule_first (long_year c) ≡ true
unfolding rule_first
year_first c = by-test (leb c 4) (λ e. rw e) (λ e. rw e)

pub year_second : (c : ℕ) (behind : Bool) → rule_second (long_year c) behind ≡ true
unfolding rule_second
year_second c behind = by-test (leb c 4) (λ e. rw e) (λ e. rw e)
