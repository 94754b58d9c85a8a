-- The kinds of step that are chosen without a look at the table are its rows.
use mathlib.Core.Path.{◌≡◌, refl}
use Prim.Native.Nat.{ℕ, ◌<◌}
use native.Mathlib.Omega.{arith}
use lib.Dec.{eqb}
use borrow.Author.Tests.{ne_eqb, eqb-true, eqb-false, lt-leb}
use Rattle.laws.proofs.Tests.{by-test}
use Rattle.meaning.specs.Rules.{role_of, date_role, role_among, rule_of, pick, otherwise_rule}
use Rattle.meaning.specs.declared.NameList.TheVariants.{MonthAbbreviated, MonthWide, WdayWide}
use Rattle.meaning.specs.declared.Pair.{Pair}
use Rattle.meaning.specs.declared.Role.TheVariants.{Symbol}
use Rattle.meaning.specs.declared.Rule.TheVariants.{MatchedName}
use Rattle.rules.proofs.Laws.{is-date}
use Rattle.rules.specs.Letters.{is_among}
use Rattle.rules.specs.Steps.{long_year}

pub year-row : (pair : Pair) (c : ℕ) → 2 < c → role_of pair 121 c ≡ Symbol (long_year c)
unfolding date_role role_among rule_of pick otherwise_rule is_among
year-row pair c long =
    rw (is-date pair 121 c refl, ne_eqb c 2 (λ e. omega (arith, e)), ne_eqb c 1 (λ e. omega (arith, e)))
    (by-test (eqb c 3) (λ e. rw (e, eqb-true c 3 e))
    (λ e. rw e (by-test (eqb c 4) (λ e'. rw (e', eqb-true c 4 e'))
    (λ e'. rw (e', lt-leb c 4 (omega (arith, eqb-false c 3 e, eqb-false c 4 e')))))))

pub month-abbreviated-row : (pair : Pair) → role_of pair 77 3 ≡ Symbol (MatchedName MonthAbbreviated)
unfolding date_role role_among rule_of pick otherwise_rule is_among
month-abbreviated-row pair = is-date pair 77 3 refl

pub month-wide-row : (pair : Pair) → role_of pair 77 4 ≡ Symbol (MatchedName MonthWide)
unfolding date_role role_among rule_of pick otherwise_rule is_among
month-wide-row pair = is-date pair 77 4 refl

pub weekday-wide-row : (pair : Pair) → role_of pair 101 4 ≡ Symbol (MatchedName WdayWide)
unfolding date_role role_among rule_of pick otherwise_rule is_among
weekday-wide-row pair = is-date pair 101 4 refl
