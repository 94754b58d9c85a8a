-- The rules of the table for the numbers that patterns have most.
use mathlib.Core.Path.{◌≡◌, refl}
use Prim.Native.Nat.{ℕ, zero, suc, ◌≤◌, ◌<◌}
use native.Mathlib.Omega.{arith}
use lib.Dec.{eqb}
use borrow.Author.Tests.{eqb-true}
use Rattle.laws.proofs.Tests.{by-test}
use Rattle.meaning.specs.Rules.{role_of, date_role, time_role, role_among, rule_of, pick, otherwise_rule}
use Rattle.meaning.specs.declared.Pair.{Pair}
use Rattle.meaning.specs.declared.Pair.TheVariants.{Full, Date}
use Rattle.meaning.specs.declared.Role.TheVariants.{Symbol}
use Rattle.rules.proofs.Laws.{is-date}
use Rattle.rules.specs.Letters.{is_among}
use Rattle.rules.specs.ShortRules.{short_time, short_of_pair, short_of, short_rule}
use Rattle.rules.specs.declared.short.Short.{Short}
use Rattle.rules.specs.declared.short.Short.TheVariants.{Month, Day, Hour, Minute, Second}
use Rattle.std.specs.Prelude.{Option, Some, None}

given : {a b : Short} → Some a ≡ Some b → a ≡ b
given h = cc

none-given : {A : Type 0} {number : Short} → ◌≡◌ {A = Option Short} None (Some number) → A
none-given h = absurd (let z : ◌≡◌ {A = ℕ} 0 1 = cc in omega arith)

-- what holds at one and at two
pub one-and-two : (P : ℕ → Type 0) → P 1 → P 2 → (c : ℕ) → 0 < c → c ≤ 2 → P c
one-and-two P one two zero some few = absurd (omega arith)
one-and-two P one two (suc zero) some few = one
one-and-two P one two (suc (suc zero)) some few = two
one-and-two P one two (suc (suc (suc c))) some few = absurd (omega arith)

short-time : (b c : ℕ) {number : Short} → 0 < c → c ≤ 2 → short_time b ≡ Some number → role_of Full b c ≡ Symbol (short_rule number c)
unfolding role_of date_role time_role role_among rule_of pick otherwise_rule
short-time b c some few h =
    by-test (eqb b 72) (λ e. rw (eqb-true b 72 e, ← given (rw e at h)) (one-and-two (λ k. role_of Full 72 k ≡ Symbol (short_rule Hour k)) refl refl c some few))
    (λ e. by-test (eqb b 109) (λ e'. rw (eqb-true b 109 e', ← given (rw (e, e') at h)) (one-and-two (λ k. role_of Full 109 k ≡ Symbol (short_rule Minute k)) refl refl c some few))
    (λ e'. by-test (eqb b 115)
    (λ e''. rw (eqb-true b 115 e'', ← given (rw (e, e', e'') at h)) (one-and-two (λ k. role_of Full 115 k ≡ Symbol (short_rule Second k)) refl refl c some few))
    (λ e''. none-given (rw (e, e', e'') at h))))

short-of-pair : (pair : Pair) (b c : ℕ) {number : Short} → 0 < c → c ≤ 2 → short_of_pair pair b ≡ Some number
    → role_of pair b c ≡ Symbol (short_rule number c)
short-of-pair Full b c some few h = short-time b c some few h
short-of-pair Date b c some few h = none-given h

pub short-role : (pair : Pair) (b c : ℕ) {number : Short} → 0 < c → c ≤ 2 → short_of pair b ≡ Some number → role_of pair b c ≡ Symbol (short_rule number c)
unfolding short_of is_among date_role role_among rule_of pick otherwise_rule
short-role pair b c some few h =
    by-test (eqb b 77)
    (λ e. rw (eqb-true b 77 e, ← given (rw e at h))
    (one-and-two (λ k. role_of pair 77 k ≡ Symbol (short_rule Month k)) (is-date pair 77 1 refl) (is-date pair 77 2 refl) c some few))
    (λ e. by-test (eqb b 100)
    (λ e'. rw (eqb-true b 100 e', ← given (rw (e, e') at h))
    (one-and-two (λ k. role_of pair 100 k ≡ Symbol (short_rule Day k)) (is-date pair 100 1 refl) (is-date pair 100 2 refl) c some few))
    (λ e'. short-of-pair pair b c some few (rw (e, e') at h)))
