-- A group that is never there has no digit; any other is worth its number.
use mathlib.Core.Path.{◌≡◌, refl, sym, ◌∙◌}
use Prim.Native.Nat.{ℕ}
use Rattle.laws.proofs.Tests.{true-is-not-false}
use Rattle.laws.proofs.Zones.{group_value, zero-group}
use Rattle.meaning.specs.declared.Group.{Group}
use Rattle.meaning.specs.declared.Group.TheVariants.{Never, NotZero, Always}
use Rattle.format.proofs.zones.is_zero.Goals.{in-Never, in_default}
use Rattle.format.proofs.zones.is_zero.Goals as goal

worth : (g : Group) → (g ≡ Never → ⊥) → (n : ℕ) → group_value g n ≡ n
worth Never shown n = absurd (shown refl)
worth NotZero shown n = refl
worth Always shown n = refl

pub returns-then-matches : goal.returns-then-matches
returns-then-matches c =
    elim c.match-matches.branch [
      | in-Never w ↦ λ colon. rw (w.in-Never.is, c.if-matches.true) (sym (zero-group colon Never c.args.n))
      | in_default w ↦ true-is-not-false (sym c.if-matches.true ∙ w.matches-is)
    ]

pub returns-else-matches : goal.returns-else-matches
returns-else-matches c =
    elim c.match-matches.branch [
      | in-Never w ↦ true-is-not-false (sym w.matches-is ∙ c.if-matches.false)
      | in_default w ↦ λ colon. rw (zero-group, worth c.args.group w.in_default.not-Never)
    ]
