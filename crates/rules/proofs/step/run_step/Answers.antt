-- Each kind of run is its row of the table.
use mathlib.Core.Path.{sym, ◌∙◌}
use native.Mathlib.Omega.{arith}
use Rattle.rules.proofs.Laws.{below-letters}
use Rattle.rules.proofs.short.ShortRules.{short-role}
use Rattle.rules.proofs.step.Rows.{year-row, month-abbreviated-row, month-wide-row, weekday-wide-row}
use Rattle.rules.proofs.step.run_step.Goals as goal

pub returns-then-b-lt65 : goal.returns-then-b-lt65
returns-then-b-lt65 c =
    let a = c.args in
    record { meant = λ p. rw (below-letters a.pair a.b a.count (omega (arith, c.if-b-lt65.true))); held = λ p. c.requires }

pub returns-in-Some : goal.returns-in-Some
returns-in-Some c =
    let s = c in
    let a = s.args in
    let few = c.if-count-lt3.true in
    record {
      meant = λ p. rw (short-role a.pair a.b a.count s.requires (omega (arith, few)) (sym c.short_of.ensures ∙ c.in-Some.is));
      held = λ p. (s.requires, omega (arith, few));
    }

pub returns-then-b-eq121 : goal.returns-then-b-eq121
returns-then-b-eq121 c =
    let a = c.args in
    let long = c.if-count-lt3.false in
    record {
      meant = λ p. rw (c.if-b-eq121.true, year-row a.pair a.count (omega (arith, long)));
      held = λ p. tt;
    }

pub returns-then-b-eq77 : goal.returns-then-b-eq77
returns-then-b-eq77 c =
    record {
      meant = λ p. rw (c.if-b-eq77.true, c.if-count-eq3.true, month-abbreviated-row c.args.pair);
      held = λ p. tt;
    }

pub returns-then-b-eq77-2 : goal.returns-then-b-eq77-2
returns-then-b-eq77-2 c =
    record {
      meant = λ p. rw (c.if-b-eq77-2.true, c.if-count-eq4.true, month-wide-row c.args.pair);
      held = λ p. tt;
    }

pub returns-then-b-eq101 : goal.returns-then-b-eq101
returns-then-b-eq101 c =
    record {
      meant = λ p. rw (c.if-b-eq101.true, c.if-count-eq4.true, weekday-wide-row c.args.pair);
      held = λ p. tt;
    }

pub returns : goal.returns
returns c = record { meant = λ p. rw c.role_of.ensures; held = λ p. c.requires }
