-- Each way to find a role, by its law.
use mathlib.Core.Path.{sym, ◌∙◌}
use native.Mathlib.Omega.{arith}
use Rattle.rules.proofs.Laws.{below-letters, is-date, date-is-literal, full-is-time}
use Rattle.rules.proofs.role_of.Goals as goal

pub returns-then-symbol-lt65 : goal.returns-then-symbol-lt65
returns-then-symbol-lt65 c =
    let a = c.args in
    sym (below-letters a.pair a.symbol a.count (omega (arith, c.if-symbol-lt65.true)))

pub returns-then-is_date_symbol : goal.returns-then-is_date_symbol
returns-then-is_date_symbol c =
    let a = c.args in
    let date = sym c.is_date_symbol.ensures ∙ c.if-is_date_symbol.true in
    c.date_role.ensures ∙ sym (is-date a.pair a.symbol a.count date)

pub returns-in-Date : goal.returns-in-Date
returns-in-Date c =
    let a = c.args in
    let no-date = sym c.is_date_symbol.ensures ∙ c.if-is_date_symbol.false in
    rw c.in-Date.is (sym (date-is-literal a.symbol a.count no-date))

pub returns-in-Full : goal.returns-in-Full
returns-in-Full c =
    let a = c.args in
    let no-date = sym c.is_date_symbol.ensures ∙ c.if-is_date_symbol.false in
    rw c.in-Full.is (c.time_role.ensures ∙ sym (full-is-time a.symbol a.count no-date))
