-- The undoing of the changes that a row holds, where it holds some and there is room for the answer.
use borrow.Author.Tests.{le-leb, lt-leb}
use lib.ListN.{length}
use mathlib.Core.Path.{refl, sym, ◌∙◌}
use native.Mathlib.Omega.{arith}
use Rattle.sheet.proofs.MendFits.{undo-fits}
use borrow.Author.Rules.{rules}
use Rattle.sheet.proofs.mends.sheet_undo.Goals as goal

pub returns-then-answer-lt2 : goal.returns-then-answer-lt2
returns-then-answer-lt2 c =
    let a = c.args in
    rw (lt-leb 2 (length a.answer.now) (omega arith)) (record { number = refl; row = refl }, refl)

pub returns-then-changes-gt512 : goal.returns-then-changes-gt512
returns-then-changes-gt512 c =
    let a = c.args in
    rw (le-leb 2 (length a.answer.now) (omega arith), lt-leb (length a.changes.now) 512 (omega arith)) (record { number = refl; row = refl }, refl)

pub returns-then-not-are_changes : goal.returns-then-not-are_changes
returns-then-not-are_changes c =
    let a = c.args in
    let none = sym c.are_changes.ensures ∙ c.if-not-are_changes.true in
    rw (le-leb 2 (length a.answer.now) (omega arith), le-leb (length a.changes.now) 512 (omega arith), none) (record { number = refl; row = refl }, refl)

pub changes_held-requires : goal.changes_held-requires
changes_held-requires c = (omega arith, sym c.are_changes.ensures ∙ c.if-not-are_changes.false)

pub give_undone-requires : goal.give_undone-requires
give_undone-requires c =
    let u = c in
    let s = u in
    let a = s.args in
    (search rules, rw u.undo.ensures.0 (undo-fits a.pattern.now _ a.out.now (omega arith)))

pub returns : goal.returns
returns c =
    let u = c in
    let held = u in
    let e = held in
    let a = e.args in
    let some = sym e.are_changes.ensures ∙ e.if-not-are_changes.false in
    let undone = rw held.changes_held.ensures at u.undo.ensures in
    rw (le-leb 2 (length a.answer.now) (omega arith), le-leb (length a.changes.now) 512 (omega arith), some, ← undone.0) (c.give_undone.ensures, undone.1)
