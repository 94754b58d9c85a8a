-- What the check finds of the part that it is asked about.
use lib.ListN.{get_or}
use mathlib.Core.Path.{sym, ap, ◌∙◌}
use native.Mathlib.Omega.{arith}
use Rattle.mending.proofs.parts.Laws.{passed-less, spaces_of, gap-found}
use Rattle.mending.proofs.parts.spaces_behind.Goals as goal

pub overflow_add-from : goal.overflow_add-from
overflow_add-from c =
    let s = c in
    let a = s.args in
    let less = passed-less (get_or a.pattern.now a.part.start 0) a.part.length s.requires.some in
    omega (arith, c.passed_over.ensures, less, s.requires.fits)

pub returns-in-None : goal.returns-in-None
returns-in-None c =
    let s = c in
    let passed = c.passed_over in
    let unmet = c.first_unmet in
    let gap = gap-found s.args.edition s.requires passed.result passed.ensures unmet.result unmet.ensures in
    sym (gap ∙ ap spaces_of c.in-None.is)

pub returns-in-Some : goal.returns-in-Some
returns-in-Some c =
    let s = c in
    let passed = c.passed_over in
    let unmet = c.first_unmet in
    let gap = gap-found s.args.edition s.requires passed.result passed.ensures unmet.result unmet.ensures in
    c.spaces_for.ensures ∙ sym (gap ∙ ap spaces_of c.in-Some.is)
