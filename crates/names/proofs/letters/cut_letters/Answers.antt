-- The shorter of the name and the most letters.
use mathlib.Core.Path.{sym, ap, ◌∙◌}
use native.Mathlib.Omega.{arith}
use lib.ListN.{take, length-take}
use lib.Seq.{take_all, take-take}
use Rattle.names.specs.Letters.{letters_of, spelled_by}
use Rattle.names.proofs.letters.cut_letters.Goals as goal

pub returns-then-spelt-most : goal.returns-then-spelt-most
returns-then-spelt-most c =
    let s = c.letters_of-spelt.result in
    (sym (take_all c.args.most (spelled_by s) (rw length-take (omega arith))) ∙ ap (take c.args.most) c.letters_of-spelt.ensures.0, c.letters_of-spelt.ensures.1)

pub returns : goal.returns
returns c =
    let s = c.letters_of-spelt.result in
    (sym (take-take _ s.length (letters_of s) c.if-spelt-most.false) ∙ ap (take c.args.most) c.letters_of-spelt.ensures.0, omega arith)
