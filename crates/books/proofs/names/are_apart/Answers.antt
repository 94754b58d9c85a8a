use mathlib.Core.Path.{◌∙◌}
use Rattle.std.proofs.Common.{rules, tests}
use Rattle.std.proofs.lemmas.Iterator.{YieldsList-from_slice, YieldsList-from_zip}
use Rattle.std.proofs.lemmas.Iterator.Search.{any_from_yields_List}
use Rattle.books.proofs.names.Laws.{differ, differ-apart}
use Rattle.books.proofs.names.are_apart.Goals as goal

pub returns : goal.returns
returns c =
    any_from_yields_List differ c.any.new.self _ c.any.result c.any.ensures.ran
    (YieldsList-from_zip (YieldsList-from_slice c.args.a.now cc) (YieldsList-from_slice c.args.b.now cc)) (λ x b q k. search (rules, tests))
    ∙ differ-apart c.args.a.now c.args.b.now
