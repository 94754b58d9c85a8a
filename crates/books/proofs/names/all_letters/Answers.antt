use mathlib.Core.Path.{◌∙◌}
use Rattle.std.proofs.Common.{rules, tests}
use Rattle.std.proofs.lemmas.Iterator.{YieldsList-from_slice}
use Rattle.std.proofs.lemmas.Iterator.Search.{all_from_yields_List}
use Rattle.std.specs.Char.{is_ascii_alphabetic}
use Rattle.books.proofs.names.Laws.{letters-all}
use Rattle.books.proofs.names.all_letters.Goals as goal

pub returns : goal.returns
returns c =
    all_from_yields_List is_ascii_alphabetic _ _ c.all.result c.all.ensures.ran (YieldsList-from_slice c.args.name.now cc) (λ x b q k. search (rules, tests))
    ∙ letters-all c.args.name.now
