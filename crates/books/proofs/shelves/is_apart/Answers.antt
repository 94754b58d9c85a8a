use mathlib.Core.Path.{◌∙◌}
use lib.ListN.{take, drop}
use Rattle.std.proofs.Common.{rules, tests}
use Rattle.std.proofs.lemmas.Iterator.{YieldsList-from_slice}
use Rattle.std.proofs.lemmas.Iterator.Search.{all_from_yields_List}
use Rattle.books.specs.Places.{name_in}
use Rattle.meaning.specs.Books.{apart}
use Rattle.books.proofs.shelves.Laws.{all-apart}
use Rattle.books.proofs.shelves.is_apart.Goals as goal

pub returns : goal.returns
returns c =
    let a = c.args in
    let s = a.bytes.now in
    all_from_yields_List (λ at. apart (name_in s at) a.name.now) _ _ c.all.result c.all.ensures.ran
    (YieldsList-from_slice (take a.count (drop a.first a.places.now)) (search rules)) (λ x b q k. search (rules, tests))
    ∙ all-apart s a.places.now a.first a.count a.name.now c.requires
