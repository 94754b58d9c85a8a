-- The three counts, behind them the values, and behind those where their parts began and where they ended.
use mathlib.Core.List.{◌∷◌, ◌++◌, map}
use mathlib.Core.Path.{◌≡◌, refl, ◌∙◌}
use native.Mathlib.Omega.{arith}
use lib.IntN.{pos}
use lib.ListN.{length, length-append, length-map}
use Rattle.rows.proofs.Laying.{laid-behind}
use Rattle.rows.proofs.entries.Stored.{stored}
use Rattle.rows.specs.Rows.{laid}
use borrow.Author.Rules.{rules}
use Rattle.rows.proofs.readings.give_values.Goals as goal

pub returns : goal.returns
returns c =
    let r = c.args.reading in
    let values-long : length r.values ≡ 15 = search rules in
    let starts-long : length r.starts ≡ 15 = search rules in
    let units = c.from-units in
    let mask = c.from-mask in
    let taken = c.entry-taken in
    let old = c.args.row.now in
    let values = pos r.taken ∷ pos r.mask ∷ pos r.units ∷ r.values in
    let starts = map pos r.starts in
    let two : c.lay-2.new.row ≡ laid values old =
    c.lay-2.ensures
    ∙ rw (c.lay.ensures, stored taken.result taken.type_inv, taken.ensures, stored mask.result mask.type_inv, mask.ensures, stored units.result units.type_inv, units.ensures) in
    let three = c.lay_places.ensures ∙ laid-behind old values starts 18 two (omega arith) in
    let long : length (values ++ starts) ≡ 33 = omega (arith, length-append values starts, length-map r.starts pos) in
    record { number = refl; row = c.lay_places-2.ensures ∙ laid-behind old (values ++ starts) (map pos r.ends) 33 three long }
