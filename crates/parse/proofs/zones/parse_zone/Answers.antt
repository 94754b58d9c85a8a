-- By the sign, what follows it.
use lib.ListN.{drop}
use mathlib.Core.Path.{sym, ◌∙◌}
use Rattle.meaning.specs.Readers.{zone_sign}
use Rattle.parse.proofs.cursor.Moves.{left_by}
use Rattle.parse.proofs.zones.Within.{sign-stays, within-sign}
use Rattle.parse.proofs.zones.Zoning.{part-zone}
use Rattle.parse.proofs.zones.parse_zone.Goals as goal

pub zone_from-requires : goal.zone_from-requires
zone_from-requires c =
    let a = c.args in
    let at = a.cursor.at in
    let s = drop at a.text.now in
    sign-stays at a.text.now (zone_sign a.zone.utc s) c.requires (within-sign a.zone.utc s) (sym c.zone_sign.ensures ∙ c.in_ok-sign.was)

pub zone_from-requires-in-BehindUtc : goal.zone_from-requires-in-BehindUtc
zone_from-requires-in-BehindUtc c =
    let a = c.args in
    let at = a.cursor.at in
    let s = drop at a.text.now in
    sign-stays at a.text.now (zone_sign a.zone.utc s) c.requires (within-sign a.zone.utc s) (sym c.zone_sign.ensures ∙ c.in_ok-sign.was)

pub returns-in_err-sign : goal.returns-in_err-sign
returns-in_err-sign c =
    let a = c.args in
    rw (part-zone a.cursor.at a.zone a.text.now, ← c.zone_sign.ensures, c.in_err-sign.was) (left_by c.from_residual.ensures.1)

pub returns-in-Utc : goal.returns-in-Utc
returns-in-Utc c =
    let a = c.args in
    rw (part-zone a.cursor.at a.zone a.text.now, ← c.zone_sign.ensures, c.in_ok-sign.was, c.in-Utc.is)

pub returns-in-Ahead : goal.returns-in-Ahead
returns-in-Ahead c =
    let a = c.args in
    rw (part-zone a.cursor.at a.zone a.text.now, ← c.zone_sign.ensures, c.in_ok-sign.was, c.in-Ahead.is) c.zone_from.ensures

pub returns-in-BehindUtc : goal.returns-in-BehindUtc
returns-in-BehindUtc c =
    let a = c.args in
    rw (part-zone a.cursor.at a.zone a.text.now, ← c.zone_sign.ensures, c.in_ok-sign.was, c.in-BehindUtc.is) c.zone_from-in-BehindUtc.ensures
