-- By the rule, and by the digit that may be there.
use lib.ListN.{drop}
use mathlib.Core.Path.{◌≡◌}
use native.Mathlib.Nat.{add-zero}
use Rattle.numerals.proofs.extents.Reaches.{digit-there}
use Rattle.meaning.specs.Bytes.{digit_at}
use Rattle.meaning.specs.Reading.{colon_length}
use Rattle.parse.proofs.zones.zone_group.Goals as goal

pub returns-in-NotZero : goal.returns-in-NotZero
returns-in-NotZero c =
    let a = c.args in
    let at = a.cursor.at in
    let text = a.text.now in
    let there : digit_at (colon_length a.colon) (drop at text) ≡ c.is_digit_at.result =
    rw (digit-there text at (colon_length a.colon), ← c.colon_length.ensures, ← c.is_digit_at.ensures) in
    rw (c.in-NotZero.is, there, c.if-is_digit_at.true) c.take_group-in-NotZero.ensures

pub returns-in_default : goal.returns-in_default
returns-in_default c =
    let a = c.args in
    let at = a.cursor.at in
    let text = a.text.now in
    let there : digit_at (colon_length a.colon) (drop at text) ≡ c.is_digit_at.result =
    rw (digit-there text at (colon_length a.colon), ← c.colon_length.ensures, ← c.is_digit_at.ensures) in
    rw (c.in-NotZero.is, there, c.if-is_digit_at.false, add-zero)
