-- Both ways, by the test of the definition.
use Rattle.laws.proofs.Years.{two-digit-whole, two-digit-cut}
use mir.Syntax.{w32}
use mir.ValLaws.{to_z-of_z}
use Rattle.format.proofs.years.two_digit_year.Goals as goal

pub zero_padded_i-requires : goal.zero_padded_i-requires
zero_padded_i-requires c =
    let e = to_z-of_z w32 c.args.z c.ranges.z in
    let negative = rw e at c.is_negative-negative.ensures in
    let n = rw e at c.size-n.ensures in
    let most = rw negative at c.limit.ensures in
    let test = rw (n, most) at c.if-n-limit.true in
    rw (e, ← two-digit-whole c.args.z test) c.requires

pub returns-then-n-limit : goal.returns-then-n-limit
returns-then-n-limit c =
    let e = to_z-of_z w32 c.args.z c.ranges.z in
    let negative = rw e at c.is_negative-negative.ensures in
    let n = rw e at c.size-n.ensures in
    let most = rw negative at c.limit.ensures in
    let test = rw (n, most) at c.if-n-limit.true in
    rw (two-digit-whole c.args.z test) (rw e at c.zero_padded_i.ensures)

pub zero_padded-requires : goal.zero_padded-requires
zero_padded-requires c =
    let e = to_z-of_z w32 c.args.z c.ranges.z in
    let negative = rw e at c.is_negative-negative.ensures in
    let n = rw e at c.size-n.ensures in
    let most = rw negative at c.limit.ensures in
    let test = rw (n, most) at c.if-n-limit.false in
    rw (n, ← two-digit-cut c.args.z test) c.requires

pub returns : goal.returns
returns c =
    let e = to_z-of_z w32 c.args.z c.ranges.z in
    let negative = rw e at c.is_negative-negative.ensures in
    let n = rw e at c.size-n.ensures in
    let most = rw negative at c.limit.ensures in
    let test = rw (n, most) at c.if-n-limit.false in
    rw (two-digit-cut c.args.z test) (rw n at c.zero_padded.ensures)
