-- The bytes of the mark, or the zone as a pattern writes it.
use mathlib.Core.Path.{ap}
use native.Mathlib.Omega.{arith}
use borrow.Author.Rules.{rules}
use lib.ListN.{length}
use mir.Facts.{to_z-of_z}
use mir.Syntax.{w32}
use mir.Val.{SFits}
use Rattle.stamps.proofs.writing.Lengths.{mark-text, zone-text}
use Rattle.stamps.proofs.writing.put_offset.Goals as goal

pub put_bytes-requires : goal.put_bytes-requires
put_bytes-requires c =
    let marked = c in
    let m = marked in
    omega (arith, m.requires, ap length (mark-text m.args.t marked.if-t.true))

pub returns-then-t : goal.returns-then-t
returns-then-t c =
    let marked = c in
    rw (mark-text marked.args.t marked.if-t.true) c.put_bytes.ensures

pub format_zone-requires : goal.format_zone-requires
format_zone-requires c =
    let known = c in
    let m = known in
    let fits : SFits w32 m.args.t.offset = search rules in
    rw (to_z-of_z fits) (omega (arith, m.requires, ap length (zone-text m.args.t known.if-t.false)))

pub returns : goal.returns
returns c =
    let known = c in
    let m = known in
    let fits : SFits w32 m.args.t.offset = search rules in
    rw (zone-text m.args.t known.if-t.false) (rw (to_z-of_z fits) at c.format_zone.ensures)
