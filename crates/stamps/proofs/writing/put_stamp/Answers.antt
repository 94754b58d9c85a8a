-- Piece by piece.
use mathlib.Core.Path.{◌≡◌}
use native.Mathlib.Omega.{arith}
use borrow.Author.Rules.{rules}
use lib.IntN.{nat_abs}
use mir.Facts.{to_z-of_z}
use mir.Syntax.{w32}
use mir.Val.{SFits}
use Rattle.laws.proofs.Laid.{laid_then}
use Rattle.laws.proofs.Stamps.{stamp-fine, sizes, year-small}
use Rattle.laws.specs.Laid.{Laid}
use Rattle.stamps.proofs.writing.Lengths.{in_pieces, text-long, second-small, date-ten, date_of, second_in, time-long}
use Rattle.stamps.proofs.writing.put_stamp.Goals as goal

pub overflow_cast-second : goal.overflow_cast-second
overflow_cast-second c = record { fits = omega (arith, second-small c.args.t (stamp-fine c.args.t c.requires.0)) }

pub put_date-behind_date-requires : goal.put_date-behind_date-requires
put_date-behind_date-requires c =
    let t = c.args.t in
    let fits : SFits w32 t.year = search rules in
    let sized : c.size.result ≡ nat_abs t.year = rw (to_z-of_z fits) at c.size.ensures in
    let w = stamp-fine t c.requires.0 in
    let a = sizes t w in
    (omega (arith, sized, year-small t w), omega (arith, a.month), omega (arith, a.day), omega (arith, c.requires.1, text-long t w))

pub put_time-behind_time-requires : goal.put_time-behind_time-requires
put_time-behind_time-requires c =
    let t = c.args.t in
    let fits : SFits w32 t.year = search rules in
    let sized : c.size.result ≡ nat_abs t.year = rw (to_z-of_z fits) at c.size.ensures in
    let w = stamp-fine t c.requires.0 in
    let date = c.put_date-behind_date in
    let dated : Laid c.args.out.now date.new.out 0 date.result (date_of t) = rw sized at date.ensures in
    (second-small t w, omega (arith, c.requires.1, text-long t w, dated.end, date-ten t w, date.auto.out))

pub put_fraction-behind_fraction-requires : goal.put_fraction-behind_fraction-requires
put_fraction-behind_fraction-requires c =
    let t = c.args.t in
    let fits : SFits w32 t.year = search rules in
    let sized : c.size.result ≡ nat_abs t.year = rw (to_z-of_z fits) at c.size.ensures in
    let w = stamp-fine t c.requires.0 in
    let date = c.put_date-behind_date in
    let time = c.put_time-behind_time in
    let dated : Laid c.args.out.now date.new.out 0 date.result (date_of t) = rw sized at date.ensures in
    (omega arith, omega (arith, c.requires.1, text-long t w, dated.end, date-ten t w, date.auto.out, time.ensures.end, time-long (second_in t) (second-small t w), time.auto.out))

pub put_offset-requires : goal.put_offset-requires
put_offset-requires c =
    let t = c.args.t in
    let fits : SFits w32 t.year = search rules in
    let sized : c.size.result ≡ nat_abs t.year = rw (to_z-of_z fits) at c.size.ensures in
    let w = stamp-fine t c.requires.0 in
    let date = c.put_date-behind_date in
    let time = c.put_time-behind_time in
    let fraction = c.put_fraction-behind_fraction in
    let dated : Laid c.args.out.now date.new.out 0 date.result (date_of t) = rw sized at date.ensures in
    omega (arith, c.requires.1, text-long t w, dated.end, date-ten t w, date.auto.out, time.ensures.end, time-long (second_in t) (second-small t w), time.auto.out, fraction.ensures.end, fraction.auto.out)

pub returns : goal.returns
returns c =
    let t = c.args.t in
    let fits : SFits w32 t.year = search rules in
    let sized : c.size.result ≡ nat_abs t.year = rw (to_z-of_z fits) at c.size.ensures in
    let date = c.put_date-behind_date in
    let dated : Laid c.args.out.now date.new.out 0 date.result (date_of t) = rw sized at date.ensures in
    rw (in_pieces t) (laid_then (laid_then (laid_then dated c.put_time-behind_time.ensures) c.put_fraction-behind_fraction.ensures) c.put_offset.ensures)
