-- All numbers are in their ranges.
use mathlib.Core.Bool.{Bool, true, false}
use Prim.Native.Nat.{ℕ, zero, suc, ◌<◌}
use native.Mathlib.Omega.{arith}
use mir.Facts.{to_z_pos, to_z-of_z}
use mir.Syntax.{w32}
use mir.Val.{SFits}
use Rattle.meaning.specs.Numerals.{integer}
use Rattle.meaning.specs.Stamps.{stamp_of}
use Rattle.laws.proofs.StampChecks.{in-range}
use Rattle.stamps.specs.Found.{date_time_of}
use Rattle.stamps.proofs.reading.stamp_of.Goals as goal

-- 32 signed bits hold an offset
offset-fits : (negative : Bool) (n : ℕ) → n < 86400 → SFits w32 (integer (record { negative = negative; size = n }))
offset-fits false n h = record { sfits = omega arith }
offset-fits true zero h = record { sfits = omega arith }
offset-fits true (suc n) h = record { sfits = omega arith }

pub seconds_of-requires : goal.seconds_of-requires
seconds_of-requires c =
    let range = in-range (date_time_of c.args.t) c.requires.1 in
    (range.hour, range.minute)

pub overflow_add-second : goal.overflow_add-second
overflow_add-second c =
    let range = in-range (date_time_of c.args.t) c.requires.1 in
    record { fits = omega (arith, c.seconds_of.ensures.1, range.second) }

pub seconds_of-n-requires : goal.seconds_of-n-requires
seconds_of-n-requires c =
    let range = in-range (date_time_of c.args.t) c.requires.1 in
    (range.offset-hour, range.offset-minute)

pub returns : goal.returns
unfolding stamp_of
returns c =
    let t = c.args.t in
    let n = c.seconds_of-n.result in
    let day = to_z_pos w32 {n = t.year} (omega (arith, c.requires.0)) in
    let offset = to_z-of_z (offset-fits t.shift.negative n c.seconds_of-n.ensures.1) in
    rw (day, c.seconds_of.ensures.0, c.signed.ensures, offset, c.is_unknown.ensures, c.seconds_of-n.ensures.0)
