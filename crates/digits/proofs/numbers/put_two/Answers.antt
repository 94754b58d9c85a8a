-- The ones and the tens.
use Prim.Native.Nat.{◌+◌, ◌/◌, ◌%◌}
use lib.Seq.{set_comm}
use mathlib.Core.Path.{◌≡◌}
use native.Mathlib.Numerals.{add-one}
use native.Mathlib.Omega.{arith}
use Rattle.meaning.specs.Bytes.{digits}
use Rattle.digits.proofs.numbers.put_two.Goals as goal

pub returns : goal.returns
unfolding digits
returns c =
    let tens : c.args.n / 10 % 10 ≡ c.args.n / 10 = omega arith in
    record { end = omega arith; held = rw (tens, set_comm _ (c.args.at + 1) c.args.at _ _ (omega arith), add-one) }
