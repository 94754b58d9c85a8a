-- A byte, two digits, a byte, two digits, and the byte behind them.
use lib.ListN.{length, length-append}
use mathlib.Core.List.{◌∷◌, ◌++◌}
use native.Mathlib.Omega.{arith}
use Prim.Native.Nat.{ℕ, suc, ◌+◌, ◌≤◌, ◌<◌}
use Rattle.laws.proofs.Digits.{num-digits, num-fits, length_digits}
use Rattle.laws.proofs.Laid.{laid_then}
use Rattle.meaning.specs.Bytes.{num}
use Rattle.word_writer.specs.Written.{behind_text, two_more}
use Rattle.words.specs.Fields.{second_byte}
use Rattle.word_writer.proofs.writing.put_two_more.Goals as goal

-- the room that the first byte and the first two digits leave
room-left : (b c w at size : ℕ) → b < 100 → at + length (two_more (num 2 b) (num 2 c) w) ≤ size → at + suc (2 + suc (length (num 2 c ++ behind_text w))) ≤ size
room-left b c w at size small fits =
    omega (arith, length-append (num 2 b) (second_byte w ∷ (num 2 c ++ behind_text w)), num-fits 2 b (omega arith) small, fits)

pub put_two-second-requires : goal.put_two-second-requires
put_two-second-requires c =
    let a = c.args in
    let room = room-left a.b a.c a.w a.at (length a.out.now) c.requires.0 c.requires.2 in
    let first = c.put_byte-first in
    (c.requires.0, omega (arith, room, first.ensures.end, first.auto.out))

pub put_byte-third-requires : goal.put_byte-third-requires
put_byte-third-requires c =
    let a = c.args in
    let room = room-left a.b a.c a.w a.at (length a.out.now) c.requires.0 c.requires.2 in
    let first = c.put_byte-first in
    let two = c.put_two-second in
    omega (arith, room, first.ensures.end, first.auto.out, two.ensures.end, length_digits 2 c.args.b, two.auto.out)

pub put_full-requires : goal.put_full-requires
put_full-requires c =
    let a = c.args in
    let room = room-left a.b a.c a.w a.at (length a.out.now) c.requires.0 c.requires.2 in
    let first = c.put_byte-first in
    let two = c.put_two-second in
    let second = c.put_byte-third in
    (c.requires.1, omega (arith, room, first.ensures.end, first.auto.out, two.ensures.end, length_digits 2 c.args.b, two.auto.out, second.ensures.end, second.auto.out))

pub returns : goal.returns
returns c =
    rw (num-digits 2 c.args.b (omega arith) c.requires.0, ← c.first_byte.ensures, ← c.second_byte.ensures)
    (laid_then c.put_byte-first.ensures (laid_then c.put_two-second.ensures (laid_then c.put_byte-third.ensures c.put_full.ensures)))
