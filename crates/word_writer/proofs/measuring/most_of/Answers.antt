use mathlib.Core.List.{List}
use mathlib.Core.Path.{◌≡◌}
use Prim.Native.Nat.{ℕ, ◌+◌, ◌≤◌, ◌<◌}
use native.Mathlib.Numerals.{add-one}
use native.Mathlib.Omega.{arith}
use lib.ListN.{length, get_or, drop, drop_of_length-le}
use lib.Seq.{drop-cons}
use Rattle.words.specs.Pieces.{most_bytes, most_of}
use Rattle.word_writer.proofs.Bounds.{most-small}
use Rattle.word_writer.proofs.measuring.most_of.Goals as goal

next : (ws : List ℕ) (i : ℕ) → i < length ws → most_of (drop i ws) ≡ most_bytes (get_or ws i 0) + most_of (drop (i + 1) ws)
unfolding most_of
next ws i inside = rw (drop-cons ws i 0 inside, add-one i)

none : (ws : List ℕ) (i : ℕ) → length ws ≤ i → most_of (drop i ws) ≡ 0
unfolding most_of
none ws i past = rw (drop_of_length-le ws past)

pub overflow_add-most : goal.overflow_add-most
overflow_add-most c =
    let l = c in
    omega (arith, l.loop-w.invariant.0, c.most_bytes-most.ensures, most-small (get_or l.args.words.now l.loop-w.w-index 0))

pub loop-w-preserved : goal.loop-w-preserved
loop-w-preserved c =
    let l = c in
    let ws = l.args.words.now in
    let i = l.loop-w.w-index in
    let bytes = c.most_bytes-most.ensures in
    (omega (arith, l.loop-w.invariant.0, bytes, most-small (get_or ws i 0)), omega (arith, l.loop-w.invariant.1, bytes, next ws i (omega arith)))

pub returns : goal.returns
returns c =
    let l = c in
    omega (arith, l.loop-w.invariant.1, none l.args.words.now l.loop-w.w-index c.loop-w-test.false)
