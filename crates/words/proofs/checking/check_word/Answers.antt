use lib.ListN.{drop_of_length-le}
use lib.Seq.{drop-cons}
use native.Mathlib.Numerals.{add-one}
use Rattle.words.specs.Rows.{xor_from}
use Rattle.words.proofs.checking.check_word.Goals as goal

pub loop-w-preserved : goal.loop-w-preserved
unfolding xor_from
loop-w-preserved c =
    let words = c.args.words.now in
    rw add-one (rw (drop-cons words c.loop-w.w-index 0 c.loop-w-test.true) at c.loop-w.invariant)

pub returns : goal.returns
unfolding xor_from
returns c = rw (drop_of_length-le c.args.words.now c.loop-w-test.false) at c.loop-w.invariant
