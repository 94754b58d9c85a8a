-- Without its last two bytes where they are an escaped quote, else whole.
use Prim.Native.Nat.{◌-◌}
use borrow.Author.Tests.{eqb-true}
use lib.Dec.{eqb}
use lib.ListN.{length, get_or}
use lib.Seq.{length-take-le}
use mathlib.Core.Bool.{true, false}
use mathlib.Core.Path.{◌≡◌, sym}
use native.Mathlib.Omega.{arith}
use Rattle.format.proofs.literals.Open.{open-lost, open_kept}
use Rattle.meaning.specs.Bytes.{quote}
use Rattle.format.proofs.literals.put_open.Goals as goal

pub slice_bounds-put_unescaped-count : goal.slice_bounds-put_unescaped-count
slice_bounds-put_unescaped-count c =
    let src = c.args.src.now in
    let last : eqb (get_or src (length src - 1) 0) quote ≡ true = rw (← c.ends_in_quote.ensures) c.if-ends_in_quote.true in
    c.requires.lost.two (eqb-true (get_or src (length src - 1) 0) quote last)

pub slice_bounds-put_unescaped-length : goal.slice_bounds-put_unescaped-length
slice_bounds-put_unescaped-length c = sym (length-take-le _ _ (omega arith))

pub put_unescaped-requires : goal.put_unescaped-requires
put_unescaped-requires c =
    let src = c.args.src.now in
    let last : eqb (get_or src (length src - 1) 0) quote ≡ true = rw (← c.ends_in_quote.ensures) c.if-ends_in_quote.true in
    rw (← open-lost src c.requires.lost last) c.requires.src_in_bounds

pub returns-then-ends_in_quote : goal.returns-then-ends_in_quote
returns-then-ends_in_quote c =
    let src = c.args.src.now in
    let last : eqb (get_or src (length src - 1) 0) quote ≡ true = rw (← c.ends_in_quote.ensures) c.if-ends_in_quote.true in
    rw (open-lost src c.requires.lost last) c.put_unescaped.ensures

pub put_unescaped-requires-2 : goal.put_unescaped-requires-2
put_unescaped-requires-2 c =
    let src = c.args.src.now in
    let last : eqb (get_or src (length src - 1) 0) quote ≡ false = rw (← c.ends_in_quote.ensures) c.if-ends_in_quote.false in
    rw (← open_kept src c.requires.lost last) c.requires.src_in_bounds

pub returns : goal.returns
returns c =
    let src = c.args.src.now in
    let last : eqb (get_or src (length src - 1) 0) quote ≡ false = rw (← c.ends_in_quote.ensures) c.if-ends_in_quote.false in
    rw (open_kept src c.requires.lost last) c.put_unescaped-2.ensures
