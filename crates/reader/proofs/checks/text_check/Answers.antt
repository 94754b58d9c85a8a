-- Where the largest byte is allowed, all are.
use native.Mathlib.Omega.{arith}
use borrow.Author.Tests.{le-leb}
use Rattle.meaning.specs.Answers.{text_check}
use Rattle.meaning.specs.declared.Refusal.TheVariants.{TextByte}
use Rattle.reader.proofs.checks.Sizes.{all_small}
use Rattle.reader.proofs.checks.text_check.Goals as goal

pub returns-then-largest-le127 : goal.returns-then-largest-le127
unfolding text_check
returns-then-largest-le127 c =
    let s = c.args.text.now in
    let short = c.if-text-le2048.true in
    let small = all_small TextByte 127 0 s (omega (arith, c.largest.ensures, c.if-largest-le127.true)) in
    rw (le-leb _ _ short, small)
