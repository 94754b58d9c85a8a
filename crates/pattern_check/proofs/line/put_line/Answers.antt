-- The line is short, and it is the verdict's.
use Rattle.laws.proofs.Laid.{laid_then}
use Rattle.pattern_check.proofs.line.Words.{few_words, part-fits}
use Rattle.pattern_check.proofs.line.put_line.Goals as goal
use Rattle.std.proofs.Common.{length, ◌≤◌}
use lib.IntN.{pos}
use lib.Seq.{length-take-le}
use mathlib.Core.Path.{sym}
use native.Mathlib.Omega.{arith}

pub put_answer-end-requires : goal.put_answer-end-requires
put_answer-end-requires c =
    let fits = part-fits c.args.pattern.now (pos 2025) c.verdict_on-answer.result c.requires.pattern_len_bound c.verdict_on-answer.ensures in
    record {
      part_fits = fits;
      verdict_in_bounds = omega (arith, c.requires.in_bounds, few_words c.verdict_on-answer.result fits);
    }

pub put_byte-requires : goal.put_byte-requires
put_byte-requires c =
    let v = c.verdict_on-answer in
    let short = few_words v.result (part-fits c.args.pattern.now (pos 2025) v.result c.requires.pattern_len_bound v.ensures) in
    let words = c.put_answer-end in
    omega (arith, c.requires.in_bounds, short, words.ensures.end, words.auto.out)

pub returns : goal.returns
returns c =
    let v = c.verdict_on-answer in
    let short = few_words v.result (part-fits c.args.pattern.now (pos 2025) v.result c.requires.pattern_len_bound v.ensures) in
    let words = c.put_answer-end in
    let line = c.put_byte in
    let within : line.result ≤ length line.new.out =
    omega (arith, c.requires.in_bounds, short, words.ensures.end, words.auto.out, line.ensures.end, line.auto.out) in
    record {
      prefix_len = (within, sym (length-take-le line.result line.new.out within));
      printed = record { verdict = v.result; says = v.ensures; laid = laid_then words.ensures line.ensures };
    }
