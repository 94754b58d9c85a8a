-- Where the last byte is no quote, none stands alone; a pattern that is too long is refused for that.
use mathlib.Core.Path.{◌≡◌, sym, ◌∙◌}
use native.Mathlib.Omega.{arith}
use Rattle.meaning.specs.Answers.{bytes_check, pattern_check}
use Rattle.pattern.proofs.checks.Checks.{long-pattern}
use Rattle.pattern.proofs.checks.LoneQuote.{check-plain, check-refused}
use Rattle.pattern.proofs.checks.pattern_check.Goals.{else-pattern-le256-via-then-pattern-le256+else-ends_in_quote, else-pattern-le256-via-else-pattern-le256}
use Rattle.pattern.proofs.checks.pattern_check.Goals as goal

pub returns : goal.returns
returns c =
    let p = c.args.pattern.now in
    let same : bytes_check p ≡ pattern_check p =
    elim c.else-pattern-le256.branch [
      | else-pattern-le256-via-then-pattern-le256+else-ends_in_quote w ↦ sym (check-plain p (sym w.ends_in_quote.ensures ∙ w.if-ends_in_quote.false))
      | else-pattern-le256-via-else-pattern-le256 w ↦ let long = long-pattern p (omega (arith, w.if-pattern-le256.false)) in long ∙ sym (check-refused p _ long)
    ] in
    c.bytes_check.ensures ∙ same
