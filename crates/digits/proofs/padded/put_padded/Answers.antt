-- As many digits as the padded number has are that number.
use mathlib.Core.Path.{◌∙◌}
use Rattle.laws.proofs.Digits.{length-num}
use Rattle.meaning.specs.Bytes.{num}
use Rattle.digits.proofs.padded.put_padded.Goals as goal

pub returns : goal.returns
unfolding num
returns c =
    let a = c.args in
    let w = c.padded_length-w.ensures in
    record { end = rw w; held = rw (← (w ∙ length-num a.k a.n)) c.lay_digits.ensures }
