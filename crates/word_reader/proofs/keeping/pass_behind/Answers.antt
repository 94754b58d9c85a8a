-- No byte, or the one that is there.
use mathlib.Core.Path.{◌∙◌}
use Rattle.std.proofs.lemmas.Option.{IfSome_then}
use Rattle.word_reader.proofs.keeping.Passing.{one-behind}
use Rattle.word_reader.proofs.keeping.pass_behind.Goals as goal

pub returns : goal.returns
returns c =
    let a = c.args in
    let byte = c.last_byte-b.ensures in
    IfSome_then c.pass_byte.result c.pass_byte.ensures
    (λ next p. one-behind a.choices a.w a.text.now a.at next (λ e. c.if-b-eq0.false (byte ∙ e)) p.0 (p.1, rw byte at p.2))
