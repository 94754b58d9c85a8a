-- What is refused in its words.
use mathlib.Core.Path.{ap}
use Rattle.refusals.specs.declared.Told.{Told}
use Rattle.pattern_check.proofs.line.Words.{refused-text}
use Rattle.pattern_check.proofs.line.put_answer.Goals as goal

pub put_counted-requires : goal.put_counted-requires
put_counted-requires c =
    rw (c.in-Err.is, refused-text, ← ap (λ (t : Told). t.number) c.tell.ensures) at c.requires.verdict_in_bounds

pub returns-in-Err : goal.returns-in-Err
returns-in-Err c = rw (c.in-Err.is, refused-text, ← ap (λ (t : Told). t.number) c.tell.ensures) c.put_counted.ensures
