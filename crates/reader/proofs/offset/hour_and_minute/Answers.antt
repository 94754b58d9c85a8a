-- Two numbers, one after the other: each is taken, or why it is not.
use mathlib.Core.Path.{ap}
use Rattle.std.specs.Prelude.{Err}
use Rattle.reader.proofs.offset.Offsets.{six-taken}
use Rattle.reader.proofs.offset.hour_and_minute.Goals as goal

pub returns-in-Err : goal.returns-in-Err
returns-in-Err c = rw (six-taken c.args.text.now, ← c.take.ensures, c.in-Err.is) (ap Err c.in_part.ensures)
