-- One digit or two, and the byte behind them.
use Rattle.laws.proofs.Laid.{laid_then}
use Rattle.word_writer.proofs.writing.put_few.Goals as goal

pub returns : goal.returns
returns c = laid_then c.put_short-next.ensures c.put_behind.ensures
