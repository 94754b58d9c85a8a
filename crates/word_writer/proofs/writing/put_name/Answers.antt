-- The name, and the byte behind it.
use Rattle.laws.proofs.Laid.{laid_then}
use Rattle.word_writer.proofs.writing.put_name.Goals as goal

pub returns : goal.returns
returns c = laid_then c.put_matched-next.ensures c.put_behind.ensures
