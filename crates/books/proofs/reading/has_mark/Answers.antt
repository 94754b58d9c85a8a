use mathlib.Core.Path.{◌∙◌}
use Rattle.books.proofs.reading.Laws.{marked}
use Rattle.books.proofs.reading.has_mark.Goals as goal

pub returns : goal.returns
returns c = c.starts_with.ensures.value ∙ marked c.args.bytes.now
