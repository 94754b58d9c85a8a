-- Each by its own.
use Rattle.sheet.proofs.numbers.choices_of.Goals as goal

pub returns : goal.returns
returns c = rw (c.edition_of.ensures, c.pair_of.ensures)
