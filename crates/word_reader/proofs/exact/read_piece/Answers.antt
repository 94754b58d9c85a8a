-- Each kind of piece has its reader.
use Rattle.meaning.specs.Reading.{read_step}
use Rattle.words.specs.Pieces.{piece_step}
use Rattle.word_reader.proofs.exact.Literals.{held-part}
use Rattle.word_reader.proofs.exact.read_piece.Goals as goal

pub returns-in-Times : goal.returns-in-Times
unfolding read_step piece_step
returns-in-Times c = rw c.in-Times.is c.read_times.ensures

pub returns-in-Held : goal.returns-in-Held
unfolding read_step piece_step
returns-in-Held c = let s = c in
    rw (c.in-Held.is, ← held-part s.args.tail.now c.in-Held.from c.in-Held.count)
    (rw (c.min.ensures, c.min-start.ensures) at c.read_held.ensures)

pub returns-in-Symbol : goal.returns-in-Symbol
unfolding read_step piece_step
returns-in-Symbol c = rw c.in-Symbol.is c.parse_rule.ensures
