-- The length, then the name and zeros.
use Rattle.laws.proofs.Laid.{laid_then}
use Rattle.books.proofs.laying.Laws.{short-room}
use Rattle.books.proofs.laying.put_room.Goals as goal

pub returns : goal.returns
returns c =
    rw (short-room c.args.name.now c.if-name-gt20.false) (laid_then c.put_byte-next.ensures (laid_then c.put_bytes-end.ensures c.put_times.ensures))
