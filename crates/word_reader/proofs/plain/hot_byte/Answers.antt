-- The byte is there.
use Rattle.word_reader.proofs.plain.Words.{hot-alone}
use Rattle.word_reader.proofs.plain.hot_byte.Goals as goal

pub returns : goal.returns
returns c =
    let a = c.args in
    let p = c.in_ok-next.ensures in
    λ row. hot-alone a.choices a.w a.text.now a.from row c.in_ok-next.next c.requires.0 p.0 (p.1, rw c.last_byte.ensures at p.2)
