-- Without a book the names are the English ones.
use Rattle.names.proofs.rooms.Lent.{lent-english}
use Rattle.word_reader.proofs.named.hot_name.Goals as goal

pub returns-then-is_spelled : goal.returns-then-is_spelled
returns-then-is_spelled c = let a = c.args in rw (lent-english a.book.now c.if-book-eq-OPENED.false) c.english_name.ensures
