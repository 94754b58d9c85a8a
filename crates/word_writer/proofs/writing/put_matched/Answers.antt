-- By its letters, which are those of its list where no book is lent; or by its list.
use lib.ListN.{take}
use mathlib.Core.Path.{◌≡◌, sym, ◌∙◌}
use Rattle.laws.proofs.Fields.{allowed}
use Rattle.meaning.specs.OpenedBooks.{book_in}
use Rattle.meaning.specs.Writing.{name_text}
use Rattle.names.specs.Letters.{name_numbered}
use Rattle.words.specs.Coding.{list_in, most_letters}
use Rattle.words.specs.Fields.{item}
use Rattle.word_writer.specs.Written.{spelled_name}
use Rattle.word_writer.proofs.Names.{spelled-text}
use Rattle.word_writer.proofs.writing.put_matched.Goals as goal

pub put_spelled-requires : goal.put_spelled-requires
put_spelled-requires c =
    let letters : take (most_letters c.args.w) (name_numbered (spelled_name c.args.f c.args.w)) ≡ name_text (book_in c.args.book.now) (list_in (item c.args.w)) c.args.f =
    spelled-text c.args.f c.args.w c.args.book.now c.if-book-ne-OPENED.true (allowed c.args.f c.requires.f_value) (sym c.is_spelled.ensures ∙ c.if-is_spelled.true) in
    rw (c.most_letters.ensures, c.spelled_name.ensures, letters) c.requires.f_in_bounds

pub returns-then-is_spelled : goal.returns-then-is_spelled
returns-then-is_spelled c =
    let letters : take (most_letters c.args.w) (name_numbered (spelled_name c.args.f c.args.w)) ≡ name_text (book_in c.args.book.now) (list_in (item c.args.w)) c.args.f =
    spelled-text c.args.f c.args.w c.args.book.now c.if-book-ne-OPENED.true (allowed c.args.f c.requires.f_value) (sym c.is_spelled.ensures ∙ c.if-is_spelled.true) in
    rw (← letters, ← c.spelled_name.ensures, ← c.most_letters.ensures) c.put_spelled.ensures

pub returns : goal.returns
returns c = rw (← c.list.ensures) c.put_name_of.ensures
