-- The measure is the text's length: the quarter behind its letter has a shorter one.
use lib.ListN.{length}
use Rattle.meaning.specs.OpenedBooks.{book_in}
use Rattle.meaning.specs.Writing.{rule_text}
use Rattle.format.proofs.rule.+format_rule.Given as goal

abbrev pub decreases-format_rule : goal.decreases-format_rule
decreases-format_rule l = length (rule_text (book_in l.book.now) l.rule l.f)
