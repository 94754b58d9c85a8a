-- The length of the text where eight bytes for each of the pattern do not fit, and the text.
use mathlib.Core.Path.{sym, ap, ◌∙◌}
use native.Mathlib.Omega.{arith}
use Rattle.std.specs.Prelude.{◌≤◌, length, Ok}
use Rattle.laws.proofs.OpenedBooks.{opened-eight-bytes, opened-text-fits}
use Rattle.laws.proofs.Told.{by_whole}
use Rattle.meaning.specs.OpenedBooks.{book_in}
use Rattle.meaning.specs.Whole.{text}
use Rattle.writer.proofs.Answers.{with-room}
use Rattle.writer.proofs.format_with.Goals as goal
use Rattle.writer.proofs.format_with.Goals.{then-out-pattern+else-out-n, else-out-pattern}

pub text_length-n-requires-clause-f_len_bound : goal.text_length-n-requires-clause-f_len_bound
text_length-n-requires-clause-f_len_bound c =
    let a = c.args in
    opened-text-fits a.book.now a.pair a.pattern.now a.f (sym c.pattern_check.ensures ∙ c.in_ok-pattern_check.was) (sym c.fields_check.ensures ∙ c.in_ok-fields_check.was)

pub format_parts-requires-clause-f_in_bounds : goal.format_parts-requires-clause-f_in_bounds
format_parts-requires-clause-f_in_bounds c =
    let a = c.args in
    elim c.if-out-pattern.branch [
      | then-out-pattern+else-out-n w ↦ omega (arith, w.text_length-n.ensures, w.if-out-n.false)
      | else-out-pattern w ↦ omega (arith, w.if-out-pattern.false, opened-eight-bytes a.book.now a.pair a.pattern.now a.f (sym c.fields_check.ensures ∙ c.in_ok-fields_check.was))
    ]

pub returns : goal.returns
returns c =
    let a = c.args in
    let fits : length (text a.pair (book_in a.book.now) a.pattern.now a.f) ≤ length a.out.now = elim c.if-out-pattern.branch [
      | then-out-pattern+else-out-n w ↦ omega (arith, w.text_length-n.ensures, w.if-out-n.false)
      | else-out-pattern w ↦ omega (arith, w.if-out-pattern.false, opened-eight-bytes a.book.now a.pair a.pattern.now a.f (sym c.fields_check.ensures ∙ c.in_ok-fields_check.was))
    ] in
    let room = with-room a.pair (book_in a.book.now) a.pattern.now a.f a.out.now (sym c.pattern_check.ensures ∙ c.in_ok-pattern_check.was) (sym c.fields_check.ensures ∙ c.in_ok-fields_check.was) fits in
    let laid = c.format_parts.ensures in
    rw (room.0, room.1) (by_whole (ap Ok (laid.end ∙ omega arith)), laid.held)
