-- What the symbol carries is kept, and the byte behind it passed over.
use mathlib.Core.Path.{refl, sym, ◌∙◌}
use native.Mathlib.Omega.{arith}
use Rattle.meaning.specs.OpenedBooks.{book_in}
use Rattle.meaning.specs.Writing.{field}
use Rattle.words.specs.Coding.{rule_in}
use Rattle.word_reader.proofs.exact.Pieces.{piece_inside}
use Rattle.word_reader.proofs.keeping.Moving.{moves-part, kept-nothing}
use Rattle.word_reader.proofs.quick.Pieces.{rule-part, rule-steps, quick-symbol}
use Rattle.word_reader.proofs.quick.quick_rule.Goals as goal

pub pass_behind-requires : goal.pass_behind-requires
pass_behind-requires c =
    let a = c.args in
    let book = book_in a.book.now in
    let text = a.text.now in
    let gave = rw c.rule_in.ensures at (rule-part a.choices book a.current_year text a.from.next c.rule_in.result (sym c.parse_rule.ensures ∙ c.in-Ok.is)) in
    piece_inside a.choices book a.current_year text a.from.next (field (rule_in a.w)) gave c.requires.1.1

pub keep-requires : goal.keep-requires
keep-requires c =
    let a = c.args in
    let book = book_in a.book.now in
    let text = a.text.now in
    let gave = rw c.rule_in.ensures at (rule-part a.choices book a.current_year text a.from.next c.rule_in.result (sym c.parse_rule.ensures ∙ c.in-Ok.is)) in
    let inside = piece_inside a.choices book a.current_year text a.from.next (field (rule_in a.w)) gave c.requires.1.1 in
    (c.requires.1.0, omega (arith, c.requires.1.1, c.requires.1.2), omega (arith, inside, c.requires.1.2))

pub returns-in-None : goal.returns-in-None
returns-in-None c =
    let a = c.args in
    let book = book_in a.book.now in
    let text = a.text.now in
    let gave = rw c.rule_in.ensures at (rule-part a.choices book a.current_year text a.from.next c.rule_in.result (sym c.parse_rule.ensures ∙ c.in-Ok.is)) in
    let moves = rw c.in-None.is at (moves-part a.choices book a.current_year text a.from.next (field (rule_in a.w)) c.requires.1.1 gave) in
    λ row. quick-symbol a.choices book a.current_year a.w row text (record { next = c.in_ok-next-in-Ok.next; mask = a.from.mask })
    (rule-steps a.w row c.requires.0) moves c.in_ok-next-in-Ok.ensures kept-nothing refl

pub returns-in-Some : goal.returns-in-Some
returns-in-Some c =
    let a = c.args in
    let book = book_in a.book.now in
    let text = a.text.now in
    let gave = rw c.rule_in.ensures at (rule-part a.choices book a.current_year text a.from.next c.rule_in.result (sym c.parse_rule.ensures ∙ c.in-Ok.is)) in
    let moves = rw c.in-Some.is at (moves-part a.choices book a.current_year text a.from.next (field (rule_in a.w)) c.requires.1.1 gave) in
    let kept = c.keep.ensures in
    λ row. quick-symbol a.choices book a.current_year a.w row text c.keep.result
    (rule-steps a.w row c.requires.0) moves (rw kept.0 c.in_ok-next-in-Ok.ensures) kept.1 kept.2
