-- The three places, and behind them the reading of the line between the first two.
use mathlib.Core.List.{List, [], ◌∷◌}
use mathlib.Core.Path.{◌≡◌, refl, ap, ◌∙◌}
use Prim.Native.Nat.{ℕ, ◌+◌, ◌-◌, ◌≤◌, ◌<◌}
use native.Mathlib.Omega.{arith}
use borrow.Author.Tests.{le-leb}
use lib.IntN.{pos}
use lib.ListN.{length, take, drop, length-take, length-drop}
use mir.Syntax.{w32}
use mir.ValLaws.{to_z-of_z}
use Rattle.laws.proofs.Lists.{end-inside, line_read}
use Rattle.laws.specs.Lists.{line_end, next_line}
use Rattle.lists.specs.declared.lines.Places.{Places}
use Rattle.meaning.specs.Answers.{read_answer}
use Rattle.meaning.specs.OpenedBooks.{book_in}
use Rattle.meaning.specs.Whole.{read}
use Rattle.rows.proofs.entries.Stored.{stored}
use Rattle.sheet.proofs.listed.Behind.{part, part-behind}
use Rattle.rows.specs.Rows.{in_row, laid}
use Rattle.sheet.proofs.listed.give_line.Goals as goal

ends-inside : (text : List ℕ) (at : ℕ) → at < length text → line_end text at ≤ length text
ends-inside text at h = end-inside text at (omega (arith, h))

pub entry-requires-2 : goal.entry-requires-2
entry-requires-2 c =
    let end = ap (λ (line : Places). line.end) c.line_at-end.ensures in
    omega (arith, end, ends-inside c.args.text.now c.args.at c.requires.0)

pub entry-requires-3 : goal.entry-requires-3
entry-requires-3 c =
    let next = ap (λ (line : Places). line.next) c.line_at-end.ensures in
    omega (arith, next)

pub slice_bounds-read-end : goal.slice_bounds-read-end
slice_bounds-read-end c =
    let end = ap (λ (line : Places). line.end) c.line_at-end.ensures in
    omega (arith, end, ends-inside c.args.text.now c.args.at c.requires.0)

pub returns : goal.returns
returns c =
    let first = c in
    let third-entry = first.entry-3 in
    let second-entry = first.entry-2 in
    let first_entry = first.entry in
    let line-there = first.line_at-end.ensures in
    let s = first in
    let a = s.args in
    let text = a.text.now in
    let old = a.row.now in
    let row = first.lay.new.row in
    let line = take (line_end text a.at - a.at) (drop a.at text) in
    let reading = read a.choices (book_in a.book.now) a.pattern.now line a.year in
    let long : a.at + length line ≡ line_end text a.at =
    omega (arith, length-take (line_end text a.at - a.at) (drop a.at text), length-drop a.at text, ends-inside s.args.text.now s.args.at s.requires.0, s.requires.0) in
    let places = pos a.at ∷ pos (line_end text a.at) ∷ pos (next_line text (line_end text a.at)) ∷ [] in
    let laid-places : row ≡ laid places old =
    first.lay.ensures
    ∙ rw (stored first_entry.result first_entry.type_inv, first_entry.ensures, stored second-entry.result second-entry.type_inv, second-entry.ensures, stored third-entry.result third-entry.type_inv, third-entry.ensures, line-there) in
    let room : 48 ≤ length (part 3 row) =
    omega (arith, length-take (length row - 3) (drop 3 row), length-drop 3 row, first.lay.auto.row, s.requires.1) in
    let given = rw (to_z-of_z w32 a.year s.ranges.year, line-there, le-leb 48 (length (part 3 row)) room) at c.read.ensures in
    rw (line_read a.choices (book_in a.book.now) a.pattern.now text a.year a.at (s.requires.0), long)
    (record {
      number = given.number;
      row = part-behind old places (in_row 48 (read_answer reading)).values 3 (omega (arith, first.lay.auto.row, s.requires.1)) laid-places refl given.row;
    })
