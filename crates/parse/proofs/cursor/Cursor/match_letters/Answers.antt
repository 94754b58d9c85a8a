-- What the matcher finds in the bytes that the letters have.
use lib.ListN.{take, drop, length-take, length-drop}
use mathlib.Core.Path.{◌≡◌, sym, ◌∙◌}
use Prim.Native.Nat.{◌-◌}
use native.Mathlib.Omega.{arith}
use Rattle.meaning.specs.Names.{names}
use Rattle.meaning.specs.OpenedBooks.{book_in}
use Rattle.meaning.specs.Readers.{match_name}
use Rattle.names.proofs.tables.Answers.{found_name, found_within}
use Rattle.parse.proofs.cursor.Moves.{left_by, letters-skipped, skipped-end, matched-name, matched-nothing}
use Rattle.parse.proofs.cursor.Cursor.match_letters.Goals as goal

pub returns-in_err-end : goal.returns-in_err-end
returns-in_err-end c =
    let a = c.args in
    let at = a.self.at in
    let s = drop at a.text.now in
    rw (letters-skipped at a.k (names (book_in a.book.now) a.list) s, ← c.skip.ensures, c.in_err-end.was) (left_by c.from_residual.ensures.1)

pub slice_bounds-match_name-end : goal.slice_bounds-match_name-end
slice_bounds-match_name-end c =
    let a = c.args in
    let s = drop a.self.at a.text.now in
    omega (arith, skipped-end a.self.at a.k s (sym c.skip.ensures ∙ c.in_ok-end.was), length-drop a.self.at a.text.now)

pub slice_bounds-match_name-start : goal.slice_bounds-match_name-start
slice_bounds-match_name-start c =
    let a = c.args in
    let s = drop a.self.at a.text.now in
    omega (arith, skipped-end a.self.at a.k s (sym c.skip.ensures ∙ c.in_ok-end.was), length-drop a.self.at a.text.now)

pub overflow_add-result : goal.overflow_add-result
overflow_add-result c =
    let a = c.args in
    let at = a.self.at in
    let s = drop at a.text.now in
    let end = skipped-end at a.k s (sym c.skip.ensures ∙ c.in_ok-end.was) in
    let size : c.in_ok-end.end.at - at ≡ a.k = omega (arith, end.0) in
    let names' = names (book_in a.book.now) a.list in
    let found = sym (rw size at c.match_name.ensures) ∙ c.in-Some.is in
    let t = take a.k s in
    omega
    (arith, (found_within names' t (found_name (match_name names' t) found)).1, length-take a.k s, length-drop at a.text.now)

pub returns-in-Some : goal.returns-in-Some
returns-in-Some c =
    let a = c.args in
    let at = a.self.at in
    let s = drop at a.text.now in
    let end = skipped-end at a.k s (sym c.skip.ensures ∙ c.in_ok-end.was) in
    let size : c.in_ok-end.end.at - at ≡ a.k = omega (arith, end.0) in
    let names' = names (book_in a.book.now) a.list in
    let found = sym (rw size at c.match_name.ensures) ∙ c.in-Some.is in
    rw (letters-skipped at a.k names' s, ← c.skip.ensures, c.in_ok-end.was) (sym (matched-name at names' (take a.k s) found))

pub returns-in-None : goal.returns-in-None
returns-in-None c =
    let a = c.args in
    let at = a.self.at in
    let s = drop at a.text.now in
    let end = skipped-end at a.k s (sym c.skip.ensures ∙ c.in_ok-end.was) in
    let size : c.in_ok-end.end.at - at ≡ a.k = omega (arith, end.0) in
    let names' = names (book_in a.book.now) a.list in
    let found = sym (rw size at c.match_name.ensures) ∙ c.in-None.is in
    rw (letters-skipped at a.k names' s, ← c.skip.ensures, c.in_ok-end.was) (sym (matched-nothing at names' (take a.k s) found))
