-- Its counts and values are cleared; the checks of the text, then the words.
use borrow.Author.Rules.{rules}
use mathlib.Core.Path.{sym, ◌∙◌}
use mir.Syntax.{w32}
use mir.ValLaws.{to_z-of_z}
use native.Mathlib.Omega.{arith}
use Rattle.laws.proofs.Checks.{text-short}
use Rattle.std.proofs.lemmas.Option.{none-some}
use Rattle.word_reader.proofs.keeping.Rows.{cleared-row, whole-over}
use Rattle.word_reader.proofs.reading.read_quickly.Goals as goal

pub quick_words-requires : goal.quick_words-requires
quick_words-requires c =
    let s = c in
    let zeros = c.lay_zeros in (
      s.requires.0,
      omega (arith, zeros.auto.row, s.requires.1),
      text-short _ (sym c.text_check.ensures ∙ c.in-Ok.is),
      (cleared-row s.args.answer.now s.requires.1 zeros.ensures).0,
    )

pub returns-in-Ok : goal.returns-in-Ok
returns-in-Ok c =
    let s = c in
    let year = rw (to_z-of_z w32 s.args.year (search rules)) at c.size.ensures in
    let beyond = (cleared-row s.args.answer.now s.requires.1 c.lay_zeros.ensures).1 in
    (whole-over c.quick_words.result beyond (rw year at c.quick_words.ensures), λ _. sym c.text_check.ensures ∙ c.in-Ok.is)

pub returns-in-Err : goal.returns-in-Err
returns-in-Err c =
    let s = c in
    let beyond = (cleared-row s.args.answer.now s.requires.1 c.lay_zeros.ensures).1 in
    (record { beyond = beyond; reads = tt }, λ h. absurd (none-some tt h))
