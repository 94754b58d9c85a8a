-- The first two and the last two, and no digit behind them.
use mathlib.Core.Bool.{false}
use mathlib.Core.Path.{◌≡◌, refl, sym, ◌∙◌}
use lib.ListN.{drop}
use Rattle.meaning.specs.Bytes.{digit_at}
use Prim.Native.Nat.{◌+◌}
use Rattle.word_reader.proofs.plain.Numbers.{free-there, free-end}
use Rattle.word_reader.proofs.plain.year_at.Goals as goal
use Rattle.word_reader.proofs.plain.year_at.Goals.{else-end-text-via-then-end-text+else-is_digit, else-end-text-via-else-end-text}

pub returns : goal.returns
returns c =
    let a = c.args in
    let text = a.text.now in
    let free : digit_at 0 (drop (a.at + 4) text) ≡ false =
    elim c.else-end-text.branch [
      | else-end-text-via-then-end-text+else-is_digit t ↦ free-there text (a.at + 4) t.if-end-text.true (sym t.is_digit.ensures ∙ t.if-is_digit.false)
      | else-end-text-via-else-end-text e ↦ free-end text (a.at + 4) e.if-end-text.false
    ] in
    (c.in_ok-century.century, c.in_ok-rest.rest, c.in_ok-century.ensures, c.in_ok-rest.ensures, refl, free)
