-- Each kind of part.
use Prim.Native.Nat.{◌+◌}
use mathlib.Core.Bool.{true, false}
use mathlib.Core.Logic.{⊎_elim}
use mathlib.Core.Path.{sym, ◌∙◌}
use Rattle.mending.proofs.parts.Laws.{own-run, own-quotes, own-quoted, own_open}
use Rattle.pattern.proofs.parts.Walks.{rest_all}
use Rattle.mending.proofs.parts.own_change.Goals as goal
use Rattle.mending.proofs.parts.own_change.Goals.{then-ends_in_quote, else-ends_in_quote}

pub returns-in-Run : goal.returns-in-Run
returns-in-Run c =
    let a = c.args in
    rw c.mended_count.ensures (sym (own-run a.edition a.at c.requires.next c.in-Run.is))

pub returns-in-Quotes : goal.returns-in-Quotes
returns-in-Quotes c =
    let a = c.args in
    c.closing.ensures ∙ sym (⊎_elim (own-quotes a.edition a.at c.requires.next) (own-quoted a.edition a.at c.requires.next) c.in-Quotes.is)

pub returns-after-ends_in_quote : goal.returns-after-ends_in_quote
returns-after-ends_in_quote c =
    let a = c.args in
    let ends = rw (rest_all (a.part.start + 1) a.pattern.now) at c.ends_in_quote.ensures in
    let opened = own_open a.edition a.at c.requires.next c.in-Open.is in
    elim c.if-ends_in_quote.branch [
      | then-ends_in_quote w ↦ rw w.after-is at c.closing-in-Open.ensures ∙ sym (opened true (sym ends ∙ w.if-ends_in_quote.true))
      | else-ends_in_quote w ↦ rw w.after-is at c.closing-in-Open.ensures ∙ sym (opened false (sym ends ∙ w.if-ends_in_quote.false))
    ]
