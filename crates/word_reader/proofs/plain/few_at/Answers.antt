-- None, one by itself, or what follows it too.
use mathlib.Core.Path.{sym, ◌∙◌}
use Rattle.word_reader.proofs.plain.Numbers.{few-none, few-one, few-last, few-alone, few-both}
use Rattle.word_reader.proofs.plain.few_at.Goals as goal
use Rattle.word_reader.proofs.plain.few_at.Goals.{then-most-eq1-via-then-most-eq1, then-most-eq1-via-else-most-eq1+then-text-at, then-most-eq1-via-else-most-eq1+else-text-at+then-not-is_digit-2}

pub returns-then-not-is_digit : goal.returns-then-not-is_digit
returns-then-not-is_digit c =
    let a = c.args in
    few-none a.most a.text.now a.at c.requires (sym c.is_digit.ensures ∙ c.if-not-is_digit.true)

pub returns-then-most-eq1 : goal.returns-then-most-eq1
returns-then-most-eq1 c =
    let a = c.args in
    let first = sym c.is_digit.ensures ∙ c.if-not-is_digit.false in
    elim c.then-most-eq1.branch [
      | then-most-eq1-via-then-most-eq1 w ↦ few-one a.most a.text.now a.at c.requires first w.if-most-eq1.true
      | then-most-eq1-via-else-most-eq1+then-text-at w ↦ few-last a.most a.text.now a.at c.requires first w.if-most-eq1.false w.if-text-at.true
      | then-most-eq1-via-else-most-eq1+else-text-at+then-not-is_digit-2 w ↦
          few-alone a.most a.text.now a.at c.requires first w.if-most-eq1.false w.if-text-at.false (sym w.is_digit-else-text-at.ensures ∙ w.if-not-is_digit-2.true)
    ]

pub returns : goal.returns
returns c =
    let a = c.args in
    let first = sym c.is_digit.ensures ∙ c.if-not-is_digit.false in
    few-both a.most a.text.now a.at c.requires first c.if-most-eq1.false c.if-text-at.false (sym c.is_digit-else-text-at.ensures ∙ c.if-not-is_digit-2.false)
