-- What is guessed is confirmed by its letters.
use mathlib.Core.Path.{sym, ◌∙◌}
use native.Mathlib.Omega.{arith}
use borrow.Author.Tests.{le-ltb, lt-ltb}
use Rattle.names.proofs.letters.Laws.{length-spelled}
use Rattle.names.proofs.letters.spelled_at.Goals as goal
use Rattle.names.proofs.letters.spelled_at.Goals.{then-weekday, else-weekday}

pub returns : goal.returns
returns c =
    let m = c.cut_letters-spelt in
    let guess = c.if-weekday in (
      omega arith,
      record {
        below = elim guess.branch [ then-weekday w ↦ omega arith | else-weekday w ↦ omega arith ];
        kind =
            elim guess.branch [
              | then-weekday w ↦ rw w.if-weekday.true (le-ltb guess.name 12 (omega arith))
              | else-weekday w ↦ rw w.if-weekday.false (lt-ltb guess.name 12 (omega arith))
            ];
        size = sym (length-spelled m.result m.ensures);
        letters = c.same_letters.ensures c.if-not-same_letters.false ∙ m.ensures.0;
      },
    )
