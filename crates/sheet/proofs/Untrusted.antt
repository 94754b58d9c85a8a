-- A reading whose pattern or year is refused has that refusal for its answer, whatever the text is.
use Rattle.std.specs.Prelude.{Err}
use mathlib.Core.List.{List}
use mathlib.Core.Path.{◌≡◌}
use Prim.Native.Nat.{ℕ}
use lib.IntN.{ℤ}
use Rattle.laws.proofs.Checks.{read-checks}
use Rattle.meaning.specs.Answers.{refused, read_answer}
use Rattle.meaning.specs.Names.{Book}
use Rattle.meaning.specs.Trust.{trust_check}
use Rattle.meaning.specs.Whole.{read}
use Rattle.meaning.specs.declared.Choices.{Choices}
use Rattle.meaning.specs.declared.Refusal.{Refusal}

pub untrusted-read : (choices : Choices) (book : Book) (p s : List ℕ) (current : ℤ) (why : Refusal) → trust_check choices.edition p current ≡ Err why
    → read_answer (read choices book p s current) ≡ refused why
unfolding read
untrusted-read choices book p s current why e = rw (read-checks choices.edition p s current, e)
