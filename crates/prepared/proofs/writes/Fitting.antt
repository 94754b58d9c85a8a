-- The answer to a write by words fits a row: no word writes more than 542 bytes.
use Rattle.std.specs.Prelude.{Ok}
use mathlib.Core.List.{List}
use Prim.Native.Nat.{ℕ, ◌≤◌}
use native.Mathlib.Omega.{arith}
use borrow.Author.Tests.{leb-true}
use lib.Dec.{leb}
use lib.ListN.{length}
use Rattle.laws.proofs.Checks.{else-fine, fine-unless}
use Rattle.meaning.specs.Answers.{◌else◌, room_check, fields_check, details}
use Rattle.meaning.specs.OpenedBooks.{book_in}
use Rattle.meaning.specs.Writing.{texts}
use Rattle.meaning.specs.declared.Fields.{Fields}
use Rattle.meaning.specs.declared.Refusal.TheVariants.{NoRoom}
use Rattle.rows.proofs.WriteFits.{fields_fit, wrote-fits}
use Rattle.rows.proofs.entries.Fits.{else-fits, unless-fits}
use Rattle.rows.specs.Fits.{NumberFits, CheckedFits, CountFits}
use Rattle.words.specs.Pieces.{steps_of}
use Rattle.meaning.specs.Prepared.{write_steps_check, write_steps}
use Rattle.word_writer.proofs.Bounds.{words-fit, most-all}

module _ (book tail ws : List ℕ) (f : Fields) (out : List ℕ) (few : length ws ≤ 256) where
  check-fits : CheckedFits (write_steps_check (Ok tt) (book_in book) (steps_of tail ws) f (length out))
  unfolding write_steps_check details
  check-fits =
      let n = length (texts (book_in book) f (steps_of tail ws)) in
      else-fits (fields_check f) (room_check (length out) n) (fields_fit f)
      (λ fields. unless-fits (leb n (length out)) (NoRoom n) (omega (arith, words-fit book tail f fields ws, most-all ws), tt))

  pub write-fits : NumberFits (length out) → CountFits (write_steps (Ok tt) (book_in book) (steps_of tail ws) f out)
  unfolding write_steps write_steps_check
  write-fits h =
      let t = texts (book_in book) f (steps_of tail ws) in
      wrote-fits (fields_check f else room_check (length out) (length t)) t check-fits
      (λ e.
      let room = fine-unless (leb (length t) (length out)) (NoRoom (length t)) (else-fine (fields_check f) (room_check (length out) (length t)) e).1 in
      omega (arith, leb-true (length t) (length out) room))
