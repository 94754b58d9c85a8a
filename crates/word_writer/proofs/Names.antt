-- Names that are spelled: which one a record gives, and that it is the name of its list.
use mathlib.Core.Bool.{true, false}
use mathlib.Core.List.{List}
use mathlib.Core.Logic.{⊎_elim}
use mathlib.Core.Path.{◌≡◌}
use Prim.Native.Nat.{ℕ, ◌+◌, ◌-◌}
use native.Mathlib.Omega.{arith}
use lib.ListN.{length, take}
use borrow.Author.Tests.{eqb-true}
use Rattle.laws.proofs.Fields.{Allowed}
use Rattle.laws.proofs.OpenedBooks.{opened-there}
use Rattle.laws.proofs.Tests.{true-is-not-false}
use Rattle.meaning.specs.OpenedBooks.{opened_size, book_in}
use Rattle.meaning.specs.Writing.{place_of, name_text}
use Rattle.meaning.specs.declared.Fields.{Fields}
use Rattle.names.proofs.rooms.Lent.{lent-english}
use Rattle.names.specs.Letters.{name_numbered}
use Rattle.words.proofs.SpelledWords.{spelled-kinds, spelled-word}
use Rattle.words.specs.Coding.{list_in, is_spelled, is_weekday, most_letters}
use Rattle.words.specs.Fields.{item}
use Rattle.word_writer.specs.Written.{spelled_name}

module _ (f : Fields) (w : ℕ) where
  pub weekday-name : is_weekday w ≡ true → spelled_name f w ≡ f.wday + 12
  unfolding place_of list_in
  weekday-name h = rw (eqb-true (item w) 8 h) (omega arith)

  pub month-name : is_spelled w ≡ true → is_weekday w ≡ false → spelled_name f w ≡ f.month - 1
  unfolding place_of list_in
  month-name s h =
      ⊎_elim (λ e. rw e (omega arith))
      (⊎_elim (λ e. rw e (omega arith)) (λ e. true-is-not-false (rw e at h)))
      (spelled-kinds w s)

  pub spelled-text : (row : List ℕ) → (length row ≡ opened_size → ⊥) → Allowed f → is_spelled w ≡ true
      → take (most_letters w) (name_numbered (spelled_name f w)) ≡ name_text (book_in row) (list_in (item w)) f
  unfolding name_text
  spelled-text row h ok s =
      let e = lent-english row h in
      let there = rw e at (opened-there row (list_in (item w)) f ok) in
      rw e ((spelled-word w s).1 (place_of (list_in (item w)) f) there)
