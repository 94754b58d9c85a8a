-- What a mending and an undoing answer and leave of the output: refused, without room, with room.
use Rattle.std.specs.Prelude.{Ok, Err}
use mathlib.Core.Bool.{true, false}
use mathlib.Core.List.{List}
use mathlib.Core.Path.{◌≡◌}
use Prim.Native.Nat.{ℕ, ◌+◌, ◌≤◌, ◌<◌}
use native.Mathlib.Omega.{arith}
use borrow.Author.Tests.{le-leb, lt-leb}
use lib.IntN.{ℤ}
use lib.ListN.{length}
use lib.Seq.{sets}
use Rattle.laws.proofs.Checks.{else-fine, pattern-fine}
use Rattle.meaning.specs.Answers.{pattern_check, current_year_check}
use Rattle.meaning.specs.Mending.{changes_of, all_fit, undone_from, undo, undo_output}
use Rattle.meaning.specs.Trust.{trust_check}
use Rattle.meaning.specs.declared.Change.{Change}
use Rattle.meaning.specs.declared.Edition.{Edition}
use Rattle.meaning.specs.declared.Refusal.{Refusal}
use Rattle.meaning.specs.declared.Refusal.TheVariants.{NoRoom, MendedTooLong}
use Rattle.meaning.specs.declared.NotUndone.TheVariants.{Misfit, Refused}
use Rattle.trust.specs.Mending.{mended, changes, mend_check, mended_by, mend, mend_output}

pub checked-short : (edition : Edition) (p : List ℕ) (current : ℤ) → trust_check edition p current ≡ Ok tt → length p ≤ 256
unfolding trust_check
checked-short edition p current h = (pattern-fine p (else-fine (pattern_check p) (current_year_check edition current) h).0).short

-- the length is counted on from 0
pub mended-with : (t : List ℕ) (cs : List Change) → Ok (record { length = 0 + length t; changes = changes_of cs }) ≡ mended_by (Ok tt) t cs
mended-with t cs = let e : 0 + length t ≡ length t = omega arith in rw e

module _ (edition : Edition) (p : List ℕ) (current : ℤ) (out : List ℕ) where
  pub check-refused : {why : Refusal} → trust_check edition p current ≡ Err why
      → (mend edition p current out ≡ Err why) × (mend_output edition p current out ≡ out)
  unfolding mend mend_output mend_check
  check-refused h = (rw h, rw h)

  pub too_long : trust_check edition p current ≡ Ok tt → 256 < length (mended edition p)
      → (mend edition p current out ≡ Err MendedTooLong) × (mend_output edition p current out ≡ out)
  unfolding mend mend_output mend_check
  too_long h k = let e = lt-leb (length (mended edition p)) 256 k in (rw (h, e), rw (h, e))

  module _ (h : trust_check edition p current ≡ Ok tt) (short : length (mended edition p) ≤ 256) where
    pub no_room : length out < length (mended edition p)
        → (mend edition p current out ≡ Err (NoRoom (length (mended edition p)))) × (mend_output edition p current out ≡ out)
    unfolding mend mend_output mend_check
    no_room k =
        let e = le-leb (length (mended edition p)) 256 short in
        let d = lt-leb (length (mended edition p)) (length out) k in
        (rw (h, e, d), rw (h, e, d))

    pub with-room : length (mended edition p) ≤ length out
        → (mend edition p current out ≡ mended_by (Ok tt) (mended edition p) (changes edition p)) × (mend_output edition p current out ≡ sets out 0 (mended edition p))
    unfolding mend mend_output mend_check
    with-room k =
        let e = le-leb (length (mended edition p)) 256 short in
        let d = le-leb (length (mended edition p)) (length out) k in
        (rw (h, e, d), rw (h, e, d))

module _ (p : List ℕ) (cs : List Change) (out : List ℕ) where
  pub misfit : all_fit p 0 cs ≡ false → (undo p cs out ≡ Err Misfit) × (undo_output p cs out ≡ out)
  unfolding undo undo_output
  misfit h = (rw h, rw h)

  module _ (h : all_fit p 0 cs ≡ true) where
    pub undo-no-room : length out < length (undone_from p 0 cs)
        → (undo p cs out ≡ Err (Refused (NoRoom (length (undone_from p 0 cs))))) × (undo_output p cs out ≡ out)
    unfolding undo undo_output
    undo-no-room k = let d = lt-leb (length (undone_from p 0 cs)) (length out) k in (rw (h, d), rw (h, d))

    pub undo-with-room : length (undone_from p 0 cs) ≤ length out
        → (undo p cs out ≡ Ok (length (undone_from p 0 cs))) × (undo_output p cs out ≡ sets out 0 (undone_from p 0 cs))
    unfolding undo undo_output
    undo-with-room k = let d = le-leb (length (undone_from p 0 cs)) (length out) k in (rw (h, d), rw (h, d))
