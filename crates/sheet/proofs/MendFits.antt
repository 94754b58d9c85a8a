-- The answers of mending and undoing fit a row: a mended pattern has at most 256 bytes, and its changes stand in it; changes undone
-- leave no more bytes than there were.
use Rattle.std.specs.Prelude.{Ok, Err}
use mathlib.Core.Bool.{true}
use mathlib.Core.List.{List, [], ◌∷◌, ◌++◌}
use mathlib.Core.Path.{◌≡◌, refl}
use Prim.Native.Nat.{ℕ, zero, suc, ◌+◌, ◌-◌, ◌≤◌}
use native.Mathlib.Omega.{arith}
use lib.Dec.{leb}
use lib.IntN.{ℤ}
use lib.ListN.{length, take, drop, replicate, length-drop, length-append, length-replicate}
use lib.Seq.{length-take-le}
use mir.Syntax.{w32}
use mir.Val.{SFits}
use borrow.Author.Tests.{leb-true}
use Rattle.laws.proofs.Checks.{else-fine, fine-unless}
use Rattle.laws.proofs.Tests.{both_true, when-is}
use Rattle.meaning.specs.Answers.{◌else◌, refuse_unless, pattern_check, current_year_check, room_check, details}
use Rattle.meaning.specs.Mending.{no_change, fits, all_fit, undone_from, undone_by, undo}
use Rattle.meaning.specs.Trust.{trust_check}
use Rattle.meaning.specs.declared.Change.{Change}
use Rattle.meaning.specs.Results.{Checked}
use Rattle.meaning.specs.declared.Edition.{Edition}
use Rattle.meaning.specs.declared.Refusal.TheVariants.{NoRoom, MendedTooLong}
use Rattle.mending.proofs.undoing.Laws.{fits-is}
use Rattle.trust.proofs.MendedSizes.{few-changes}
use Rattle.trust.proofs.Undoing.{changes-undone}
use Rattle.trust.specs.Mending.{mended, changes, mend_check, mended_by, mend}
use Rattle.rows.proofs.Fits.{pattern-fits, year-fits}
use Rattle.rows.proofs.entries.Fits.{else-fits, unless-fits}
use Rattle.rows.specs.Fits.{NumberFits, CheckedFits, AllChangesFit, MendedFits, UndoneFits}

-- changes

pub all_append : (a b : List Change) → AllChangesFit a → AllChangesFit b → AllChangesFit (a ++ b)
unfolding AllChangesFit
all_append [] b h k = k
all_append (c ∷ a) b h k = (h.0, all_append a b h.1 k)

none-fit : (n : ℕ) → AllChangesFit (replicate n no_change)
unfolding AllChangesFit
none-fit zero = tt
none-fit (suc n) = ((omega arith, omega arith, omega arith), none-fit n)

-- those that fit a pattern
standing-fit : (p : List ℕ) (at : ℕ) (cs : List Change) → NumberFits (length p) → all_fit p at cs ≡ true → AllChangesFit cs
unfolding all_fit AllChangesFit
standing-fit p at [] h e = tt
standing-fit p at (c ∷ cs) h e =
    let t = both_true (fits p at c) (all_fit p (c.place + c.after) cs) e in
    let f = fits-is p at c t.0 in
    ((omega (arith, f.inside), omega (arith, f.inside, f.adds), omega (arith, f.inside)), standing-fit p (c.place + c.after) cs h t.1)

-- mending

mended-by-fits : (checked : Checked) (t : List ℕ) (cs : List Change) → CheckedFits checked
    → (checked ≡ Ok tt → NumberFits (length t) × NumberFits (length cs) × AllChangesFit cs) → MendedFits (mended_by checked t cs)
mended-by-fits (Ok _) t cs h k =
    let fits = k refl in
    (fits.0, fits.1, all_append cs (replicate (128 - length cs) no_change) fits.2 (none-fit (128 - length cs)))
mended-by-fits (Err why) t cs h k = h

module _ (edition : Edition) (p : List ℕ) (current : ℤ) (room : ℕ) where
  abbrev long : ℕ
  long = length (mended edition p)

  abbrev too_long : Checked
  too_long = refuse_unless (leb long 256) MendedTooLong

  not-long : too_long ≡ Ok tt → long ≤ 256
  not-long e = leb-true long 256 (fine-unless (leb long 256) MendedTooLong e)

  mend-check-fits : NumberFits (length p) → SFits w32 current → CheckedFits (mend_check edition p current room)
  unfolding mend_check trust_check details
  mend-check-fits h y =
      else-fits (trust_check edition p current) (too_long else room_check room long)
      (else-fits (pattern_check p) (current_year_check edition current) (pattern-fits p h) (λ _. year-fits edition current y))
      (λ _. else-fits too_long (room_check room long) (unless-fits (leb long 256) MendedTooLong (omega arith, tt))
      (λ e. unless-fits (leb long room) (NoRoom long) (omega (arith, not-long e), tt)))

  fine-short : mend_check edition p current room ≡ Ok tt → long ≤ 256
  unfolding mend_check
  fine-short e =
      let behind = (else-fine (trust_check edition p current) (too_long else room_check room long) e).1 in
      not-long (else-fine too_long (room_check room long) behind).0

pub mend-fits : (edition : Edition) (p : List ℕ) (current : ℤ) (out : List ℕ) → NumberFits (length p) → SFits w32 current
    → MendedFits (mend edition p current out)
unfolding mend
mend-fits edition p current out h y =
    mended-by-fits (mend_check edition p current (length out)) (mended edition p) (changes edition p) (mend-check-fits edition p current (length out) h y)
    (λ e.
    let short = fine-short edition p current (length out) e in
    let all = standing-fit (mended edition p) 0 (changes edition p) (omega (arith, short)) (changes-undone edition p).0 in
    (omega (arith, short), omega (arith, short, few-changes edition p), all))

-- undoing

undone-shorter : (p : List ℕ) (at : ℕ) (cs : List Change) → at ≤ length p → all_fit p at cs ≡ true → at + length (undone_from p at cs) ≤ length p
unfolding all_fit undone_from
undone-shorter p at [] h e = omega (arith, length-drop at p)
undone-shorter p at (c ∷ cs) h e =
    let t = both_true (fits p at c) (all_fit p (c.place + c.after) cs) e in
    let f = fits-is p at c t.0 in
    let kept = take (c.place - at) (drop at p) in
    let stood = replicate c.before c.byte in
    let rest = undone_from p (c.place + c.after) cs in
    let kept-long = length-take-le (c.place - at) (drop at p) (omega (arith, f.inside, f.behind, length-drop at p)) in
    omega (arith, undone-shorter p (c.place + c.after) cs f.inside t.1, f.behind, f.adds, kept-long, length-append (kept ++ stood) rest, length-append kept stood, length-replicate c.before c.byte)

undone-by-fits : (checked : Checked) (t : List ℕ) → CheckedFits checked → NumberFits (length t) → UndoneFits (undone_by checked t)
undone-by-fits (Ok _) t h k = k
undone-by-fits (Err why) t h k = h

pub undo-fits : (p : List ℕ) (cs : List Change) (out : List ℕ) → NumberFits (length p) → UndoneFits (undo p cs out)
unfolding undo details
undo-fits p cs out h =
    let t = undone_from p 0 cs in
    when-is UndoneFits (all_fit p 0 cs)
    (λ e.
    let short = undone-shorter p 0 cs (omega arith) e in
    undone-by-fits (room_check (length out) (length t)) t (unless-fits (leb (length t) (length out)) (NoRoom (length t)) (omega (arith, short), tt)) (omega (arith, short)))
    (λ _. tt)
