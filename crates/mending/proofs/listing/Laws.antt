-- The loop that lists the changes: what holds at each turn, how it starts, one turn, and the list at its end.
use mathlib.Core.List.{List, [], ◌∷◌, ◌++◌, append_assoc, append-nil}
use mathlib.Core.Path.{◌≡◌, refl, sym, ap, ◌∙◌}
use Prim.Native.Nat.{ℕ, suc, ◌+◌, ◌-◌, ◌≤◌}
use native.Mathlib.Omega.{arith}
use lib.Dec.{eqb}
use lib.ListN.{length, drop, replicate, length-append, drop_of_length-le}
use lib.Seq.{set_at, append_snoc}
use Rattle.laws.proofs.Tests.{by-test}
use Rattle.meaning.specs.Mending.{space, change, listed, no_change, changes_of}
use Rattle.meaning.specs.Splitting.{contents}
use Rattle.meaning.specs.declared.Change.{Change}
use Rattle.meaning.specs.declared.Changes.{Changes}
use Rattle.meaning.specs.declared.Edition.{Edition}
use Rattle.meaning.specs.declared.Part.{Part}
use Rattle.mending.specs.Listing.{list_of, with_change}
use Rattle.mending.proofs.walk.Laws.{left_from, all_left, Found, gap-told, long-next, length-next}
use Rattle.trust.proofs.MendedSizes.{few-changes}
use Rattle.trust.specs.Mending.{mended, changes_from, changes}

with-one : (cs : List Change) (c : Change) → length cs + length (listed c) ≤ 128 → with_change (changes_of cs) c ≡ changes_of (cs ++ listed c)
with-one cs c h =
    by-test (eqb c.before c.after) (λ e. rw (e, append-nil))
    (λ e.
    let room : length cs + 1 ≤ 128 = rw e at h in
    let some : 128 - length cs ≡ suc (128 - (length cs + 1)) = omega (arith, room) in
    let long : length (cs ++ c ∷ []) ≡ length cs + 1 = length-append cs (c ∷ []) in
    let stored = set_at cs no_change (replicate (128 - (length cs + 1)) no_change) c (length cs) refl in
    rw (e, long, some, append_snoc) (ap (λ (l : List Change). list_of l (length cs + 1)) stored))

-- What is listed and the changes of what is left of the pattern are all changes.
pub record Listed (edition : Edition) (p : List ℕ) (list : Changes) (at place : ℕ) : Type 0 where
  pub so_far : List Change
  pub held : list ≡ changes_of so_far
  pub rest : so_far ++ changes_from edition at (contents (drop place p)) ≡ changes edition p
  pub left : at + length (left_from edition p place) ≡ length (mended edition p)

pub listed_start : (edition : Edition) (p : List ℕ) → Listed edition p (changes_of []) 0 0
listed_start edition p =
    record { so_far = []; held = refl; rest = unfold changes in refl; left = omega (arith, ap length (all_left edition p)) }

-- the list has room for all
all-few : (edition : Edition) (p : List ℕ) → length (mended edition p) ≤ 256 → length (changes edition p) ≤ 128
all-few edition p h = omega (arith, few-changes edition p)

module _ {edition : Edition} {p : List ℕ} {at place : ℕ} {part : Part} {own : Change} {spaces : ℕ}
    (f : Found edition p at place part own spaces) where
  abbrev pub behind : ℕ
  behind = at + (part.length + (own.after - own.before))

  abbrev pub between : Change
  between = change behind space 0 spaces

  abbrev others : List Change
  others = changes_from edition (behind + spaces) (contents (drop (place + part.length) p))

  -- the changes of this part and of those behind it
  changes-next : changes_from edition at (contents (drop place p)) ≡ listed own ++ listed between ++ others
  unfolding changes_from
  changes-next = ap (changes_from edition at) f.next.walk ∙ rw (long-next f, gap-told f, ← f.own-told)

  module _ {list : Changes} (short : length (mended edition p) ≤ 256) (l : Listed edition p list at place) where
    room : length l.so_far + length (listed own) + length (listed between) ≤ 128
    room =
        let these = listed own ++ listed between in
        let all : length (l.so_far ++ (these ++ others)) ≡ length (changes edition p) = ap length (rw changes-next at l.rest) in
        let long = length-append l.so_far (these ++ others) in
        omega (arith, all, long, length-append these others, length-append (listed own) (listed between), all-few edition p short)

    pub own_room : list.used + length (listed own) ≤ 128
    own_room = rw l.held (omega (arith, room))

    own-listed : with_change list own ≡ changes_of (l.so_far ++ listed own)
    own-listed = rw l.held (with-one l.so_far own (omega (arith, room)))

    both-room : length (l.so_far ++ listed own) + length (listed between) ≤ 128
    both-room = omega (arith, room, length-append l.so_far (listed own))

    pub between-room : (with_change list own).used + length (listed between) ≤ 128
    between-room = rw own-listed both-room

    -- the next place is inside
    pub place-fits : behind + spaces ≤ 256
    place-fits = omega (arith, l.left, length-next f, short)

    pub listed-turn : Listed edition p (with_change (with_change list own) between) (behind + spaces) (place + part.length)
    listed-turn =
        record {
          so_far = l.so_far ++ listed own ++ listed between;
          held = rw own-listed (with-one (l.so_far ++ listed own) between both-room);
          rest =
              rw (append_assoc l.so_far (listed own) (listed between), append_assoc l.so_far (listed own ++ listed between) others)
              (rw changes-next at l.rest);
          left = omega (arith, l.left, length-next f);
        }

pub listed-done : {edition : Edition} {p : List ℕ} {list : Changes} {at place : ℕ} → Listed edition p list at place → length p ≤ place
    → list ≡ changes_of (changes edition p)
unfolding contents changes_from
listed-done {edition} {p} l h = l.held ∙ ap changes_of (sym (append-nil l.so_far) ∙ rw (drop_of_length-le p h) at l.rest)
