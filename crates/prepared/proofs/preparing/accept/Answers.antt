-- The words are laid by `pack`; the check word is that of what lies there.
use mathlib.Core.List.{List, ◌++◌}
use mathlib.Core.Path.{◌≡◌, ◌∙◌}
use Prim.Native.Nat.{ℕ, ◌-◌, ◌≤◌}
use native.Mathlib.Omega.{arith}
use lib.ListN.{length, take, drop}
use lib.Seq.{sets}
use Rattle.laws.proofs.Checks.{pattern-fine}
use Rattle.meaning.specs.declared.Pair.{Pair}
use Rattle.prepared.proofs.RowParts.{words-lie, held-lie, worded-length, part-worded}
use Rattle.prepared.specs.PreparedRows.{found_of, worded}
use Rattle.words.proofs.PackedRoom.{packed-short}
use Rattle.words.specs.Packing.{packed, held_by}
use Rattle.prepared.proofs.preparing.accept.Goals as goal

-- the row behind the head is what `pack` has left
laid-there : (pair : Pair) (p row : List ℕ) {held : ℕ} {new : List ℕ} → 259 ≤ length row → held ≡ 256 - length (held_by p)
    → new ≡ sets (sets (take (length row - 3) (drop 3 row)) 0 (packed pair p)) held (held_by p)
    → take 3 row ++ (new ++ drop (length row - 3) (drop 3 row)) ≡ worded row (packed pair p) (held_by p)
laid-there pair p row long h e = rw (e, h) (part-worded row (packed pair p) (held_by p) (omega arith))

as_long : {row new : List ℕ} → row ≡ new → 259 ≤ length new → 259 ≤ length row
as_long e h = rw e h

pub found_in-found-requires : goal.found_in-found-requires
found_in-found-requires c =
    let s = c in
    let short = (pattern-fine s.args.pattern.now s.requires.1).short in
    (omega (arith, c.pack-laid.ensures.1), short)

pub check_of-check-requires : goal.check_of-check-requires
check_of-check-requires c =
    let s = c in
    let p = s.args.pattern.now in
    let short = (pattern-fine p s.requires.1).short in
    let pack = c.pack-laid in
    let fits = packed-short s.args.pair p s.requires.1 in
    let laid = laid-there s.args.pair p s.args.row.now (omega arith) pack.ensures.1 pack.ensures.2 in
    (as_long laid (omega (arith, worded-length s.args.row.now (packed s.args.pair p) (held_by p))), omega (arith, pack.ensures.0), omega (arith, pack.ensures.1))

pub overflow_add-used : goal.overflow_add-used
overflow_add-used c =
    let pack = c.pack-laid in
    let s = c in
    let short = (pattern-fine s.args.pattern.now s.requires.1).short in
    record { fits = omega (arith, pack.ensures.0, packed-short s.args.pair s.args.pattern.now s.requires.1) }

pub returns : goal.returns
unfolding found_of
returns c =
    let s = c in
    let pack = c.pack-laid in
    let found = c.found_in-found in
    let check = c.check_of-check in
    let a = s.args in
    let p = a.pattern.now in
    let ws = packed a.pair p in
    let hs = held_by p in
    let few = packed-short a.pair p s.requires.1 in
    let short = (pattern-fine p s.requires.1).short in
    let laid = laid-there a.pair p a.row.now (omega arith) pack.ensures.1 pack.ensures.2 in
    let words = words-lie a.row.now ws hs (omega arith) (omega arith) in
    let held = held-lie a.row.now ws hs (omega arith) (omega arith) in
    c.put_head.ensures
    ∙ rw (check.ensures, found.ensures, pack.ensures.0, pack.ensures.1, laid, words, held)
