-- What the writer of stamps leaves in a lent output: it reads as the record; and a pattern leaves the same, with the same answer.
use Rattle.std.specs.Prelude.{Ok}
use mathlib.Core.Bool.{Bool, true, false}
use mathlib.Core.List.{List, ◌++◌}
use mathlib.Core.Path.{◌≡◌, subst}
use Prim.Native.Nat.{ℕ, ◌+◌, ◌≤◌}
use native.Mathlib.Omega.{arith}
use borrow.Author.Tests.{leb-true}
use lib.Dec.{leb}
use lib.ListN.{length, take, drop}
use lib.Seq.{sets, sets-eq, take-append_seam}
use Rattle.meaning.specs.Answers.{fields_check, room_check}
use Rattle.meaning.specs.Bytes.{bytes}
use Rattle.meaning.specs.Names.{Book}
use Rattle.meaning.specs.Stamps.{stamp_check, stamp_text, stamp_write_check, read_stamp, write_stamp, stamp_output}
use Rattle.meaning.specs.Whole.{write_check, write, output}
use Rattle.meaning.specs.declared.Fields.{Fields}
use Rattle.meaning.specs.declared.Pair.TheVariants.{Full}
use Rattle.meaning.specs.declared.Refusal.TheVariants.{NoRoom}
use Rattle.meaning.specs.declared.Stamp.{Stamp}
use Rattle.laws.proofs.Checks.{else-fine, fine-unless}
use Rattle.laws.proofs.StampPatterns.{stamp_pattern, FieldsOf, whole_second, stamp-by-pattern, pattern-fine}
use Rattle.laws.proofs.Stamps.{stamp-fine, positive, written-reads}
use Rattle.laws.proofs.Writes.{wrote-fine}

-- written into a lent output, then read from there

pub output-reads : (t : Stamp) (out : List ℕ) {n : ℕ} → write_stamp t out ≡ Ok n → read_stamp (take n (stamp_output t out)) ≡ Ok t
unfolding write_stamp stamp_output stamp_write_check
output-reads t out {n} h =
    let s = stamp_text t in
    let w = wrote-fine (stamp_write_check t (length out)) s h in
    let checks = else-fine (stamp_check t) (room_check (length out) (length s)) w.0 in
    let fits : length s ≤ length out = leb-true (length s) (length out) (fine-unless (leb (length s) (length out)) (NoRoom (length s)) checks.1) in
    let none : 0 + length s ≡ length s = omega arith in
    let laid : sets out 0 s ≡ s ++ drop (length s) out = rw none at (sets-eq s out 0 (omega arith)) in
    rw (w.0, w.1, laid, take-append_seam s (drop (length s) out)) (written-reads t checks.0)

-- by a pattern, with any field record that has the stamp's fields

module _ (book : Book) (t : Stamp) (f : Fields) (same : FieldsOf t f) (allowed : fields_check f ≡ Ok tt) (h : stamp_check t ≡ Ok tt) (out : List ℕ) where
  abbrev AsPattern : List ℕ → Type 0
  AsPattern p = (write Full book p f out ≡ write_stamp t out) × (output Full book p f out ≡ stamp_output t out)

  as-pattern-of : AsPattern (stamp_pattern (whole_second t) t.unknown)
  unfolding write output write_check write_stamp stamp_output stamp_write_check
  as-pattern-of =
      let e = stamp-by-pattern book t f same (positive t (stamp-fine t h)) in
      let p = pattern-fine (whole_second t) t.unknown in
      (rw (p, allowed, h, e), rw (p, allowed, h, e))

  by-marks : (whole unknown : Bool) → whole_second t ≡ whole → t.unknown ≡ unknown → AsPattern (stamp_pattern whole unknown)
  by-marks whole unknown e d =
      subst (λ (b : Bool). AsPattern (stamp_pattern whole b)) d
      (subst (λ (a : Bool). AsPattern (stamp_pattern a t.unknown)) e as-pattern-of)

  -- no fraction and no mark
  pub as-pattern : whole_second t ≡ true → t.unknown ≡ false → AsPattern (bytes "yyyy-MM-dd'T'HH:mm:ssXXX")
  as-pattern = by-marks true false

  -- a fraction and no mark
  pub as-fraction : whole_second t ≡ false → t.unknown ≡ false → AsPattern (bytes "yyyy-MM-dd'T'HH:mm:ss.nnnnnXXX")
  as-fraction = by-marks false false
