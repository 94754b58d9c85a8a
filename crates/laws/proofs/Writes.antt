-- A write that is accepted: its checks are fine, its answer is the length of the text, and the output starts with the text.
use Rattle.std.specs.Prelude.{Ok, Err}
use mathlib.Core.List.{List, ◌++◌}
use mathlib.Core.Path.{◌≡◌, refl}
use Prim.Native.Nat.{ℕ, ◌+◌}
use native.Mathlib.Omega.{arith}
use lib.ListN.{length, drop}
use lib.Seq.{sets-eq}
use Rattle.meaning.specs.Names.{Book}
use Rattle.meaning.specs.Whole.{text, write_check, wrote_by, write, output}
use Rattle.meaning.specs.Results.{Checked}
use Rattle.meaning.specs.declared.Fields.{Fields}
use Rattle.meaning.specs.declared.Pair.{Pair}
use Rattle.laws.proofs.Checks.{Writes, write-fine, fine-write}

pub wrote-fine : (c : Checked) (t : List ℕ) {n : ℕ} → wrote_by c t ≡ Ok n → (c ≡ Ok tt) × (n ≡ length t)
wrote-fine (Ok _) t h = (refl, cc)
wrote-fine (Err why) t h = absurd (let z : ◌≡◌ {A = ℕ} 0 1 = cc in omega arith)

module _ (pair : Pair) (book : Book) (p : List ℕ) (f : Fields) (out : List ℕ) where
  pub wrote-length : {n : ℕ} → write pair book p f out ≡ Ok n
      → Writes pair book p f (length out) × (n ≡ length (text pair book p f))
  unfolding write
  wrote-length h =
      let t = wrote-fine (write_check pair book p f (length out)) (text pair book p f) h in
      (write-fine pair book p f (length out) t.0, t.1)

  pub length-wrote : Writes pair book p f (length out) → write pair book p f out ≡ Ok (length (text pair book p f))
  unfolding write
  length-wrote h = rw (fine-write h)

  pub output-wrote : Writes pair book p f (length out)
      → output pair book p f out ≡ text pair book p f ++ drop (length (text pair book p f)) out
  unfolding output
  output-wrote h =
      let t = text pair book p f in
      let n : 0 + length t ≡ length t = omega arith in
      rw (fine-write h) (rw n at (sets-eq t out 0 (omega (arith, h.fits))))
