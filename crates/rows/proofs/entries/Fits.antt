-- What checks refuse tells counts that fit: one check after the other, a check of each byte, and refusals 1 and 2.
use Rattle.std.specs.Prelude.{Ok, Err}
use mathlib.Core.Bool.{Bool, true, false}
use mathlib.Core.List.{List, [], ◌∷◌}
use mathlib.Core.Path.{◌≡◌, refl}
use Prim.Native.Nat.{ℕ, suc, ◌+◌, ◌<◌}
use native.Mathlib.Omega.{arith}
use lib.Dec.{leb}
use lib.ListN.{length}
use Rattle.meaning.specs.Answers.{◌else◌, refuse_unless, within, byte_check, bytes_check, details}
use Rattle.meaning.specs.Results.{Checked}
use Rattle.meaning.specs.declared.Refusal.{Refusal}
use Rattle.meaning.specs.declared.Refusal.TheVariants.{PatternTooLong, PatternByte}
use Rattle.rows.specs.Fits.{NumberFits, WhyFits, CheckedFits}

pub else-fits : (a b : Checked) → CheckedFits a → (a ≡ Ok tt → CheckedFits b) → CheckedFits (a else b)
else-fits (Ok _) b h k = k refl
else-fits (Err why) b h k = h

pub unless-fits : (t : Bool) (why : Refusal) → WhyFits why → CheckedFits (refuse_unless t why)
unless-fits true why h = tt
unless-fits false why h = h

pick-fits : (t : Bool) (a b : Checked) → CheckedFits a → CheckedFits b → CheckedFits (elim t as (λ x. Checked) [ true ↦ a | false ↦ b ])
pick-fits true a b h k = h
pick-fits false a b h k = k

pub byte_fits : (why : ℕ → Refusal) (low high i : ℕ) (s : List ℕ) → ((j : ℕ) → j < i + length s → WhyFits (why j))
    → CheckedFits (byte_check why low high i s)
unfolding byte_check
byte_fits why low high i [] h = tt
byte_fits why low high i (b ∷ s) h =
    pick-fits (within low high b) (byte_check why low high (suc i) s) (Err (why i))
    (byte_fits why low high (suc i) s (λ j k. h j (omega arith))) (h i (omega arith))

pub bytes_fit : (p : List ℕ) → NumberFits (length p) → CheckedFits (bytes_check p)
unfolding bytes_check details
bytes_fit p h =
    else-fits (refuse_unless (leb (length p) 256) (PatternTooLong (length p))) (byte_check PatternByte 1 127 0 p)
    (unless-fits (leb (length p) 256) (PatternTooLong (length p)) (h, tt))
    (λ _. byte_fits PatternByte 1 127 0 p (λ j k. (omega arith, tt)))
