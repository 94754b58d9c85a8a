-- A pattern is refused for 1, 2 or 3 alone, and each comes back from its number and its detail.
use Rattle.std.specs.Prelude.{Ok, Err}
use mathlib.Core.Bool.{Bool, true, false}
use mathlib.Core.List.{List, [], ◌∷◌}
use mathlib.Core.Path.{◌≡◌, refl}
use Prim.Native.Nat.{ℕ, suc, ◌+◌, ◌-◌, ◌≤◌}
use native.Mathlib.Omega.{arith}
use lib.Dec.{leb}
use lib.ListN.{length}
use Rattle.laws.proofs.Tests.{by-test}
use Rattle.meaning.specs.Answers.{◌else◌, refuse_unless, within, byte_check, bytes_check, ends_in_lone_quote, pattern_check, number, details}
use Rattle.meaning.specs.Bytes.{when}
use Rattle.meaning.specs.Splitting.{contents}
use Rattle.meaning.specs.Results.{Checked}
use Rattle.meaning.specs.declared.Refusal.{Refusal}
use Rattle.meaning.specs.declared.Refusal.TheVariants.{PatternTooLong, PatternByte, LoneQuote}
use Rattle.words.specs.Rows.{refusal_of}
use Rattle.prepared.specs.PreparedRows.{detail}

pub record OfPattern (most : ℕ) (why : Refusal) : Type 0 where
  pub some : 1 ≤ number why
  pub few : number why ≤ 3
  pub back : refusal_of (1024 + number why) (detail why) ≡ why
  pub small : detail why ≤ most

abbrev CheckOf : ℕ → Checked → Type 0
CheckOf most (Ok _) = Unit
CheckOf most (Err why) = OfPattern most why

else-of : (most : ℕ) (a b : Checked) → CheckOf most a → CheckOf most b → CheckOf most (a else b)
else-of most (Ok _) b h k = k
else-of most (Err why) b h k = h

too_long : (n most : ℕ) → n ≤ most → OfPattern most (PatternTooLong n)
unfolding number details
too_long n most h = record { some = omega arith; few = omega arith; back = refl; small = h }

bad-byte : (n most : ℕ) → n ≤ most → OfPattern most (PatternByte n)
unfolding number details
bad-byte n most h = record { some = omega arith; few = omega arith; back = refl; small = h }

lone-quote : (n most : ℕ) → n ≤ most → OfPattern most (LoneQuote n)
unfolding number details
lone-quote n most h = record { some = omega arith; few = omega arith; back = refl; small = h }

unless-of : (most : ℕ) (t : Bool) (why : Refusal) → OfPattern most why → CheckOf most (refuse_unless t why)
unless-of most true why h = tt
unless-of most false why h = h

byte_of : (most i : ℕ) (s : List ℕ) → i + length s ≤ most → CheckOf most (byte_check PatternByte 1 127 i s)
unfolding byte_check
byte_of most i [] h = tt
byte_of most i (b ∷ s) h =
    by-test (within 1 127 b) (λ e. rw (e, byte_check) (byte_of most (suc i) s (omega arith)))
    (λ e. rw (e, byte_check) (bad-byte i most (omega arith)))

quote-of : (most : ℕ) (t : Bool) (n : ℕ) → n ≤ most → CheckOf most (when t (Err (LoneQuote n)) (Ok tt))
quote-of most true n h = lone-quote n most h
quote-of most false n h = tt

check-of : (p : List ℕ) → CheckOf (length p) (pattern_check p)
unfolding pattern_check bytes_check
check-of p =
    else-of (length p) (bytes_check p) _
    (else-of (length p) (refuse_unless (leb (length p) 256) (PatternTooLong (length p))) (byte_check PatternByte 1 127 0 p)
    (unless-of (length p) (leb (length p) 256) (PatternTooLong (length p)) (too_long (length p) (length p) (omega arith)))
    (byte_of (length p) 0 p (omega arith)))
    (quote-of (length p) (ends_in_lone_quote (contents p)) (length p - 1) (omega arith))

pub of-pattern : (p : List ℕ) (why : Refusal) → pattern_check p ≡ Err why → OfPattern (length p) why
of-pattern p why e = rw e at (check-of p)
