-- Each condition of `Beside` is needed: two accepted patterns that meet all but one, and what is written of their join is not
-- what they write one after the other. An open quote, equal bytes, two quotes, 257 bytes.
use Rattle.std.specs.Prelude.{Ok, Err}
use mathlib.Core.Bool.{Bool, true, false, not}
use mathlib.Core.List.{List, [], ◌∷◌, ◌++◌, map}
use mathlib.Core.Path.{◌≡◌, refl}
use Prim.Native.Char.{code}
use Prim.Native.Nat.{ℕ, ◌+◌}
use lib.Dec.{eqb}
use lib.IntN.{pos}
use lib.ListN.{length, replicate}
use Rattle.meaning.specs.Bytes.{bytes, num}
use Rattle.meaning.specs.Names.{english}
use Rattle.meaning.specs.Whole.{write}
use Rattle.meaning.specs.declared.Fields.{Fields}
use Rattle.meaning.specs.declared.Pair.TheVariants.{Full}
use Rattle.meaning.specs.declared.Refusal.TheVariants.{PatternTooLong}
use Rattle.meaning.specs.Results.{Wrote}
use Rattle.laws.specs.Halves.{starts_quoted, meet_equal}
use Rattle.laws.proofs.Tests.{every}

-- two patterns, the conditions, and the answers
pub record Row : Type 0 where
  pub first : List ℕ
  pub second : List ℕ
  pub starts_quoted : Bool
  pub meet_equal : Bool
  pub bytes : ℕ
  pub apart : Wrote
  pub joined : Wrote

-- a day of two digits, and an output with room
abbrev day : Fields
day = record { year = pos 2025; month = 12; day = 23; doy = 357; week = 52; wday = 2; nanos = 0; offset = pos 0 }

abbrev answer : List ℕ → Wrote
answer p = write Full english p day (replicate 300 0)

-- as many bytes as both
abbrev and_then : Wrote → Wrote → Wrote
and_then (Ok n) (Ok m) = Ok (n + m)
and_then (Ok n) (Err why) = Err why
and_then (Err why) other = Err why

pub asked : List ℕ → List ℕ → Row
asked p q =
    record {
      first = p;
      second = q;
      starts_quoted = starts_quoted p q;
      meet_equal = meet_equal p q;
      bytes = length p + length q;
      apart = and_then (answer p) (answer q);
      joined = answer (p ++ q);
    }

abbrev row : List ℕ → List ℕ → Bool → Bool → ℕ → Wrote → Wrote → Row
row p q quoted equal n apart joined =
    record { first = p; second = q; starts_quoted = quoted; meet_equal = equal; bytes = n; apart = apart; joined = joined }

pub table : List Row
table =
    row (bytes "'a") (bytes "d") true false 3 (Ok 3) (Ok 2)
    ∷ row (bytes "d") (bytes "d") false true 2 (Ok 4) (Ok 2)
    ∷ row (bytes "'a'") (bytes "'b'") false true 6 (Ok 2) (Ok 3)
    ∷ row (replicate 256 (code "/")) (bytes "-") false false 257 (Ok 257) (Err (PatternTooLong 257))
    ∷ []

pub answers : map (λ r. asked r.first r.second) table ≡ table
unfolding table asked write bytes num starts_quoted meet_equal
answers = refl

abbrev differ : Wrote → Wrote → Bool
differ (Ok n) (Ok m) = not (eqb n m)
differ (Ok n) (Err why) = true
differ (Err why) other = false

pub all-differ : every (λ r. differ r.apart r.joined) table ≡ true
unfolding table every
all-differ = refl
