-- No step of a zone takes more than there is, and none stops behind it. So a cursor that moves on stays in its text.
use Rattle.std.specs.Prelude.{Ok}
use mathlib.Core.Bool.{Bool}
use mathlib.Core.List.{List, [], ◌∷◌}
use mathlib.Core.Path.{◌≡◌, ap}
use Rattle.parse.proofs.cursor.Moves.{same_ok}
use Prim.Native.Char.{code}
use Prim.Native.Nat.{ℕ, suc, ◌+◌, ◌≤◌}
use native.Mathlib.Omega.{arith}
use lib.Dec.{eqb}
use lib.ListN.{length, drop, length-drop}
use Rattle.laws.proofs.Tests.{when-is}
use Rattle.meaning.specs.Bytes.{both, digit_at, plus, minus}
use Rattle.meaning.specs.Readers.{Got, got, stopped, take_count, skip, ZoneSign, utc, ahead, behind_utc, zone_sign}
use Rattle.meaning.specs.Reading.{zone_behind, zone_size_with, zone_size, zone_group, take_group, colon_length}
use Rattle.meaning.specs.declared.Group.{Group}
use Rattle.meaning.specs.declared.Group.TheVariants.{Never, NotZero, Always}
use Rattle.parse.proofs.steps.Within.{Within, within_on, within-skip, within_count, read_stays}
use Rattle.parse.specs.declared.cursor.Read.{Read}
use Rattle.parse.specs.declared.zones.ZoneSign as sign
use Rattle.parse.specs.Zones.{counted_at, sign_at}

pub within-sign : (z : Bool) (s : List ℕ) → Within (length s) (zone_sign z s)
unfolding zone_sign
within-sign z [] = omega arith
within-sign z (b ∷ s) =
    when-is (λ (g : Got ZoneSign). Within (suc (length s)) g) (both z (eqb b (code "Z"))) (λ _. omega arith)
    (λ _. when-is (λ (g : Got ZoneSign). Within (suc (length s)) g) (eqb b plus) (λ _. omega arith)
    (λ _. when-is (λ (g : Got ZoneSign). Within (suc (length s)) g) (eqb b minus) (λ _. omega arith) (λ _. omega arith)))

within-skip-count : (c : Bool) (s : List ℕ) → Within (length s) (take_group c s)
within-skip-count c s = within_on (skip (colon_length c) s) _ s (within-skip (colon_length c) s) (λ _ t. within_count 2 t)

pub within-group : (c : Bool) (g : Group) (s : List ℕ) → Within (length s) (zone_group c g s)
within-group c Never s = omega arith
within-group c NotZero s =
    when-is (λ (g : Got ℕ). Within (length s) g) (digit_at (colon_length c) s) (λ _. within-skip-count c s) (λ _. omega arith)
within-group c Always s = within-skip-count c s

within-size : (c : Bool) (minutes seconds : Group) (s : List ℕ) → Within (length s) (zone_size c minutes seconds s)
unfolding zone_size_with
within-size c minutes seconds s =
    within_on (take_count 2 s) _ s (within_count 2 s)
    (λ hh t. within_on (zone_group c minutes t) _ t (within-group c minutes t)
    (λ mm u. within_on (zone_group c seconds u) _ u (within-group c seconds u) (λ ss v. omega arith)))

pub within-zone : (c : Bool) (minutes seconds : Group) (z : ZoneSign) (s : List ℕ) → Within (length s) (zone_behind (zone_size c minutes seconds) z s)
within-zone c minutes seconds utc s = omega arith
within-zone c minutes seconds ahead s = within_on (zone_size c minutes seconds s) _ s (within-size c minutes seconds s) (λ n t. omega arith)
within-zone c minutes seconds behind_utc s = within_on (zone_size c minutes seconds s) _ s (within-size c minutes seconds s) (λ n t. omega arith)

-- the moved cursor

module _ (at : ℕ) (text : List ℕ) where
  pub counted-stays : (g : Got ℕ) {read : Read ℕ} → at ≤ length text → Within (length (drop at text)) g
      → counted_at at g ≡ Ok read → read.next.at ≤ length text
  counted-stays = read_stays at text

  -- behind a sign, if there is one
  pub sign-stays : (g : Got ZoneSign) {read : Read sign.ZoneSign} → at ≤ length text → Within (length (drop at text)) g
      → sign_at at g ≡ Ok read → read.next.at ≤ length text
  sign-stays (got n s) {read = read} h k e = let d : at + n ≡ read.next.at = ap (λ (r : Read sign.ZoneSign). r.next.at) (same_ok e) in omega (arith, length-drop at text)
  sign-stays (stopped why i) h k e = absurd (let z : ◌≡◌ {A = ℕ} 0 1 = cc in omega arith)
