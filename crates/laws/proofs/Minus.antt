-- What demand 2 excepts of the texts of zones, in three theorems. `same_text`: a zone is written as the Rust writes it, unless its
-- offset is below zero and every digit is zero. `other_text`: there it has a plus for the Rust's minus and the same digits.
-- `zone-of-count`: for X and x that is at offsets from -59 to -1, at every count but 4 and 5.
use mathlib.Core.Bool.{Bool, true, false}
use mathlib.Core.List.{◌∷◌}
use mathlib.Core.Path.{◌≡◌, refl, sym, ap}
use Prim.Native.Char.{code}
use Prim.Native.Nat.{ℕ, suc, ◌*◌, ◌/◌, ◌<◌}
use native.Mathlib.Omega.{arith}
use lib.Dec.{eqb, ltb}
use lib.IntN.{ℤ, pos, negsuc, nat_abs}
use borrow.Author.Tests.{eqb-true, eq-eqb, ne_eqb, lt-ltb, ltb-true}
use Rattle.meaning.specs.Bytes.{when, both, minus, plus}
use Rattle.meaning.specs.Minus.{rust_offset_text, rust_zone_text, minus_nothing, cuts_seconds, ExceptedZone}
use Rattle.meaning.specs.Rules.{date_role, otherwise_rule, pick, role_among, role_of, rule_of, time_role, zone, zoned}
use Rattle.meaning.specs.Writing.{is_negative, offset_digits, all_zero, is_minus, offset_text, zone_text}
use Rattle.meaning.specs.declared.Group.{Group}
use Rattle.meaning.specs.declared.Group.TheVariants.{Never, NotZero, Always}
use Rattle.meaning.specs.declared.Pair.TheVariants.{Full}
use Rattle.meaning.specs.declared.Role.TheVariants as role
use Rattle.meaning.specs.declared.Rule.{Rule}
use Rattle.laws.proofs.Tests.{both-no, by-test, same_test, true-is-not-false, when-is}
use Rattle.laws.proofs.Zones.{carried_size, is_never, value-is, zero-offset}

module _ (utc c : Bool) (minutes seconds : Group) where
  pub same_text : (z : ℤ) → minus_nothing c minutes seconds z ≡ false → zone_text utc c minutes seconds z ≡ rust_zone_text utc c minutes seconds z
  unfolding offset_text rust_offset_text is_minus minus_nothing
  same_text (pos n) e = by-test (all_zero (offset_digits c minutes seconds n)) (λ d. rw d) (λ d. rw d)
  same_text (negsuc n) e = rw e

  pub other_text : (z : ℤ) → minus_nothing c minutes seconds z ≡ true
      → (zone_text utc c minutes seconds z ≡ plus ∷ offset_digits c minutes seconds (nat_abs z))
      × (rust_zone_text utc c minutes seconds z ≡ minus ∷ offset_digits c minutes seconds (nat_abs z))
  unfolding offset_text rust_offset_text is_minus minus_nothing
  other_text (pos n) e = true-is-not-false (sym e)
  other_text (negsuc n) e =
      let some : both utc (eqb (suc n) 0) ≡ false = rw (ne_eqb (suc n) 0 (λ d. omega arith)) (both-no utc) in
      rw (some, e) (refl, refl)

-- with minutes: no digit but zero below a minute, where no seconds are written
below-minute : (seconds : Group) (n : ℕ) → 0 < n → eqb (carried_size seconds n) 0 ≡ both (is_never seconds) (ltb n 60)
below-minute Never n some =
    same_test _ _ (λ e. lt-ltb n 60 (omega (arith, eqb-true (n / 60 * 60) 0 e))) (λ e. eq-eqb (n / 60 * 60) 0 (omega (arith, ltb-true n 60 e)))
below-minute NotZero n some = ne_eqb n 0 (λ e. omega arith)
below-minute Always n some = ne_eqb n 0 (λ e. omega arith)

module _ (c : Bool) (minutes seconds : Group) (has-minutes : is_never minutes ≡ false) where
  nothing-below : (z : ℤ) → minus_nothing c minutes seconds z ≡ both (is_negative z) (both (is_never seconds) (ltb (nat_abs z) 60))
  unfolding minus_nothing
  nothing-below (pos n) = refl
  nothing-below (negsuc n) =
      rw (zero-offset, value-is minutes has-minutes seconds (suc n)) (below-minute seconds (suc n) (omega arith))

module _ (utc : Bool) (count : ℕ) where
  row : (c : Bool) (minutes seconds : Group) → is_never minutes ≡ false → is_never seconds ≡ cuts_seconds count
      → ExceptedZone utc count (role.Symbol (zoned utc c minutes seconds))
  row c minutes seconds has cut =
      record {
        colon = c;
        minutes = minutes;
        seconds = seconds;
        is-zone = refl;
        range = λ z. rw (nothing-below c minutes seconds has z, cut);
      }

  -- the rows of the table
  rows : (letter : ℕ) → ExceptedZone utc count (role.Symbol (rule_of (zone letter utc) count))
  unfolding rule_of pick otherwise_rule
  rows letter =
      let P : Rule → Type 0 = λ rule. ExceptedZone utc count (role.Symbol rule) in
      when-is P (eqb count 1) (λ e. row false NotZero Never refl (ap cuts_seconds (sym (eqb-true count 1 e))))
      (λ _.
      when-is P (eqb count 2) (λ e. row false Always Never refl (ap cuts_seconds (sym (eqb-true count 2 e))))
      (λ _.
      when-is P (eqb count 4) (λ four. row false Always NotZero refl (rw four))
      (λ four.
      when-is P (eqb count 5) (λ five. row true Always NotZero refl (rw (four, five)))
      (λ five. row true Always Never refl (rw (four, five))))))

-- X with utc, x without
pub zone-of-count : (utc : Bool) (count : ℕ) → ExceptedZone utc count (role_of Full (when utc (code "X") (code "x")) count)
unfolding role_of date_role time_role role_among
zone-of-count true count = rows true count (code "X")
zone-of-count false count = rows false count (code "x")
