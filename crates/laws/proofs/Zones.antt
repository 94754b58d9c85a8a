-- Zones come back: each group of two digits does, where one that is left out has no digit in its place, and so does the
-- whole offset, cut to minutes where seconds are never written. Where every digit is zero it is 0, with either sign.
use mathlib.Core.Bool.{Bool, true, false}
use mathlib.Core.List.{List, ◌∷◌, ◌++◌, append_assoc}
use mathlib.Core.Option.{some}
use mathlib.Core.Path.{◌≡◌, refl, sym, ap, ◌∙◌}
use Prim.Native.Char.{code}
use Prim.Native.Nat.{ℕ, ◌+◌, ◌*◌, ◌/◌, ◌%◌, ◌≤◌, ◌<◌}
use native.Mathlib.Nat.{add-zero}
use native.Mathlib.Omega.{arith}
use lib.Dec.{eqb}
use lib.IntN.{ℤ, pos, negsuc, neg_ℤ, nat_abs}
use lib.ListN.{length, take, length-append}
use lib.Seq.{take-append_seam}
use borrow.Author.Tests.{eqb-true, eq-eqb}
use Rattle.meaning.specs.Bytes.{when, both, digit_at, num, plus, minus}
use Rattle.meaning.specs.Names.{Book}
use Rattle.meaning.specs.Numerals.{Signed, number_of}
use Rattle.meaning.specs.Readers.{got, ◌>>=◌, done, skip, take_count, ahead, behind_utc, zone_sign}
use Rattle.meaning.specs.Reading.{value, colon_length, take_group, zone_group, zone_size_with, zone_size, zone_behind, read_rule, carried_offset}
use Rattle.meaning.specs.Rules.{zoned}
use Rattle.meaning.specs.Writing.{is_negative, colon_text, group_text, offset_digits, all_zero, is_minus, offset_text, zone_text}
use Rattle.meaning.specs.declared.Edition.{Edition}
use Rattle.meaning.specs.declared.Group.{Group}
use Rattle.meaning.specs.declared.Group.TheVariants.{Never, NotZero, Always}
use Rattle.meaning.specs.declared.Numeral.TheVariants.{Count}
use Rattle.meaning.specs.declared.ParseUnit.TheVariants as unit
use Rattle.laws.proofs.Digits.{all-num, all-zero-append, decimal-num, num-some, num-fits, digit-in, zero-num}
use Rattle.laws.proofs.Numbers.{digits-come-back}
use Rattle.laws.proofs.Readers.{in-turn, skip_goes_on, take-goes-on}
use Rattle.laws.proofs.Tests.{by-test, both_true, both-are, same_test, true-is-not-false, when-is}

-- two digits

pub two_digits : (n : ℕ) (r : List ℕ) → n < 100 → take_count 2 (num 2 n ++ r) ≡ got (length (num 2 n)) n
two_digits n r h =
    let size : length (num 2 n) ≡ 2 = num-fits 2 n (omega arith) h in
    let n' : Signed = record { negative = false; size = n } in
    let number : number_of Count (take 2 (num 2 n ++ r)) ≡ some n'
    = ap (λ (k : ℕ). number_of Count (take k (num 2 n ++ r))) (sym size)
    ∙ rw take-append_seam (digits-come-back Count (num 2 n) (num-some 2 n) (all-num 2 n) (rw decimal-num (omega arith)))
    ∙ ap (λ (m : ℕ). some (record { negative = false; size = m })) (decimal-num 2 n) in
    rw (take-goes-on Count 2 (num 2 n ++ r) n' (simp length-append (omega arith)) number, size)

colon-skipped : (c : Bool) (r : List ℕ) → skip (colon_length c) (colon_text c ++ r) ≡ got (length (colon_text c)) tt
colon-skipped true r = skip_goes_on 1 _ (omega arith)
colon-skipped false r = skip_goes_on 0 r (omega arith)

taken-group : (c : Bool) (n : ℕ) (r : List ℕ) → n < 100
    → take_group c ((colon_text c ++ num 2 n) ++ r) ≡ got (length (colon_text c ++ num 2 n)) n
taken-group c n r h =
    rw (append_assoc, length-append)
    (in-turn (skip (colon_length c)) (λ _. take_count 2) (colon_text c) (num 2 n) r tt n (colon-skipped c (num 2 n ++ r)) (two_digits n r h))

-- the first digit of a group stands where a missing one has none
digit-of-group : (c : Bool) (n : ℕ) (r : List ℕ) → digit_at (colon_length c) ((colon_text c ++ num 2 n) ++ r) ≡ true
unfolding digit_at
digit-of-group true n r = digit-in (num 2 n) r (all-num 2 n) 0 (num-some 2 n)
digit-of-group false n r = digit-in (num 2 n) r (all-num 2 n) 0 (num-some 2 n)

-- what a group gives, and what it needs of the rest
abbrev pub group_value : Group → ℕ → ℕ
group_value Never n = 0
group_value NotZero n = n
group_value Always n = n

abbrev pub Free : Bool → Group → List ℕ → Type 0
Free c Never r = Unit
Free c NotZero r = digit_at (colon_length c) r ≡ false
Free c Always r = Unit

pub group-comes-back : (c : Bool) (g : Group) (n : ℕ) (r : List ℕ) → n < 100 → Free c g r
    → zone_group c g (group_text c g n ++ r) ≡ got (length (group_text c g n)) (group_value g n)
group-comes-back c Never n r h free = refl
group-comes-back c NotZero n r h free =
    by-test (eqb n 0)
    (λ e. rw (e, free) (ap (got 0) (sym (eqb-true n 0 e))))
    (λ e. rw (e, digit-of-group c n r) (taken-group c n r h))
group-comes-back c Always n r h free = taken-group c n r h

-- the offset behind its sign

pub offset_value : Group → Group → ℕ → ℕ
offset_value minutes seconds n = n / 3600 * 3600 + group_value minutes (n % 3600 / 60) * 60 + group_value seconds (n % 60)

groups_text : Bool → Group → Group → ℕ → List ℕ
groups_text c minutes seconds n = group_text c minutes (n % 3600 / 60) ++ group_text c seconds (n % 60)

module _ (c : Bool) (minutes seconds : Group) (n : ℕ) (r : List ℕ) (small : n ≤ 86399) (free : Free c minutes (group_text c seconds (n % 60) ++ r)) (free' : Free c seconds r) where
  seconds-come-back : (h m : ℕ)
      → (zone_group c seconds >>= λ s. done (h * 3600 + m * 60 + s)) (group_text c seconds (n % 60) ++ r)
      ≡ got (length (group_text c seconds (n % 60))) (h * 3600 + m * 60 + group_value seconds (n % 60))
  seconds-come-back h m = rw (group-comes-back c seconds (n % 60) r (omega arith) free', add-zero)

  groups-come-back : (h : ℕ)
      → (zone_group c minutes >>= λ m. zone_group c seconds >>= λ s. done (h * 3600 + m * 60 + s)) (groups_text c minutes seconds n ++ r)
      ≡ got (length (groups_text c minutes seconds n)) (h * 3600 + group_value minutes (n % 3600 / 60) * 60 + group_value seconds (n % 60))
  unfolding groups_text
  groups-come-back h =
      let mm = group_text c minutes (n % 3600 / 60) in
      let ss = group_text c seconds (n % 60) in
      rw (append_assoc mm ss r, length-append)
      (in-turn (zone_group c minutes) (λ m. zone_group c seconds >>= λ s. done (h * 3600 + m * 60 + s)) mm ss r _ _
      (group-comes-back c minutes (n % 3600 / 60) (ss ++ r) (omega arith) free) (seconds-come-back h _))

  size-comes-back : zone_size c minutes seconds (num 2 (n / 3600) ++ (groups_text c minutes seconds n ++ r))
      ≡ got (length (num 2 (n / 3600)) + length (groups_text c minutes seconds n)) (offset_value minutes seconds n)
  unfolding zone_size_with offset_value
  size-comes-back =
      in-turn (take_count 2) _ (num 2 (n / 3600)) (groups_text c minutes seconds n) r (n / 3600) _
      (two_digits (n / 3600) _ (omega arith)) (groups-come-back (n / 3600))

-- the whole zone

abbrev pub is_never : Group → Bool
is_never Never = true
is_never NotZero = false
is_never Always = false

abbrev pub carried_size : Group → ℕ → ℕ
carried_size Never n = n / 60 * 60
carried_size NotZero n = n
carried_size Always n = n

pub value-is : (minutes : Group) → is_never minutes ≡ false → (seconds : Group) (n : ℕ) → offset_value minutes seconds n ≡ carried_size seconds n
unfolding offset_value
value-is Never h seconds n = true-is-not-false h
value-is NotZero h Never n = omega arith
value-is NotZero h NotZero n = omega arith
value-is NotZero h Always n = omega arith
value-is Always h Never n = omega arith
value-is Always h NotZero n = omega arith
value-is Always h Always n = omega arith

-- the size, with the offset's sign
carried-signed : (seconds : Group) (z : ℤ)
    → when (is_negative z) (neg_ℤ (pos (carried_size seconds (nat_abs z)))) (pos (carried_size seconds (nat_abs z))) ≡ carried_offset seconds z
carried-signed Never z = refl
carried-signed NotZero (pos n) = refl
carried-signed NotZero (negsuc n) = refl
carried-signed Always (pos n) = refl
carried-signed Always (negsuc n) = refl

-- behind its sign, before r
offset-split : (c : Bool) (minutes seconds : Group) (z : ℤ) (r : List ℕ)
    → offset_text c minutes seconds z ++ r
    ≡ when (is_minus c minutes seconds z) minus plus ∷ num 2 (nat_abs z / 3600) ++ (groups_text c minutes seconds (nat_abs z) ++ r)
unfolding offset_digits offset_text groups_text
offset-split c minutes seconds z r = simp append_assoc

offset-size : (c : Bool) (minutes seconds : Group) (z : ℤ)
    → length (offset_text c minutes seconds z) ≡ 1 + (length (num 2 (nat_abs z / 3600)) + length (groups_text c minutes seconds (nat_abs z)))
unfolding offset_digits offset_text groups_text
offset-size c minutes seconds z = simp length-append (omega arith)

pub sign_read : (utc' negative : Bool) (s : List ℕ) → zone_sign utc' (when negative minus plus ∷ s) ≡ got 1 (when negative behind_utc ahead)
unfolding zone_sign
sign_read true true s = refl
sign_read true false s = refl
sign_read false true s = refl
sign_read false false s = refl

-- every digit is zero just where they are worth nothing

zero-shown : (c : Bool) (n : ℕ) → all_zero (colon_text c ++ num 2 n) ≡ eqb n 0
unfolding all_zero
zero-shown true n = zero-num 2 n
zero-shown false n = zero-num 2 n

pub zero-group : (c : Bool) (g : Group) (n : ℕ) → all_zero (group_text c g n) ≡ eqb (group_value g n) 0
unfolding all_zero
zero-group c Never n = refl
zero-group c NotZero n = by-test (eqb n 0) (λ e. rw e) (λ e. rw e (zero-shown c n ∙ e))
zero-group c Always n = zero-shown c n

zero-sum : (h m s : ℕ) → both (both (eqb h 0) (eqb m 0)) (eqb s 0) ≡ eqb (h * 3600 + m * 60 + s) 0
zero-sum h m s =
    same_test _ _
    (λ e.
    let t = both_true (both (eqb h 0) (eqb m 0)) (eqb s 0) e in
    let u = both_true (eqb h 0) (eqb m 0) t.0 in
    eq-eqb (h * 3600 + m * 60 + s) 0 (omega (arith, eqb-true h 0 u.0, eqb-true m 0 u.1, eqb-true s 0 t.1)))
    (λ e.
    let none : h * 3600 + m * 60 + s ≡ 0 = eqb-true _ 0 e in
    both-are (both (eqb h 0) (eqb m 0)) (eqb s 0) (both-are (eqb h 0) (eqb m 0) (eq-eqb h 0 (omega arith)) (eq-eqb m 0 (omega arith))) (eq-eqb s 0 (omega arith)))

pub zero-each : (c : Bool) (minutes seconds : Group) (n : ℕ) → all_zero (offset_digits c minutes seconds n)
    ≡ both (both (eqb (n / 3600) 0) (all_zero (group_text c minutes (n % 3600 / 60)))) (all_zero (group_text c seconds (n % 60)))
unfolding offset_digits
zero-each c minutes seconds n = rw (all-zero-append, all-zero-append, zero-num)

pub zero-offset : (c : Bool) (minutes seconds : Group) (n : ℕ) → all_zero (offset_digits c minutes seconds n) ≡ eqb (offset_value minutes seconds n) 0
unfolding offset_value
zero-offset c minutes seconds n =
    rw (zero-each, zero-group, zero-group)
    (zero-sum (n / 3600) (group_value minutes (n % 3600 / 60)) (group_value seconds (n % 60)))

-- what a zone carries of which every digit is zero
module _ (c : Bool) (minutes seconds : Group) (has-minutes : is_never minutes ≡ false) (z : ℤ) (zeros : all_zero (offset_digits c minutes seconds (nat_abs z)) ≡ true) where
  nothing-worth : carried_size seconds (nat_abs z) ≡ 0
  nothing-worth =
      let none = eqb-true (offset_value minutes seconds (nat_abs z)) 0 (rw zero-offset at zeros) in
      sym (value-is minutes has-minutes seconds (nat_abs z)) ∙ none

  pub nothing-carried : carried_offset seconds z ≡ pos 0
  nothing-carried =
      sym (carried-signed seconds z) ∙ rw nothing-worth (when-is (λ (o : ℤ). o ≡ pos 0) (is_negative z) (λ _. refl) (λ _. refl))

module _ (edition : Edition) (book : Book) (current : ℕ) (utc' c : Bool) (minutes seconds : Group) (has-minutes : is_never minutes ≡ false) where
  -- what is read behind a sign, and what that is worth
  read_behind : (negative : Bool) (n : ℕ) (r : List ℕ) → n ≤ 86399 → Free c minutes (group_text c seconds (n % 60) ++ r) → Free c seconds r
      → (zone_sign utc' >>= zone_behind (zone_size c minutes seconds)) (when negative minus plus ∷ num 2 (n / 3600) ++ (groups_text c minutes seconds n ++ r))
      ≡ got (1 + (length (num 2 (n / 3600)) + length (groups_text c minutes seconds n))) (when negative (neg_ℤ (pos (carried_size seconds n))) (pos (carried_size seconds n)))
  read_behind true n r small free free' =
      rw (sign_read utc' true _, size-comes-back c minutes seconds n r small free free', add-zero, value-is minutes has-minutes seconds n)
  read_behind false n r small free free' =
      rw (sign_read utc' false _, size-comes-back c minutes seconds n r small free free', add-zero, value-is minutes has-minutes seconds n)

  carried-by-sign : (z : ℤ) → when (is_minus c minutes seconds z) (neg_ℤ (pos (carried_size seconds (nat_abs z)))) (pos (carried_size seconds (nat_abs z)))
      ≡ carried_offset seconds z
  unfolding is_minus
  carried-by-sign z =
      by-test (all_zero (offset_digits c minutes seconds (nat_abs z)))
      (λ e. rw (e, nothing-worth c minutes seconds has-minutes z e) (sym (nothing-carried c minutes seconds has-minutes z e)))
      (λ e. rw e (carried-signed seconds z))

  offset-comes-back : (z : ℤ) (r : List ℕ) → nat_abs z ≤ 86399 → Free c minutes (group_text c seconds (nat_abs z % 60) ++ r) → Free c seconds r
      → read_rule edition book current (zoned utc' c minutes seconds) (offset_text c minutes seconds z ++ r)
      ≡ got (length (offset_text c minutes seconds z)) (value unit.Offset (carried_offset seconds z))
  unfolding read_rule
  offset-comes-back z r small free free' =
      rw (offset-split c minutes seconds z r, read_behind (is_minus c minutes seconds z) (nat_abs z) r small free free', carried-by-sign z, offset-size c minutes seconds z, add-zero)

no-offset : (seconds : Group) (z : ℤ) → nat_abs z ≡ 0 → carried_offset seconds z ≡ pos 0
no-offset Never (pos n) e = rw e
no-offset NotZero (pos n) e = rw e
no-offset Always (pos n) e = rw e
no-offset seconds (negsuc n) e = absurd (omega arith)

-- Z, which stands for no offset
z-comes-back : (edition : Edition) (book : Book) (current : ℕ) (c : Bool) (minutes seconds : Group) (z : ℤ) (r : List ℕ) → nat_abs z ≡ 0
    → read_rule edition book current (zoned true c minutes seconds) (code "Z" ∷ r) ≡ got 1 (value unit.Offset (carried_offset seconds z))
unfolding read_rule zone_sign
z-comes-back edition book current c minutes seconds z r e = rw (no-offset seconds z e)

pub zone-comes-back : (edition : Edition) (book : Book) (current : ℕ) (utc' c : Bool) (minutes seconds : Group) → is_never minutes ≡ false → (z : ℤ) (r : List ℕ)
    → nat_abs z ≤ 86399 → Free c minutes (group_text c seconds (nat_abs z % 60) ++ r) → Free c seconds r
    → read_rule edition book current (zoned utc' c minutes seconds) (zone_text utc' c minutes seconds z ++ r)
    ≡ got (length (zone_text utc' c minutes seconds z)) (value unit.Offset (carried_offset seconds z))
zone-comes-back edition book current utc' c minutes seconds has z r small free free' =
    by-test (both utc' (eqb (nat_abs z) 0))
    (λ e.
    let t = both_true utc' (eqb (nat_abs z) 0) e in
    rw (e, t.0) (z-comes-back edition book current c minutes seconds z r (eqb-true (nat_abs z) 0 t.1)))
    (λ e. rw e (offset-comes-back edition book current utc' c minutes seconds has z r small free free'))
