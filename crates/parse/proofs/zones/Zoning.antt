-- Laws of zones: what each step gives at a cursor, from what the step before it gave.
use Rattle.std.specs.Prelude.{Result, Ok, Err, Option}
use mathlib.Core.Bool.{Bool, true, false}
use mathlib.Core.List.{List}
use mathlib.Core.Path.{◌≡◌, refl, sym, ap, ◌∙◌}
use Prim.Native.Char.{code}
use Prim.Native.Nat.{ℕ, ◌+◌, ◌≤◌, ◌<◌}
use native.Mathlib.Nat.{add-zero}
use native.Mathlib.Omega.{arith}
use lib.IntN.{ℤ, pos, neg_ℤ}
use lib.Dec.{eqb, ltb}
use lib.ListN.{length, get_or, drop, length-drop, drop_of_length-le}
use lib.Seq.{drop-cons, drop-drop}
use Rattle.meaning.specs.Bytes.{when, both, plus, minus}
use Rattle.meaning.specs.Numerals.{Signed}
use Rattle.meaning.specs.Readers.{Got, got, stopped, Reader, behind, go_on, ◌>>=◌, done, skip, take_count, take_number, ZoneSign, utc, ahead, behind_utc, zone_sign}
use Rattle.meaning.specs.Reading.{value, taken_zone, take_group, colon_length, zone_behind, zone_size_with, zone_size, zone_group}
use Rattle.meaning.specs.declared.Carried.{Carried}
use Rattle.meaning.specs.declared.Group.{Group}
use Rattle.meaning.specs.declared.Numeral.TheVariants.{Count}
use Rattle.meaning.specs.declared.ParseUnit.TheVariants as unit
use Rattle.meaning.specs.declared.Trouble.TheVariants.{TooFew, NoSign}
use Rattle.meaning.specs.declared.Zone.{Zone}
use Rattle.parse.proofs.steps.Parts.{made_of, made}
use Rattle.numerals.specs.declared.Number.{Number}
use borrow.Author.Tests.{ltb-true, ltb-false}
use Rattle.laws.proofs.Tests.{by-test}
use Rattle.parse.proofs.cursor.Moves.{stop, same_err, skipped-few, skipped-past}
use Rattle.parse.specs.Steps.{taken_at, skipped_at, part_at}
use Rattle.parse.specs.declared.cursor.Cursor.{Cursor}
use Rattle.parse.specs.declared.cursor.Read.{Read}
use Rattle.parse.specs.declared.cursor.Stop.{Stop}
use Rattle.parse.specs.declared.zones.ZoneSign as sign
use Rattle.parse.specs.declared.zones.ZoneSign.TheVariants.{Utc, Ahead, BehindUtc}
use Rattle.parse.specs.Zones.{counted_at, sign_at, offset, zone_from}

-- what starts n bytes later

further : (at n m : ℕ) → at + (n + m) ≡ at + n + m
further at n m = omega arith

part-behind : (at n : ℕ) (g : Got (Option Carried)) → part_at at (behind n g) ≡ part_at (at + n) g
part-behind at n (got m c) = rw (further at n m)
part-behind at n (stopped why i) = rw (further at n i)

counted-behind : (at n : ℕ) (g : Got ℕ) → counted_at at (behind n g) ≡ counted_at (at + n) g
counted-behind at n (got m c) = rw (further at n m)
counted-behind at n (stopped why i) = rw (further at n i)

-- the sign

module _ (z : Bool) (text : List ℕ) (at : ℕ) where
  pub sign-none : length text ≤ at → sign_at at (zone_sign z (drop at text)) ≡ Err (stop TooFew at)
  unfolding zone_sign
  sign-none h = rw (drop_of_length-le text h, add-zero)

  pub sign-here : at < length text
      → zone_sign z (drop at text)
      ≡ when (both z (eqb (get_or text at 0) (code "Z"))) (got 1 utc)
      (when (eqb (get_or text at 0) plus) (got 1 ahead) (when (eqb (get_or text at 0) minus) (got 1 behind_utc) (stopped NoSign 0)))
  unfolding zone_sign
  sign-here h = rw (drop-cons text at 0 h)

  -- of none, where none is left
  pub sign-skipped : {e : Stop} → skipped_at at (skip 1 (drop at text)) ≡ Err e → sign_at at (zone_sign z (drop at text)) ≡ Err e
  sign-skipped {e} h =
      let s = drop at text in
      by-test (ltb (length s) 1)
      (λ t.
      let few = ltb-true (length s) 1 t in
      let same = same_err (sym (skipped-few at 1 s few) ∙ h) in
      rw (← same) (sign-none (omega (arith, length-drop at text))))
      (λ t. absurd (let on = sym (skipped-past at 1 s (ltb-false (length s) 1 t)) ∙ h in let zz : ◌≡◌ {A = ℕ} 0 1 = cc in omega arith))

pub not_z : (z : Bool) → both z false ≡ false
not_z true = refl
not_z false = refl

-- a number

abbrev pub count_by : Result (Read Number) Stop → Result (Read ℕ) Stop
count_by (Err stopped') = Err stopped'
count_by (Ok read) = Ok (record { value = read.value.size; next = read.next })

count-got : (at k : ℕ) (s : List ℕ) (g : Got Signed) → counted_at at (go_on g (λ n. done n.size) s) ≡ count_by (taken_at at g)
count-got at k s (got n a) = rw add-zero
count-got at k s (stopped why i) = refl

pub count-taken : (at k : ℕ) (s : List ℕ) → counted_at at (take_count k s) ≡ count_by (taken_at at (take_number Count k s))
count-taken at k s = count-got at k s (take_number Count k s)

-- a group

pub colon-short : (c : Bool) → colon_length c ≤ 1
colon-short true = omega arith
colon-short false = omega arith

abbrev pub group_by : List ℕ → Result Cursor Stop → Result (Read ℕ) Stop
group_by text (Err stopped') = Err stopped'
group_by text (Ok next) = counted_at next.at (take_count 2 (drop next.at text))

group-on : (at : ℕ) (text : List ℕ) (g : Got Unit)
    → counted_at at (go_on g (λ _. take_count 2) (drop at text)) ≡ group_by text (skipped_at at g)
group-on at text (got n u) = rw (drop-drop n at text) (counted-behind at n (take_count 2 (drop (at + n) text)))
group-on at text (stopped why i) = refl

pub group-taken : (at : ℕ) (c : Bool) (text : List ℕ)
    → counted_at at (take_group c (drop at text)) ≡ group_by text (skipped_at at (skip (colon_length c) (drop at text)))
group-taken at c text = group-on at text (skip (colon_length c) (drop at text))

-- what follows a number

abbrev pub counted_by : (ℕ → Reader (Option Carried)) → List ℕ → Result (Read ℕ) Stop → Result (Read (Option Carried)) Stop
counted_by next text (Err stopped') = Err stopped'
counted_by next text (Ok read) = part_at read.next.at (next read.value (drop read.next.at text))

pub counted-then : (at : ℕ) (text : List ℕ) (g : Got ℕ) (next : ℕ → Reader (Option Carried))
    → part_at at (go_on g next (drop at text)) ≡ counted_by next text (counted_at at g)
counted-then at text (got n a) next = rw (drop-drop n at text) (part-behind at n (next a (drop (at + n) text)))
counted-then at text (stopped why i) next = refl

-- what follows the sign

made-behind : {A B : Type 0} (f : A → B) (n : ℕ) (g : Got A) → made_of f (behind n g) ≡ behind n (made_of f g)
made-behind f n (got m a) = refl
made-behind f n (stopped why i) = refl

made-goes-on : {A B C : Type 0} (f : B → C) (g : Got A) (next : A → Reader B) (next' : A → Reader C)
    → ((a : A) (t : List ℕ) → next' a t ≡ made_of f (next a t)) → (s : List ℕ) → go_on g next' s ≡ made_of f (go_on g next s)
made-goes-on f (got n a) next next' h s = rw (h a (drop n s)) (sym (made-behind f n (next a (drop n s))))
made-goes-on f (stopped why i) next next' h s = refl

zone-made : (negative c : Bool) (minutes seconds : Group) (s : List ℕ)
    → zone_from negative c minutes seconds s ≡ made_of (offset negative) (zone_size c minutes seconds s)
unfolding zone_size_with
zone-made negative c minutes seconds s =
    made-goes-on (offset negative) (take_count 2 s) _ _
    (λ hh t. made-goes-on (offset negative) (zone_group c minutes t) _ _
    (λ mm u. made-goes-on (offset negative) (zone_group c seconds u) _ _ (λ ss v. refl) u) t)
    s

abbrev pub behind_sign : Bool → Group → Group → List ℕ → Cursor → sign.ZoneSign → Result (Read (Option Carried)) Stop
behind_sign c minutes seconds text next Utc = Ok (record { value = value unit.Offset (pos 0); next = next })
behind_sign c minutes seconds text next Ahead = part_at next.at (zone_from false c minutes seconds (drop next.at text))
behind_sign c minutes seconds text next BehindUtc = part_at next.at (zone_from true c minutes seconds (drop next.at text))

abbrev pub signed_by : Bool → Group → Group → List ℕ → Result (Read sign.ZoneSign) Stop → Result (Read (Option Carried)) Stop
signed_by c minutes seconds text (Err stopped') = Err stopped'
signed_by c minutes seconds text (Ok read) = behind_sign c minutes seconds text read.next read.value

-- a size, its sign and its unit
sized-as : (negative : Bool) (f : ℕ → ℤ) → ((m : ℕ) → value unit.Offset (f m) ≡ offset negative m) → (g : Got ℕ)
    → made_of (value unit.Offset) (made_of f g) ≡ made_of (offset negative) g
sized-as negative f h (got n m) = rw (h m)
sized-as negative f h (stopped why i) = refl

signed-size : (negative : Bool) (at n : ℕ) (c : Bool) (minutes seconds : Group) (text : List ℕ) (f : ℕ → ℤ)
    → ((m : ℕ) → value unit.Offset (f m) ≡ offset negative m)
    → part_at at (made_of (value unit.Offset) (behind n ((zone_size c minutes seconds >>= λ m. done (f m)) (drop n (drop at text)))))
    ≡ part_at (at + n) (zone_from negative c minutes seconds (drop (at + n) text))
signed-size negative at n c minutes seconds text f h =
    let t = drop (at + n) text in
    rw (drop-drop n at text, made f (zone_size c minutes seconds) t, made-behind)
    (part-behind at n (made_of (value unit.Offset) (made_of f (zone_size c minutes seconds t)))
    ∙ ap (part_at (at + n)) (sized-as negative f h (zone_size c minutes seconds t) ∙ sym (zone-made negative c minutes seconds t)))

zone-on : (at : ℕ) (c : Bool) (minutes seconds : Group) (text : List ℕ) (g : Got ZoneSign)
    → part_at at (made_of (value unit.Offset) (go_on g (zone_behind (zone_size c minutes seconds)) (drop at text)))
    ≡ signed_by c minutes seconds text (sign_at at g)
zone-on at c minutes seconds text (got n utc) = rw add-zero
zone-on at c minutes seconds text (got n ahead) = signed-size false at n c minutes seconds text pos (λ m. refl)
zone-on at c minutes seconds text (got n behind_utc) = signed-size true at n c minutes seconds text (λ m. neg_ℤ (pos m)) (λ m. refl)
zone-on at c minutes seconds text (stopped why i) = refl

pub part-zone : (at : ℕ) (zone : Zone) (text : List ℕ)
    → part_at at (taken_zone zone.utc zone.colon zone.minutes zone.seconds (drop at text))
    ≡ signed_by zone.colon zone.minutes zone.seconds text (sign_at at (zone_sign zone.utc (drop at text)))
part-zone at zone text =
    let size = zone_size zone.colon zone.minutes zone.seconds in
    rw (made {B = Option Carried} (value unit.Offset) (zone_sign zone.utc >>= zone_behind size) (drop at text))
    (zone-on at zone.colon zone.minutes zone.seconds text (zone_sign zone.utc (drop at text)))
