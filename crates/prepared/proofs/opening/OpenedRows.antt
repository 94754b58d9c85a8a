-- What it says of a row that it is opened as nothing, as refused, or as words.
use Rattle.std.specs.Prelude.{Option, Some, None, Result, Ok, Err}
use mathlib.Core.Bool.{Bool, true, false}
use mathlib.Core.List.{List}
use mathlib.Core.Path.{◌≡◌, refl, ap, sym, ◌∙◌}
use Prim.Native.Nat.{ℕ, ◌≤◌, ◌<◌}
use native.Mathlib.Omega.{arith}
use borrow.Author.Tests.{leb-true, ltb-true}
use lib.Dec.{eqb, leb, ltb}
use lib.IntN.{ℤ}
use lib.ListN.{length, drop, length-drop}
use lib.Seq.{length-take-le}
use Rattle.laws.proofs.Tests.{both_true, when-is}
use Rattle.meaning.specs.Answers.{Answer, details}
use Rattle.meaning.specs.Results.{Checked}
use Rattle.meaning.specs.Bytes.{when}
use Rattle.meaning.specs.declared.Refusal.{Refusal}
use Rattle.rows.specs.Fits.{WhyFits}
use Rattle.rows.specs.Rows.{Given}
use Rattle.words.specs.Rows.{is_accepted, is_refused, refusal_of, refusal_in, checked_in, tag, mark, used, found, tail}
use Rattle.prepared.specs.Opened.{opened}
use Rattle.prepared.specs.Stands.{is_prepared}
use Rattle.prepared.specs.Uses.{if_prepared}

never : {A : Type 0} → ◌≡◌ {A = ℕ} 0 1 → A
never z = absurd (omega (arith, z))

module _ (n : ℕ) (why : Refusal) where
  nothing-of : (a b : Bool) → None ≡ when a (Some (Ok n)) (when b (Some (Err why)) None) → when a true b ≡ false
  nothing-of true b h = never (cc)
  nothing-of false true h = never (cc)
  nothing-of false false h = refl

  refused-of : (a b : Bool) {x : Refusal} → Some (Err x) ≡ when a (Some (Ok n)) (when b (Some (Err why)) None)
      → (when a true b ≡ true) × (◌≡◌ {A = Checked} (when a (Ok tt) (Err why)) (Err x)) × (b ≡ true) × (x ≡ why)
  refused-of true b h = never (cc)
  refused-of false true {x} h = let e : x ≡ why = cc in (refl, rw e, refl, e)
  refused-of false false h = never (cc)

  words_of : (a b : Bool) {k : ℕ} → Some (Ok k) ≡ when a (Some (Ok n)) (when b (Some (Err why)) None) → (a ≡ true) × (k ≡ n)
  words_of true b h = (refl, cc)
  words_of false true h = never (cc)
  words_of false false h = never (cc)

pub refusal-fits : (n d : ℕ) → d < 9223372036854775808 → WhyFits (refusal_of n d)
unfolding details
refusal-fits n d h =
    when-is WhyFits (eqb n 1025) (λ _. (omega arith, tt))
    (λ _. when-is WhyFits (eqb n 1026) (λ _. (omega arith, tt)) (λ _. (omega arith, tt)))

pub record OpenedRefused (row : List ℕ) (why : Refusal) : Type 0 where
  pub prepared : is_prepared row ≡ true
  pub checks : checked_in row ≡ Err why
  pub fits : WhyFits why

pub record OpenedWords (row : List ℕ) (n : ℕ) : Type 0 where
  pub prepared : is_prepared row ≡ true
  pub checks : checked_in row ≡ Ok tt
  pub long : 259 ≤ length row
  pub few : n ≤ 256
  pub uses : n ≡ used row

module _ (row : List ℕ) where
  pub opened_nothing : {answer : Option (Result ℕ Refusal)} → answer ≡ opened row → answer ≡ None → is_prepared row ≡ false
  unfolding opened
  opened_nothing is none = let h = sym none ∙ is in nothing-of (used row) (refusal_in row) (is_accepted row) (is_refused row) h

  pub opened-refusal : {answer : Option (Result ℕ Refusal)} {inner : Result ℕ Refusal} {why : Refusal}
      → answer ≡ opened row → answer ≡ Some inner → inner ≡ Err why → OpenedRefused row why
  unfolding opened
  opened-refusal is some refused =
      let h = ap Some (sym refused) ∙ (sym some ∙ is) in
      let o = refused-of (used row) (refusal_in row) (is_accepted row) (is_refused row) h in
      let a = both_true (leb 259 (length row)) _ o.2 in
      let b = both_true (leb tag (mark row)) _ a.1 in
      let d = both_true (leb 1025 (used row)) _ b.1 in
      let e = both_true (leb (used row) 1027) _ d.1 in
      let t = both_true (ltb (found row) 9223372036854775808) _ e.1 in
      record { prepared = o.0; checks = o.1; fits = rw o.3 (refusal-fits (used row) (found row) (ltb-true (found row) 9223372036854775808 t.0)) }

  pub opened-words : {answer : Option (Result ℕ Refusal)} {inner : Result ℕ Refusal} {n : ℕ}
      → answer ≡ opened row → answer ≡ Some inner → inner ≡ Ok n → OpenedWords row n
  unfolding opened
  opened-words is some words =
      let h = ap Some (sym words) ∙ (sym some ∙ is) in
      let o = words_of (used row) (refusal_in row) (is_accepted row) (is_refused row) h in
      let a = both_true (leb 259 (length row)) _ o.0 in
      let b = both_true (leb tag (mark row)) _ a.1 in
      let few = (both_true (leb (used row) 256) _ b.1).0 in
      record {
        prepared = rw o.0;
        checks = rw o.0;
        long = leb-true 259 (length row) a.0;
        few = omega (arith, o.1, leb-true (used row) 256 few);
        uses = o.1;
      }

-- the answer that is given then

pub prepared-given : {t : Bool} {answer : Answer} {old new : List ℤ} {r : ℕ} → t ≡ true → Given answer old new r → Given (if_prepared t answer) old new r
prepared-given e g = rw e g

pub unprepared-given : {t : Bool} (answer : Answer) (old : List ℤ) → t ≡ false → Given (if_prepared t answer) old old 105
unprepared-given answer old e = rw e (record { number = refl; row = refl })

pub tail-length : (row : List ℕ) → 259 ≤ length row → length (tail row) ≡ 256
tail-length row long = length-take-le 256 (drop 3 row) (omega (arith, length-drop 3 row))
