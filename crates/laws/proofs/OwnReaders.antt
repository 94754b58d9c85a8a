-- Readers on a text that is cut behind what they took of it: they take the same there and give the same. That holds of each reader
-- that reading is made of, and of one behind the other.
use mathlib.Core.Bool.{Bool, true, false}
use mathlib.Core.List.{List, [], ◌∷◌}
use mathlib.Core.Option.{Option, some}
use mathlib.Core.Path.{◌≡◌, refl, sym, ap, ◌∙◌}
use Prim.Native.Char.{code}
use Prim.Native.Nat.{ℕ, zero, suc, ◌-◌, ◌≤◌, ◌<◌}
use native.Mathlib.Numerals.{unary_clauses}
use native.Mathlib.Omega.{arith}
use lib.Dec.{eqb, ltb}
use lib.ListN.{length, take, drop, length-take, length-drop, get_or-eq_default}
use lib.Seq.{get_or-take, take-nil, take-take}
use borrow.Author.Tests.{ltb-true, ltb-false, lt-ltb, le-ltb, eqb-true}
use Rattle.meaning.specs.Bytes.{when, both, is_digit, digit_at, plus, minus}
use Rattle.meaning.specs.Readers.{Got, got, stopped, Reader, behind, go_on, ◌>>=◌, done, skip, first_differing, same, take_number, reach, begins, first_name, letters, zone_sign}
use Rattle.meaning.specs.Reading.{minus_first, digit_run, year_length}
use Rattle.meaning.specs.declared.Numeral.{Numeral}
use Rattle.meaning.specs.declared.Trouble.TheVariants.{TooFew}
use Rattle.laws.proofs.Readers.{skip_goes_on, skip-stops, take-stops, reach-on, reach-ends}
use Rattle.laws.proofs.Takes.{Takes, takes_skip, takes_same, takes-number, reach-bounds}
use Rattle.laws.proofs.Tests.{by-test, when-is, true-is-not-false, both_true, every}

-- what it gave of s it gives of s cut there or further behind, and it took no more than there is
abbrev pub OwnText : {A : Type 0} → Reader A → List ℕ → Got A → Type 0
OwnText reader s (got n a) = (n ≤ length s) × ((m : ℕ) → n ≤ m → reader (take m s) ≡ got n a)
OwnText reader s (stopped why i) = Unit

abbrev pub Own : {A : Type 0} → Reader A → Type 0
Own reader = (s : List ℕ) → OwnText reader s (reader s)

drop-take : (n m : ℕ) (s : List ℕ) → drop n (take m s) ≡ take (m - n) (drop n s)
drop-take zero m s = simp unary_clauses
drop-take (suc n) zero s = let e : 0 - suc n ≡ 0 = omega arith in rw e
drop-take (suc n) (suc m) [] = rw take-nil
drop-take (suc n) (suc m) (b ∷ s) = let e : suc m - suc n ≡ m - n = omega arith in rw e (drop-take n m s)

-- one reader after the other

own_behind : {A B : Type 0} (first : Reader A) (next : A → Reader B) (s : List ℕ) (n : ℕ) (a : A) (g : Got B)
    → OwnText first s (got n a) → OwnText (next a) (drop n s) g → OwnText (first >>= next) s (behind n g)
own_behind first next s n a (got m b) h k =
    (omega (arith, length-drop n s), λ cut l. rw (h.1 cut (omega arith), drop-take n cut s, k.1 (cut - n) (omega arith)))
own_behind first next s n a (stopped why i) h k = tt

own_on : {A B : Type 0} (first : Reader A) (next : A → Reader B) (s : List ℕ) (g : Got A) → OwnText first s g
    → ((a : A) → Own (next a)) → OwnText (first >>= next) s (go_on g next s)
own_on first next s (got n a) h k = own_behind first next s n a (next a (drop n s)) h (k a (drop n s))
own_on first next s (stopped why i) h k = tt

pub own-both : {A B : Type 0} (first : Reader A) (next : A → Reader B) → Own first → ((a : A) → Own (next a)) → Own (first >>= next)
own-both first next h k s = own_on first next s (first s) (h s) k

pub own-nothing : {A : Type 0} (a : A) → Own (done a)
own-nothing a s = (omega arith, λ m l. refl)

-- what a reader gives is turned into something else
pub own-done : {A B : Type 0} (first : Reader A) (g : A → B) → Own first → Own (first >>= λ a. done (g a))
own-done first g h = own-both first (λ a. done (g a)) h (λ a. own-nothing (g a))

-- a reader of just k bytes, which stops where fewer remain and looks no further

own-bytes : {A : Type 0} (k : ℕ) (reader : Reader A) (s : List ℕ) → Takes k (reader s) → (length s < k → reader s ≡ stopped TooFew 0)
    → ((m : ℕ) → k ≤ m → k ≤ length s → k ≤ length (take m s) → reader (take m s) ≡ reader s) → OwnText reader s (reader s)
own-bytes k reader s takes few same' = go (reader s) refl takes
  where
    go : (g : Got _) → reader s ≡ g → Takes k g → OwnText reader s g
    go (stopped why i) e t = tt
    go (got n a) e t =
        let enough : n ≤ length s = by-test (ltb (length s) k)
        (λ c. let z : ◌≡◌ {A = ℕ} 0 1 = cc (few (ltb-true (length s) k c)) in absurd (omega arith)) (λ c. omega (arith, ltb-false (length s) k c)) in
        (enough, λ m l. same' m (omega arith) (omega arith) (omega (arith, length-take m s)) ∙ e)

pub own-skip : (k : ℕ) → Own (skip k)
own-skip k s =
    own-bytes k (skip k) s (takes_skip k s) (skip-stops k s) (λ m c h l. skip_goes_on k (take m s) l ∙ sym (skip_goes_on k s h))

number_cut : (kind : Numeral) (k : ℕ) (s : List ℕ) (m : ℕ) → k ≤ m → k ≤ length s → k ≤ length (take m s)
    → take_number kind k (take m s) ≡ take_number kind k s
unfolding take_number
number_cut kind k s m c h l = rw (le-ltb (length (take m s)) k l, le-ltb (length s) k h, take-take k m s c)

pub own-number : (kind : Numeral) (k : ℕ) → Own (take_number kind k)
own-number kind k s = own-bytes k (take_number kind k) s (takes-number kind k s) (take-stops kind k s) (number_cut kind k s)

differing-cut : (i : ℕ) (w s : List ℕ) (m : ℕ) → length w ≤ m → first_differing i w (take m s) ≡ first_differing i w s
unfolding first_differing
differing-cut i [] s m h = refl
differing-cut i (a ∷ w) [] m h = rw take-nil
differing-cut i (a ∷ w) (b ∷ s) zero h = absurd (omega arith)
differing-cut i (a ∷ w) (b ∷ s) (suc m) h =
    ap (λ (d : Option ℕ). elim (eqb a b) as (λ x. Option ℕ) [ true ↦ d | false ↦ some i ]) (differing-cut (suc i) w s m (omega arith))

pub own_same : (w : List ℕ) → Own (same w)
unfolding same
own_same w s =
    own-bytes (length w) (same w) s (takes_same w s) (λ few. rw (lt-ltb (length s) (length w) few))
    (λ m c h l. rw (le-ltb (length (take m s)) (length w) l, le-ltb (length s) (length w) h, differing-cut 0 w s m c))

-- so many letters, where each name has just so many

takes-letters : (k i : ℕ) (names : List (List ℕ)) (s : List ℕ) → every (λ name. eqb (length name) k) names ≡ true → Takes k (first_name i names s)
unfolding first_name every
takes-letters k i [] s h = tt
takes-letters k i (name ∷ names) s h =
    let t = both_true (eqb (length name) k) _ h in
    when-is (Takes k) (begins name s) (λ _. eqb-true (length name) k t.0) (λ _. takes-letters k (suc i) names s t.1)

pub own-letters : (k : ℕ) (names : List (List ℕ)) → every (λ name. eqb (length name) k) names ≡ true → Own (letters k names)
unfolding letters
own-letters k names all s =
    own-bytes k (letters k names) s
    (when-is (Takes k) (ltb (length s) k) (λ _. tt) (λ _. takes-letters k 0 names (take k s) all)) (λ few. rw (lt-ltb (length s) k few))
    (λ m c h l. rw (le-ltb (length (take m s)) k l, le-ltb (length s) k h, take-take k m s c))

pub takes-sign : (z : Bool) (s : List ℕ) → Takes 1 (zone_sign z s)
unfolding zone_sign
takes-sign z [] = tt
takes-sign z (b ∷ s) =
    when-is (Takes 1) (both z (eqb b (code "Z"))) (λ _. refl)
    (λ _. when-is (Takes 1) (eqb b plus) (λ _. refl) (λ _. when-is (Takes 1) (eqb b minus) (λ _. refl) (λ _. tt)))

pub own_sign : (z : Bool) → Own (zone_sign z)
unfolding zone_sign
own_sign z [] = tt
own_sign z (b ∷ s) = own-bytes 1 (zone_sign z) (b ∷ s) (takes-sign z (b ∷ s)) (λ few. absurd (omega arith)) cut
  where
    cut : (m : ℕ) → 1 ≤ m → 1 ≤ length (b ∷ s) → 1 ≤ length (take m (b ∷ s)) → zone_sign z (take m (b ∷ s)) ≡ zone_sign z (b ∷ s)
    cut zero c h l = absurd (omega arith)
    cut (suc m) c h l = refl

-- the first name that begins the text

begins-fits : (name s : List ℕ) → begins name s ≡ true → length name ≤ length s
unfolding begins
begins-fits [] s e = omega arith
begins-fits (a ∷ name) [] e = true-is-not-false (sym e)
begins-fits (a ∷ name) (b ∷ s) e = omega (arith, begins-fits name s (both_true (eqb a b) (begins name s) e).1)

begins-cut : (name s : List ℕ) (m : ℕ) → length name ≤ m → begins name (take m s) ≡ begins name s
unfolding begins
begins-cut [] s m h = refl
begins-cut (a ∷ name) [] m h = rw take-nil
begins-cut (a ∷ name) (b ∷ s) zero h = absurd (omega arith)
begins-cut (a ∷ name) (b ∷ s) (suc m) h = rw (begins-cut name s m (omega arith))

not-begun-cut : (name s : List ℕ) (m : ℕ) → begins name s ≡ false → begins name (take m s) ≡ false
not-begun-cut name s m e =
    by-test (ltb m (length name))
    (λ c. by-test (begins name (take m s))
    (λ d. absurd (omega (arith, begins-fits name (take m s) d, length-take m s, ltb-true m (length name) c))) (λ d. d))
    (λ c. begins-cut name s m (ltb-false m (length name) c) ∙ e)

-- another reader that reads cut texts in the same way
own-as : {A : Type 0} (reader other : Reader A) (s : List ℕ) (g : Got A) → ((m : ℕ) → other (take m s) ≡ reader (take m s)) → OwnText reader s g
    → OwnText other s g
own-as reader other s (got n a) h k = (k.0, λ m l. h m ∙ k.1 m l)
own-as reader other s (stopped why i) h k = tt

pub own_first : (i : ℕ) (names : List (List ℕ)) → Own (first_name i names)
unfolding first_name
own_first i [] s = tt
own_first i (name ∷ names) s =
    when-is (OwnText (first_name i (name ∷ names)) s) (begins name s)
    (λ e. (begins-fits name s e, λ m l. rw (begins-cut name s m l, e)))
    (λ e. own-as (first_name (suc i) names) (first_name i (name ∷ names)) s (first_name (suc i) names s)
    (λ m. rw (not-begun-cut name s m e)) (own_first (suc i) names s))

-- a reader that is chosen by what the text shows, where the cut text shows the same

pub own-chosen : {A B : Type 0} (by : List ℕ → B) (reader : B → Reader A) (count : B → ℕ) → ((b : B) → Own (reader b))
    → ((b : B) (s : List ℕ) → Takes (count b) (reader b s)) → ((s : List ℕ) (m : ℕ) → count (by s) ≤ m → by (take m s) ≡ by s)
    → Own (λ s. reader (by s) s)
own-chosen by reader count own takes same' s = go (reader (by s) s) (own (by s) s) (takes (by s) s)
  where
    go : (g : Got _) → OwnText (reader (by s)) s g → Takes (count (by s)) g → OwnText (λ t. reader (by t) t) s g
    go (got n a) o t = (o.0, λ m l. rw (same' s m (omega arith)) (o.1 m l))
    go (stopped why i) o t = tt

-- one of two, each of so many bytes
module _ {A : Type 0} (by : List ℕ → Bool) (first second : Reader A) (j k : ℕ) where
  own-either : Own first → Own second → (b : Bool) → Own (λ s. when b (first s) (second s))
  own-either h l true = h
  own-either h l false = l

  takes-either : ((s : List ℕ) → Takes j (first s)) → ((s : List ℕ) → Takes k (second s)) → (b : Bool) (s : List ℕ)
      → Takes (when b j k) (when b (first s) (second s))
  takes-either h l true = h
  takes-either h l false = l

  pub own-when : Own first → Own second → ((s : List ℕ) → Takes j (first s)) → ((s : List ℕ) → Takes k (second s))
      → ((s : List ℕ) (m : ℕ) → when (by s) j k ≤ m → by (take m s) ≡ by s) → Own (λ s. when (by s) (first s) (second s))
  own-when h l takes takes' same' =
      own-chosen by (λ b s. when b (first s) (second s)) (λ b. when b j k) (own-either h l) (takes-either takes takes') same'

-- what a text shows: whether a digit stands at a place, how far a greedy number goes, a minus in front, how many digits follow

pub digit-kept : (i m : ℕ) (s : List ℕ) → i < m → digit_at i (take m s) ≡ digit_at i s
unfolding digit_at
digit-kept i m s h = rw (get_or-take m s i 0 h)

pub no-digit-cut : (i m : ℕ) (s : List ℕ) → digit_at i s ≡ false → digit_at i (take m s) ≡ false
unfolding digit_at
no-digit-cut i m s e =
    by-test (ltb i m) (λ c. digit-kept i m s (ltb-true i m c) ∙ e)
    (λ c. rw (get_or-eq_default (take m s) 0 {n = i} (omega (arith, length-take m s, ltb-false i m c))))

pub reach-cut : (more i : ℕ) (s : List ℕ) (m : ℕ) → reach more i s ≤ m → reach more i (take m s) ≡ reach more i s
unfolding reach
reach-cut zero i s m h = refl
reach-cut (suc more) i s m h = go (digit_at i s) refl (reach-cut more (suc i) s m)
  where
    go : (t : Bool) → digit_at i s ≡ t → (reach more (suc i) s ≤ m → reach more (suc i) (take m s) ≡ reach more (suc i) s)
        → reach (suc more) i (take m s) ≡ reach (suc more) i s
    go true e ih =
        let l : reach more (suc i) s ≤ m = rw (reach-on more i s e) at h in
        reach-on more i (take m s) (digit-kept i m s (omega (arith, (reach-bounds more (suc i) s).0)) ∙ e) ∙ ih l ∙ sym (reach-on more i s e)
    go false e ih = reach-ends more i (take m s) (no-digit-cut i m s e) ∙ sym (reach-ends more i s e)

pub minus-cut : (s : List ℕ) (m : ℕ) → minus_first s ≤ m → minus_first (take m s) ≡ minus_first s
minus-cut [] m h = rw take-nil
minus-cut (b ∷ s) zero h = omega arith
minus-cut (b ∷ s) (suc m) h = refl

run-cut : (s : List ℕ) (m : ℕ) → digit_run s ≤ m → digit_run (take m s) ≡ digit_run s
unfolding digit_run
run-cut [] m h = rw take-nil
run-cut (b ∷ s) zero h = omega arith
run-cut (b ∷ s) (suc m) h = by-test (is_digit b) (λ e. rw e (ap suc (run-cut s m (omega (arith, rw e at h))))) (λ e. rw e)

pub year-cut : (s : List ℕ) (m : ℕ) → year_length s ≤ m → year_length (take m s) ≡ year_length s
year-cut s m h =
    rw (minus-cut s m (omega arith), drop-take (minus_first s) m s, run-cut (drop (minus_first s) s) (m - minus_first s) (omega arith))
