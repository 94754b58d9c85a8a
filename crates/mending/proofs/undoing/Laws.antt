-- Laws of undoing: a byte that stands so often, a change that fits, and listed changes one by one.
use mathlib.Core.Bool.{true, false}
use mathlib.Core.List.{List, [], ◌∷◌, ◌++◌}
use mathlib.Core.Path.{◌≡◌, refl, sym, ap, ◌∙◌}
use Prim.Native.Nat.{ℕ, zero, suc, ◌+◌, ◌-◌, ◌≤◌, ◌<◌}
use native.Mathlib.Numerals.{add-one}
use native.Mathlib.Omega.{arith}
use lib.Dec.{eqb, leb}
use Rattle.std.specs.List.{list_all}
use lib.ListN.{length, get_or, take, drop, replicate, length-drop, length-replicate, length-append, drop_of_length-le}
use lib.Seq.{drop-cons, length-take-le}
use borrow.Author.Tests.{eq-eqb, ne_eqb, eqb-true, leb-true}
use Rattle.laws.proofs.Checks.{within-is}
use Rattle.laws.proofs.Tests.{by-test, true-is-not-false, both_true}
use Rattle.meaning.specs.Answers.{within}
use Rattle.meaning.specs.Bytes.{both}
use Rattle.meaning.specs.Mending.{no_change, fits, all_fit, undone_from}
use Rattle.meaning.specs.Readers.{begins}
use Rattle.meaning.specs.declared.Change.{Change}

-- a byte that stands so often

pub begins-short : (s t : List ℕ) → length t < length s → begins s t ≡ false
unfolding begins
begins-short [] t h = absurd (omega arith)
begins-short (a ∷ s) [] h = refl
begins-short (a ∷ s) (b ∷ t) h = by-test (eqb a b) (λ e. rw e (begins-short s t (omega arith))) (λ e. rw e)

begins-long : (s t : List ℕ) → begins s t ≡ true → length s ≤ length t
unfolding begins
begins-long [] t h = omega arith
begins-long (a ∷ s) [] h = true-is-not-false (sym h)
begins-long (a ∷ s) (b ∷ t) h = let rest = begins-long s t (both_true (eqb a b) (begins s t) h).1 in omega (arith, rest)

pub all_stand : (b times : ℕ) (s : List ℕ) → times ≤ length s → list_all (λ x. eqb x b) (take times s) ≡ begins (replicate times b) s
unfolding begins
all_stand b zero s h = refl
all_stand b (suc n) [] h = absurd (omega arith)
all_stand b (suc n) (x ∷ s) h =
    by-test (eqb x b)
    (λ e. rw (e, eqb-true x b e, eq-eqb b b refl) (all_stand b n s (omega arith)))
    (λ e. rw (e, ne_eqb b x (λ d. true-is-not-false (sym (eq-eqb x b (sym d)) ∙ e))))

-- a change that fits

pub record Fitting (p : List ℕ) (at : ℕ) (c : Change) : Type 0 where
  pub behind : at ≤ c.place
  pub adds : c.before ≤ c.after
  pub inside : c.place + c.after ≤ length p

pub fits-is : (p : List ℕ) (at : ℕ) (c : Change) → fits p at c ≡ true → Fitting p at c
unfolding fits
fits-is p at c h =
    let t = both_true (within at (length p) c.place) (both (leb c.before c.after) (begins (replicate c.after c.byte) (drop c.place p))) h in
    let u = both_true (leb c.before c.after) (begins (replicate c.after c.byte) (drop c.place p)) t.1 in
    let w = within-is at (length p) c.place t.0 in
    let long = begins-long (replicate c.after c.byte) (drop c.place p) u.1 in
    record {
      behind = w.0;
      adds = leb-true c.before c.after u.0;
      inside = omega (arith, w.1, long, length-drop c.place p, length-replicate c.after c.byte);
    }

-- listed changes, one by one

pub change-next : (cs : List Change) (i : ℕ) → i < length cs → drop i cs ≡ get_or cs i no_change ∷ drop (i + 1) cs
change-next cs i h = drop-cons cs i no_change h ∙ rw (add-one i)

module _ (p : List ℕ) (at : ℕ) (cs : List Change) (i : ℕ) (h : i < length cs) where
  abbrev this : Change
  this = get_or cs i no_change

  pub fits_not : fits p at this ≡ false → all_fit p at (drop i cs) ≡ false
  unfolding all_fit
  fits_not e = rw (change-next cs i h, e)

  pub fits_on : fits p at this ≡ true → all_fit p (this.place + this.after) (drop (i + 1) cs) ≡ all_fit p at (drop i cs)
  unfolding all_fit
  fits_on e = rw (change-next cs i h, e)

  pub fits-here : all_fit p at (drop i cs) ≡ true → Fitting p at this
  unfolding all_fit
  fits-here e =
      let all : all_fit p at (this ∷ drop (i + 1) cs) ≡ true = rw (change-next cs i h) at e in
      fits-is p at this (both_true (fits p at this) (all_fit p (this.place + this.after) (drop (i + 1) cs)) all).0

  pub fits-later : all_fit p at (drop i cs) ≡ true → all_fit p (this.place + this.after) (drop (i + 1) cs) ≡ true
  unfolding all_fit
  fits-later e =
      let all : all_fit p at (this ∷ drop (i + 1) cs) ≡ true = rw (change-next cs i h) at e in
      (both_true (fits p at this) (all_fit p (this.place + this.after) (drop (i + 1) cs)) all).1

  pub undone-next : undone_from p at (drop i cs)
      ≡ take (this.place - at) (drop at p) ++ replicate this.before this.byte ++ undone_from p (this.place + this.after) (drop (i + 1) cs)
  unfolding undone_from
  undone-next = rw (change-next cs i h)

  pub kept-long : Fitting p at this → length (take (this.place - at) (drop at p)) ≡ this.place - at
  kept-long f = length-take-le (this.place - at) (drop at p) (omega (arith, f.inside, f.behind, length-drop at p))

  pub undone-long : Fitting p at this → length (undone_from p at (drop i cs))
      ≡ this.place - at + this.before + length (undone_from p (this.place + this.after) (drop (i + 1) cs))
  undone-long f =
      let kept = take (this.place - at) (drop at p) in
      let stood = replicate this.before this.byte in
      let rest = undone_from p (this.place + this.after) (drop (i + 1) cs) in
      ap length undone-next ∙ omega (arith, length-append (kept ++ stood) rest, length-append kept stood, kept-long f, length-replicate this.before this.byte)

pub fits_all : (p : List ℕ) (at : ℕ) (cs : List Change) (i : ℕ) → length cs ≤ i → all_fit p at (drop i cs) ≡ true
unfolding all_fit
fits_all p at cs i h = rw (drop_of_length-le cs h)

pub undone-last : (p : List ℕ) (at : ℕ) (cs : List Change) (i : ℕ) → length cs ≤ i → undone_from p at (drop i cs) ≡ drop at p
unfolding undone_from
undone-last p at cs i h = rw (drop_of_length-le cs h)
