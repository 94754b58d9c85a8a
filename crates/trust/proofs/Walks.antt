-- Where every part comes back, a read of what was written goes through all parts, takes the whole text, and gives what each
-- part carries, read from where its own text stands.
use Rattle.std.specs.Prelude.{Ok, Option}
use mathlib.Core.List.{List, [], ◌∷◌, ◌++◌, reverse, append-nil, reverse-cons}
use mathlib.Core.Path.{◌≡◌, ap, ◌∙◌}
use Prim.Native.Nat.{ℕ, suc, ◌+◌, ◌<◌}
use native.Mathlib.Nat.{zero-add, add-zero}
use native.Mathlib.Omega.{arith}
use lib.IntN.{ℤ, nat_abs}
use lib.ListN.{length, drop, length-append}
use lib.Seq.{append_snoc, drop-append_seam}
use Rattle.meaning.specs.Names.{Book}
use Rattle.meaning.specs.Readers.{got}
use Rattle.meaning.specs.Reading.{read_step, carried_step}
use Rattle.meaning.specs.Trust.{Records, ComesBack, AllComeBack, SaysOf}
use Rattle.meaning.specs.Whole.{Gave, walked, walk, text}
use Rattle.meaning.specs.Writing.{Step, steps, step_text, texts}
use Rattle.meaning.specs.declared.Carried.{Carried}
use Rattle.meaning.specs.declared.Choices.{Choices}
use Rattle.meaning.specs.declared.Fields.{Fields}
use Rattle.meaning.specs.declared.Verdict.TheVariants.{Yes}
use Rattle.laws.proofs.Pluses.{behind_part}
use Rattle.laws.proofs.Readers.{none_left}
use Rattle.laws.proofs.Texts.{text-from}
use Rattle.trust.specs.ReadBack.{gave_from, gave_by}

newest-last : {A : Type 0} (c : A) (cs gave : List A) → reverse (c ∷ cs) ++ gave ≡ reverse cs ++ c ∷ gave
newest-last c cs gave = ap (λ (l : List _). l ++ gave) (reverse-cons c cs) ∙ append_snoc (reverse cs) c gave

module _ (choices : Choices) (book : Book) (current : ℕ) where
  -- a part that is read
  walk-on : (i at : ℕ) (step : Step) (ss : List Step) (s : List ℕ) (gave : List Gave) {n : ℕ} {c : Option Carried}
      → read_step choices book current step s ≡ got n c
      → walk choices book current i at (step ∷ ss) s gave
      ≡ walk choices book current (suc i) (at + n) ss (drop n s) (record { carried = c; start = at; end = at + n } ∷ gave)
  unfolding walk
  walk-on i at step ss s gave e =
      ap (behind_part i at (λ n c. walk choices book current (suc i) (at + n) ss (drop n s) (record { carried = c; start = at; end = at + n } ∷ gave))) e

  module _ (f : Fields) where
    -- all parts come back
    abbrev pub AllBack : List Step → Type 0
    AllBack ss = (i : ℕ) → i < length ss → ComesBack choices book current ss f i

    first_back : (s : Step) (ss : List Step) → AllBack (s ∷ ss)
        → read_step choices book current s (texts book f (s ∷ ss)) ≡ got (length (step_text book f s)) (carried_step s f)
    unfolding ComesBack
    first_back s ss back = back 0 (omega arith)

    others-back : (s : Step) (ss : List Step) → AllBack (s ∷ ss) → AllBack ss
    unfolding ComesBack
    others-back s ss back i h =
        rw (text-from book f ss i h) (rw (text-from book f (s ∷ ss) (suc i) (omega arith)) at (back (suc i) (omega arith)))

    pub walk-comes-back : (i at : ℕ) (ss : List Step) (gave : List Gave) → AllBack ss
        → walk choices book current i at ss (texts book f ss) gave ≡ walked (at + length (texts book f ss)) (gave_by book f at ss ++ gave)
    unfolding texts gave_from
    walk-comes-back i at [] gave back = unfold walk in rw (none_left choices.strict at [] (omega arith), add-zero)
    walk-comes-back i at (s ∷ ss) gave back =
        let own = step_text book f s in
        let rest = texts book f ss in
        let mine : Gave = record { carried = carried_step s f; start = at; end = at + length own } in
        let end : at + length own + length rest ≡ at + length (own ++ rest) = omega (arith, length-append own rest) in
        walk-on i at s ss (own ++ rest) gave (first_back s ss back)
        ∙ rw (drop-append_seam own rest)
        (walk-comes-back (suc i) (at + length own) ss (mine ∷ gave) (others-back s ss back)
        ∙ rw (end, newest-last mine (gave_from book f (at + length own) ss) gave))

-- Where the check says yes, a pattern reads the whole of what it wrote, and gives what its parts carry, each from its own text.
pub walk-yes : (Counts : Records) (choices : Choices) (book : Book) (p : List ℕ) (current : ℤ) → SaysOf Counts choices book p current (Ok Yes) → (f : Fields) → Counts f
    → walk choices book (nat_abs current) 0 0 (steps choices.pair p) (text choices.pair book p f) []
    ≡ walked (length (text choices.pair book p f)) (gave_by book f 0 (steps choices.pair p))
unfolding SaysOf AllComeBack text
walk-yes Counts choices book p current says f counts =
    let ss = steps choices.pair p in
    walk-comes-back choices book (nat_abs current) f 0 0 ss [] (says.1 f counts)
    ∙ rw (zero-add (length (text choices.pair book p f)), append-nil (gave_by book f 0 ss))
