-- Laws of the walk over the parts of a pattern: a part more, and the end.
use Rattle.std.specs.Prelude.{Result, Ok, Err, Some, None, Option}
use mathlib.Core.Bool.{true, false}
use mathlib.Core.List.{List, [], ◌∷◌}
use mathlib.Core.Logic.{◌⊎◌, inl, inr}
use mathlib.Core.Path.{◌≡◌, refl, ◌∙◌}
use Prim.Native.Nat.{ℕ, suc, ◌+◌, ◌≤◌, ◌<◌}
use native.Mathlib.Numerals.{add-one}
use native.Mathlib.Omega.{arith}
use lib.ListN.{length, drop, length-drop}
use lib.Seq.{drop-drop}
use borrow.Author.Tests.{lt-ltb}
use Rattle.laws.proofs.Pluses.{behind_part}
use Rattle.laws.proofs.Readers.{none_left}
use Rattle.meaning.specs.Bytes.{when}
use Rattle.meaning.specs.Names.{Book}
use Rattle.meaning.specs.Readers.{Got, got, stopped}
use Rattle.meaning.specs.Reading.{read_step}
use Rattle.meaning.specs.Whole.{Gave, Walk, walked, refused_at, walk}
use Rattle.meaning.specs.Writing.{Step, steps}
use Rattle.meaning.specs.declared.Carried.{Carried}
use Rattle.meaning.specs.declared.Choices.{Choices}
use Rattle.meaning.specs.declared.Edition.{Edition}
use Rattle.meaning.specs.declared.Pair.{Pair}
use Rattle.meaning.specs.declared.Part.{Part}
use Rattle.meaning.specs.declared.Refusal.TheVariants.{InPart, TextLeft}
use Rattle.meaning.specs.declared.Trouble.TheVariants.{LiteralDiffers}
use Rattle.parse.proofs.literals.Strict.{strict_by, compared-read}
use Rattle.parse.proofs.rule.Within.{within_step}
use Rattle.parse.proofs.steps.Within.{part_stays}
use Rattle.parse.specs.Literals.{compared}
use Rattle.parse.specs.Steps.{part_at, unseen, plain_read}
use Rattle.parse.specs.declared.cursor.Read.{Read}
use Rattle.parse.specs.declared.cursor.Stop.{Stop}
use Rattle.pattern.specs.Next.{Next}
use Rattle.pattern.proofs.parts.Walks.{steps_next, steps-done}
use Rattle.reader.specs.Steps.{step_at}
use Rattle.rules.specs.Steps.{means, Chosen}
use Rattle.rules.specs.declared.step.Step as rules

-- the step of a part that was found and whose step was chosen
pub step-here : {pair : Pair} {p : List ℕ} {place : ℕ} {part : Part} {k : rules.Step} → Next p place part → Chosen pair p part k
    → step_at pair p place ≡ means p k
step-here {pair} {p} {place} {part} n chosen = rw (steps_next pair p place part n, chosen.meant)

-- a cursor that a part moves on stays in the text
pub part-inside : (edition : Edition) (book : Book) (text : List ℕ) (at current : ℕ) (step : Step) {read : Read (Option Carried)}
    → part_at at (plain_read edition book current step (drop at text)) ≡ Ok read → at ≤ length text → read.next.at ≤ length text
part-inside edition book text at current step e h =
    let rest = drop at text in
    part_stays at text (plain_read edition book current step rest) h (within_step (unseen edition) book current step rest) e

module _ (choices : Choices) (book : Book) (current i : ℕ) (text : List ℕ) (gave : List Gave) where
  -- what follows a part that began at a place, by what it gave
  abbrev pub walk_by : ℕ → List Step → Result (Read (Option Carried)) Stop → Walk
  walk_by at ss (Err stop) = refused_at (InPart stop.trouble i stop.place)
  walk_by at ss (Ok read) =
      walk choices book current (i + 1) read.next.at ss (drop read.next.at text) (record { carried = read.value; start = at; end = read.next.at } ∷ gave)

  by_part : (at : ℕ) (ss : List Step) (g : Got (Option Carried))
      → behind_part i at (λ n c. walk choices book current (suc i) (at + n) ss (drop n (drop at text)) (record { carried = c; start = at; end = at + n } ∷ gave)) g
      ≡ walk_by at ss (part_at at g)
  by_part at ss (got n c) = rw (drop-drop n at text, add-one i)
  by_part at ss (stopped why place) = refl

  pub walk-on : (at : ℕ) (step : Step) (ss : List Step)
      → walk choices book current i at (step ∷ ss) (drop at text) gave
      ≡ walk_by at ss (part_at at (read_step choices book current step (drop at text)))
  unfolding walk
  walk-on at step ss = by_part at ss (read_step choices book current step (drop at text))

  -- a part, from what it gave where nothing is compared
  module _ (at place : ℕ) {p : List ℕ} {part : Part} {k : rules.Step} (n : Next p place part) (chosen : Chosen choices.pair p part k) where
    abbrev Walked : Walk → Type 0
    Walked w = walk choices book current i at (steps choices.pair (drop place p)) (drop at text) gave ≡ w

    abbrev Gives : Result (Read (Option Carried)) Stop → Type 0
    Gives g = part_at at (plain_read choices.edition book current (means p k) (drop at text)) ≡ g

    walk_step : {g : Result (Read (Option Carried)) Stop} → Gives g
        → Walked (walk_by at (steps choices.pair (drop (place + part.length) p)) (strict_by choices.strict (means p k) text g))
    walk_step e =
        let pair = choices.pair in
        rw (← e, steps_next pair p place part n, ← chosen.meant, ← compared-read text at choices book current (means p k))
        (walk-on at (means p k) (steps pair (drop (place + part.length) p)))

    pub walk-stops : {stop : Stop} → Gives (Err stop) → Walked (refused_at (InPart stop.trouble i stop.place))
    walk-stops e = walk_step e

    pub walk-differs : {read : Read (Option Carried)} {found : ℕ} → Gives (Ok read) → choices.strict ≡ true
        → compared (means p k) text read.next.at ≡ Some found → Walked (refused_at (InPart LiteralDiffers i found))
    walk-differs e strict differs = walk_step e ∙ rw (strict, differs)

    pub walk-goes-on : {read : Read (Option Carried)} → Gives (Ok read)
        → when choices.strict (compared (means p k) text read.next.at) None ≡ None
        → Walked (walk_by at (steps choices.pair (drop (place + part.length) p)) (Ok read))
    walk-goes-on e same = walk_step e ∙ rw same

  -- behind the last part, where text is left over and where none is
  module _ (at : ℕ) where
    pub end-left : choices.strict ≡ true → at < length text → walk choices book current i at [] (drop at text) gave ≡ refused_at (TextLeft at)
    unfolding walk
    end-left strict h = rw (strict, lt-ltb 0 (length (drop at text)) (rw length-drop (omega arith)))

    pub end-done : (choices.strict ≡ false) ⊎ (length text ≤ at) → walk choices book current i at [] (drop at text) gave ≡ walked at gave
    unfolding walk
    end-done (inl strict) = rw strict
    end-done (inr h) = rw (none_left choices.strict at (drop at text) (rw length-drop (omega arith)))

  module _ (at place : ℕ) (p : List ℕ) (end : length p ≤ place) where
    pub walk-left : choices.strict ≡ true → at < length text
        → walk choices book current i at (steps choices.pair (drop place p)) (drop at text) gave ≡ refused_at (TextLeft at)
    walk-left strict h = rw (steps-done choices.pair p place end) (end-left at strict h)

    pub walk-done : (choices.strict ≡ false) ⊎ (length text ≤ at)
        → walk choices book current i at (steps choices.pair (drop place p)) (drop at text) gave ≡ walked at gave
    walk-done ends = rw (steps-done choices.pair p place end) (end-done at ends)
