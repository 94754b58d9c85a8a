-- The text of a pattern, part by part.
use mathlib.Core.List.{List, [], ◌++◌}
use mathlib.Core.Path.{◌≡◌}
use Prim.Native.Nat.{ℕ, ◌+◌, ◌≤◌}
use lib.ListN.{length, drop, length-append}
use Rattle.meaning.specs.Names.{Book}
use Rattle.meaning.specs.Whole.{text}
use Rattle.meaning.specs.Writing.{step_of, step_text, texts}
use Rattle.meaning.specs.declared.Fields.{Fields}
use Rattle.meaning.specs.declared.Pair.{Pair}
use Rattle.meaning.specs.declared.Part.{Part}
use Rattle.pattern.proofs.parts.Walks.{steps_next, steps-done}
use Rattle.pattern.specs.First.{content_of}
use Rattle.pattern.specs.Next.{Next}
use Rattle.rules.specs.Steps.{means, Chosen}
use Rattle.rules.specs.declared.step.Step.{Step}

-- the text of what is left of a pattern: its next part's, and that of what is left behind it
pub text-step : (pair : Pair) (book : Book) (f : Fields) (p : List ℕ) (at : ℕ) (part : Part) → Next p at part
    → text pair book (drop at p) f ≡ step_text book f (step_of pair (content_of p part)) ++ text pair book (drop (at + part.length) p) f
unfolding text texts
text-step pair book f p at part n = rw (steps_next pair p at part n)

pub text-done : (pair : Pair) (book : Book) (f : Fields) (p : List ℕ) (at : ℕ) → length p ≤ at → text pair book (drop at p) f ≡ []
unfolding text texts
text-done pair book f p at h = rw (steps-done pair p at h)

-- the same by the step that was chosen for the part
pub text-chosen : (pair : Pair) (book : Book) (f : Fields) (p : List ℕ) (at : ℕ) (part : Part) (step : Step) → Next p at part → Chosen pair p part step
    → text pair book (drop at p) f ≡ step_text book f (means p step) ++ text pair book (drop (at + part.length) p) f
text-chosen pair book f p at part step n chosen = rw chosen.meant (text-step pair book f p at part n)

pub length-chosen : (pair : Pair) (book : Book) (f : Fields) (p : List ℕ) (at : ℕ) (part : Part) (step : Step) → Next p at part → Chosen pair p part step
    → length (text pair book (drop at p) f) ≡ length (step_text book f (means p step)) + length (text pair book (drop (at + part.length) p) f)
length-chosen pair book f p at part step n chosen = rw (text-chosen pair book f p at part step n chosen, length-append)
