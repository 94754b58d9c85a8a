-- The steps of the code, each with everything decided: which step of the definitions it stands for, and what it has to do with the
-- pattern that it was chosen from.
use Rattle.std.specs.Prelude.{false, List, ◌≡◌, ℕ, ◌-◌, ◌≤◌, ◌<◌, leb, length, take, drop, replicate}
use Rattle.meaning.specs.Bytes.{when}
use Rattle.meaning.specs.Rules.{role_of}
use Rattle.meaning.specs.Writing as meaning
use Rattle.meaning.specs.declared.NameList.TheVariants as names
use Rattle.meaning.specs.declared.Pair.{Pair}
use Rattle.meaning.specs.declared.Part.{Part}
use Rattle.meaning.specs.declared.Rule.{Rule}
use Rattle.meaning.specs.declared.Rule.TheVariants.{Years, FixedYear, MatchedName}
use Rattle.pattern.specs.First.{unescaped, content_of}
use Rattle.pattern.specs.Next.{Lost}
use Rattle.rules.specs.ShortRules.{short_rule}
use Rattle.rules.specs.declared.step.Step.{Step}
use Rattle.rules.specs.declared.step.Step.TheVariants.{Times, Quoted, Open, Short, Year, MonthAbbreviated, MonthWide, WdayWide, Run}

-- y, more than twice
abbrev pub long_year : ℕ → Rule
long_year c = when (leb c 4) (Years c) (FixedYear c)

-- the step of the definitions that it stands for
abbrev pub means : List ℕ → Step → meaning.Step
means p (Times b n) = meaning.literal (replicate n b) false
means p (Quoted from to) = meaning.literal (unescaped (take (to - from) (drop from p))) false
means p (Open from) = meaning.literal (unescaped (drop from p)) (meaning.ends_in_quote (unescaped (drop from p)))
means p (Short number c) = meaning.field (short_rule number c)
means p (Year c) = meaning.field (long_year c)
means p MonthAbbreviated = meaning.field (MatchedName names.MonthAbbreviated)
means p MonthWide = meaning.field (MatchedName names.MonthWide)
means p WdayWide = meaning.field (MatchedName names.WdayWide)
means p (Run role b n) = meaning.run_step role b n

-- what running it relies on
abbrev pub Held : List ℕ → Step → Type 0
Held p (Times b n) = 0 < n
Held p (Quoted from to) = (from ≤ to) × (to ≤ length p)
Held p (Open from) = (from ≤ length p) × Lost (drop from p)
Held p (Short number c) = (0 < c) × (c ≤ 2)
Held p (Year c) = Unit
Held p MonthAbbreviated = Unit
Held p MonthWide = Unit
Held p WdayWide = Unit
Held p (Run role b n) = 0 < n

-- what step_of promises of a run of equal bytes, in any pattern, and of a part
pub record RunChosen (pair : Pair) (b n : ℕ) (step : Step) : Type 0 where
  pub meant : (p : List ℕ) → means p step ≡ meaning.run_step (role_of pair b n) b n
  pub held : (p : List ℕ) → Held p step

pub record Chosen (pair : Pair) (p : List ℕ) (part : Part) (step : Step) : Type 0 where
  pub meant : means p step ≡ meaning.step_of pair (content_of p part)
  pub held : Held p step
