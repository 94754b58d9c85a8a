-- Request [11]: what the functions that pack a pattern promise one another.
use Rattle.std.specs.Prelude.{List, ◌≡◌, ℕ, ◌-◌, length}
use Rattle.std.proofs.lemmas.List.Edits.{sets}
use Rattle.meaning.specs.declared.NameList.TheVariants as names
use Rattle.meaning.specs.declared.Role.{Role}
use Rattle.meaning.specs.declared.Role.TheVariants.{Literal, Symbol}
use Rattle.meaning.specs.declared.Rule.TheVariants.{MatchedName}
use Rattle.rules.specs.ShortRules.{short_rule}
use Rattle.rules.specs.Steps.{long_year}
use Rattle.rules.specs.declared.step.Step.{Step}
use Rattle.rules.specs.declared.step.Step.TheVariants.{Times, Quoted, Open, Short, Year, MonthAbbreviated, MonthWide, WdayWide, Run}

-- what the table has for a run, by the step that was chosen for it: the law `role-meant` of proofs/parts/Words
abbrev pub role_meant : Step → Role
role_meant (Times b n) = Literal
role_meant (Quoted from to) = Literal
role_meant (Open from) = Literal
role_meant (Short number c) = Symbol (short_rule number c)
role_meant (Year c) = Symbol (long_year c)
role_meant MonthAbbreviated = Symbol (MatchedName names.MonthAbbreviated)
role_meant MonthWide = Symbol (MatchedName names.MonthWide)
role_meant WdayWide = Symbol (MatchedName names.WdayWide)
role_meant (Run role b n) = role

-- what is held lies before a place, up to which the row is used from its end, and from then on up to the place where it starts
pub record Holds (old new : List ℕ) (before : ℕ) (text : List ℕ) (at : ℕ) : Type 0 where
  pub start : at ≡ before - length text
  pub laid : new ≡ sets old at text
