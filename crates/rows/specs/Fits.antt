-- What is asked of an answer so that 64 signed bits hold its numbers. All answers to what can be lent have it.
use Rattle.std.specs.Prelude.{List, [], ◌∷◌, ℕ, ◌<◌, ◌^◌, ℤ, nat_abs, Result, Ok, Err}
use Rattle.meaning.specs.Answers.{details}
use Rattle.meaning.specs.declared.Change.{Change}
use Rattle.meaning.specs.Results.{Checked, Stamped, Undone}
use Rattle.meaning.specs.declared.Mended.{Mended}
use Rattle.meaning.specs.declared.Reading.{Reading}
use Rattle.meaning.specs.declared.Refusal.{Refusal}
use Rattle.meaning.specs.declared.NotUndone.TheVariants.{Misfit, Refused}
use Rattle.meaning.specs.declared.Verdict.{Verdict}
use Rattle.meaning.specs.declared.Verdict.TheVariants.{Yes, No}

abbrev pub NumberFits : ℕ → Type 0
NumberFits n = n < 2 ^ 63

abbrev pub AllFit : List ℤ → Type 0
AllFit [] = Unit
AllFit (z ∷ zs) = NumberFits (nat_abs z) × AllFit zs

abbrev pub WhyFits : Refusal → Type 0
WhyFits why = AllFit (details why)

abbrev pub CheckedFits : Checked → Type 0
CheckedFits (Ok _) = Unit
CheckedFits (Err why) = WhyFits why

abbrev pub CountFits : Result ℕ Refusal → Type 0
CountFits (Ok n) = NumberFits n
CountFits (Err why) = WhyFits why

abbrev pub ReadFits : Result Reading Refusal → Type 0
ReadFits (Ok r) = NumberFits r.taken
ReadFits (Err why) = WhyFits why

abbrev pub ChangeFits : Change → Type 0
ChangeFits c = NumberFits c.place × NumberFits c.before × NumberFits c.after

unfoldable pub AllChangesFit : List Change → Type 0
AllChangesFit [] = Unit
AllChangesFit (c ∷ cs) = ChangeFits c × AllChangesFit cs

abbrev pub MendedFits : Result Mended Refusal → Type 0
MendedFits (Ok r) = NumberFits r.length × NumberFits r.changes.used × AllChangesFit r.changes.listed
MendedFits (Err why) = WhyFits why

abbrev pub UndoneFits : Undone → Type 0
UndoneFits (Ok n) = NumberFits n
UndoneFits (Err Misfit) = Unit
UndoneFits (Err (Refused why)) = WhyFits why

abbrev pub IntegerFits : Result ℤ Refusal → Type 0
IntegerFits (Ok z) = Unit
IntegerFits (Err why) = WhyFits why

abbrev pub StampedFits : Stamped → Type 0
StampedFits (Ok t) = NumberFits t.nanos
StampedFits (Err why) = WhyFits why

abbrev pub VerdictFits : Result Verdict Refusal → Type 0
VerdictFits (Ok Yes) = Unit
VerdictFits (Ok (No part f)) = NumberFits part × NumberFits f.nanos
VerdictFits (Err why) = WhyFits why
