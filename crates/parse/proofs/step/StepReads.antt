-- What steps read that need no rule looked up: years, and the numbers that patterns have most.
use Rattle.std.specs.Prelude.{Some, None}
use mathlib.Core.List.{List, [], ◌∷◌}
use mathlib.Core.Path.{◌≡◌, refl, sym}
use Prim.Native.Nat.{ℕ, ◌≤◌}
use native.Mathlib.Omega.{arith}
use lib.Dec.{leb}
use lib.IntN.{pos}
use lib.ListN.{length}
use denote.Enum.Declared.{tag_of}
use types.Run.{OneOf, miss}
use Rattle.laws.proofs.Tests.{by-test}
use Rattle.meaning.specs.Names.{Book, english}
use Rattle.meaning.specs.Readers.{got}
use Rattle.meaning.specs.Reading.{value, most_read, read_rule, read_step}
use Rattle.meaning.specs.declared.Edition.{Edition}
use Rattle.meaning.specs.declared.Edition.TheVariants.{First, Second}
use Rattle.meaning.specs.declared.ParseUnit.TheVariants.{DayOfMonth}
use Rattle.parse.proofs.rule.Within.{within_step}
use Rattle.parse.proofs.short.Taken.{digits-read}
use Rattle.parse.specs.ShortReads.{quick_digits, quick_unit}
use Rattle.parse.specs.Steps.{unseen, plain_read}
use Rattle.parse.specs.Years.{long_year_read}
use Rattle.parse.specs.declared.short.Digits.{Digits}
use Rattle.rules.specs.contracts.step.Step.{the_type}
use Rattle.rules.specs.ShortRules.{short_quantity, short_unit, short_most}
use Rattle.rules.specs.Steps.{long_year, means, Held}
use Rattle.rules.specs.declared.short.Short.{Short}
use Rattle.rules.specs.declared.short.Short.TheVariants as short
use Rattle.rules.specs.declared.step.Step.{Step}
use Rattle.rules.specs.declared.step.Step.TheVariants as step

pub year-read : (edition : Edition) (book : Book) (current c : ℕ) (s : List ℕ) → read_rule edition book current (long_year c) s ≡ long_year_read c s
unfolding read_rule
year-read edition book current c s = by-test (leb c 4) (λ e. rw e) (λ e. rw e)

-- the kinds but Short have no digits of their own, and no unit
abbrev others : List ℕ
others = 0 ∷ 1 ∷ 2 ∷ 4 ∷ 5 ∷ 6 ∷ 7 ∷ 8 ∷ []

pub none-quick : (k : Step) → OneOf others (tag_of the_type k) → ((edition : Edition) (s : List ℕ) → quick_digits edition k s ≡ None) × (quick_unit k ≡ DayOfMonth)
none-quick (step.Times b n) h = (λ edition s. refl, refl)
none-quick (step.Quoted from to) h = (λ edition s. refl, refl)
none-quick (step.Open from) h = (λ edition s. refl, refl)
none-quick (step.Short number c) h = absurd (miss others 3 tt h)
none-quick (step.Year c) h = (λ edition s. refl, refl)
none-quick step.MonthAbbreviated h = (λ edition s. refl, refl)
none-quick step.MonthWide h = (λ edition s. refl, refl)
none-quick step.WdayWide h = (λ edition s. refl, refl)
none-quick (step.Run role b n) h = (λ edition s. refl, refl)

most-bounds : (edition : Edition) (number : Short) (c : ℕ) → c ≤ 2
    → (c ≤ most_read edition (short_quantity number) (short_most number c)) × (most_read edition (short_quantity number) (short_most number c) ≤ 2)
unfolding most_read
most-bounds First short.Month c few = (omega arith, few)
most-bounds First short.Day c few = (few, omega arith)
most-bounds First short.Hour c few = (few, omega arith)
most-bounds First short.Minute c few = (few, omega arith)
most-bounds First short.Second c few = (few, omega arith)
most-bounds Second short.Month c few = (few, omega arith)
most-bounds Second short.Day c few = (few, omega arith)
most-bounds Second short.Hour c few = (few, omega arith)
most-bounds Second short.Minute c few = (few, omega arith)
most-bounds Second short.Second c few = (few, omega arith)

none-there : {A : Type 0} {d : Digits} → Some d ≡ None → A
none-there told = absurd (let z : ◌≡◌ {A = ℕ} 0 1 = cc in omega arith)

-- where the digits are there, they are what the step reads
module _ (p s : List ℕ) where
  pub quick-read : (edition : Edition) (book : Book) (current : ℕ) (k : Step) {d : Digits} → Held p k → Some d ≡ quick_digits edition k s
      → plain_read edition book current (means p k) s ≡ got d.taken (value (quick_unit k) (pos d.size))
  unfolding read_step read_rule
  quick-read edition book current (step.Times b n) held told = none-there told
  quick-read edition book current (step.Quoted from to) held told = none-there told
  quick-read edition book current (step.Open from) held told = none-there told
  quick-read edition book current (step.Short number c) held told =
      let most = most-bounds edition number c held.1 in
      digits-read (short_unit number) c (most_read edition (short_quantity number) (short_most number c)) held.0 most.0 most.1 s (sym told)
  quick-read edition book current (step.Year c) held told = none-there told
  quick-read edition book current step.MonthAbbreviated held told = none-there told
  quick-read edition book current step.MonthWide held told = none-there told
  quick-read edition book current step.WdayWide held told = none-there told
  quick-read edition book current (step.Run role b n) held told = none-there told

  pub quick-within : (edition : Edition) (k : Step) {d : Digits} → Held p k → Some d ≡ quick_digits edition k s → d.taken ≤ length s
  quick-within edition k held told = rw (quick-read edition english 0 k held told) at (within_step (unseen edition) english 0 (means p k) s)
