-- Demand 3: when a pattern can be trusted to read back what it wrote, and what an answer of the check says, of records of real days
-- and of any. How it is decided is no matter of definition.
use mathlib.Core.Bool.{Bool}
use mathlib.Core.List.{List}
use Rattle.std.specs.Prelude.{◌≡◌, ℕ, ◌<◌, ℤ, nat_abs, length, get_or, take, drop, Result, Ok, Err}
use Rattle.meaning.specs.Answers.{◌else◌, pattern_check, fields_check, current_year_check}
use Rattle.meaning.specs.Books.{Valid}
use Rattle.meaning.specs.Days.{DayOf, day_number}
use Rattle.meaning.specs.Names.{Book}
use Rattle.meaning.specs.Readers.{got}
use Rattle.meaning.specs.Reading.{read_step, carried_step}
use Rattle.meaning.specs.Writing.{Step, literal, steps, step_text, texts}
use Rattle.meaning.specs.Results.{Checked}
use Rattle.meaning.specs.declared.Choices.{Choices}
use Rattle.meaning.specs.declared.Day.{Day}
use Rattle.meaning.specs.declared.Edition.{Edition}
use Rattle.meaning.specs.declared.Fields.{Fields}
use Rattle.meaning.specs.declared.Pair.TheVariants.{Full}
use Rattle.meaning.specs.declared.Refusal.{Refusal}
use Rattle.meaning.specs.declared.Verdict.{Verdict}
use Rattle.meaning.specs.declared.Verdict.TheVariants.{Yes, No}

-- part i of these
abbrev pub part_at : List Step → ℕ → Step
part_at ss i = get_or ss i (literal mathlib.Core.List.[] mathlib.Core.Bool.false)

-- where the text of part i starts in the whole written text
unfoldable pub start_of : Book → Fields → List Step → ℕ → ℕ
unfolding texts
start_of book f ss i = length (texts book f (take i ss))

-- Part i comes back for a record: read from where its own text starts in the whole written text, it takes just the bytes
-- that it wrote and gives the value that it carries.
unfoldable pub ComesBack : Choices → Book → ℕ → List Step → Fields → ℕ → Type 0
unfolding read_step start_of texts step_text carried_step
ComesBack choices book current ss f i =
    read_step choices book current (part_at ss i) (drop (start_of book f ss i) (texts book f ss))
    ≡ got (length (step_text book f (part_at ss i))) (carried_step (part_at ss i) f)

-- which records count
abbrev pub Records : Type 1
Records = Fields → Type 0

-- every allowed one
abbrev pub AnyAllowed : Records
AnyAllowed f = fields_check f ≡ Ok tt

-- the day of a record
abbrev pub day_of : Fields → Day
day_of f = record { year = f.year; month = f.month; day = f.day; doy = f.doy; week = f.week; wday = f.wday }

-- An allowed one of a real day: it has a number, and is that number's day, with its day of year, week and weekday beside it. Time
-- and offset are free.
pub record RealDay (f : Fields) : Type 0 where
  pub allowed : AnyAllowed f
  pub number : ℤ
  pub numbered : day_number f.year f.month f.day ≡ Ok number
  pub is : DayOf number (day_of f)

-- each part below a number comes back for every record that counts
unfoldable pub AllComeBack : Records → Choices → Book → ℕ → List Step → ℕ → Type 0
unfolding ComesBack
AllComeBack Counts choices book current ss n = (f : Fields) → Counts f → (i : ℕ) → i < n → ComesBack choices book current ss f i

-- part i is the first that fails for some record that counts, and this is such a record
pub record FailsFirst (Counts : Records) (choices : Choices) (book : Book) (current : ℕ) (ss : List Step) (i : ℕ) (f : Fields) : Type 0 where
  pub there : i < length ss
  pub counts : Counts f
  pub fails : ComesBack choices book current ss f i → ⊥
  pub earlier : AllComeBack Counts choices book current ss i

unfoldable pub trust_check : Edition → List ℕ → ℤ → Checked
unfolding pattern_check current_year_check
trust_check edition p current = pattern_check p else current_year_check edition current

-- the check is of the full pair
abbrev pub full_pair : Edition → Bool → Choices
full_pair edition strict = record { pair = Full; strict = strict; edition = edition }

-- what an answer of the check says, of a reading with these choices: refusals 1, 2, 3, 14; yes when every part comes back for
-- every record that counts; no with the first part that fails
unfoldable pub SaysOf : Records → Choices → Book → List ℕ → ℤ → Result Verdict Refusal → Type 0
unfolding trust_check AllComeBack steps
SaysOf Counts choices book p current (Ok Yes) =
    (trust_check choices.edition p current ≡ Ok tt) × AllComeBack Counts choices book (nat_abs current) (steps choices.pair p) (length (steps choices.pair p))
SaysOf Counts choices book p current (Ok (No part f)) =
    (trust_check choices.edition p current ≡ Ok tt) × FailsFirst Counts choices book (nat_abs current) (steps choices.pair p) part f
SaysOf Counts choices book p current (Err why) = trust_check choices.edition p current ≡ Err why

-- the answer of the check in an edition with a book, of real days: the same, whether a reading is strict or not
abbrev pub SaysWith : Book → Edition → List ℕ → ℤ → Result Verdict Refusal → Type 0
SaysWith book edition p current answer = (strict : Bool) → SaysOf RealDay (full_pair edition strict) book p current answer

-- What the check promises: it is the answer with every valid book. So the verdict is no matter of the names, and the record that a no
-- shows fails with each of them.
abbrev pub Says : Edition → List ℕ → ℤ → Result Verdict Refusal → Type 0
Says edition p current answer = (book : Book) → Valid book → SaysWith book edition p current answer
