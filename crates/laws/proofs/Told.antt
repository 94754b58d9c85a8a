-- The specification's numbers and values tell answers apart. An answer that holds no more than these is found again from them, so two
-- with the same ones are the same: a promise that equates the numbers and values says what one says that equates the answers. Of a
-- split, a reading and a mending they tell what the checks found. Then how
-- a promise is met by an equation, and what the answer of the check is told by.
use Rattle.std.specs.Prelude.{Result, Ok, Err}
use mathlib.Core.Bool.{Bool, true, false}
use mathlib.Core.List.{List, [], ◌∷◌, ◌++◌, map}
use mathlib.Core.Path.{◌≡◌, refl, ap, sym, ◌∙◌}
use Prim.Native.Nat.{ℕ}
use lib.Dec.{eqb}
use lib.IntN.{ℤ, pos, nat_abs}
use lib.ListN.{get_or}
use Rattle.meaning.proofs.Books.{english-valid}
use Rattle.meaning.specs.Answers.{number, details, Answer, refused, accepted, answer_by, split_answer, read_answer, wrote_answer, list_answer, offset_answer, day_number_answer, verdict_answer, stamp_answer}
use Rattle.meaning.specs.Bytes.{when}
use Rattle.meaning.specs.Names.{english}
use Rattle.meaning.specs.Mending.{change_numbers, changes_in, mended_answer}
use Rattle.meaning.specs.Promises.{SameAnswer}
use Rattle.meaning.specs.Trust.{SaysOf, Says, trust_check}
use Rattle.meaning.specs.Results.{Checked, DayNumber, Listed, Offset, Stamped, Wrote}
use Rattle.meaning.specs.declared.Edition.{Edition}
use Rattle.meaning.specs.declared.Fields.{Fields}
use Rattle.meaning.specs.declared.Mended.{Mended}
use Rattle.meaning.specs.declared.Reading.{Reading}
use Rattle.meaning.specs.declared.Refusal.{Refusal}
use Rattle.meaning.specs.declared.Refusal.TheVariants.{PatternTooLong, PatternByte, LoneQuote, FieldRange, NoRoom, TextTooLong, TextByte, InPart, OffsetLength, OffsetRange, CurrentYear, TextLeft, NoSuchDay, NoDayNumber, BookMark, BookVersion, BookCut, BookName, ShortRow, NotStamp, StampRange, LeapSecond, StampYear, StampOffset, MendedTooLong}
use Rattle.meaning.specs.declared.Split.{Split}
use Rattle.meaning.specs.declared.Stamp.{Stamp}
use Rattle.meaning.specs.declared.Trouble.{Trouble}
use Rattle.meaning.specs.declared.Trouble.TheVariants.{TooFew, NoNumber, NoName, NoSign, LiteralDiffers, PlusSign}
use Rattle.meaning.specs.declared.Verdict.{Verdict}
use Rattle.meaning.specs.declared.Verdict.TheVariants as verdict

-- what is found again from what it is told by is told apart
told-apart : {A B : Type 0} (told : A → B) (found : B → A) → ((a : A) → found (told a) ≡ a) → (a b : A) → told a ≡ told b → a ≡ b
told-apart told found again a b e = sym (again a) ∙ ap found e ∙ again b

-- the table of the specification, by number

abbrev one : List ℤ → ℕ
one ds = nat_abs (get_or ds 0 (pos 0))

abbrev two : List ℤ → ℕ
two ds = nat_abs (get_or ds 1 (pos 0))

-- for a number that no refusal has
abbrev unused : List ℤ → Refusal
unused ds = LoneQuote 0

abbrev table : List (List ℤ → Refusal)
table =
    unused
    ∷ (λ ds. PatternTooLong (one ds))
    ∷ (λ ds. PatternByte (one ds))
    ∷ (λ ds. LoneQuote (one ds))
    ∷ (λ ds. FieldRange (one ds))
    ∷ (λ ds. NoRoom (one ds))
    ∷ (λ ds. TextTooLong (one ds))
    ∷ (λ ds. TextByte (one ds))
    ∷ (λ ds. InPart TooFew (one ds) (two ds))
    ∷ (λ ds. InPart NoNumber (one ds) (two ds))
    ∷ (λ ds. InPart NoName (one ds) (two ds))
    ∷ (λ ds. InPart NoSign (one ds) (two ds))
    ∷ (λ ds. OffsetLength (one ds))
    ∷ (λ ds. OffsetRange (one ds))
    ∷ (λ ds. CurrentYear (get_or ds 0 (pos 0)))
    ∷ (λ ds. InPart LiteralDiffers (one ds) (two ds))
    ∷ (λ ds. TextLeft (one ds))
    ∷ (λ ds. NoSuchDay)
    ∷ (λ ds. NoDayNumber)
    ∷ (λ ds. InPart PlusSign (one ds) (two ds))
    ∷ (λ ds. BookMark)
    ∷ (λ ds. BookVersion)
    ∷ (λ ds. BookCut)
    ∷ (λ ds. BookName (one ds))
    ∷ (λ ds. ShortRow)
    ∷ (λ ds. NotStamp (one ds))
    ∷ (λ ds. StampRange)
    ∷ (λ ds. LeapSecond)
    ∷ (λ ds. StampYear)
    ∷ (λ ds. StampOffset)
    ∷ (λ ds. MendedTooLong)
    ∷ []

abbrev refusal_of : ℕ → List ℤ → Refusal
refusal_of n ds = get_or table n unused ds

-- a refusal is found again, and its number is not that of what is accepted
record Found (why : Refusal) : Type 0 where
  again : refusal_of (number why) (details why) ≡ why
  not-0 : eqb (number why) 0 ≡ false

in-part : (why : Trouble) (part place : ℕ) → Found (InPart why part place)
unfolding number details
in-part TooFew part place = record { again = refl; not-0 = refl }
in-part NoNumber part place = record { again = refl; not-0 = refl }
in-part NoName part place = record { again = refl; not-0 = refl }
in-part NoSign part place = record { again = refl; not-0 = refl }
in-part LiteralDiffers part place = record { again = refl; not-0 = refl }
in-part PlusSign part place = record { again = refl; not-0 = refl }

found : (why : Refusal) → Found why
unfolding number details
found (PatternTooLong n) = record { again = refl; not-0 = refl }
found (PatternByte place) = record { again = refl; not-0 = refl }
found (LoneQuote place) = record { again = refl; not-0 = refl }
found (FieldRange field) = record { again = refl; not-0 = refl }
found (NoRoom n) = record { again = refl; not-0 = refl }
found (TextTooLong n) = record { again = refl; not-0 = refl }
found (TextByte place) = record { again = refl; not-0 = refl }
found (InPart why part place) = in-part why part place
found (OffsetLength n) = record { again = refl; not-0 = refl }
found (OffsetRange which) = record { again = refl; not-0 = refl }
found (CurrentYear year) = record { again = refl; not-0 = refl }
found (TextLeft place) = record { again = refl; not-0 = refl }
found NoSuchDay = record { again = refl; not-0 = refl }
found NoDayNumber = record { again = refl; not-0 = refl }
found BookMark = record { again = refl; not-0 = refl }
found BookVersion = record { again = refl; not-0 = refl }
found BookCut = record { again = refl; not-0 = refl }
found (BookName which) = record { again = refl; not-0 = refl }
found ShortRow = record { again = refl; not-0 = refl }
found (NotStamp place) = record { again = refl; not-0 = refl }
found StampRange = record { again = refl; not-0 = refl }
found LeapSecond = record { again = refl; not-0 = refl }
found StampYear = record { again = refl; not-0 = refl }
found StampOffset = record { again = refl; not-0 = refl }
found MendedTooLong = record { again = refl; not-0 = refl }

pub refusal-number : (why : Refusal) → eqb (number why) 0 ≡ false
refusal-number why = (found why).not-0

pub refusals-told-apart : (a b : Refusal) → number a ≡ number b → details a ≡ details b → a ≡ b
refusals-told-apart a b n d = sym (found a).again ∙ rw (n, d) (found b).again

-- an answer by its number and values: a refusal, or what these values are

abbrev answer_of : {A : Type 0} → (List ℤ → A) → (Refusal → A) → Answer → A
answer_of yes' no' a = when (eqb a.number 0) (yes' a.values) (no' (refusal_of a.number a.values))

refused-again : {A : Type 0} (yes' : List ℤ → A) (no' : Refusal → A) (why : Refusal) → answer_of yes' no' (refused why) ≡ no' why
refused-again yes' no' why = rw ((found why).not-0, (found why).again)

abbrev checked_of : Answer → Checked
checked_of = answer_of (λ vs. (Ok tt)) (λ why. Err why)

checked-again : (c : Checked) (vs : List ℤ) → checked_of (answer_by c vs) ≡ c
checked-again (Ok _) vs = refl
checked-again (Err why) vs = refused-again (λ vs. (Ok tt)) (λ w. Err w) why

-- what the checks found, as a prepared pattern tells it
pub checks-told-apart : (a b : Checked) (vs ws : List ℤ) → answer_by a vs ≡ answer_by b ws → a ≡ b
checks-told-apart a b vs ws e = sym (checked-again a vs) ∙ ap checked_of e ∙ checked-again b ws

-- and as a split, a reading and a mending tell it, which hold more than their values
abbrev pub check_in : {A : Type 0} → Result A Refusal → Checked
check_in (Ok a) = Ok tt
check_in (Err why) = Err why

module _ {A : Type 0} (answer : Result A Refusal → Answer)
    (values : A → List ℤ) (yes' : (a : A) → answer (Ok a) ≡ accepted (values a)) (no' : (why : Refusal) → answer (Err why) ≡ refused why) where
  check-again : (r : Result A Refusal) → checked_of (answer r) ≡ check_in r
  check-again (Ok a) = ap checked_of (yes' a)
  check-again (Err why) = ap checked_of (no' why) ∙ refused-again (λ vs. (Ok tt)) (λ w. Err w) why

  pub results-told-apart : (a b : Result A Refusal) → answer a ≡ answer b → check_in a ≡ check_in b
  results-told-apart a b e = sym (check-again a) ∙ ap checked_of e ∙ check-again b

pub splits-told-apart : (a b : Result Split Refusal) → split_answer a ≡ split_answer b → check_in a ≡ check_in b
splits-told-apart = results-told-apart split_answer (λ s. pos s.used ∷ []) (λ s. refl) (λ why. refl)

pub readings-told-apart : (a b : Result Reading Refusal) → read_answer a ≡ read_answer b → check_in a ≡ check_in b
readings-told-apart = results-told-apart read_answer (λ r. pos r.taken ∷ pos r.mask ∷ pos r.units ∷ r.values ++ map pos r.starts ++ map pos r.ends) (λ r. refl) (λ why. refl)

pub mendings-told-apart : (a b : Result Mended Refusal) → mended_answer a ≡ mended_answer b → check_in a ≡ check_in b
mendings-told-apart =
    results-told-apart mended_answer (λ r. pos r.length ∷ pos r.changes.used ∷ change_numbers (changes_in r.changes)) (λ r. refl) (λ why. refl)

abbrev wrote_of : Answer → Wrote
wrote_of = answer_of (λ vs. Ok (one vs)) (λ why. Err why)

wrote-again : (w : Wrote) → wrote_of (wrote_answer w) ≡ w
wrote-again (Ok n) = refl
wrote-again (Err why) = refused-again (λ vs. Ok (one vs)) (λ w. Err w) why

pub wrotes-told-apart : (a b : Wrote) → wrote_answer a ≡ wrote_answer b → a ≡ b
wrotes-told-apart = told-apart wrote_answer wrote_of wrote-again

abbrev listed_of : Answer → Listed
listed_of = answer_of (λ vs. Ok (one vs)) (λ why. Err why)

listed-again : (l : Listed) → listed_of (list_answer l) ≡ l
listed-again (Ok n) = refl
listed-again (Err why) = refused-again (λ vs. Ok (one vs)) (λ w. Err w) why

pub lists-told-apart : (a b : Listed) → list_answer a ≡ list_answer b → a ≡ b
lists-told-apart = told-apart list_answer listed_of listed-again

abbrev offset_of : Answer → Offset
offset_of = answer_of (λ vs. Ok (get_or vs 0 (pos 0))) (λ why. Err why)

offset-again : (o : Offset) → offset_of (offset_answer o) ≡ o
offset-again (Ok z) = refl
offset-again (Err why) =
    refused-again (λ vs. Ok (get_or vs 0 (pos 0))) (λ w. Err w) why

pub offsets-told-apart : (a b : Offset) → offset_answer a ≡ offset_answer b → a ≡ b
offsets-told-apart = told-apart offset_answer offset_of offset-again

abbrev day_number_of : Answer → DayNumber
day_number_of = answer_of (λ vs. Ok (get_or vs 0 (pos 0))) (λ why. Err why)

day-number-again : (d : DayNumber) → day_number_of (day_number_answer d) ≡ d
day-number-again (Ok z) = refl
day-number-again (Err why) =
    refused-again (λ vs. Ok (get_or vs 0 (pos 0))) (λ w. Err w) why

pub day-numbers-told-apart : (a b : DayNumber) → day_number_answer a ≡ day_number_answer b → a ≡ b
day-numbers-told-apart = told-apart day_number_answer day_number_of day-number-again

abbrev stamp_of : List ℤ → Stamp
stamp_of vs =
    record {
      year = get_or vs 0 (pos 0);
      month = nat_abs (get_or vs 1 (pos 0));
      day = nat_abs (get_or vs 2 (pos 0));
      nanos = nat_abs (get_or vs 3 (pos 0));
      offset = get_or vs 4 (pos 0);
      unknown = eqb (nat_abs (get_or vs 5 (pos 0))) 1;
    }

abbrev stamped_of : Answer → Stamped
stamped_of = answer_of (λ vs. Ok (stamp_of vs)) (λ why. Err why)

mark-again : (unknown : Bool) → eqb (when unknown 1 0) 1 ≡ unknown
mark-again true = refl
mark-again false = refl

stamped-again : (r : Stamped) → stamped_of (stamp_answer r) ≡ r
stamped-again (Ok t) =
    ap (λ (b : Bool). Ok (record { year = t.year; month = t.month; day = t.day; nanos = t.nanos; offset = t.offset; unknown = b }))
    (mark-again t.unknown)
stamped-again (Err why) = refused-again (λ vs. Ok (stamp_of vs)) (λ w. Err w) why

pub stamps-told-apart : (a b : Stamped) → stamp_answer a ≡ stamp_answer b → a ≡ b
stamps-told-apart = told-apart stamp_answer stamped_of stamped-again

abbrev fields_of : List ℤ → Fields
fields_of vs =
    record {
      year = get_or vs 2 (pos 0);
      month = nat_abs (get_or vs 3 (pos 0));
      day = nat_abs (get_or vs 4 (pos 0));
      doy = nat_abs (get_or vs 5 (pos 0));
      week = nat_abs (get_or vs 6 (pos 0));
      wday = nat_abs (get_or vs 7 (pos 0));
      nanos = nat_abs (get_or vs 8 (pos 0));
      offset = get_or vs 9 (pos 0);
    }

abbrev yes_or_no : List ℤ → Verdict
yes_or_no vs = when (eqb (one vs) 1) verdict.Yes (verdict.No (two vs) (fields_of vs))

abbrev verdict_of : Answer → Result Verdict Refusal
verdict_of = answer_of (λ vs. Ok (yes_or_no vs)) (λ why. Err why)

verdict-again : (v : Result Verdict Refusal) → verdict_of (verdict_answer v) ≡ v
verdict-again (Ok verdict.Yes) = refl
verdict-again (Ok (verdict.No part f)) = refl
verdict-again (Err why) = refused-again (λ vs. Ok (yes_or_no vs)) (λ w. Err w) why

pub verdicts-told-apart : (a b : Result Verdict Refusal) → verdict_answer a ≡ verdict_answer b → a ≡ b
verdicts-told-apart = told-apart verdict_answer verdict_of verdict-again

-- Either half of a promise gives the other: the whole answer for any kind of answer, the numbers and values for one that holds no more.

pub by_whole : {A : Type 0} {answer : A → Answer} {r d : A} → r ≡ d → SameAnswer answer r d
by_whole {answer = answer} e = record { told = ap answer e; whole = e }

pub wrote-by-told : (r d : Wrote) → wrote_answer r ≡ wrote_answer d → SameAnswer wrote_answer r d
wrote-by-told r d e = record { told = e; whole = wrotes-told-apart r d e }

pub list-by-told : (r d : Listed) → list_answer r ≡ list_answer d → SameAnswer list_answer r d
list-by-told r d e = record { told = e; whole = lists-told-apart r d e }

pub offset-by-told : (r d : Offset) → offset_answer r ≡ offset_answer d → SameAnswer offset_answer r d
offset-by-told r d e = record { told = e; whole = offsets-told-apart r d e }

pub day-number-by-told : (r d : DayNumber) → day_number_answer r ≡ day_number_answer d → SameAnswer day_number_answer r d
day-number-by-told r d e = record { told = e; whole = day-numbers-told-apart r d e }

pub stamp-by-told : (r d : Stamped) → stamp_answer r ≡ stamp_answer d → SameAnswer stamp_answer r d
stamp-by-told r d e = record { told = e; whole = stamps-told-apart r d e }

-- the check: the first of its checks that refuses, or what its yes or no returns
pub says-told : (edition : Edition) (p : List ℕ) (current : ℤ) (v : Result Verdict Refusal) → Says edition p current v
    → verdict_answer v ≡ answer_by (trust_check edition p current) (verdict_answer v).values
unfolding SaysOf
says-told edition p current (Ok verdict.Yes) s = rw (s english english-valid false).0
says-told edition p current (Ok (verdict.No part f)) s = rw (s english english-valid false).0
says-told edition p current (Err why) s = rw (s english english-valid false)
