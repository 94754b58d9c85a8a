-- Days that anyone can look up: the numbers of dates, what refuses one, and the weekdays of numbers. Weeks are in Weeks; the first and
-- the last day that have a number are in `laws`, in `DayNumbers`.
use mathlib.Core.List.{List, [], ◌∷◌}
use mathlib.Core.Path.{refl}
use Prim.Native.Nat.{ℕ}
use lib.IntN.{ℤ, pos, negsuc}
use Rattle.meaning.specs.Answers.{number, details, Answer, accepted, day_number_answer}
use Rattle.meaning.specs.Calendar.{leap, days_on, days_back, new_year, is_date, date_number}
use Rattle.meaning.specs.Days.{day_number}
use Rattle.meaning.specs.Weeks.{weekday}
use Rattle.meaning.proofs.Tables.{Sample, ◌↦'◌, Answered}

pub record Question : Type 0 where
  pub year : ℤ
  pub month : ℕ
  pub day : ℕ

abbrev on : ℕ → ℕ → ℕ → Question
on y m d = record { year = pos y; month = m; day = d }

-- in the year -1, and in the year before
abbrev before : ℕ → ℕ → Question
before m d = record { year = negsuc 0; month = m; day = d }

abbrev earlier : ℕ → ℕ → Question
earlier m d = record { year = negsuc 1; month = m; day = d }

pub asked : Question → Answer
unfolding day_number
asked q = day_number_answer (day_number q.year q.month q.day)

abbrev day : ℤ → Answer
day z = accepted (z ∷ [])

abbrev none : Answer
none = record { number = 17; values = pos 0 ∷ [] }

pub table : List (Sample Question Answer)
table =
    on 1 1 1 ↦' day (pos 0)
    ∷ on 1 12 31 ↦' day (pos 364)
    ∷ on 4 2 29 ↦' day (pos 1154)
    ∷ on 1582 10 15 ↦' day (pos 577735)
    ∷ on 1900 2 28 ↦' day (pos 693653)
    ∷ on 1900 3 1 ↦' day (pos 693654)
    ∷ on 1970 1 1 ↦' day (pos 719162)
    ∷ on 2000 2 29 ↦' day (pos 730178)
    ∷ on 2024 12 31 ↦' day (pos 739250)
    ∷ before 12 31 ↦' day (negsuc 0)
    ∷ before 2 29 ↦' day (negsuc 306)
    ∷ before 1 1 ↦' day (negsuc 365)
    ∷ earlier 12 31 ↦' day (negsuc 366)
    ∷ earlier 2 29 ↦' none
    ∷ on 0 1 1 ↦' none
    ∷ on 1900 2 29 ↦' none
    ∷ on 2025 2 29 ↦' none
    ∷ on 2024 4 31 ↦' none
    ∷ on 2024 13 1 ↦' none
    ∷ on 2024 0 1 ↦' none
    ∷ on 2024 1 0 ↦' none
    ∷ []

pub samples : Answered asked table
unfolding table asked number details leap days_on days_back new_year is_date date_number
samples = refl

-- 0 is a Monday, -1 a Sunday; 1 January 1970 was a Thursday, 29 February 2000 a Tuesday
pub weekdays : Answered weekday (pos 0 ↦' 1 ∷ negsuc 0 ↦' 0 ∷ negsuc 7 ↦' 0 ∷ pos 719162 ↦' 4 ∷ pos 730178 ↦' 2 ∷ [])
unfolding weekday
weekdays = refl

-- 17 before 18: days that are not there, in years of which no day that late has a number
pub beyond : Answered asked (on 5879611 12 32 ↦' none ∷ on 5879612 1 1 ↦' none ∷ [])
unfolding asked number details leap is_date
beyond = refl
