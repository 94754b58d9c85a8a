-- The proleptic Gregorian calendar: leap years, the lengths of years and months, the dates that there are and the number of
-- each. Day 0 is 1 January of year 1. There is no year zero: the year before 1 is -1. Weekdays and weeks are in Weeks.
use Rattle.std.specs.Prelude.{Bool, true, false, List, [], ◌∷◌, ℕ, zero, suc, ◌+◌, ◌-◌, ◌%◌, eqb, ℤ, pos, negsuc, neg_ℤ, nat_abs, ◌+ℤ◌, get_or, take}
use Rattle.meaning.specs.Answers.{within}
use Rattle.meaning.specs.Bytes.{when, both}

abbrev pub divides : ℕ → ℕ → Bool
divides k n = eqb (n % k) 0

-- every fourth year is leap, of the full hundreds only every fourth
unfoldable pub leap : ℕ → Bool
leap n = when (divides 400 n) true (when (divides 100 n) false (divides 4 n))

-- the year before 1 is leap, as is every fourth before it: year -(n + 1) is as year n
abbrev pub leap_year : ℤ → Bool
leap_year (pos n) = leap n
leap_year (negsuc n) = leap n

abbrev pub year_length : Bool → ℕ
year_length l = when l 366 365

-- the days of the years 1 to a
unfoldable pub days_on : ℕ → ℕ
days_on zero = 0
days_on (suc a) = days_on a + year_length (leap_year (pos (suc a)))

-- the days of the years -1 to -a
unfoldable pub days_back : ℕ → ℕ
days_back zero = 0
days_back (suc a) = days_back a + year_length (leap_year (negsuc a))

-- the number of a year's 1 January
unfoldable pub new_year : ℤ → ℤ
new_year (pos n) = pos (days_on (n - 1))
new_year (negsuc n) = neg_ℤ (pos (days_back (suc n)))

-- the lengths of the months
abbrev pub months : Bool → List ℕ
months l = 31 ∷ when l 29 28 ∷ 31 ∷ 30 ∷ 31 ∷ 30 ∷ 31 ∷ 31 ∷ 30 ∷ 31 ∷ 30 ∷ 31 ∷ []

unfoldable pub total : List ℕ → ℕ
total [] = 0
total (n ∷ ns) = n + total ns

unfoldable pub month_length : Bool → ℕ → ℕ
month_length l m = get_or (months l) (m - 1) 0

-- the days before a month
unfoldable pub before_month : Bool → ℕ → ℕ
unfolding total
before_month l m = total (take (m - 1) (months l))

-- a year of the field record, and a month and a day that it has
unfoldable pub is_date : ℤ → ℕ → ℕ → Bool
unfolding month_length
is_date y m d = both (within 1 5879611 (nat_abs y)) (both (within 1 12 m) (within 1 (month_length (leap_year y) m) d))

unfoldable pub day_of_year : ℤ → ℕ → ℕ → ℕ
unfolding before_month
day_of_year y m d = before_month (leap_year y) m + d

-- the number of a date: that of its year's 1 January, and the days since
unfoldable pub date_number : ℤ → ℕ → ℕ → ℤ
unfolding new_year day_of_year
date_number y m d = new_year y +ℤ pos (day_of_year y m d - 1)
