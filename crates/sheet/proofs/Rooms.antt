-- An answer where the lent row has room for it, and where it has none; one by choices and one by a book.
use mathlib.Core.Bool.{Bool, true, false}
use mathlib.Core.List.{List}
use mathlib.Core.Path.{◌≡◌, refl}
use Prim.Native.Nat.{ℕ, ◌≤◌, ◌<◌}
use borrow.Author.Tests.{le-leb, lt-leb}
use lib.IntN.{ℤ}
use lib.ListN.{length}
use Rattle.meaning.specs.Answers.{Answer}
use Rattle.rows.specs.Rows.{in_row, Given, laid}
use Rattle.sheet.specs.Sheet.{has, if_room, if_choices, if_book, InTwoRows}

module _ (n : ℕ) (row : List ℤ) (answer : Answer) where
  pub room : {new : List ℤ} {r : ℕ} → n ≤ length row → Given (in_row n answer) row new r → Given (if_room (has n row) (in_row n answer)) row new r
  room h given = rw (le-leb n (length row) h) given

  pub no_room : length row < n → Given (if_room (has n row) (in_row n answer)) row row 100
  no_room h = rw (lt-leb n (length row) h) (record { number = refl; row = refl })

-- an answer where a number stands for choices, and where it does not
module _ (stands : Bool) (row : List ℤ) (answer : Answer) where
  pub chosen : {new : List ℤ} {r : ℕ} → stands ≡ true → Given answer row new r → Given (if_choices stands answer) row new r
  chosen h given = rw h given

  pub no-choices : stands ≡ false → Given (if_choices stands answer) row row 101
  no-choices h = rw h (record { number = refl; row = refl })

-- an answer where a row is a book, and where it is not
module _ (stands : Bool) (row : List ℤ) (answer : Answer) where
  pub by-book : {new : List ℤ} {r : ℕ} → stands ≡ true → Given answer row new r → Given (if_book stands answer) row new r
  by-book h given = rw h given

  pub no-book : stands ≡ false → Given (if_book stands answer) row row 102
  no-book h = rw h (record { number = refl; row = refl })

-- an answer in its row and numbers in a second one
module _ (n : ℕ) (row more numbers : List ℤ) (answer : Answer) where
  pub rooms : {after more_after : List ℤ} {r : ℕ} → 2 ≤ length row → n ≤ length more → Given (in_row 2 answer) row after r × (more_after ≡ laid numbers more)
      → InTwoRows answer numbers n row more r after more_after
  rooms h k given = rw (le-leb 2 (length row) h, le-leb n (length more) k) given

  pub no-room-in-first : length row < 2 → InTwoRows answer numbers n row more 100 row more
  no-room-in-first h = rw (lt-leb 2 (length row) h) (record { number = refl; row = refl }, refl)

  pub no-room-in-second : 2 ≤ length row → length more < n → InTwoRows answer numbers n row more 100 row more
  no-room-in-second h k =
      rw (le-leb 2 (length row) h, lt-leb n (length more) k) (record { number = refl; row = refl }, refl)
