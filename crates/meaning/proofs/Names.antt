-- The English names agree with each other: short and narrow names are the beginnings of the wide ones.
use mathlib.Core.List.{map}
use mathlib.Core.Path.{◌≡◌, refl}
use lib.ListN.{take}
use Rattle.meaning.specs.Bytes.{bytes}
use Rattle.meaning.specs.Names.{Book, english}

pub record Agrees (book : Book) : Type 0 where
  pub month_abbreviated : map (take 3) book.month_wide ≡ book.month_abbreviated
  pub month_narrow : map (take 1) book.month_wide ≡ book.month_narrow
  pub wday_abbreviated : map (take 3) book.wday_wide ≡ book.wday_abbreviated
  pub wday_short : map (take 2) book.wday_wide ≡ book.wday_short
  pub wday_narrow : map (take 1) book.wday_wide ≡ book.wday_narrow

pub english-agrees : Agrees english
unfolding english bytes
english-agrees =
    record { month_abbreviated = refl; month_narrow = refl; wday_abbreviated = refl; wday_short = refl; wday_narrow = refl }
