-- Each arm computes to its name.
use mathlib.Core.List.{[], ◌++◌}
use mathlib.Core.Path.{refl, sym}
use native.Mathlib.Omega.{arith}
use lib.ListN.{get_or-eq_default}
use Rattle.meaning.specs.Bytes.{bytes}
use Rattle.meaning.specs.Names.{names, english}
use Rattle.meaning.specs.declared.NameList.TheVariants.{MonthWide, WdayWide}
use Rattle.names.specs.Letters.{bytes_of, number_of}
use Rattle.names.proofs.letters.letters_of.Goals as goal

pub returns-in-0 : goal.returns-in-0
unfolding names english bytes bytes_of number_of
returns-in-0 c =
    rw (c.letters.ensures, c.in-0.is) (refl, omega arith)

pub returns-in-1 : goal.returns-in-1
unfolding names english bytes bytes_of number_of
returns-in-1 c =
    rw (c.letters-in-1.ensures, c.in-1.is) (refl, omega arith)

pub returns-in-2 : goal.returns-in-2
unfolding names english bytes bytes_of number_of
returns-in-2 c =
    rw (c.letters-in-2.ensures, c.in-2.is) (refl, omega arith)

pub returns-in-3 : goal.returns-in-3
unfolding names english bytes bytes_of number_of
returns-in-3 c =
    rw (c.letters-in-3.ensures, c.in-3.is) (refl, omega arith)

pub returns-in-4 : goal.returns-in-4
unfolding names english bytes bytes_of number_of
returns-in-4 c =
    rw (c.letters-in-4.ensures, c.in-4.is) (refl, omega arith)

pub returns-in-5 : goal.returns-in-5
unfolding names english bytes bytes_of number_of
returns-in-5 c =
    rw (c.letters-in-5.ensures, c.in-5.is) (refl, omega arith)

pub returns-in-6 : goal.returns-in-6
unfolding names english bytes bytes_of number_of
returns-in-6 c =
    rw (c.letters-in-6.ensures, c.in-6.is) (refl, omega arith)

pub returns-in-7 : goal.returns-in-7
unfolding names english bytes bytes_of number_of
returns-in-7 c =
    rw (c.letters-in-7.ensures, c.in-7.is) (refl, omega arith)

pub returns-in-8 : goal.returns-in-8
unfolding names english bytes bytes_of number_of
returns-in-8 c =
    rw (c.letters-in-8.ensures, c.in-8.is) (refl, omega arith)

pub returns-in-9 : goal.returns-in-9
unfolding names english bytes bytes_of number_of
returns-in-9 c =
    rw (c.letters-in-9.ensures, c.in-9.is) (refl, omega arith)

pub returns-in-10 : goal.returns-in-10
unfolding names english bytes bytes_of number_of
returns-in-10 c =
    rw (c.letters-in-10.ensures, c.in-10.is) (refl, omega arith)

pub returns-in-11 : goal.returns-in-11
unfolding names english bytes bytes_of number_of
returns-in-11 c =
    rw (c.letters-in-11.ensures, c.in-11.is) (refl, omega arith)

pub returns-in-12 : goal.returns-in-12
unfolding names english bytes bytes_of number_of
returns-in-12 c =
    rw (c.letters-in-12.ensures, c.in-12.is) (refl, omega arith)

pub returns-in-13 : goal.returns-in-13
unfolding names english bytes bytes_of number_of
returns-in-13 c =
    rw (c.letters-in-13.ensures, c.in-13.is) (refl, omega arith)

pub returns-in-14 : goal.returns-in-14
unfolding names english bytes bytes_of number_of
returns-in-14 c =
    rw (c.letters-in-14.ensures, c.in-14.is) (refl, omega arith)

pub returns-in-15 : goal.returns-in-15
unfolding names english bytes bytes_of number_of
returns-in-15 c =
    rw (c.letters-in-15.ensures, c.in-15.is) (refl, omega arith)

pub returns-in-16 : goal.returns-in-16
unfolding names english bytes bytes_of number_of
returns-in-16 c =
    rw (c.letters-in-16.ensures, c.in-16.is) (refl, omega arith)

pub returns-in-17 : goal.returns-in-17
unfolding names english bytes bytes_of number_of
returns-in-17 c =
    rw (c.letters-in-17.ensures, c.in-17.is) (refl, omega arith)

pub returns-in-18 : goal.returns-in-18
unfolding names english bytes bytes_of number_of
returns-in-18 c =
    rw (c.letters-in-18.ensures, c.in-18.is) (refl, omega arith)

pub returns-in_default : goal.returns-in_default
unfolding names english bytes bytes_of number_of
returns-in_default c =
    rw c.letters-in_default.ensures (sym (get_or-eq_default (names english MonthWide ++ names english WdayWide) [] {n = c.args.name} (omega arith)), omega arith)
