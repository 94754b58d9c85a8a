-- One of those that patterns have most, or the sum of its fields. The unit's number is its place in the order of the type.
use denote.Enum.Declared.{tag_of}
use mathlib.Core.Path.{◌≡◌, refl}
use native.Mathlib.Omega.{arith}
use borrow.Author.Tests.{lt-ltb, le-ltb}
use Rattle.meaning.specs.Whole.{unit_number}
use Rattle.meaning.specs.contracts.ParseUnit.{the_type}
use Rattle.meaning.specs.declared.ParseUnit.{ParseUnit}
use Rattle.meaning.specs.declared.ParseUnit.TheVariants as units
use Rattle.words.specs.Packing.{rule_word}
use Rattle.words.proofs.rule_words.number_word.Goals as goal

in-order : (u : ParseUnit) → tag_of the_type u ≡ unit_number u
in-order units.Year = refl
in-order units.Month = refl
in-order units.DayOfMonth = refl
in-order units.DayOfYear = refl
in-order units.Hour = refl
in-order units.Period = refl
in-order units.PeriodHour = refl
in-order units.Minute = refl
in-order units.Second = refl
in-order units.Decis = refl
in-order units.Centis = refl
in-order units.Millis = refl
in-order units.Micros = refl
in-order units.Nanos = refl
in-order units.Offset = refl

pub returns-then-slot-lt5 : goal.returns-then-slot-lt5
unfolding rule_word
returns-then-slot-lt5 c = rw (← c.slot_number-slot.ensures.0, lt-ltb _ _ c.if-slot-lt5.true) c.slot_word.ensures

pub returns : goal.returns
unfolding rule_word
returns c = rw (← c.slot_number-slot.ensures.0, le-ltb _ _ c.if-slot-lt5.false) (omega (arith, in-order c.args.unit))
