-- What the spans of a reading say of the text: a unit's span, its value, and the part of the pattern that it was read from.
use Rattle.std.specs.Prelude.{List, ◌≡◌, ℕ, ◌-◌, ◌<◌, ℤ, pos, length, get_or, take, drop, Option}
use Rattle.meaning.specs.Names.{Book}
use Rattle.meaning.specs.Readers.{got}
use Rattle.meaning.specs.Reading.{value, read_step}
use Rattle.meaning.specs.Trust.{part_at}
use Rattle.meaning.specs.Whole.{unit_number}
use Rattle.meaning.specs.Writing.{Step}
use Rattle.meaning.specs.declared.Carried.{Carried}
use Rattle.meaning.specs.declared.Choices.{Choices}
use Rattle.meaning.specs.declared.ParseUnit.{ParseUnit}
use Rattle.meaning.specs.declared.Reading.{Reading}

-- where the part of unit k began and ended, and its value
abbrev pub span_start : Reading → ℕ → ℕ
span_start r k = get_or r.starts k 0

abbrev pub span_end : Reading → ℕ → ℕ
span_end r k = get_or r.ends k 0

abbrev pub value_at : Reading → ℕ → ℤ
value_at r k = get_or r.values k (pos 0)

-- A part that carries this, read from the bytes of the span alone, and takes them all.
pub record ReadFrom (choices : Choices) (book : Book) (current : ℕ) (ss : List Step) (text : List ℕ) (start end : ℕ) (carried : Option Carried) : Type 0 where
  pub part : ℕ
  pub there : part < length ss
  pub reads : read_step choices book current (part_at ss part) (take (end - start) (drop start text)) ≡ got (end - start) carried

-- unit k of a reading is the unit of a part that carries its value, read from the bytes of its span alone
pub record ReadAgain (choices : Choices) (book : Book) (current : ℕ) (ss : List Step) (text : List ℕ) (r : Reading) (k : ℕ) : Type 0 where
  pub unit : ParseUnit
  pub is : unit_number unit ≡ k
  pub from : ReadFrom choices book current ss text (span_start r k) (span_end r k) (value unit (value_at r k))
