-- Specification, "Sheet samples": the fourteen on the lines marked P, as one table under one theorem.
use Rattle.std.specs.Prelude.{Result, Ok, Err}
use mathlib.Core.List.{List, [], ◌∷◌}
use mathlib.Core.Path.{refl}
use Prim.Native.Nat.{ℕ}
use Prim.Native.String.{String}
use lib.IntN.{ℤ, pos, negsuc}
use lib.ListN.{replicate}
use Rattle.meaning.specs.Answers as A
use Rattle.meaning.specs.Bytes as B
use Rattle.meaning.specs.Bytes.{bytes}
use Rattle.meaning.specs.Names.{english, names}
use Rattle.meaning.specs.Numerals as N
use Rattle.meaning.specs.Readers as R
use Rattle.meaning.specs.Reading as D
use Rattle.meaning.specs.Rules as U
use Rattle.meaning.specs.Splitting as S
use Rattle.meaning.specs.Whole.{plain, write, output, read, write_check, read_check, text, walk, last_of, bits, how_many}
use Rattle.meaning.specs.Writing as W
use Rattle.meaning.specs.declared.Fields.{Fields}
use Rattle.meaning.specs.declared.Pair.TheVariants.{Full}
use Rattle.meaning.specs.declared.Reading.{Reading}
use Rattle.meaning.specs.declared.Refusal.{Refusal}
use Rattle.meaning.specs.declared.Refusal.TheVariants.{LoneQuote, InPart}
use Rattle.meaning.specs.declared.Trouble.TheVariants.{PlusSign}
use Rattle.meaning.specs.Results.{Wrote}
use Rattle.meaning.proofs.Tables.{Sample, ◌↦'◌, Answered}

-- record R, with another year in some samples
abbrev pub record_r : ℤ → Fields
record_r year =
    record { year = year; month = 12; day = 3; doy = 337; week = 49; wday = 3; nanos = 25509000120000; offset = pos 19800 }

-- writing a pattern, into sixteen zeros; reading a text by a pattern, in the current year 2025
pub data Question : Type 0 where
  writing : ℤ → String → Question
  reading : String → String → Question

pub data Answer : Type 0 where
  wrote' : Wrote → List ℕ → Answer
  read' : Result Reading Refusal → Answer

pub blank : List ℕ
blank = replicate 16 0

pub asked : Question → Answer
unfolding write output read blank
asked (writing year p) =
    wrote' (write Full english (bytes p) (record_r year) blank) (output Full english (bytes p) (record_r year) blank)
asked (reading p s) = read' (read (plain Full) english (bytes p) (bytes s) (pos 2025))

-- the text, the refusal of a lone quote at a place, the month and the day with the mask, the units, the bytes read and where each began and ended, the
-- refusal of a plus at a place of the first part
pub gives : String → ℕ → Answer
unfolding blank
gives t n = wrote' (Ok n) (lib.Seq.sets blank 0 (bytes t))

pub lone_quote : ℕ → Answer
unfolding blank
lone_quote place = wrote' (Err (LoneQuote place)) blank

pub gives' : ℤ → ℤ → ℕ → ℕ → ℕ → List ℕ → List ℕ → Answer
gives' month day mask units taken starts ends =
    read'
    (Ok (record {
      taken = taken;
      values = mathlib.Core.List.◌++◌ (pos 0 ∷ month ∷ day ∷ []) (replicate 12 (pos 0));
      mask = mask;
      units = units;
      starts = mathlib.Core.List.◌++◌ starts (replicate 12 0);
      ends = mathlib.Core.List.◌++◌ ends (replicate 12 0);
    }))

pub plus_at : ℕ → Answer
plus_at place = read' (Err (InPart PlusSign 0 place))

pub table : List (Sample Question Answer)
unfolding gives lone_quote gives' plus_at
table =
    writing (pos 2025) "yyyy/MM/dd" ↦' gives "2025/12/03" 10
    ∷ writing (pos 2025) "h 'o''clock'" ↦' gives "7 o'clock" 9
    ∷ writing (pos 2025) "nnnn" ↦' gives "000120" 6
    ∷ writing (pos 2025) "XXXXX" ↦' gives "+05:30" 6
    ∷ writing (negsuc 11) "yyyy" ↦' gives "-0012" 5
    ∷ writing (negsuc 11) "yy" ↦' gives "12" 2
    ∷ writing (negsuc 4) "yy" ↦' gives "-05" 3
    ∷ writing (pos 2025) "'abc''" ↦' gives "abc" 3
    ∷ writing (pos 2025) "'" ↦' lone_quote 0
    ∷ writing (pos 2025) "'''" ↦' lone_quote 2
    ∷ writing (pos 2025) "''" ↦' gives "'" 1
    ∷ reading "M" "12" ↦' gives' (pos 1) (pos 0) 2 1 1 (0 ∷ 0 ∷ 0 ∷ []) (0 ∷ 1 ∷ 0 ∷ [])
    ∷ reading "dd" "+5" ↦' plus_at 0
    ∷ reading "d/M" "3/12" ↦' gives' (pos 1) (pos 3) 6 2 3 (0 ∷ 2 ∷ 0 ∷ []) (0 ∷ 3 ∷ 1 ∷ [])
    ∷ []

pub samples : Answered asked table
unfolding table asked gives lone_quote gives' plus_at blank english names bytes write output read write_check read_check text walk last_of bits how_many A.bytes_check A.byte_check A.pattern_check A.fields_check A.text_check A.current_year_check A.ends_in_lone_quote B.num B.digits B.width B.width_in B.digit_at N.all_digits N.decimal N.sign_of N.sized N.number_of R.skip R.take_number R.reach D.read_step D.read_rule S.contents S.elements S.outside U.rule_of U.role_among U.date_role U.time_role U.role_of U.pick U.otherwise_rule W.quantity_of W.signed_text W.two_digit_text W.offset_digits W.all_zero W.is_minus W.offset_text W.rule_text W.step_of W.ends_in_quote W.steps W.step_text W.texts
samples = refl
