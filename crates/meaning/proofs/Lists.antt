-- Lists, by samples in the current year 2025: the lines of a text; rows of five in which each cell was 7; the line at a place.
use Rattle.std.specs.Prelude.{Option, Some, None}
use mathlib.Core.List.{List, [], ◌∷◌, map}
use mathlib.Core.Path.{◌≡◌, refl}
use Prim.Native.Nat.{ℕ}
use Prim.Native.String.{String}
use lib.IntN.{pos}
use lib.ListN.{replicate}
use Rattle.meaning.specs.Answers.{number, details, Answer, accepted, read_answer, list_answer}
use Rattle.meaning.specs.Bytes.{bytes}
use Rattle.meaning.specs.Lists.{lines, Rows, rows_of, read_list, list_rows, read_line}
use Rattle.meaning.specs.Names.{english}
use Rattle.meaning.specs.Readers.{take_number}
use Rattle.meaning.specs.Whole.{plain}
use Rattle.meaning.specs.declared.LineRead.{LineRead}
use Rattle.meaning.specs.declared.Pair.TheVariants.{Full}
use Rattle.meaning.proofs.Tables.{Sample, ◌↦'◌, Answered}

-- the lines of a text

pub line_table : List (Sample String (List String))
line_table =
    "" ↦' []
    ∷ "a" ↦' ("a" ∷ [])
    ∷ "a\n" ↦' ("a" ∷ [])
    ∷ "\n" ↦' ("" ∷ [])
    ∷ "\n\n" ↦' ("" ∷ "" ∷ [])
    ∷ "a\n\nbc" ↦' ("a" ∷ "" ∷ "bc" ∷ [])
    ∷ "a\r\nb" ↦' ("a\r" ∷ "b" ∷ [])
    ∷ []

pub line-samples : map (λ s. lines (bytes s.question)) line_table ≡ map (λ s. map bytes s.answer) line_table
unfolding line_table lines bytes
line-samples = refl

-- lists

pub record Question : Type 0 where
  pub pattern : String
  pub text : String
  pub room : ℕ

pub record Given : Type 0 where
  pub answer : Answer
  pub rows : Rows

abbrev ◌on◌in'◌ : String → String → ℕ → Question
p on s in' n = record { pattern = p; text = s; room = n }

infix 95 ◌on◌in'◌
abbrev cells : List ℕ → List ℕ → List ℕ → List ℕ → Rows
cells days months years codes = rows_of (map pos days) (map pos months) (map pos years) codes

-- so many cells, each of them 7
abbrev sevens : ℕ → Rows
sevens n = cells (replicate n 7) (replicate n 7) (replicate n 7) (replicate n 7)

pub asked : Question → Given
unfolding read_list list_rows
asked q =
    record {
      answer = list_answer (read_list (plain Full) english (bytes q.pattern) (bytes q.text) (pos 2025) (sevens q.room));
      rows = list_rows (plain Full) english (bytes q.pattern) (bytes q.text) (pos 2025) (sevens q.room);
    }

-- so many lines, and the cells; or a refusal, with rows of so many cells as they were
abbrev read' : ℕ → Rows → Given
read' n rows = record { answer = accepted (pos n ∷ []); rows = rows }

abbrev refused : ℕ → ℕ → ℕ → Given
refused why detail room = record { answer = record { number = why; values = pos detail ∷ [] }; rows = sevens room }

pub table : List (Sample Question Given)
table =
    "d/M" on "3/1\nx\n4/2" in' 3 ↦' read' 3 (cells (3 ∷ 0 ∷ 4 ∷ []) (1 ∷ 0 ∷ 2 ∷ []) (0 ∷ 0 ∷ 0 ∷ []) (0 ∷ 9 ∷ 0 ∷ []))
    ∷ "d/M" on "3/1\n" in' 2 ↦' read' 1 (cells (3 ∷ 7 ∷ []) (1 ∷ 7 ∷ []) (0 ∷ 7 ∷ []) (0 ∷ 7 ∷ []))
    ∷ "d/M" on "3/1\n\n4/2\n" in' 2 ↦' refused 24 0 2
    ∷ "'" on "3" in' 0 ↦' refused 3 0 0
    ∷ "d" on "" in' 0 ↦' read' 0 (sevens 0)
    ∷ []

pub samples : Answered asked table
unfolding table asked lines english bytes number details take_number
samples = refl

-- the line reader: whether there is a line, where it starts and ends, where the next one starts, and its answer's number

abbrev told : Option LineRead → List ℕ
told (Some l) = l.start ∷ l.end ∷ l.next ∷ (read_answer l.reading).number ∷ []
told None = 0 ∷ 0 ∷ 0 ∷ 0 ∷ []

pub line-answers : map (λ at. told (read_line (plain Full) english (bytes "d/M") (bytes "3/1\nx\n4/2") at (pos 2025))) (0 ∷ 4 ∷ 6 ∷ 9 ∷ 99 ∷ [])
    ≡ (0 ∷ 3 ∷ 4 ∷ 0 ∷ []) ∷ (4 ∷ 5 ∷ 6 ∷ 9 ∷ []) ∷ (6 ∷ 9 ∷ 9 ∷ 0 ∷ []) ∷ (0 ∷ 0 ∷ 0 ∷ 0 ∷ []) ∷ (0 ∷ 0 ∷ 0 ∷ 0 ∷ []) ∷ []
unfolding read_line lines english bytes number details take_number
line-answers = refl
