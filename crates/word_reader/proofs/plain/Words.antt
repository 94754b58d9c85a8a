-- Words that are read at once: their steps, and what is kept of them.
use mathlib.Core.Bool.{false}
use mathlib.Core.List.{List, [], ◌∷◌, ◌++◌, map}
use mathlib.Core.Path.{◌≡◌, refl, sym}
use Rattle.std.specs.Prelude.{Option, None, Some}
use Rattle.std.proofs.lemmas.Option.{none-some}
use Prim.Native.Nat.{ℕ, ◌+◌, ◌≤◌}
use native.Mathlib.Omega.{arith}
use lib.IntN.{ℤ, pos}
use lib.ListN.{length, drop}
use Rattle.meaning.specs.Names.{Book}
use Rattle.meaning.specs.Readers.{got}
use Rattle.meaning.specs.Reading.{value, read_step}
use Rattle.meaning.specs.Writing.{Step, literal, field}
use Rattle.meaning.specs.declared.Carried.{Carried}
use Rattle.meaning.specs.declared.Choices.{Choices}
use Rattle.meaning.specs.declared.ParseUnit.{ParseUnit}
use Rattle.meaning.specs.declared.Rule.{Rule}
use Rattle.rules.specs.ShortRules.{short_rule}
use Rattle.rules.specs.Steps.{long_year}
use Rattle.rules.specs.declared.short.Short.TheVariants as short
use Rattle.words.proofs.pieces.Codes.{of_code}
use Rattle.words.specs.Fields.{code, slot, first_byte, second_byte, last_byte}
use Rattle.words.specs.Pieces.{piece_step, short_in, behind, pieces_of_code, steps_in}
use Rattle.word_reader.proofs.keeping.Moving.{moves-to, moves-then, kept-nothing, kept_then}
use Rattle.word_reader.proofs.keeping.Passing.{moves-byte}
use Rattle.word_reader.specs.Quick.{gave_one, gave_three, Kept, Hot, Behind, Passed, Two, Three}
use Rattle.word_reader.specs.declared.keeping.Moved.{Moved}

-- the steps of a word, by its code
module _ (w : ℕ) (row : List ℕ) where
  abbrev behind-steps : List Step
  behind-steps = map (piece_step row) (behind w)

  pub byte-steps : code w ≡ 1 → steps_in row w ≡ literal (last_byte w ∷ []) false ∷ []
  unfolding steps_in pieces_of_code piece_step
  byte-steps e = rw (of_code w e)

  pub two_steps : code w ≡ 3 → steps_in row w ≡ field (short_rule (short_in (slot w)) 2) ∷ behind-steps
  unfolding steps_in pieces_of_code piece_step
  two_steps e = rw (of_code w e)

  pub few-steps : code w ≡ 4 → steps_in row w ≡ field (short_rule (short_in (slot w)) 1) ∷ behind-steps
  unfolding steps_in pieces_of_code piece_step
  few-steps e = rw (of_code w e)

  pub year-steps : code w ≡ 9 → steps_in row w ≡ field (long_year (slot w)) ∷ behind-steps
  unfolding steps_in pieces_of_code piece_step
  year-steps e = rw (of_code w e)

  abbrev three-steps : Rule → Rule → Rule → List Step
  three-steps a b c = field a ∷ literal (first_byte w ∷ []) false ∷ field b ∷ literal (second_byte w ∷ []) false ∷ field c ∷ behind-steps

  pub time-steps : code w ≡ 10 → steps_in row w ≡ three-steps (short_rule short.Hour 2) (short_rule short.Minute 2) (short_rule short.Second 2)
  unfolding steps_in pieces_of_code piece_step
  time-steps e = rw (of_code w e)

  pub date-steps : code w ≡ 15 → steps_in row w ≡ three-steps (long_year 4) (short_rule short.Month 2) (short_rule short.Day 2)
  unfolding steps_in pieces_of_code piece_step
  date-steps e = rw (of_code w e)

-- given up, with the row as it was
pub hot-lost : {choices : Choices} {w : ℕ} {text : List ℕ} {from : Moved} {row : List ℤ} → Hot choices w text from row row None
hot-lost =
    record { lost = λ _. refl; quick = λ book current row. record { beyond = refl; reads = tt } }

-- a byte by itself
pub hot-alone : (choices : Choices) (w : ℕ) (text : List ℕ) (from : Moved) (old : List ℤ) (next : ℕ) → code w ≡ 1
    → next ≡ from.next + 1 → Passed choices.strict (last_byte w) text from.next → Hot choices w text from old old (Some (record { next = next; mask = from.mask }))
hot-alone choices w text from old next e is p =
    record {
      lost = λ _. refl;
      quick = λ book current row.
          record {
            beyond = refl;
            reads = (gave_one None from.next next, rw (byte-steps w row e) (moves-byte choices book current text from.next next (last_byte w) is p), kept-nothing);
          };
    }

-- one number, and the byte behind it
pub hot-number : (choices : Choices) (w : ℕ) (text : List ℕ) (from : Moved) (end : ℕ) {old new : List ℤ} (r : Moved) (rule : Rule) {n : ℕ} {c : Option Carried}
    → ((row : List ℕ) → steps_in row w ≡ field rule ∷ map (piece_step row) (behind w)) → from.next ≤ length text → end ≡ from.next + n
    → ((book : Book) (current : ℕ) → read_step choices book current (field rule) (drop from.next text) ≡ got n c) → Behind choices w text end r.next
    → Kept (gave_one c from.next end) old new from.mask r.mask → drop 48 new ≡ drop 48 old → Hot choices w text from old new (Some r)
hot-number choices w text from end {new = new} r rule {c = c} steps h e reads back kept beyond =
    record {
      lost = λ k. absurd (none-some r (sym k));
      quick = λ book current row.
          let last = back book current row in
          let moves = moves-to choices book current text from.next end (field rule) h e (reads book current) in
          record {
            beyond = beyond;
            reads = (last.0 ++ gave_one c from.next end, rw (steps row) (moves-then choices book current text moves last.1), kept_then kept (last.2 new r.mask));
          };
    }

-- three numbers, the bytes between them and the one behind
module _ (choices : Choices) (w : ℕ) (text : List ℕ) (a b c : Rule) (steps : (row : List ℕ) → steps_in row w ≡ three-steps w row a b c) where
  abbrev Reads : Rule → ℕ → ℕ → Option Carried → Type 0
  Reads rule at n carried = (book : Book) (current : ℕ) → read_step choices book current (field rule) (drop at text) ≡ got n carried

  pub hot-three : (from : Moved) (end : ℕ) {old new : List ℤ} (r : Option Moved) {n : ℕ} {first : Option Carried} {second third : ParseUnit} → end ≡ from.next + n → end + 6 ≤ length text
      → Reads a from.next n first → ((at m : ℕ) → at + 2 ≤ length text → Two text at m → Reads b at 2 (value second (pos m)))
      → ((at m : ℕ) → at + 2 ≤ length text → Two text at m → Reads c at 2 (value third (pos m)))
      → Three choices w first second third text from end old new r → Hot choices w text from old new r
  hot-three from end None e inside first second third told =
      record { lost = told.lost; quick = λ book current row. record { beyond = told.beyond; reads = tt } }
  hot-three from end {new = new} (Some r) {first = c₁} {second = u₂} {third = u₃} e inside first second third told =
      record {
        lost = λ k. absurd (none-some r (sym k));
        quick = λ book current row.
            let ends = told.ends in
            let last = ends.5 book current row in
            let c₂ = value u₂ (pos ends.0) in
            let c₃ = value u₃ (pos ends.1) in
            let m₁ = moves-to choices book current text from.next end (field a) (omega arith) e (first book current) in
            let b₁ = moves-byte choices book current text end (end + 1) (first_byte w) refl ends.4.0 in
            let m₂ = moves-to choices book current text (end + 1) (end + 3) (field b) (omega arith) (omega arith) (second (end + 1) ends.0 (omega arith) ends.2 book current) in
            let b₂ = moves-byte choices book current text (end + 3) (end + 4) (second_byte w) (omega arith) ends.4.1 in
            let m₃ = moves-to choices book current text (end + 4) (end + 6) (field c) (omega arith) (omega arith) (third (end + 4) ends.1 (omega arith) ends.3 book current) in
            let two = moves-then choices book current text (moves-then choices book current text m₁ b₁) m₂ in
            let all = moves-then choices book current text (moves-then choices book current text two b₂) m₃ in
            record {
              beyond = told.beyond;
              reads = (last.0 ++ gave_three c₁ c₂ c₃ from.next end, rw (steps row) (moves-then choices book current text all last.1), kept_then ends.6 (last.2 new r.mask));
            };
      }
