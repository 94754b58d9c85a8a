-- What a quick reading keeps on its way, and what each of its steps promises.
use Rattle.std.specs.Prelude.{Bool, true, false, List, [], ◌∷◌, ◌++◌, map, ◌≡◌, ℕ, ◌+◌, ◌-◌, ◌*◌, ◌≤◌, ◌<◌, ℤ, pos, length, get_or, take, drop, set, replicate, Ok, Option, None, IfSome, ⊤}
use Rattle.std.specs.Int.Count.{ones}
use Rattle.meaning.specs.Answers.{read_answer}
use Rattle.meaning.specs.Bytes.{is_digit, digit_at}
use Rattle.meaning.specs.Names.{Book}
use Rattle.meaning.specs.Readers.{got}
use Rattle.meaning.specs.Reading.{literal_read, value}
use Rattle.meaning.specs.Whole.{Gave, walked, walk, reading_of}
use Rattle.meaning.specs.Writing.{Step}
use Rattle.meaning.specs.declared.Carried.{Carried}
use Rattle.meaning.specs.declared.Choices.{Choices}
use Rattle.meaning.specs.declared.ParseUnit.{ParseUnit}
use Rattle.words.specs.Fields.{first_byte, second_byte}
use Rattle.words.specs.Pieces.{behind, piece_step, steps_in}
use Rattle.word_reader.specs.declared.keeping.Moved.{Moved}

-- the row of what parts gave, with no counts yet; and the mask
unfoldable pub row_of : List Gave → List ℤ
row_of gave =
    pos 0 ∷ pos 0 ∷ pos 0 ∷ (reading_of 0 gave).values ++ map pos (reading_of 0 gave).starts ++ map pos (reading_of 0 gave).ends

unfoldable pub mask_of : List Gave → ℕ
mask_of gave = (reading_of 0 gave).mask

-- what one part gives
abbrev pub gave_one : Option Carried → ℕ → ℕ → List Gave
gave_one c from to = record { carried = c; start = from; end = to } ∷ []

-- what three give that have a byte between: one that ends at a place, and two of two bytes
abbrev pub gave_three : Option Carried → Option Carried → Option Carried → ℕ → ℕ → List Gave
gave_three a b c at end =
    gave_one c (end + 4) (end + 6) ++ (gave_one None (end + 3) (end + 4) ++ (gave_one b (end + 1) (end + 3) ++ (gave_one None end (end + 1) ++ gave_one a at end)))

-- steps are read from a place to the next, and these are what they give, the newest first
pub record Moves (choices : Choices) (book : Book) (current : ℕ) (ss : List Step) (text : List ℕ) (at next : ℕ) (gs : List Gave) : Type 0 where
  pub inside : next ≤ length text
  pub goes : (i : ℕ) (rest : List Step) (gave : List Gave)
      → walk choices book current i at (ss ++ rest) (drop at text) gave ≡ walk choices book current (i + length ss) next rest (drop next text) (gs ++ gave)

-- a row and a mask have what these give besides
pub record Kept (gs : List Gave) (old new : List ℤ) (mask more : ℕ) : Type 0 where
  pub keeps : (gave : List Gave) (rest : List ℤ) → old ≡ row_of gave ++ rest → mask ≡ mask_of gave
      → (new ≡ row_of (gs ++ gave) ++ rest) × (more ≡ mask_of (gs ++ gave))

-- behind its 48 entries a row stays; and where a place is told, the steps up to it are read and kept
pub record Quick (choices : Choices) (book : Book) (current : ℕ) (ss : List Step) (text : List ℕ) (from : Moved) (old new : List ℤ) (r : Option Moved) : Type 0 where
  pub beyond : drop 48 new ≡ drop 48 old
  pub reads : IfSome r (λ moved. (gs : List Gave) × Moves choices book current ss text from.next moved.next gs × Kept gs old new from.mask moved.mask)

-- a word read at once, whatever book, year and row there are, or the row as it was
pub record Hot (choices : Choices) (w : ℕ) (text : List ℕ) (from : Moved) (old new : List ℤ) (r : Option Moved) : Type 0 where
  pub lost : r ≡ None → new ≡ old
  pub quick : (book : Book) (current : ℕ) (row : List ℕ) → Quick choices book current (steps_in row w) text from old new r

-- the same with one book
pub record Named (choices : Choices) (book : Book) (w : ℕ) (text : List ℕ) (from : Moved) (old new : List ℤ) (r : Option Moved) : Type 0 where
  pub lost : r ≡ None → new ≡ old
  pub quick : (current : ℕ) (row : List ℕ) → Quick choices book current (steps_in row w) text from old new r

-- the byte behind all else is passed over, which keeps nothing
abbrev pub Behind : Choices → ℕ → List ℕ → ℕ → ℕ → Type 0
Behind choices w text at next = (book : Book) (current : ℕ) (row : List ℕ)
    → (gs : List Gave) × Moves choices book current (map (piece_step row) (behind w)) text at next gs × ((old : List ℤ) (mask : ℕ) → Kept gs old old mask mask)

-- what a quick step relies on: the row has 48 entries, and the place is one of the text
abbrev pub Ready : List ℕ → ℕ → List ℤ → Type 0
Ready text at row = (48 ≤ length row) × (at ≤ length text) × (length text ≤ 2048)

-- the number of the digit that stands at a place
abbrev pub digit_of : List ℕ → ℕ → ℕ
digit_of text at = get_or text at 0 - 48

abbrev pub Two : List ℕ → ℕ → ℕ → Type 0
Two text at n = (is_digit (get_or text at 0) ≡ true) × (is_digit (get_or text (at + 1) 0) ≡ true) × (n ≡ digit_of text at * 10 + digit_of text (at + 1))

-- four, behind which none stands
abbrev pub FourDigits : List ℕ → ℕ → ℕ → Type 0
FourDigits text at n = (high : ℕ) × (low : ℕ) × Two text at high × Two text (at + 2) low × (n ≡ high * 100 + low) × (digit_at 0 (drop (at + 4) text) ≡ false)

-- the bytes between three numbers are passed over
abbrev pub Passed : Bool → ℕ → List ℕ → ℕ → Type 0
Passed strict b text at = (at < length text) × (literal_read strict (b ∷ []) (drop at text) ≡ got 1 None)

abbrev pub Between : Bool → ℕ → List ℕ → ℕ → ℕ → Type 0
Between strict w text first second = Passed strict (first_byte w) text first × Passed strict (second_byte w) text second

-- what ends a word of three numbers, the first of which ends at a place
pub record Three (choices : Choices) (w : ℕ) (first : Option Carried) (second third : ParseUnit) (text : List ℕ) (from : Moved) (end : ℕ) (old new : List ℤ) (r : Option Moved) : Type 0 where
  pub lost : r ≡ None → new ≡ old
  pub beyond : drop 48 new ≡ drop 48 old
  pub ends : IfSome r (λ moved. (b : ℕ) × (c : ℕ) × Two text (end + 1) b × Two text (end + 4) c × Between choices.strict w text end (end + 3)
      × Behind choices w text (end + 6) moved.next × Kept (gave_three first (value second (pos b)) (value third (pos c)) from.next end) old new from.mask moved.mask)

abbrev pub Row : Type 0
Row = List ℤ

-- the counts and the values of a row are zeros
abbrev pub Cleared : List ℤ → Type 0
Cleared row = take 18 row ≡ replicate 18 (pos 0)

-- the counts in front of a row
abbrev pub counted : ℕ → ℕ → List ℤ → List ℤ
counted at mask row = set (set (set row 0 (pos at)) 1 (pos mask)) 2 (pos (ones mask))

-- a whole text: behind its 48 entries a row stays; and where it is read, the row has the reading
pub record Whole (choices : Choices) (book : Book) (current : ℕ) (ss : List Step) (text : List ℕ) (old new : List ℤ) (r : Option ⊤) : Type 0 where
  pub beyond : drop 48 new ≡ drop 48 old
  pub reads : IfSome r (λ _. (at : ℕ) × (gave : List Gave) × (walk choices book current 0 0 ss text [] ≡ walked at gave)
      × (new ≡ (read_answer (Ok (reading_of at gave))).values ++ drop 48 old))
