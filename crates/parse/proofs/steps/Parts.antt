-- Laws of what a part gives, from what its one step gave: a step and then a value made of its answer.
use Rattle.std.specs.Prelude.{Result, Ok, Err, Option, None}
use mathlib.Core.List.{List}
use mathlib.Core.Path.{◌≡◌, refl}
use Prim.Native.Nat.{ℕ}
use native.Mathlib.Nat.{add-zero}
use lib.IntN.{pos}
use Rattle.meaning.specs.Numerals.{Signed}
use Rattle.meaning.specs.Readers.{Got, got, stopped, Reader, ◌>>=◌, done, skip, take_number, go_on}
use Rattle.meaning.specs.Reading.{value, passed, taken_unit, zero_for}
use Rattle.meaning.specs.declared.Carried.{Carried}
use Rattle.meaning.specs.declared.Numeral.TheVariants.{Count}
use Rattle.meaning.specs.declared.ParseUnit.{ParseUnit}
use Rattle.numerals.specs.declared.Number.{Number}
use Rattle.parse.specs.Steps.{taken_at, skipped_at, part_at}
use Rattle.parse.specs.declared.cursor.Cursor.{Cursor}
use Rattle.parse.specs.declared.cursor.Read.{Read}
use Rattle.parse.specs.declared.cursor.Stop.{Stop}

-- a step whose answer is made into something else takes the same bytes
abbrev pub made_of : {A B : Type 0} → (A → B) → Got A → Got B
made_of f (got n a) = got n (f a)
made_of f (stopped why i) = stopped why i

pub made-on : {A B : Type 0} (f : A → B) (g : Got A) (s : List ℕ) → go_on g (λ a. done (f a)) s ≡ made_of f g
made-on f (got n a) s = rw add-zero
made-on f (stopped why i) s = refl

pub made : {A B : Type 0} (f : A → B) (m : Reader A) (s : List ℕ) → (m >>= λ a. done (f a)) s ≡ made_of f (m s)
made f m s = made-on f (m s) s

pub made-twice : {A B C : Type 0} (f : A → B) (h : B → C) (g : Got A) → made_of h (made_of f g) ≡ made_of (λ a. h (f a)) g
made-twice f h (got n a) = refl
made-twice f h (stopped why i) = refl

-- bytes passed over

abbrev pub passed_by : Result Cursor Stop → Result (Read (Option Carried)) Stop
passed_by (Err stop) = Err stop
passed_by (Ok next) = Ok (record { value = None; next = next })

passed-got : (at : ℕ) (g : Got Unit) → part_at at (made_of (λ _. None) g) ≡ passed_by (skipped_at at g)
passed-got at (got n u) = refl
passed-got at (stopped why i) = refl

pub part-passed : (at k : ℕ) (s : List ℕ) → part_at at (passed k s) ≡ passed_by (skipped_at at (skip k s))
part-passed at k s = rw (made {B = Option Carried} (λ (_ : Unit). None) (skip k) s) (passed-got at (skip k s))

-- a number

abbrev pub signed_in : Number → Signed
signed_in n = record { negative = n.negative; size = n.size }

abbrev pub number_by : (Signed → Option Carried) → Result (Read Number) Stop → Result (Read (Option Carried)) Stop
number_by f (Err stop) = Err stop
number_by f (Ok read) = Ok (record { value = f (signed_in read.value); next = read.next })

pub number-got : (f : Signed → Option Carried) (at : ℕ) (g : Got Signed) → part_at at (made_of f g) ≡ number_by f (taken_at at g)
number-got f at (got n a) = refl
number-got f at (stopped why i) = refl

pub part-number : (u : ParseUnit) (z k at : ℕ) (s : List ℕ)
    → part_at at (taken_unit u z k s) ≡ number_by (λ n. value u (pos (zero_for z n.size))) (taken_at at (take_number Count k s))
part-number u z k at s =
    rw (
      made {B = Option Carried} (λ (n : ℕ). value u (pos (zero_for z n))) (take_number Count k >>= λ n. done n.size) s,
      made {B = ℕ} (λ (n : Signed). n.size) (take_number Count k) s,
      made-twice (λ (n : Signed). n.size) (λ (n : ℕ). value u (pos (zero_for z n))) (take_number Count k s),
    )
    (number-got (λ n. value u (pos (zero_for z n.size))) at (take_number Count k s))
