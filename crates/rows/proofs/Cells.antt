-- The values of a reading stand in its row from 3 on. Where it is refused, all numbers of its row after the details are zeros: so it
-- has no count, no value and no span.
use Rattle.std.specs.Prelude.{Option, Some, None, Result, Ok, Err}
use mathlib.Core.List.{List, [], ◌∷◌, ◌++◌, map}
use mathlib.Core.Path.{◌≡◌, refl, ap, subst, sym, ◌∙◌}
use Prim.Native.Nat.{ℕ, suc, ◌+◌, ◌-◌, ◌≤◌, ◌<◌}
use native.Mathlib.Omega.{arith}
use lib.IntN.{ℤ, pos}
use lib.ListN.{length, get_or, drop, replicate, length-append, length-replicate, get_or-replicate, get_or-append}
use lib.Seq.{sets-eq, get_or-append-add}
use Rattle.laws.proofs.Marks.{entries, get-entry}
use Rattle.meaning.specs.Answers.{refused, read_answer, details}
use Rattle.meaning.specs.Lists.{cell}
use Rattle.meaning.specs.Names.{Book}
use Rattle.meaning.specs.Whole.{unit_number, Gave, Walk, walked, refused_at, last_of, value_of, began_at, ended_at, fifteen, reading_of, read_by, read_check, read}
use Rattle.meaning.specs.Results.{Checked}
use Rattle.meaning.specs.declared.Choices.{Choices}
use Rattle.meaning.specs.declared.ParseUnit.{ParseUnit}
use Rattle.meaning.specs.declared.Reading.{Reading}
use Rattle.meaning.specs.declared.Refusal.{Refusal}
use Rattle.refusals.proofs.Integers.{tells-details}
use Rattle.refusals.specs.Told.{told, detail_of, second_details}
use Rattle.refusals.specs.declared.Detail.{Detail}
use Rattle.reader.proofs.record.Units.{unit-below}
use Rattle.rows.specs.Rows.{in_row, Given, laid}

-- what is laid over the start of a row stands there
laid-there : (old ns : List ℤ) (k : ℕ) → length ns ≤ length old → k < length ns → get_or (laid ns old) k (pos 0) ≡ get_or ns k (pos 0)
laid-there old ns k h l =
    let fits : 0 + length ns ≤ length old = omega arith in
    rw (sets-eq ns old 0 fits) (get_or-append ns (drop (0 + length ns) old) (pos 0) k l)

-- the numbers of a row where a reading is taken: three counts, the values, and what stands behind them
taken-cell : (a b c : ℤ) (values behind : List ℤ) (n k : ℕ) → k < length values
    → get_or ((a ∷ b ∷ c ∷ values ++ behind) ++ replicate n (pos 0)) (3 + k) (pos 0) ≡ get_or values k (pos 0)
taken-cell a b c values behind n k h =
    let e : 3 + k ≡ suc (suc (suc k)) = omega arith in
    let l : k < length (values ++ behind) = omega (arith, length-append values behind) in
    rw e (get_or-append (values ++ behind) (replicate n (pos 0)) (pos 0) k l ∙ get_or-append values behind (pos 0) k h)

few-of : (first : ℤ) (second : Option Detail) → length (first ∷ second_details second) ≤ 2
few-of first None = omega arith
few-of first (Some d) = omega arith

pub few-details : (why : Refusal) → length (details why) ≤ 2
few-details why =
    subst (λ (ds : List ℤ). length ds ≤ 2) (tells-details why refl)
    (few-of (detail_of (told why).first) (told why).second)

-- a number after the details, in a row of 48 or more
refused-cell : (why : Refusal) (old : List ℤ) → 48 ≤ length old → (k : ℕ) → length (details why) ≤ k → k < 48
    → get_or (laid (in_row 48 (refused why)).values old) k (pos 0) ≡ pos 0
refused-cell why old room k h l =
    let ds = details why in
    let zeros = replicate (48 - length ds) (pos 0) in
    let few = few-details why in
    let long : length (ds ++ zeros) ≡ 48 = omega (arith, length-append ds zeros, length-replicate (48 - length ds) (pos 0)) in
    let e : k ≡ length ds + (k - length ds) = omega arith in
    let there : get_or (laid (ds ++ zeros) old) k (pos 0) ≡ get_or (ds ++ zeros) k (pos 0) = laid-there old (ds ++ zeros) k (omega arith) (omega arith) in
    let behind : get_or (ds ++ zeros) (length ds + (k - length ds)) (pos 0) ≡ get_or zeros (k - length ds) (pos 0) = get_or-append-add ds zeros (k - length ds) (pos 0) in
    there ∙ ap (λ (n : ℕ). get_or (ds ++ zeros) n (pos 0)) e ∙ behind ∙ get_or-replicate (48 - length ds) (k - length ds) (pos 0) (pos 0) (omega arith)

-- a reading that is taken, and one that is refused

taken-row : (taken : ℕ) (gave : List Gave) (unit : ParseUnit) (old : List ℤ) → length old ≡ 48
    → get_or (laid (in_row 48 (read_answer (Ok (reading_of taken gave)))).values old) (3 + unit_number unit) (pos 0) ≡ cell unit (Ok (reading_of taken gave))
taken-row taken gave unit old h =
    laid-there old (in_row 48 (read_answer (Ok (reading_of taken gave)))).values (3 + unit_number unit) (omega arith) (omega (arith, unit-below unit))
    ∙ taken-cell _ _ _ (map (value_of gave) fifteen) (map pos (map (began_at gave) fifteen) ++ map pos (map (ended_at gave) fifteen)) 0 (unit_number unit)
    (unit-below unit)

refused-row : (why : Refusal) (unit : ParseUnit) (old : List ℤ) → length old ≡ 48
    → get_or (laid (in_row 48 (refused why)).values old) (3 + unit_number unit) (pos 0) ≡ cell unit (Err why)
unfolding entries last_of
refused-row why unit old h =
    refused-cell why old (omega arith) (3 + unit_number unit) (omega (arith, few-details why)) (omega (arith, unit-below unit))
    ∙ sym (get-entry 15 (value_of []) (pos 0) (unit_number unit) (unit-below unit))

pub row_of : (checked : Checked) (w : Walk) (unit : ParseUnit) (old : List ℤ) → length old ≡ 48
    → get_or (laid (in_row 48 (read_answer (read_by checked w))).values old) (3 + unit_number unit) (pos 0) ≡ cell unit (read_by checked w)
row_of (Ok _) (walked taken gave) unit old h = taken-row taken gave unit old h
row_of (Ok _) (refused_at why) unit old h = refused-row why unit old h
row_of (Err why) w unit old h = refused-row why unit old h

pub row-cell : (choices : Choices) (book : Book) (p s : List ℕ) (current : ℤ) (unit : ParseUnit) (old : List ℤ) → length old ≡ 48
    → get_or (laid (in_row 48 (read_answer (read choices book p s current))).values old) (3 + unit_number unit) (pos 0)
    ≡ cell unit (read choices book p s current)
unfolding read
row-cell choices book p s current = row_of (read_check choices.edition p s current) _

-- what a caller gets of a reading that is refused: the details, and after them zeros

pub row-refused : (choices : Choices) (book : Book) (p s : List ℕ) (current : ℤ) {why : Refusal} → read choices book p s current ≡ Err why
    → {old new : List ℤ} {n : ℕ} → 48 ≤ length old → Given (in_row 48 (read_answer (read choices book p s current))) old new n
    → (k : ℕ) → length (details why) ≤ k → k < 48 → get_or new k (pos 0) ≡ pos 0
row-refused choices book p s current {why} e {old} {new} room given k h l =
    let row : new ≡ laid (in_row 48 (refused why)).values old = rw e at given.row in
    rw row (refused-cell why old room k h l)

-- by the number that is returned: where it is not 0, the count of units is 0, and so are all values, starts and ends
not-taken : (r : Result Reading Refusal) {old new : List ℤ} {n : ℕ} → 48 ≤ length old → Given (in_row 48 (read_answer r)) old new n → (n ≡ 0 → ⊥)
    → (k : ℕ) → 2 ≤ k → k < 48 → get_or new k (pos 0) ≡ pos 0
not-taken (Ok r) room given none k h l = absurd (none given.number)
not-taken (Err why) {old} room given none k h l = rw given.row (refused-cell why old room k (omega (arith, few-details why)) l)

pub row-not-taken : (choices : Choices) (book : Book) (p s : List ℕ) (current : ℤ) {old new : List ℤ} {n : ℕ} → 48 ≤ length old
    → Given (in_row 48 (read_answer (read choices book p s current))) old new n → (n ≡ 0 → ⊥)
    → (k : ℕ) → 2 ≤ k → k < 48 → get_or new k (pos 0) ≡ pos 0
row-not-taken choices book p s current room given none = not-taken (read choices book p s current) room given none
