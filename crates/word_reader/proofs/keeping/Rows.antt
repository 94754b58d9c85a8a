-- The row of a reading: zeros before the first part, the counts behind the last; and a row laid over a row.
use Rattle.std.specs.Prelude.{Ok, Err, Option, ⊤}
use Rattle.std.proofs.lemmas.Option.{IfSome_then}
use mathlib.Core.List.{List, [], ◌++◌}
use mathlib.Core.Path.{◌≡◌, refl, ap, sym, ◌∙◌}
use Prim.Native.Nat.{ℕ, ◌+◌, ◌-◌, ◌≤◌}
use native.Mathlib.Omega.{arith}
use lib.IntN.{ℤ, pos}
use lib.ListN.{length, drop, replicate, length-append, length-replicate}
use lib.Seq.{sets, sets-eq, drop_at, drop-drop}
use Rattle.meaning.specs.Answers.{refused, read_answer, details}
use Rattle.meaning.specs.Names.{Book}
use Rattle.meaning.specs.Whole.{Gave, Walk, walked, refused_at, last_of, bits, reading_of, read_by}
use Rattle.meaning.specs.Writing.{Step}
use Rattle.meaning.specs.Results.{Checked}
use Rattle.meaning.specs.declared.Choices.{Choices}
use Rattle.meaning.specs.declared.Refusal.{Refusal}
use Rattle.reader.proofs.record.Units.{units-counted}
use Rattle.rows.proofs.Cells.{few-details}
use Rattle.rows.specs.Rows.{in_row, laid, Given}
use Rattle.word_reader.specs.Quick.{row_of, mask_of, Cleared, counted, Whole}

row-long : (gave : List Gave) → length (row_of gave) ≡ 48
unfolding row_of
row-long gave = refl

pub beyond-row : (gave : List Gave) {row rest : List ℤ} → row ≡ row_of gave ++ rest → drop 48 row ≡ rest
beyond-row gave {row} {rest} e = rw e (drop_at (row_of gave) rest 48 (row-long gave))

-- before the first word
pub zero_row : (old : List ℤ) {row : List ℤ} → 48 ≤ length old → row ≡ sets old 0 (replicate 48 (pos 0)) → row ≡ row_of [] ++ drop 48 old
unfolding row_of last_of
zero_row old h e = e ∙ sets-eq (replicate 48 (pos 0)) old 0 (omega arith)

-- the same in two parts
pub cleared-row : (old : List ℤ) {row : List ℤ} → 48 ≤ length old → row ≡ sets old 0 (replicate 18 (pos 0)) → Cleared row × (drop 48 row ≡ drop 48 old)
cleared-row old h e =
    let whole = e ∙ sets-eq (replicate 18 (pos 0)) old 0 (omega arith) in
    (rw whole, rw whole (drop-drop 30 18 old))

pub zero-places : (old : List ℤ) {row : List ℤ} → 48 ≤ length old → Cleared old → row ≡ sets old 18 (replicate 30 (pos 0)) → row ≡ row_of [] ++ drop 48 old
unfolding row_of last_of
zero-places old h clear e = e ∙ sets-eq (replicate 30 (pos 0)) old 18 (omega arith) ∙ ap (λ (counts : List ℤ). counts ++ replicate 30 (pos 0) ++ drop 48 old) clear

pub whole-over : {choices : Choices} {book : Book} {current : ℕ} {ss : List Step} {text : List ℕ} {old mid new : List ℤ} (r : Option ⊤) → drop 48 mid ≡ drop 48 old
    → Whole choices book current ss text mid new r → Whole choices book current ss text old new r
whole-over r e whole =
    record { beyond = whole.beyond ∙ e; reads = IfSome_then r whole.reads (λ _ read. (read.0, read.1, read.2, rw e at read.3)) }

pub no-mask : 0 ≡ mask_of []
unfolding mask_of last_of bits
no-mask = refl

-- behind the last
pub counted-row : (at : ℕ) (gave : List Gave) (rest : List ℤ) → counted at (mask_of gave) (row_of gave ++ rest) ≡ (read_answer (Ok (reading_of at gave))).values ++ rest
unfolding row_of mask_of
counted-row at gave rest = rw (units-counted gave)

pub beyond-counted : (at : ℕ) (gave : List Gave) {row rest : List ℤ} → row ≡ (read_answer (Ok (reading_of at gave))).values ++ rest → drop 48 row ≡ rest
beyond-counted at gave {row} {rest} e = rw e (drop_at (read_answer (Ok (reading_of at gave))).values rest 48 refl)

-- numbers laid over the start of a row
laid-all : (v old : List ℤ) → length v ≡ 48 → 48 ≤ length old → laid v old ≡ v ++ drop 48 old
laid-all v old long h =
    let all : 0 + length v ≡ 48 = omega (arith, long) in
    rw all at (sets-eq v old 0 (omega (arith, long)))

-- every reading fills its row
refused-long : (why : Refusal) → length (in_row 48 (refused why)).values ≡ 48
refused-long why =
    let ds = details why in
    omega (arith, few-details why, length-append ds (replicate (48 - length ds) (pos 0)), length-replicate (48 - length ds) (pos 0))

reading-long : (checked : Checked) (w : Walk) → length (in_row 48 (read_answer (read_by checked w))).values ≡ 48
reading-long (Ok _) (walked taken gave) = refl
reading-long (Ok _) (refused_at why) = refused-long why
reading-long (Err why) w = refused-long why

pub given-over : (checked : Checked) (w : Walk) {old mid new : List ℤ} {r : ℕ} → 48 ≤ length old → length mid ≡ length old → drop 48 mid ≡ drop 48 old
    → Given (in_row 48 (read_answer (read_by checked w))) mid new r → Given (in_row 48 (read_answer (read_by checked w))) old new r
given-over checked w {old} {mid} h same beyond given =
    let v = (in_row 48 (read_answer (read_by checked w))).values in
    let long = reading-long checked w in
    record { number = given.number; row = given.row ∙ laid-all v mid long (omega (arith, same)) ∙ rw (beyond) (sym (laid-all v old long h)) }

pub refusal-over : (why : Refusal) {old mid new : List ℤ} {r : ℕ} → 48 ≤ length old → length mid ≡ length old → drop 48 mid ≡ drop 48 old
    → Given (in_row 48 (refused why)) mid new r → Given (in_row 48 (refused why)) old new r
refusal-over why = given-over (Err why) (refused_at why)

pub given-quick : (at : ℕ) (gave : List Gave) {old new : List ℤ} → 48 ≤ length old → new ≡ (read_answer (Ok (reading_of at gave))).values ++ drop 48 old
    → Given (in_row 48 (read_answer (Ok (reading_of at gave)))) old new 0
given-quick at gave {old} h e = record { number = refl; row = e ∙ sym (laid-all (in_row 48 (read_answer (Ok (reading_of at gave)))).values old refl h) }
