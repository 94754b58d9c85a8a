-- Two half patterns, for what the functions for C and Rust return: a call for the join writes what a call for the one writes
-- and, behind it, a call for the other, and splits it into the parts of the one and then those of the other.
use Rattle.std.specs.Prelude.{Ok, Err}
use mathlib.Core.Bool.{Bool, true, false}
use mathlib.Core.List.{List, [], ◌∷◌, ◌++◌, map}
use mathlib.Core.Path.{◌≡◌, refl, sym, ap, ◌∙◌}
use Prim.Native.Nat.{ℕ, ◌+◌, ◌-◌, ◌≤◌}
use native.Mathlib.Omega.{arith}
use lib.IntN.{ℤ, pos}
use lib.ListN.{length, get_or, take, drop, replicate}
use lib.Seq.{sets-eq}
use borrow.Author.Tests.{leb-true, le-leb, eqb-false}
use Rattle.laws.proofs.Halves.{bytes-join, parts_join, write-join}
use Rattle.laws.proofs.Tests.{when_true}
use Rattle.laws.proofs.Told.{refusal-number}
use Rattle.laws.specs.Halves.{Beside, moved}
use Rattle.meaning.specs.Answers.{number, wrote_answer, bytes_check}
use Rattle.meaning.specs.Names.{Book}
use Rattle.meaning.specs.Splitting.{parts, no_part}
use Rattle.meaning.specs.Whole.{write, output}
use Rattle.meaning.specs.declared.Fields.{Fields}
use Rattle.meaning.specs.declared.Pair.{Pair}
use Rattle.meaning.specs.declared.Part.{Part}
use Rattle.meaning.specs.Results.{Wrote}
use Rattle.rows.proofs.splits.Parts.{split-fine}
use Rattle.rows.specs.Rows.{in_row, Given, laid, part_numbers}
use Rattle.sheet.specs.Sheet.{has, if_room, SheetWrites, SheetSplits}

-- a row that starts with n, and has a zero behind it
abbrev pub counts : ℕ → List ℤ
counts n = pos n ∷ pos 0 ∷ []

counted : (n : ℕ) (row : List ℤ) → 2 ≤ length row → get_or (laid (counts n) row) 0 (pos 0) ≡ pos n
counted n row h = ap (λ (l : List ℤ). get_or l 0 (pos 0)) (sets-eq (counts n) row 0 h)

-- an answer of 0 was accepted, and the row's first number is the length
wrote-told : (room : Bool) (w : Wrote) (row : List ℤ) {after : List ℤ} {n : ℕ} → (room ≡ true → 2 ≤ length row)
    → Given (if_room room (in_row 2 (wrote_answer w))) row after 0 → get_or after 0 (pos 0) ≡ pos n → (room ≡ true) × (w ≡ Ok n)
wrote-told false w row h given e = absurd (omega (arith, given.number))
wrote-told true (Ok k) row {after} {n} h given e =
    let same : pos k ≡ pos n = sym (counted k row (h refl)) ∙ ap (λ (l : List ℤ). get_or l 0 (pos 0)) (sym given.row) ∙ e in
    (refl, cc)
wrote-told true (Err why) row h given e = absurd (eqb-false (number why) 0 (refusal-number why) (sym given.number))

module _ (pair : Pair) (book : Book) (f : Fields) where
  write-told : (p out : List ℕ) (row : List ℤ) {n : ℕ} {out_after : List ℕ} {row_after : List ℤ}
      → SheetWrites pair book p f out row 0 out_after row_after → get_or row_after 0 (pos 0) ≡ pos n
      → (write pair book p f out ≡ Ok n) × (out_after ≡ output pair book p f out)
  write-told p out row w e =
      let t = wrote-told (has 2 row) (write pair book p f out) row (leb-true 2 (length row)) w.0 e in
      (t.1, w.1 ∙ when_true (output pair book p f out) out t.0)

  pub writes-join : {p q : List ℕ} → Beside p q → (out : List ℕ) {n m : ℕ} (row row' row'' : List ℤ) → 2 ≤ length row''
      → {r : ℕ} {out_after out_after' out_after'' : List ℕ} {row_after row_after' row_after'' : List ℤ}
      → SheetWrites pair book p f out row 0 out_after row_after → get_or row_after 0 (pos 0) ≡ pos n
      → SheetWrites pair book q f (drop n out) row' 0 out_after' row_after' → get_or row_after' 0 (pos 0) ≡ pos m
      → SheetWrites pair book (p ++ q) f out row'' r out_after'' row_after''
      → (r ≡ 0) × (row_after'' ≡ laid (counts (n + m)) row'') × (out_after'' ≡ take n out_after ++ out_after')
  writes-join {p} {q} beside out {n} row row' row'' room a k b l c =
      let x = write-told p out row a k in
      let y = write-told q (drop n out) row' b l in
      let join = write-join beside pair book f out x.0 y.0 in
      let given = rw (le-leb 2 (length row'') room, join.0) at c in
      (given.0.number, given.0.row, given.1 ∙ join.1 ∙ rw (x.1, y.1))

-- a split into these parts, where both rows have room
abbrev pub SplitsInto : List Part → List ℤ → List ℤ → ℕ → List ℤ → List ℤ → Type 0
SplitsInto ps row more r row_after more_after =
    (r ≡ 0) × (row_after ≡ laid (counts (length ps)) row)
    × (more_after ≡ laid (part_numbers (ps ++ replicate (256 - length ps) no_part)) more)

module _ (row more : List ℤ) (room : 2 ≤ length row) (rooms : 768 ≤ length more) {r : ℕ} {row_after more_after : List ℤ} where
  pub splits-into : (p : List ℕ) → bytes_check p ≡ Ok tt → SheetSplits p row more r row_after more_after
      → SplitsInto (parts p) row more r row_after more_after
  splits-into p h s =
      let fine = split-fine p h in
      let given = rw (le-leb 2 (length row) room, le-leb 768 (length more) rooms, fine.0, fine.1) at s in
      (given.0.number, given.0.row, given.1)

  pub splits-join : {p q : List ℕ} → Beside p q → SheetSplits (p ++ q) row more r row_after more_after
      → SplitsInto (parts p ++ map (moved (length p)) (parts q)) row more r row_after more_after
  splits-join {p} {q} beside s = rw (parts_join beside) at (splits-into (p ++ q) (bytes-join beside) s)
