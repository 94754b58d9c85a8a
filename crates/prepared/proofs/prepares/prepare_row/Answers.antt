-- The mark says how many words there are.
use Rattle.std.specs.Prelude.{Ok}
use mathlib.Core.List.{List, [], ◌∷◌}
use mathlib.Core.Path.{◌≡◌, sym, ◌∙◌}
use Prim.Native.Nat.{ℕ, ◌+◌, ◌-◌, ◌≤◌, ◌<◌}
use native.Mathlib.Omega.{arith}
use lib.IntN.{ℤ, pos}
use lib.ListN.{length}
use Rattle.laws.proofs.Checks.{pattern-fine}
use Rattle.meaning.specs.Answers.{accepted, pattern_check}
use Rattle.meaning.specs.declared.Pair.{Pair}
use Rattle.prepared.proofs.PreparedStands.{prepared-mark}
use Rattle.prepared.specs.Uses.{prepared_answer}
use Rattle.rows.proofs.Fits.{pattern-fits}
use Rattle.rows.specs.Rows.{in_row, Given}
use Rattle.words.proofs.PackedRoom.{packed-short}
use Rattle.words.specs.Packing.{packed}
use Rattle.words.specs.Rows.{tag}
use borrow.Author.Rules.{rules}
use Rattle.prepared.proofs.prepares.prepare_row.Goals as goal

marked-so : {m : ℕ} (n : ℕ) → m ≡ tag + n → tag ≤ m
marked-so n e = omega arith

below-so : {m : ℕ} (n : ℕ) → m ≡ tag + n → n ≤ 256 → m - tag < 9223372036854775808
below-so n e h = omega arith

counted-so : (pair : Pair) (p : List ℕ) {m r : ℕ} {old new : List ℤ} → pattern_check p ≡ Ok tt → m ≡ tag + length (packed pair p)
    → Given (in_row 2 (accepted (pos (m - tag) ∷ []))) old new r → Given (in_row 2 (prepared_answer pair p)) old new r
counted-so pair p {m} fine e given = let n : m - tag ≡ length (packed pair p) = omega arith in rw (fine, ← n) given

pub overflow_sub-row : goal.overflow_sub-row
overflow_sub-row c =
    let a = c.args in
    let fine = sym c.prepare.ensures.0 ∙ c.in-Ok.is in
    marked-so (length (packed a.pair a.pattern.now)) (prepared-mark a.pair a.pattern.now a.row.now (omega arith) fine c.prepare.ensures.1)

pub give_count-requires : goal.give_count-requires
give_count-requires c =
    let a = c.args in
    let p = a.pattern.now in
    let fine = sym c.prepare.ensures.0 ∙ c.in-Ok.is in
    let marked = prepared-mark a.pair p a.row.now (omega arith) fine c.prepare.ensures.1 in
    (search rules, below-so (length (packed a.pair p)) marked (omega (arith, packed-short a.pair p fine, (pattern-fine p fine).short)))

pub give_refusal-requires : goal.give_refusal-requires
give_refusal-requires c =
    let s = c in
    let p = s.args.pattern.now in
    let refused = sym c.prepare.ensures.0 ∙ c.in-Err.is in
    (search rules, search rules, rw refused at (pattern-fits p (omega arith)))

pub returns-in-Ok : goal.returns-in-Ok
returns-in-Ok c =
    let a = c.args in
    let p = a.pattern.now in
    let fine = sym c.prepare.ensures.0 ∙ c.in-Ok.is in
    let marked = prepared-mark a.pair p a.row.now (omega arith) fine c.prepare.ensures.1 in
    (counted-so a.pair p fine marked c.give_count.ensures, c.prepare.ensures.1)

pub returns-in-Err : goal.returns-in-Err
returns-in-Err c =
    let refused = sym c.prepare.ensures.0 ∙ c.in-Err.is in
    (rw refused c.give_refusal.ensures, c.prepare.ensures.1)
