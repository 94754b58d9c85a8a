-- The row that a pattern is prepared into stands for it.
use Rattle.std.specs.Prelude.{Ok, Err}
use mathlib.Core.List.{List}
use mathlib.Core.Path.{◌≡◌, refl, sym, ap, ◌∙◌}
use Prim.Native.Nat.{ℕ, ◌+◌, ◌%◌, ◌≤◌, ◌<◌}
use native.Mathlib.Omega.{arith}
use lib.ListN.{length, take, drop}
use Rattle.laws.proofs.Checks.{pattern-fine}
use Rattle.meaning.specs.Answers.{pattern_check, number}
use Rattle.meaning.specs.Results.{Checked}
use Rattle.meaning.specs.declared.Edition.{Edition}
use Rattle.meaning.specs.declared.Pair.{Pair}
use Rattle.meaning.specs.declared.Refusal.{Refusal}
use Rattle.words.proofs.PackedRoom.{packed-short}
use Rattle.words.proofs.PackedWords.{packed-stands}
use Rattle.words.specs.Packing.{packed, held_by}
use Rattle.words.specs.Pieces.{steps_of}
use Rattle.words.specs.Rows.{tag, xor_from, mark, check_word, found, tail}
use Rattle.prepared.proofs.PatternRefusals.{of-pattern}
use Rattle.prepared.proofs.RowKinds.{step_words_lem, row-accepted, row-not-accepted, row-refused, row-refusal}
use Rattle.prepared.proofs.RowParts.{words-lie, held-lie, worded-length, headed-length, headed-so}
use Rattle.prepared.proofs.verdicts.Numbers.{unmet-back, unmet-small, answer_back}
use Rattle.prepared.specs.PreparedRows.{worded, held_start, accepted_row, refused_row, detail, unmet_of, found_of, row_by, prepared_row}
use Rattle.prepared.specs.Stands.{Stands}
use Rattle.prepared.specs.Verdicts.{unmet_in, unmet_number, answer_number, unmet_held}

refused-not-fine : {A : Type 0} {why : Refusal} → ◌≡◌ {A = Checked} (Err why) (Ok tt) → A
refused-not-fine h = absurd (let z : ◌≡◌ {A = ℕ} 0 1 = cc in omega arith)

module _ (pair : Pair) (p old : List ℕ) (long : 259 ≤ length old) where
  -- accepted
  module _ (fine : pattern_check p ≡ Ok tt) where
    start : (found_of p % 512 ≡ held_start (held_by p)) × (length (packed pair p) + length (held_by p) ≤ 256)
    unfolding found_of
    start = (omega arith, omega (arith, packed-short pair p fine, (pattern-fine p fine).short))

    held-verdict : (edition : Edition) → unmet_in (answer_number edition (found_of p)) ≡ unmet_of edition p
    unfolding found_of
    held-verdict edition =
        let small : (e : Edition) → unmet_number (unmet_of e p) < 2048 = λ e. unmet-small e p (pattern-fine p fine).short in
        ap unmet_in (answer_back edition (held_start (held_by p)) (λ e. unmet_of e p) (omega arith) small) ∙ unmet-back (unmet_of edition p)

    accepted-row : (row : List ℕ) → 259 ≤ length row → mark row ≡ tag + length (packed pair p) → found row ≡ found_of p
        → check_word row ≡ xor_from (xor_from (found_of p) (packed pair p)) (held_by p) → take (length (packed pair p)) (tail row) ≡ packed pair p
        → drop (held_start (held_by p)) (tail row) ≡ held_by p → Stands pair p row
    accepted-row row long-row marked finds checked words held =
        let ws = packed pair p in
        let hs = held_by p in
        let few : length ws ≤ 256 = omega (arith, start.1) in
        let yes' = row-accepted row ws hs (found_of p) long-row few marked finds start.0 checked words held in
        let steps-are = step_words_lem row ws hs (found_of p) long-row few marked finds start.0 checked words held in
        record {
          prepared = rw yes';
          checks = rw (yes', fine);
          holds = λ _. ap (steps_of (tail row)) steps-are ∙ packed-stands pair p (tail row) fine held;
          finds = λ _ edition. unfold unmet_held in ap (λ (n : ℕ). unmet_in (answer_number edition n)) finds ∙ held-verdict edition;
        }

    accepted-stands : Stands pair p (accepted_row (packed pair p) (held_by p) (found_of p) old)
    accepted-stands =
        let ws = packed pair p in
        let hs = held_by p in
        let w = worded old ws hs in
        let check = xor_from (xor_from (found_of p) ws) hs in
        let wide : 259 ≤ length w = omega (arith, worded-length old ws hs) in
        let h = headed-so w (tag + length ws) check (found_of p) (omega arith) in
        let words = ap (take (length ws)) h.rest ∙ words-lie old ws hs long start.1 in
        let held = ap (drop (held_start hs)) h.rest ∙ held-lie old ws hs long start.1 in
        accepted-row (accepted_row ws hs (found_of p) old) (omega (arith, headed-length w (tag + length ws) check (found_of p))) h.marked h.finds h.checked words held

  -- refused
  refused-row : (row : List ℕ) (why : Refusal) → pattern_check p ≡ Err why → length p < 9223372036854775808 → 259 ≤ length row
      → mark row ≡ tag + (1024 + number why) → found row ≡ detail why → check_word row ≡ detail why → Stands pair p row
  refused-row row why e small long-row marked finds checked =
      let o = of-pattern p why e in
      let below : detail why < 9223372036854775808 = omega (arith, o.small) in
      let no' = row-not-accepted row (number why) (detail why) long-row o.some o.few marked finds checked below in
      let yes' = row-refused row (number why) (detail why) long-row o.some o.few marked finds checked below in
      let which = row-refusal row (number why) (detail why) long-row o.some o.few marked finds checked below in
      record {
        prepared = rw (no', yes');
        checks = rw (no', which, o.back, e);
        holds = λ fine. refused-not-fine (sym e ∙ fine);
        finds = λ fine. refused-not-fine (sym e ∙ fine);
      }

  refused-stands : (why : Refusal) → pattern_check p ≡ Err why → length p < 9223372036854775808 → Stands pair p (refused_row why old)
  refused-stands why e small =
      let h = headed-so old (tag + (1024 + number why)) (detail why) (detail why) (omega arith) in
      refused-row (refused_row why old) why e small (omega (arith, headed-length old (tag + (1024 + number why)) (detail why) (detail why))) h.marked h.finds h.checked

  stands_by : (checked : Checked) → pattern_check p ≡ checked → length p < 9223372036854775808 → Stands pair p (row_by checked pair p old)
  stands_by (Ok _) e small = accepted-stands e
  stands_by (Err why) e small = refused-stands why e small

-- a pattern that is lent is shorter than 2 ^ 63 bytes
pub prepared-stands : (pair : Pair) (p old : List ℕ) → 259 ≤ length old → length p < 9223372036854775808 → Stands pair p (prepared_row pair p old)
unfolding prepared_row
prepared-stands pair p old long small = stands_by pair p old long (pattern_check p) refl small

-- what the mark of an accepted pattern's row adds
pub prepared-mark : (pair : Pair) (p old : List ℕ) {row : List ℕ} → 259 ≤ length old → pattern_check p ≡ Ok tt → row ≡ prepared_row pair p old
    → mark row ≡ tag + length (packed pair p)
unfolding prepared_row
prepared-mark pair p old long fine e =
    let ws = packed pair p in
    let w = worded old ws (held_by p) in
    let is : _ ≡ accepted_row ws (held_by p) (found_of p) old = rw fine at e in
    ap mark is ∙ (headed-so w (tag + length ws) (xor_from (xor_from (found_of p) ws) (held_by p)) (found_of p) (omega (arith, worded-length old ws (held_by p)))).marked
