-- A word writes at most as many bytes as its code and count say, with any lent book, for a record that is allowed.
use Rattle.std.specs.Prelude.{Ok}
use mathlib.Core.Bool.{Bool, true, false}
use mathlib.Core.List.{List, [], ◌∷◌}
use mathlib.Core.Path.{◌≡◌}
use Prim.Native.Nat.{ℕ, ◌+◌, ◌*◌, ◌≤◌, ◌<◌, max}
use native.Mathlib.Omega.{arith}
use lib.Dec.{eqb, leb}
use lib.ListN.{length, length-append, length-take, length-replicate}
use borrow.Author.Tests.{le-leb, eqb-true, eqb-false}
use Rattle.format.proofs.step.Texts.{short-small}
use Rattle.laws.proofs.Digits.{length-num, num-fits, width-at-most}
use Rattle.laws.proofs.Fields.{allowed}
use Rattle.laws.proofs.OpenedBooks.{opened-short}
use Rattle.laws.proofs.Sizes.{rule-length}
use Rattle.laws.proofs.Tests.{by-test, when-is}
use Rattle.laws.proofs.Texts.{texts-join}
use Rattle.laws.specs.Widths.{most_digits, longest, most_letters, group_most}
use Rattle.laws.specs.Widths as widths
use Rattle.meaning.specs.Answers.{fields_check}
use Rattle.meaning.specs.Bytes.{bytes, num}
use Rattle.meaning.specs.Names.{english, names}
use Rattle.meaning.specs.OpenedBooks.{book_in}
use Rattle.meaning.specs.Writing.{quantity_of, signed_text, rule_text, texts}
use Rattle.meaning.specs.declared.Fields.{Fields}
use Rattle.meaning.specs.declared.Group.{Group}
use Rattle.meaning.specs.declared.Group.TheVariants.{Never, NotZero, Always}
use Rattle.meaning.specs.declared.NameList.{NameList}
use Rattle.meaning.specs.declared.NameList.TheVariants.{EraAbbreviated, EraNarrow, EraWide, QuarterWide, MonthAbbreviated, MonthWide, MonthNarrow, WdayAbbreviated, WdayWide, WdayNarrow, WdayShort, PeriodUpper, PeriodLower, PeriodDotted, PeriodLetter, NoonUpper, NoonLower, NoonDotted, NoonLetter}
use Rattle.meaning.specs.declared.Quantity.{Quantity}
use Rattle.meaning.specs.declared.Quantity.TheVariants.{Month, Day, Hour0To23, Minute, Second}
use Rattle.meaning.specs.declared.Rule.{Rule}
use Rattle.meaning.specs.declared.Rule.TheVariants.{Years}
use Rattle.word_writer.proofs.Held.{held-count}
use Rattle.word_writer.proofs.Texts.{byte-text, full-text, few-text, year-word-text, time-text, date-text, rule-word-text, long-year-text, times-text, held-text, none-text}
use Rattle.word_writer.specs.Written.{behind_text, two_more, held_text}
use Rattle.rules.specs.ShortRules.{short_quantity}
use Rattle.rules.specs.declared.short.Short.TheVariants as short
use Rattle.words.specs.Coding.{quantity_in, list_in, group_in, rule_of_kind, rule_in}
use Rattle.words.specs.Fields.{code, slot, count, from, is_lost, last_byte, kind, item, least, colon, minutes, seconds}
use Rattle.words.specs.Pieces.{short_in, steps_in, steps_of, most_bytes, most_of}

-- a year of so many digits
pub year-length : (k : ℕ) (f : Fields) → fields_check f ≡ Ok tt → length (signed_text k f.year) ≤ 1 + max k 7
unfolding rule_text widths.most_bytes
year-length k f h = rule-length (book_in []) (opened-short []) (Years k) f (allowed f h)

few-letters : (l : NameList) → most_letters l ≤ 20
unfolding most_letters longest names english bytes
few-letters EraAbbreviated = omega arith
few-letters EraNarrow = omega arith
few-letters EraWide = omega arith
few-letters QuarterWide = omega arith
few-letters MonthAbbreviated = omega arith
few-letters MonthWide = omega arith
few-letters MonthNarrow = omega arith
few-letters WdayAbbreviated = omega arith
few-letters WdayWide = omega arith
few-letters WdayNarrow = omega arith
few-letters WdayShort = omega arith
few-letters PeriodUpper = omega arith
few-letters PeriodLower = omega arith
few-letters PeriodDotted = omega arith
few-letters PeriodLetter = omega arith
few-letters NoonUpper = omega arith
few-letters NoonLower = omega arith
few-letters NoonDotted = omega arith
few-letters NoonLetter = omega arith

few-digits : (n k : ℕ) → k ≤ 15 → most_digits (quantity_in n k) ≤ 15
unfolding quantity_in most_digits
few-digits n k h =
    let P : Quantity → Type 0 = λ q. most_digits q ≤ 15 in
    when-is P (eqb n 0) (λ _. omega arith) (λ _.
    when-is P (eqb n 1) (λ _. omega arith) (λ _.
    when-is P (eqb n 2) (λ _. omega arith) (λ _.
    when-is P (eqb n 3) (λ _. omega arith) (λ _.
    when-is P (eqb n 4) (λ _. omega arith) (λ _.
    when-is P (eqb n 5) (λ _. omega arith) (λ _.
    when-is P (eqb n 6) (λ _. omega arith) (λ _.
    when-is P (eqb n 7) (λ _. omega arith) (λ _.
    when-is P (eqb n 8) (λ _. omega arith) (λ _.
    when-is P (eqb n 9) (λ _. omega arith) (λ _.
    when-is P (eqb n 10) (λ _. omega arith) (λ _.
    when-is P (eqb n 11) (λ _. omega arith) (λ _.
    when-is P (eqb n 12) (λ _. omega arith) (λ _. h)))))))))))))

group-short : (c : Bool) (g : Group) → group_most c g ≤ 3
group-short true Never = omega arith
group-short true NotZero = omega arith
group-short true Always = omega arith
group-short false Never = omega arith
group-short false NotZero = omega arith
group-short false Always = omega arith

-- the rule that a word holds, whatever the word
rule-short : (w : ℕ) → widths.most_bytes (rule_in w) ≤ 21
unfolding rule_of_kind widths.most_bytes
rule-short w =
    let P : Rule → Type 0 = λ rule. widths.most_bytes rule ≤ 21 in
    let digits = few-digits (item w) (least w) (omega arith) in
    let letters = few-letters (list_in (item w)) in
    when-is P (eqb (kind w) 0) (λ _. omega arith) (λ _.
    when-is P (eqb (kind w) 1) (λ _. omega arith) (λ _.
    when-is P (eqb (kind w) 2) (λ _. omega arith) (λ _.
    when-is P (eqb (kind w) 3) (λ _. omega arith) (λ _.
    when-is P (eqb (kind w) 4) (λ _. omega arith) (λ _.
    when-is P (eqb (kind w) 5) (λ _. omega arith) (λ _.
    when-is P (eqb (kind w) 6) (λ _. omega arith) (λ _.
    omega (arith, group-short (colon w) (group_in (minutes w)), group-short (colon w) (group_in (seconds w))))))))))

pub rule_fits : (row : List ℕ) (f : Fields) → fields_check f ≡ Ok tt → (w : ℕ) → length (rule_text (book_in row) (rule_in w) f) ≤ 21
rule_fits row f h w = omega (arith, rule-length (book_in row) (opened-short row) (rule_in w) f (allowed f h), rule-short w)

pub behind-short : (w : ℕ) → length (behind_text w) ≤ 1
behind-short w = when-is (λ (s : List ℕ). length s ≤ 1) (eqb (last_byte w) 0) (λ _. omega arith) (λ _. omega arith)

pub two_digits : (k n : ℕ) → k ≤ 2 → n < 100 → length (num k n) ≤ 2
two_digits k n few small = rw length-num (omega (arith, width-at-most 2 n (omega arith) (omega arith)))

pub two-more-length : (b c w : ℕ) → b < 100 → c < 100 → length (two_more (num 2 b) (num 2 c) w) ≡ 6 + length (behind_text w)
two-more-length b c w hb hc =
    rw (length-append, length-append) (omega (arith, num-fits 2 b (omega arith) hb, num-fits 2 c (omega arith) hc))

held-short : (tail : List ℕ) (w : ℕ) → length (held_text tail w) ≤ count w
held-short tail w =
    let size = held-count tail (from w) (count w) in
    when-is (λ (s : List ℕ). length s ≤ count w) (is_lost w) (λ _. rw length-take (omega arith)) (λ _. omega arith)

-- the bytes that a word says
code-most : (w : ℕ) → code w ≤ most_bytes w
unfolding most_bytes
code-most w = omega arith

count_most : (w : ℕ) → 29 ≤ code w → most_bytes w ≡ code w + count w
unfolding most_bytes
count_most w h = rw (le-leb 29 (code w) h)

pub most-small : (w : ℕ) → most_bytes w ≤ 542
unfolding most_bytes
most-small w = by-test (leb 29 (code w)) (λ e. rw e (omega arith)) (λ e. rw e (omega arith))

pub most-all : (ws : List ℕ) → most_of ws ≤ 542 * length ws
unfolding most_of
most-all [] = omega arith
most-all (w ∷ ws) = omega (arith, most-small w, most-all ws)

module _ (row tail : List ℕ) (f : Fields) (fine : fields_check f ≡ Ok tt) where
  pub word_fits : (w : ℕ) → length (texts (book_in row) f (steps_in tail w)) ≤ most_bytes w
  word_fits w =
      let book = book_in row in
      let ok = allowed f fine in
      let behind = behind-short w in
      let bytes = code-most w in
      let small = short-small (short_in (slot w)) f ok in
      by-test (eqb (code w) 1) (λ t. let e = eqb-true (code w) 1 t in rw (byte-text book tail f w e) (omega arith)) (λ byte.
      by-test (eqb (code w) 3)
      (λ t. let e = eqb-true (code w) 3 t in rw (full-text book tail f w e, length-append) (omega (arith, two_digits 2 (quantity_of (short_quantity (short_in (slot w))) f) (omega arith) small))) (λ full.
      by-test (eqb (code w) 4)
      (λ t. let e = eqb-true (code w) 4 t in rw (few-text book tail f w e, length-append) (omega (arith, two_digits 1 (quantity_of (short_quantity (short_in (slot w))) f) (omega arith) small))) (λ few.
      by-test (eqb (code w) 9)
      (λ t. let e = eqb-true (code w) 9 t in rw (year-word-text book tail f w e, length-append) (omega (arith, year-length (slot w) f fine))) (λ year.
      by-test (eqb (code w) 10)
      (λ t.
      let e = eqb-true (code w) 10 t in
      rw (time-text book tail f w e, length-append)
      (omega (arith, two_digits 2 (quantity_of Hour0To23 f) (omega arith) (short-small short.Hour f ok), two-more-length (quantity_of Minute f) (quantity_of Second f) w (short-small short.Minute f ok) (short-small short.Second f ok)))) (λ time.
      by-test (eqb (code w) 15)
      (λ t.
      let e = eqb-true (code w) 15 t in
      rw (date-text book tail f w e, length-append)
      (omega (arith, year-length 4 f fine, two-more-length (quantity_of Month f) (quantity_of Day f) w (short-small short.Month f ok) (short-small short.Day f ok)))) (λ date.
      by-test (eqb (code w) 22)
      (λ t. let e = eqb-true (code w) 22 t in rw (rule-word-text book tail f w e, length-append) (omega (arith, rule_fits row f fine w))) (λ rule.
      by-test (eqb (code w) 29)
      (λ t. let e = eqb-true (code w) 29 t in rw (long-year-text book tail f w e) (omega (arith, year-length (count w) f fine, count_most w (omega arith)))) (λ long.
      by-test (eqb (code w) 30)
      (λ t. let e = eqb-true (code w) 30 t in rw (times-text book tail f w e, length-replicate) (omega (arith, count_most w (omega arith)))) (λ times.
      by-test (eqb (code w) 31)
      (λ t. let e = eqb-true (code w) 31 t in rw (held-text book tail f w e) (omega (arith, held-short tail w, count_most w (omega arith)))) (λ held.
      rw (none-text book tail f w (eqb-false _ _ byte) (eqb-false _ _ full) (eqb-false _ _ few) (eqb-false _ _ year) (eqb-false _ _ time) (eqb-false _ _ date) (eqb-false _ _ rule) (eqb-false _ _ long) (eqb-false _ _ times) (eqb-false _ _ held))
      (omega arith)))))))))))

  pub words-fit : (ws : List ℕ) → length (texts (book_in row) f (steps_of tail ws)) ≤ most_of ws
  unfolding steps_of most_of texts
  words-fit [] = omega arith
  words-fit (w ∷ ws) = rw (texts-join (book_in row) f, length-append) (omega (arith, word_fits w, words-fit ws))
