-- The words for a verdict are few bytes, and two lines that may be printed for a pattern are the same.
use Rattle.std.specs.Prelude.{Result, Ok, Err}
use mathlib.Core.Bool.{false}
use mathlib.Core.List.{List, [], ◌∷◌, ◌++◌}
use mathlib.Core.Path.{◌≡◌, refl, sym, ap, ◌∙◌}
use Prim.Native.Nat.{ℕ, ◌^◌, ◌≤◌, ◌<◌}
use native.Mathlib.Omega.{arith}
use lib.IntN.{ℤ, pos}
use lib.ListN.{length}
use Rattle.laws.proofs.Digits.{length-num, width-at-most}
use Rattle.meaning.proofs.Books.{english-valid}
use Rattle.meaning.specs.Answers.{number, trouble_number}
use Rattle.meaning.specs.Bytes.{bytes, num}
use Rattle.meaning.specs.Names.{english}
use Rattle.meaning.specs.Trust.{SaysOf, Says}
use Rattle.meaning.specs.declared.Edition.TheVariants.{First}
use Rattle.meaning.specs.declared.Fields.{Fields}
use Rattle.meaning.specs.declared.Pair.TheVariants.{Full}
use Rattle.meaning.specs.declared.Refusal.{Refusal}
use Rattle.meaning.specs.declared.Refusal.TheVariants.{PatternTooLong, PatternByte, LoneQuote, FieldRange, NoRoom, TextTooLong, TextByte, InPart, OffsetLength, OffsetRange, CurrentYear, TextLeft, NoSuchDay, NoDayNumber, BookMark, BookVersion, BookCut, BookName, ShortRow, NotStamp, StampRange, LeapSecond, StampYear, StampOffset, MendedTooLong}
use Rattle.meaning.specs.declared.Trouble.{Trouble}
use Rattle.meaning.specs.declared.Trouble.TheVariants.{TooFew, NoNumber, NoName, NoSign, LiteralDiffers, PlusSign}
use Rattle.meaning.specs.declared.Verdict.{Verdict}
use Rattle.meaning.specs.declared.Verdict.TheVariants.{Yes, No}
use Rattle.pattern.proofs.parts.Few.{few-steps}
use Rattle.pattern_check.specs.Line.{PartFits, verdict_text, Printed}
use Rattle.trust.proofs.Agreement.{Told, trusted, fails_at, refused, told, answers-coincide}

-- how long the words are

few-digits : (k n : ℕ) → 0 < k → n < 10 ^ k → length (num 1 n) ≤ k
few-digits k n some small = rw (length-num 1 n) (omega (arith, width-at-most k n some small))

trouble-number : (why : Trouble) → trouble_number why < 10 ^ 2
trouble-number TooFew = omega arith
trouble-number NoNumber = omega arith
trouble-number NoName = omega arith
trouble-number NoSign = omega arith
trouble-number LiteralDiffers = omega arith
trouble-number PlusSign = omega arith

small-number : (why : Refusal) → number why < 10 ^ 2
unfolding number
small-number (PatternTooLong n) = omega arith
small-number (PatternByte place) = omega arith
small-number (LoneQuote place) = omega arith
small-number (FieldRange field) = omega arith
small-number (NoRoom n) = omega arith
small-number (TextTooLong n) = omega arith
small-number (TextByte place) = omega arith
small-number (InPart why part place) = trouble-number why
small-number (OffsetLength n) = omega arith
small-number (OffsetRange which) = omega arith
small-number (CurrentYear year) = omega arith
small-number (TextLeft place) = omega arith
small-number NoSuchDay = omega arith
small-number NoDayNumber = omega arith
small-number BookMark = omega arith
small-number BookVersion = omega arith
small-number BookCut = omega arith
small-number (BookName which) = omega arith
small-number ShortRow = omega arith
small-number (NotStamp place) = omega arith
small-number StampRange = omega arith
small-number LeapSecond = omega arith
small-number StampYear = omega arith
small-number StampOffset = omega arith
small-number MendedTooLong = omega arith

pub few_words : (v : Result Verdict Refusal) → PartFits v → length (verdict_text v) ≤ 10
unfolding verdict_text bytes
few_words (Ok Yes) h = omega arith
few_words (Ok (No part f)) h = omega (arith, few-digits 5 part (omega arith) (omega (arith, h)))
few_words (Err why) h = omega (arith, few-digits 2 (number why) (omega arith) (small-number why))

pub part-fits : (p : List ℕ) (current : ℤ) (v : Result Verdict Refusal) → length p ≤ 65536 → Says First p current v → PartFits v
unfolding SaysOf
part-fits p current (Ok Yes) h s = tt
part-fits p current (Ok (No part f)) h s = omega (arith, (s english english-valid false).1.there, few-steps Full p)
part-fits p current (Err why) h s = tt

-- what an answer in words asks and gives, for each verdict

pub yes-text : verdict_text (Ok Yes) ≡ 121 ∷ 101 ∷ 115 ∷ []
unfolding verdict_text bytes
yes-text = refl

pub no_text : (part : ℕ) (f : Fields) → verdict_text (Ok (No part f)) ≡ 110 ∷ 111 ∷ 32 ∷ num 1 part
unfolding verdict_text bytes
no_text part f = refl

pub refused-text : (why : Refusal) → verdict_text (Err why) ≡ 114 ∷ 101 ∷ 102 ∷ 117 ∷ 115 ∷ 101 ∷ 100 ∷ 32 ∷ num 1 (number why)
unfolding verdict_text bytes
refused-text why = refl

-- one line for a pattern, whatever record a no shows

told_text : Told → List ℕ
told_text trusted = bytes "yes"
told_text (fails_at part) = bytes "no " ++ num 1 part
told_text (refused why) = bytes "refused " ++ num 1 (number why)

text-told : (v : Result Verdict Refusal) → verdict_text v ≡ told_text (told v)
unfolding verdict_text told_text
text-told (Ok Yes) = refl
text-told (Ok (No part f)) = refl
text-told (Err why) = refl

pub lines-coincide : (p old : List ℕ) {new new' : List ℕ} {r r' : ℕ} → Printed p old new r → Printed p old new' r' → (r ≡ r') × (new ≡ new')
lines-coincide p old a b =
    let same = answers-coincide First p (pos 2025) a.verdict b.verdict a.says b.says in
    let words = text-told a.verdict ∙ ap told_text same ∙ sym (text-told b.verdict) in
    (rw (a.laid.end, b.laid.end, words), rw (a.laid.held, b.laid.held, words))
