-- A signed number by its sign and size, and with it what is told of a refusal: its details.
use mathlib.Core.List.{List, [], ◌∷◌}
use mathlib.Core.Path.{◌≡◌, refl, ap, ◌∙◌}
use lib.IntN.{ℤ, pos, negsuc, nat_abs}
use Rattle.meaning.specs.Answers.{details}
use Rattle.meaning.specs.Numerals.{integer}
use Rattle.meaning.specs.Writing.{is_negative}
use Rattle.meaning.specs.declared.Refusal.{Refusal}
use Rattle.meaning.specs.declared.Refusal.TheVariants.{PatternTooLong, PatternByte, LoneQuote, FieldRange, NoRoom, TextTooLong, TextByte, InPart, OffsetLength, OffsetRange, CurrentYear, TextLeft, NoSuchDay, NoDayNumber, BookMark, BookVersion, BookCut, BookName, ShortRow, NotStamp, StampRange, LeapSecond, StampYear, StampOffset, MendedTooLong}
use Rattle.refusals.specs.Told.{told, detail_of, second_details}
use Rattle.refusals.specs.declared.Told.{Told}

sign-and-size : (z : ℤ) → integer (record { negative = is_negative z; size = nat_abs z }) ≡ z
sign-and-size (pos n) = refl
sign-and-size (negsuc n) = refl

-- one detail or two, as the table lists them
abbrev pub details_of : Told → List ℤ
details_of t = detail_of t.first ∷ second_details t.second

told-details : (why : Refusal) → details_of (told why) ≡ details why
unfolding details
told-details (PatternTooLong n) = refl
told-details (PatternByte place) = refl
told-details (LoneQuote place) = refl
told-details (FieldRange field) = refl
told-details (NoRoom n) = refl
told-details (TextTooLong n) = refl
told-details (TextByte place) = refl
told-details (InPart why part place) = refl
told-details (OffsetLength n) = refl
told-details (OffsetRange which) = refl
told-details (CurrentYear year) = ap (λ z. z ∷ []) (sign-and-size year)
told-details (TextLeft place) = refl
told-details NoSuchDay = refl
told-details NoDayNumber = refl
told-details BookMark = refl
told-details BookVersion = refl
told-details BookCut = refl
told-details (BookName which) = refl
told-details ShortRow = refl
told-details (NotStamp place) = refl
told-details StampRange = refl
told-details LeapSecond = refl
told-details StampYear = refl
told-details StampOffset = refl
told-details MendedTooLong = refl

-- for a caller that gives the details on
pub tells-details : {t : Told} (why : Refusal) → t ≡ told why → details_of t ≡ details why
tells-details why tells = ap details_of tells ∙ told-details why
