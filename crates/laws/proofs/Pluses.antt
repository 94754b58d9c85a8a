-- What demand 2 excepts since refusal 19, in four theorems. `number-but-for-plus`: the number reader is the Rust's, but that it
-- stops where the bytes are there and begin with a plus; `number-at-plus`: it is stopped by a plus nowhere else.
-- `read-but-for-plus` and `offset-but-for-plus`: reading and parse_offset answer 19 at a plus of the text, or all that they
-- answered with the Rust's number reader. The laws before them go through the definitions of reading.
use Rattle.std.specs.Prelude.{Ok, Err, Option}
use mathlib.Core.Bool.{Bool, true, false}
use mathlib.Core.List.{List, [], ◌∷◌}
use mathlib.Core.Logic.{◌⊎◌, inl, inr}
use mathlib.Core.Option as maths
use mathlib.Core.Option.{none, some}
use mathlib.Core.Path.{◌≡◌, refl, sym, ◌∙◌}
use Prim.Native.Char.{code}
use Prim.Native.Nat.{ℕ, zero, suc, ◌+◌, ◌-◌}
use native.Mathlib.Nat.{add-zero}
use native.Mathlib.Omega.{arith}
use lib.Dec.{eqb, leb, ltb}
use lib.IntN.{ℤ, pos, nat_abs}
use lib.ListN.{length, get_or, take, drop}
use lib.Seq.{get_or-drop, drop-drop}
use borrow.Author.Tests.{eqb-true, ltb-true, ltb-false, le-leb, lt-leb}
use Rattle.meaning.specs.Answers.{refuse_unless, text_check}
use Rattle.meaning.specs.Bytes.{when, digit_at, plus}
use Rattle.meaning.specs.Names.{Book}
use Rattle.meaning.specs.Numerals.{Signed, plus_first, number_of}
use Rattle.meaning.specs.Pluses.{number_with_plus, take_number_with_plus, read_with_plus, parse_offset_with_plus, plus_taken, RefusedAtPlus, OffsetAtPlus}
use Rattle.meaning.specs.Readers.{Got, got, stopped, Reader, behind, go_on, skip, taken_number, take_number, NumberReader, take_count_with, take_year_with, reach, zone_sign, ZoneSign, utc, ahead, behind_utc}
use Rattle.meaning.specs.Reading.{minus_first, year_length, colon_length, zone_behind, taken_year_with, take_group_with, zone_group_with, zone_size_with, most_read, read_rule_with, read_step_with}
use Rattle.meaning.specs.Whole.{Gave, Walk, refused_at, walk_with, read_by, read_check, read, offset_by, hour_and_minute, two_at_with, parse_offset}
use Rattle.meaning.specs.Writing.{Step, literal, field, steps}
use Rattle.meaning.specs.declared.Carried.{Carried}
use Rattle.meaning.specs.Results.{Checked, Offset}
use Rattle.meaning.specs.declared.Choices.{Choices}
use Rattle.meaning.specs.declared.Edition.{Edition}
use Rattle.meaning.specs.declared.Group.{Group}
use Rattle.meaning.specs.declared.Group.TheVariants.{Never, NotZero, Always}
use Rattle.meaning.specs.declared.Numeral.{Numeral}
use Rattle.meaning.specs.declared.Numeral.TheVariants.{Count, Year}
use Rattle.meaning.specs.declared.Refusal.TheVariants.{InPart, OffsetLength}
use Rattle.meaning.specs.declared.Rule.{Rule}
use Rattle.meaning.specs.declared.Rule.TheVariants.{Number, SkippedNumber, LetterQuarter, SkippedName, MatchedName, Letters, Years, FixedYear, TwoDigitYear, Zone}
use Rattle.meaning.specs.declared.Trouble.TheVariants.{PlusSign}
use Rattle.laws.proofs.Tests.{by-test, true-is-not-false, both_true}

-- the number reader

-- a number that begins with no plus is the Rust's
no-plus-first : (kind : Numeral) (s : List ℕ) → plus_first s ≡ false → number_of kind s ≡ number_with_plus kind s
unfolding number_with_plus number_of
no-plus-first kind [] h = refl
no-plus-first kind (b ∷ s) h = rw h

pub number-but-for-plus : (kind : Numeral) (k : ℕ) (s : List ℕ)
    → take_number kind k s ≡ when (plus_taken k s) (stopped PlusSign 0) (take_number_with_plus kind k s)
unfolding take_number take_number_with_plus
number-but-for-plus kind k s =
    by-test (ltb (length s) k)
    (λ few. rw (few, lt-leb k (length s) (ltb-true (length s) k few)))
    (λ room.
    rw (room, le-leb k (length s) (ltb-false (length s) k room))
    (by-test (plus_first (take k s)) (λ p. rw p) (λ p. rw (p, no-plus-first kind (take k s) p))))

-- the Rust's is never stopped by a plus
taken-at-plus : (k : ℕ) (n : maths.Option Signed) {i : ℕ} → taken_number k n ≡ stopped PlusSign i → ⊥
taken-at-plus k none e = let z : ◌≡◌ {A = ℕ} 0 1 = cc in omega arith
taken-at-plus k (some n) e = let z : ◌≡◌ {A = ℕ} 0 1 = cc in omega arith

rust-at-plus : (kind : Numeral) (k : ℕ) (s : List ℕ) {i : ℕ} → take_number_with_plus kind k s ≡ stopped PlusSign i → ⊥
unfolding take_number_with_plus
rust-at-plus kind k s e =
    by-test (ltb (length s) k)
    (λ few. let t = rw few at e in let z : ◌≡◌ {A = ℕ} 0 1 = cc in omega arith)
    (λ room. taken-at-plus k (number_with_plus kind (take k s)) (rw room at e))

pub number-at-plus : (kind : Numeral) (k : ℕ) (s : List ℕ) {i : ℕ} → take_number kind k s ≡ stopped PlusSign i → (plus_taken k s ≡ true) × (i ≡ 0)
number-at-plus kind k s {i} e =
    by-test (plus_taken k s)
    (λ p. let t : ◌≡◌ {A = Got Signed} (stopped PlusSign 0) (stopped PlusSign i) = rw (number-but-for-plus kind k s, p) at e in (p, cc))
    (λ p. absurd (rust-at-plus kind k s (rw (number-but-for-plus kind k s, p) at e)))

-- one reading and another of the same text: the first is stopped at a plus, or they are the same

data PlusOrSame {A : Type 0} (s : List ℕ) : Got A → Got A → Type 0 where
  at-plus : {i : ℕ} {h : Got A} → get_or s i 0 ≡ plus → PlusOrSame s (stopped PlusSign i) h
  same : {g : Got A} → PlusOrSame s g g

behind-plus : {A : Type 0} (n : ℕ) (s : List ℕ) {g h : Got A} → PlusOrSame (drop n s) g h → PlusOrSame s (behind n g) (behind n h)
behind-plus n s (at-plus {i} e) = at-plus (sym (get_or-drop n s i 0) ∙ e)
behind-plus n s same = same

module _ {A B : Type 0} (next next' : A → Reader B) (s : List ℕ) (h : (a : A) (t : List ℕ) → PlusOrSame t (next a t) (next' a t)) where
  same-on : (g : Got A) → PlusOrSame s (go_on g next s) (go_on g next' s)
  same-on (got n a) = behind-plus n s (h a (drop n s))
  same-on (stopped why i) = same

  on-plus : {g g' : Got A} → PlusOrSame s g g' → PlusOrSame s (go_on g next s) (go_on g' next' s)
  on-plus (at-plus e) = at-plus e
  on-plus (same {g}) = same-on g

-- the readers, with either number reader

plus-there : (k : ℕ) (s : List ℕ) → plus_first (take k s) ≡ true → get_or s 0 0 ≡ plus
plus-there zero s p = true-is-not-false (sym p)
plus-there (suc k) [] p = true-is-not-false (sym p)
plus-there (suc k) (b ∷ s) p = eqb-true b plus p

-- what a reader reads with the specification's number reader, beside what it reads with the Rust's
abbrev Compared : {A : Type 0} → (NumberReader → Reader A) → Type 0
Compared reader = (s : List ℕ) → PlusOrSame s (reader take_number s) (reader take_number_with_plus s)

take-plus : (kind : Numeral) (k : ℕ) → Compared (λ number. number kind k)
take-plus kind k s =
    by-test (plus_taken k s)
    (λ p. rw (number-but-for-plus kind k s, p) (at-plus (plus-there k s (both_true (leb k (length s)) (plus_first (take k s)) p).1)))
    (λ p. rw (number-but-for-plus kind k s, p) same)

count-plus : (k : ℕ) → Compared (λ number. take_count_with number k)
count-plus k s = on-plus _ _ s (λ n t. same) (take-plus Count k s)

year-plus : (k : ℕ) → Compared (λ number. take_year_with number k)
year-plus k s = on-plus _ _ s (λ n t. same) (take-plus Year k s)

taken-year-plus : (k : ℕ) → Compared (λ number. taken_year_with number k)
taken-year-plus k s = on-plus _ _ s (λ z t. same) (year-plus k s)

group-plus : (c : Bool) → Compared (λ number. take_group_with number c)
group-plus c s = same-on _ _ s (λ u t. count-plus 2 t) (skip (colon_length c) s)

zone-group-plus : (c : Bool) (g : Group) → Compared (λ number. zone_group_with number c g)
zone-group-plus c Never s = same
zone-group-plus c NotZero s = by-test (digit_at (colon_length c) s) (λ e. rw e (group-plus c s)) (λ e. rw e same)
zone-group-plus c Always s = group-plus c s

size-plus : (c : Bool) (minutes seconds : Group) → Compared (λ number. zone_size_with number c minutes seconds)
unfolding zone_size_with
size-plus c minutes seconds s =
    on-plus _ _ s
    (λ hh t. on-plus _ _ t (λ mm u. on-plus _ _ u (λ ss v. same) (zone-group-plus c seconds u)) (zone-group-plus c minutes t))
    (count-plus 2 s)

zone-plus : (c : Bool) (minutes seconds : Group) (z : ZoneSign) → Compared (λ number. zone_behind (zone_size_with number c minutes seconds) z)
zone-plus c minutes seconds utc s = same
zone-plus c minutes seconds ahead s = on-plus _ _ s (λ n t. same) (size-plus c minutes seconds s)
zone-plus c minutes seconds behind_utc s = on-plus _ _ s (λ n t. same) (size-plus c minutes seconds s)

rule-plus : (edition : Edition) (book : Book) (current : ℕ) (rule : Rule) → Compared (λ number. read_rule_with number edition book current rule)
unfolding read_rule_with
rule-plus edition book current (Number q least most u z) s = on-plus _ _ s (λ n t. same) (count-plus (reach (most_read edition q most - least) least s) s)
rule-plus edition book current (SkippedNumber q least most) s = same
rule-plus edition book current LetterQuarter s = same
rule-plus edition book current (SkippedName l n) s = same
rule-plus edition book current (MatchedName l) s = same
rule-plus edition book current (Letters l n) s = same
rule-plus edition book current (Years k) s = taken-year-plus (year_length s) s
rule-plus edition book current (FixedYear k) s = taken-year-plus (minus_first s + k) s
rule-plus edition book current TwoDigitYear s =
    by-test (eqb (minus_first s) 1) (λ e. rw e (taken-year-plus 3 s)) (λ e. rw e (on-plus _ _ s (λ z t. same) (year-plus 2 s)))
rule-plus edition book current (Zone zone) s =
    on-plus _ _ s (λ o t. same) (same-on _ _ s (λ sign t. zone-plus zone.colon zone.minutes zone.seconds sign t) (zone_sign zone.utc s))

step-plus : (choices : Choices) (book : Book) (current : ℕ) (step : Step) → Compared (λ number. read_step_with number choices book current step)
unfolding read_step_with
step-plus choices book current (literal w lost) s = same
step-plus choices book current (field rule) s = rule-plus choices.edition book current rule s

-- the walk over the parts, and the whole reading

data WalkPlusOrSame (text : List ℕ) : Walk → Walk → Type 0 where
  refused-at-plus : {i place : ℕ} {v : Walk} → get_or text place 0 ≡ plus → WalkPlusOrSame text (refused_at (InPart PlusSign i place)) v
  same-walk : {w : Walk} → WalkPlusOrSame text w w

-- what follows part i at a place, by what it gave
abbrev pub behind_part : ℕ → ℕ → (ℕ → Option Carried → Walk) → Got (Option Carried) → Walk
behind_part i at next g = elim g [ got n c ↦ next n c | stopped why place ↦ refused_at (InPart why i (at + place)) ]

module _ (text : List ℕ) (i at : ℕ) (next next' : ℕ → Option Carried → Walk) (h : (n : ℕ) (c : Option Carried) → WalkPlusOrSame text (next n c) (next' n c)) where
  same-part : (g : Got (Option Carried)) → WalkPlusOrSame text (behind_part i at next g) (behind_part i at next' g)
  same-part (got n c) = h n c
  same-part (stopped why place) = same-walk

  part-plus : {g g' : Got (Option Carried)} → PlusOrSame (drop at text) g g' → WalkPlusOrSame text (behind_part i at next g) (behind_part i at next' g')
  part-plus (at-plus {i = j} e) = refused-at-plus (sym (get_or-drop at text j 0) ∙ e)
  part-plus (same {g}) = same-part g

module _ (choices : Choices) (book : Book) (current : ℕ) (text : List ℕ) where
  walk-plus : (i at : ℕ) (ss : List Step) (gave : List Gave)
      → WalkPlusOrSame text (walk_with take_number choices book current i at ss (drop at text) gave)
      (walk_with take_number_with_plus choices book current i at ss (drop at text) gave)
  unfolding walk_with
  walk-plus i at [] gave = same-walk
  walk-plus i at (step ∷ ss) gave =
      part-plus text i at _ _
      (λ n c. rw (drop-drop n at text) (walk-plus (suc i) (at + n) ss (record { carried = c; start = at; end = at + n } ∷ gave)))
      (step-plus choices book current step (drop at text))

by-check : (s : List ℕ) (checked : Checked) {w v : Walk} → WalkPlusOrSame s w v
    → RefusedAtPlus s (read_by checked w) ⊎ (read_by checked w ≡ read_by checked v)
by-check s (Ok _) (refused-at-plus {i} {place} e) = inl (record { part = i; place = place; refused = refl; there = e })
by-check s (Ok _) same-walk = inr refl
by-check s (Err why) h = inr refl

pub read-but-for-plus : (choices : Choices) (book : Book) (p s : List ℕ) (current : ℤ)
    → RefusedAtPlus s (read choices book p s current) ⊎ (read choices book p s current ≡ read_with_plus choices book p s current)
unfolding read
read-but-for-plus choices book p s current =
    by-check s (read_check choices.edition p s current) (walk-plus choices book (nat_abs current) s 0 0 (steps choices.pair p) [])

-- parse_offset

-- a number at a place is stopped by a plus there, or it is the Rust's
abbrev NumberPlus : List ℕ → ℕ → Got Signed → Got Signed → Type 0
NumberPlus s i g h = ((g ≡ stopped PlusSign 0) × (get_or s i 0 ≡ plus)) ⊎ (g ≡ h)

two-plus : (i : ℕ) (s : List ℕ) → NumberPlus s i (two_at_with take_number i s) (two_at_with take_number_with_plus i s)
two-plus i s =
    let law = number-but-for-plus Count 2 (drop i s) in
    by-test (plus_taken 2 (drop i s))
    (λ p.
    let first = plus-there 2 (drop i s) (both_true (leb 2 (length (drop i s))) (plus_first (take 2 (drop i s))) p).1 in
    inl (rw p at law, rw add-zero at (sym (get_or-drop i s 0 0) ∙ first)))
    (λ p. inr (rw p at law))

abbrev OffsetPlus : List ℕ → Offset → Offset → Type 0
OffsetPlus s o o' = OffsetAtPlus s 1 o ⊎ OffsetAtPlus s 4 o ⊎ (o ≡ o')

minute-plus : (s : List ℕ) (east : Bool) (hour minute minute' : Got Signed) → NumberPlus s 4 minute minute'
    → OffsetPlus s (hour_and_minute east hour minute) (hour_and_minute east hour minute')
minute-plus s east (stopped why i) minute minute' m = inr (inr refl)
minute-plus s east (got n hour) minute minute' (inl (e, there)) = inr (inl (record { refused = rw e; there = there }))
minute-plus s east (got n hour) minute minute' (inr e) = inr (inr (rw e))

time-plus : (s : List ℕ) (east : Bool) (hour hour' minute minute' : Got Signed) → NumberPlus s 1 hour hour' → NumberPlus s 4 minute minute'
    → OffsetPlus s (hour_and_minute east hour minute) (hour_and_minute east hour' minute')
time-plus s east hour hour' minute minute' (inl (e, there)) m = inl (record { refused = rw e; there = there })
time-plus s east hour hour' minute minute' (inr e) m = rw (← e) (minute-plus s east hour minute minute' m)

-- the checks before them, and Z
checks-plus : (s : List ℕ) (checked : Checked) (z : Bool) (six : Checked) (o o' : Offset) → OffsetPlus s o o'
    → OffsetPlus s (offset_by checked (when z (Ok (pos 0)) (offset_by six o))) (offset_by checked (when z (Ok (pos 0)) (offset_by six o')))
checks-plus s (Err why) z six o o' h = inr (inr refl)
checks-plus s (Ok _) true six o o' h = inr (inr refl)
checks-plus s (Ok _) false (Err why) o o' h = inr (inr refl)
checks-plus s (Ok a) false (Ok b) o o' h = h

pub offset-but-for-plus : (s : List ℕ)
    → OffsetAtPlus s 1 (parse_offset s) ⊎ OffsetAtPlus s 4 (parse_offset s) ⊎ (parse_offset s ≡ parse_offset_with_plus s)
unfolding parse_offset
offset-but-for-plus s =
    checks-plus s (text_check s) (eqb (get_or s 0 0) (code "Z")) (refuse_unless (eqb (length s) 6) (OffsetLength (length s))) _ _
    (time-plus s (eqb (get_or s 0 0) plus) _ _ _ _ (two-plus 1 s) (two-plus 4 s))
