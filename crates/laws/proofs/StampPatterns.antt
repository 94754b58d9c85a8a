-- The text of a stamp is what a pattern writes for its fields, whatever else the field record holds: with no fraction and no mark it is
-- `yyyy-MM-dd'T'HH:mm:ss_xXX`.
use Rattle.std.specs.Prelude.{Ok}
use mathlib.Core.Bool.{Bool, true, false}
use mathlib.Core.List.{List, [], ◌∷◌, ◌++◌, append_assoc, append-nil}
use mathlib.Core.Path.{◌≡◌, refl, sym, ◌∙◌}
use Prim.Native.Nat.{ℕ}
use lib.Dec.{eqb}
use lib.IntN.{nat_abs}
use Rattle.meaning.specs.Answers.{byte_check, pattern_check}
use Rattle.meaning.specs.Bytes.{bytes, num}
use Rattle.meaning.specs.Names.{Book}
use Rattle.meaning.specs.Rules as rules
use Rattle.meaning.specs.Splitting as splitting
use Rattle.meaning.specs.Stamps.{stamp_fields, stamp_fraction, stamp_offset, stamp_text}
use Rattle.meaning.specs.Whole.{text}
use Rattle.meaning.specs.Writing.{is_negative, quantity_of, signed_text, zone_text, rule_text, step_of, steps, step_text, texts}
use Rattle.meaning.specs.declared.Fields.{Fields}
use Rattle.meaning.specs.declared.Group.TheVariants.{Never, Always}
use Rattle.meaning.specs.declared.Pair.TheVariants.{Full}
use Rattle.meaning.specs.declared.Quantity.TheVariants.{Hour0To23, Minute, Second, Fraction}
use Rattle.meaning.specs.declared.Stamp.{Stamp}

-- by whether the second is whole, with no fraction, and whether the offset is unknown
abbrev pub stamp_pattern : Bool → Bool → List ℕ
stamp_pattern true false = bytes "yyyy-MM-dd'T'HH:mm:ssXXX"
stamp_pattern true true = bytes "yyyy-MM-dd'T'HH:mm:ss-00:00"
stamp_pattern false false = bytes "yyyy-MM-dd'T'HH:mm:ss.nnnnnXXX"
stamp_pattern false true = bytes "yyyy-MM-dd'T'HH:mm:ss.nnnnn-00:00"

-- a field record with the fields of a stamp
pub record FieldsOf (t : Stamp) (f : Fields) : Type 0 where
  pub year : f.year ≡ t.year
  pub month : f.month ≡ t.month
  pub day : f.day ≡ t.day
  pub nanos : f.nanos ≡ t.nanos
  pub offset : f.offset ≡ t.offset

abbrev pub whole_second : Stamp → Bool
whole_second t = eqb (quantity_of (Fraction 9) (stamp_fields t)) 0

-- the pieces, as the parts of a pattern write them and as a stamp has them
regroup : (y mo d h mi se fr z : List ℕ) → y ++ (mo ++ (d ++ (h ++ (mi ++ (se ++ (fr ++ (z ++ []))))))) ≡ (y ++ mo ++ d) ++ (h ++ mi ++ se) ++ fr ++ z
regroup y mo d h mi se fr z = simp (append_assoc, append-nil)

-- what the pattern writes
abbrev pub parts_text : Fields → List ℕ → List ℕ → List ℕ
parts_text f fr z =
    signed_text 4 f.year ++ 45 ∷ (num 2 f.month ++ 45 ∷ (num 2 f.day ++ 84 ∷ (num 2 (quantity_of Hour0To23 f) ++ 58 ∷ (num 2 (quantity_of Minute f) ++ 58 ∷ (num 2 (quantity_of Second f) ++ (fr ++ (z ++ [])))))))

abbrev fraction_part : Bool → Fields → List ℕ
fraction_part true f = []
fraction_part false f = 46 ∷ num 9 (quantity_of (Fraction 9) f)

abbrev offset_part : Bool → Fields → List ℕ
offset_part true f = bytes "-00:00"
offset_part false f = zone_text true true Always Never f.offset

pattern-text : (book : Book) (f : Fields) (whole unknown : Bool) → text Full book (stamp_pattern whole unknown) f ≡ parts_text f (fraction_part whole f) (offset_part unknown f)
unfolding text steps texts step_text step_of rule_text bytes splitting.contents splitting.outside splitting.elements rules.role_of rules.role_among rules.rule_of rules.pick rules.otherwise_rule
pattern-text book f true false = refl
pattern-text book f true true = refl
pattern-text book f false false = refl
pattern-text book f false true = refl

pub stamp-pieces : (t : Stamp) → is_negative t.year ≡ false → stamp_text t ≡ parts_text (stamp_fields t) (stamp_fraction t) (stamp_offset t)
unfolding stamp_text signed_text
stamp-pieces t positive =
    rw positive
    (sym (regroup (num 4 (nat_abs t.year)) (45 ∷ num 2 t.month) (45 ∷ num 2 t.day) (84 ∷ num 2 (quantity_of Hour0To23 (stamp_fields t))) (58 ∷ num 2 (quantity_of Minute (stamp_fields t))) (58 ∷ num 2 (quantity_of Second (stamp_fields t))) (stamp_fraction t) (stamp_offset t)))

fraction-is : (t : Stamp) (whole : Bool) → whole_second t ≡ whole → stamp_fraction t ≡ fraction_part whole (stamp_fields t)
unfolding stamp_fraction
fraction-is t true e = rw e
fraction-is t false e = rw e

offset-is : (t : Stamp) (unknown : Bool) → t.unknown ≡ unknown → stamp_offset t ≡ offset_part unknown (stamp_fields t)
unfolding stamp_offset
offset-is t true e = rw e
offset-is t false e = rw e

-- the fields of a stamp decide the parts
same_parts : (t : Stamp) (f : Fields) → FieldsOf t f → (whole unknown : Bool)
    → parts_text f (fraction_part whole f) (offset_part unknown f) ≡ parts_text (stamp_fields t) (fraction_part whole (stamp_fields t)) (offset_part unknown (stamp_fields t))
unfolding quantity_of
same_parts t f same true true = rw (same.year, same.month, same.day, same.nanos)
same_parts t f same true false = rw (same.year, same.month, same.day, same.nanos, same.offset)
same_parts t f same false true = rw (same.year, same.month, same.day, same.nanos)
same_parts t f same false false = rw (same.year, same.month, same.day, same.nanos, same.offset)

pub stamp-by-pattern : (book : Book) (t : Stamp) (f : Fields) → FieldsOf t f → is_negative t.year ≡ false
    → text Full book (stamp_pattern (whole_second t) t.unknown) f ≡ stamp_text t
stamp-by-pattern book t f same positive =
    pattern-text book f (whole_second t) t.unknown
    ∙ same_parts t f same (whole_second t) t.unknown
    ∙ rw (← fraction-is t (whole_second t) refl, ← offset-is t t.unknown refl) (sym (stamp-pieces t positive))

pub pattern-fine : (whole unknown : Bool) → pattern_check (stamp_pattern whole unknown) ≡ Ok tt
unfolding pattern_check byte_check bytes splitting.contents splitting.outside splitting.elements
pattern-fine true true = refl
pattern-fine true false = refl
pattern-fine false true = refl
pattern-fine false false = refl
