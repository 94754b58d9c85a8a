-- The word of each rule of the table stands for that rule, and leaves room for a byte behind it.
use mathlib.Core.Bool.{Bool, true}
use mathlib.Core.List.{List, [], ◌∷◌, ◌++◌, map}
use mathlib.Core.Path.{◌≡◌, refl}
use Prim.Native.Nat.{ℕ, ◌+◌, ◌*◌, ◌/◌, ◌%◌, ◌≤◌, ◌<◌}
use native.Mathlib.Omega.{arith}
use lib.Dec.{eqb, ltb}
use borrow.Author.Tests.{ltb-true, eqb-false, lt-leb}
use Rattle.meaning.specs.Rules.{Row, ◌is◌, among, Otherwise, always, fixed_year, otherwise_rule, pick, Symbol, rule_of, role_among, year, date_symbols, time_symbols, date_role, time_role, or_else, role_of}
use Rattle.meaning.specs.declared.Pair.{Pair}
use Rattle.meaning.specs.declared.Pair.TheVariants.{Full, Date}
use Rattle.meaning.specs.declared.Role.{Role}
use Rattle.meaning.specs.declared.Role.TheVariants as role
use Rattle.meaning.specs.declared.Rule.{Rule}
use Rattle.meaning.specs.declared.Rule.TheVariants.{FixedYear}
use Rattle.laws.proofs.Table.{RoleHas}
use Rattle.laws.proofs.Tests.{both_true, every, when-is}
use Rattle.words.specs.Packing.{rule_word}
use Rattle.words.specs.Pieces.{pieces_in, pieces_of_code, short_in}
use Rattle.words.specs.Coding.{rule_of_kind, quantity_in, list_in, unit_in}
use Rattle.words.specs.declared.pieces.Piece.TheVariants as piece
use Rattle.words.proofs.WordFields.{field_is}

pub record Stands (rule : Rule) : Type 0 where
  pub pieces : pieces_in (rule_word rule) ≡ piece.Symbol rule ∷ []
  pub small : rule_word rule < 72057594037927936

-- the rules that stand in the table, of all symbols but the year's at the counts that have no row
abbrev row_rules : List Row → List Rule
row_rules [] = []
row_rules (counts is rule ∷ rows) = rule ∷ row_rules rows

abbrev other_rules : Otherwise → List Rule
other_rules (always rule) = rule ∷ []
other_rules fixed_year = []

abbrev rules_of : List Symbol → List Rule
rules_of [] = []
rules_of (symbol ∷ symbols) = row_rules symbol.rows ++ (other_rules symbol.otherwise ++ rules_of symbols)

abbrev is_small : Rule → Bool
is_small rule = ltb (rule_word rule) 72057594037927936

abbrev table_rules : List Rule
table_rules = rules_of date_symbols ++ rules_of time_symbols

table-pieces : map (λ rule. pieces_in (rule_word rule)) table_rules ≡ map (λ rule. piece.Symbol rule ∷ []) table_rules
unfolding pieces_in pieces_of_code short_in rule_of_kind quantity_in list_in unit_in rule_word
table-pieces = refl

table-small : every is_small table_rules ≡ true
unfolding every rule_word
table-small = refl

-- lifted to each of them

abbrev AllStand : List Rule → Type 0
AllStand [] = Unit
AllStand (rule ∷ rules) = Stands rule × AllStand rules

all-stand : (rules : List Rule) → map (λ rule. pieces_in (rule_word rule)) rules ≡ map (λ rule. piece.Symbol rule ∷ []) rules → every is_small rules ≡ true
    → AllStand rules
unfolding every
all-stand [] e h = tt
all-stand (rule ∷ rules) e h =
    let t = both_true (is_small rule) (every is_small rules) h in
    (record { pieces = cc; small = ltb-true (rule_word rule) 72057594037927936 t.0 }, all-stand rules (cc) t.1)

stand-apart : (a b : List Rule) → AllStand (a ++ b) → AllStand a × AllStand b
stand-apart [] b h = (tt, h)
stand-apart (rule ∷ a) b h = let t = stand-apart a b h.1 in ((h.0, t.0), t.1)

table-stands : AllStand (rules_of date_symbols) × AllStand (rules_of time_symbols)
table-stands = stand-apart (rules_of date_symbols) (rules_of time_symbols) (all-stand table_rules table-pieces table-small)

fixed-stands : (c : ℕ) → 5 ≤ c → c ≤ 256 → Stands (FixedYear c)
unfolding rule_word pieces_in pieces_of_code
fixed-stands c long few =
    let e : (29 + 32 * c) % 32 ≡ 29 = omega arith in
    let n : (29 + 32 * c) / 32 % 512 ≡ c = field_is 32 512 29 c 0 _ (omega arith) (omega arith) (omega arith) in
    record { pieces = rw (e, n, lt-leb c 4 (omega arith)); small = omega arith }

module _ (c : ℕ) where
  row-stands : (rows : List Row) (o : Otherwise) → AllStand (row_rules rows) → Stands (otherwise_rule c o) → Stands (pick c rows o)
  unfolding pick
  row-stands [] o h k = k
  row-stands (counts is rule ∷ rows) o h k = when-is Stands (among c counts) (λ _. h.0) (λ _. row-stands rows o h.1 k)

  -- what is left to show of symbols: the year, at the counts that have no row
  abbrev LeftOf : Otherwise → Symbol → Type 0
  LeftOf (always rule) symbol = Unit
  LeftOf fixed_year symbol = AllStand (row_rules symbol.rows) → Stands (rule_of symbol c)

  abbrev Left : List Symbol → Type 0
  Left [] = Unit
  Left (symbol ∷ symbols) = LeftOf symbol.otherwise symbol × Left symbols

  picked-stands : (symbol : Symbol) (o : Otherwise) → symbol.otherwise ≡ o → AllStand (row_rules symbol.rows) → AllStand (other_rules o) → LeftOf o symbol
      → Stands (rule_of symbol c)
  unfolding rule_of otherwise_rule
  picked-stands symbol (always rule) e h k l = rw e (row-stands symbol.rows (always rule) h k.0)
  picked-stands symbol fixed_year e h k l = l h

  among-stands : (symbols : List Symbol) → AllStand (rules_of symbols) → Left symbols → (b : ℕ) → RoleHas Stands (role_among symbols b c)
  unfolding role_among
  among-stands [] h l b = tt
  among-stands (symbol ∷ symbols) h l b =
      let t = stand-apart (row_rules symbol.rows) _ h in
      let u = stand-apart (other_rules symbol.otherwise) (rules_of symbols) t.1 in
      when-is (RoleHas Stands) (eqb b symbol.letter) (λ _. picked-stands symbol symbol.otherwise refl t.0 u.0 l.0)
      (λ _. among-stands symbols u.1 l.1 b)

  year-stands : 0 < c → c ≤ 256 → AllStand (row_rules year.rows) → Stands (rule_of year c)
  unfolding rule_of pick otherwise_rule
  year-stands some few h =
      when-is Stands (eqb c 2) (λ _. h.0)
      (λ n2. when-is Stands (eqb c 1) (λ _. h.1.0)
      (λ n1. when-is Stands (eqb c 3) (λ _. h.1.1.0)
      (λ n3. when-is Stands (eqb c 4) (λ _. h.1.1.1.0)
      (λ n4.
      let a = eqb-false c 1 n1 in
      let b = eqb-false c 2 n2 in
      let d = eqb-false c 3 n3 in
      let e = eqb-false c 4 n4 in
      fixed-stands c (omega arith) few))))

  or-else : (r s : Role) → RoleHas Stands r → RoleHas Stands s → RoleHas Stands (or_else r s)
  or-else role.Literal s h k = k
  or-else (role.Symbol rule) s h k = h

  date-stands : (b : ℕ) → 0 < c → c ≤ 256 → RoleHas Stands (date_role b c)
  unfolding date_role
  date-stands b some few = among-stands date_symbols table-stands.0 (tt, (year-stands some few, (tt, (tt, (tt, (tt, (tt, (tt, tt)))))))) b

  time-stands : (b : ℕ) → RoleHas Stands (time_role b c)
  unfolding time_role
  time-stands b = among-stands time_symbols table-stands.1 (tt, (tt, (tt, (tt, (tt, (tt, (tt, (tt, (tt, (tt, (tt, tt))))))))))) b

  pub role-stands : (pair : Pair) (b : ℕ) → 0 < c → c ≤ 256 → RoleHas Stands (role_of pair b c)
  unfolding role_of
  role-stands Full b some few = or-else (date_role b c) (time_role b c) (date-stands b some few) (time-stands b)
  role-stands Date b some few = date-stands b some few

pub rule-stands : (pair : Pair) (b n : ℕ) → n ≤ 256 → 0 < n → {rule : Rule} → role_of pair b n ≡ role.Symbol rule → Stands rule
rule-stands pair b n few some e = rw e at (role-stands n pair b some few)
