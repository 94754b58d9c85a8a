-- What every symbol of the table has, every role and every part of a pattern has; and what is tested of each of its rules, by
-- computation, is true of the rule of any symbol and count.
use mathlib.Core.Bool.{Bool, true}
use mathlib.Core.List.{List, [], ◌∷◌, map}
use mathlib.Core.Path.{◌≡◌, refl}
use Prim.Native.Nat.{ℕ}
use lib.Dec.{eqb}
use Rattle.meaning.specs.Bytes.{both}
use Rattle.meaning.specs.Rules.{Row, ◌is◌, among, Otherwise, always, fixed_year, otherwise_rule, pick, Symbol, rule_of, role_among, date_symbols, time_symbols, date_role, time_role, or_else, role_of}
use Rattle.meaning.specs.Splitting.{Content, run, quotes, quoted, unclosed, contents}
use Rattle.meaning.specs.Writing.{Step, literal, field, run_step, step_of, steps}
use Rattle.meaning.specs.declared.NameList.{NameList}
use Rattle.meaning.specs.declared.Pair.{Pair}
use Rattle.meaning.specs.declared.Pair.TheVariants.{Full, Date}
use Rattle.meaning.specs.declared.Role.{Role}
use Rattle.meaning.specs.declared.Role.TheVariants as role
use Rattle.meaning.specs.declared.Rule.{Rule}
use Rattle.meaning.specs.declared.Rule.TheVariants.{Number, SkippedNumber, LetterQuarter, SkippedName, MatchedName, Letters, Years, FixedYear, TwoDigitYear, Zone}
use Rattle.laws.proofs.Tests.{both_true, both-are, every, every-weaker, when-is}

abbrev pub RoleHas : (Rule → Type 0) → Role → Type 0
RoleHas P role.Literal = Unit
RoleHas P (role.Symbol rule) = P rule

-- all of the table passes a test of its symbols
abbrev pub table_passes : (Symbol → Bool) → Bool
table_passes test = both (every test date_symbols) (every test time_symbols)

module _ (P : Rule → Type 0) (c : ℕ) (test : Symbol → Bool) (has : (symbol : Symbol) → test symbol ≡ true → P (rule_of symbol c)) where
  pub among-has : (symbols : List Symbol) → every test symbols ≡ true → (b : ℕ) → RoleHas P (role_among symbols b c)
  unfolding role_among every
  among-has [] e b = tt
  among-has (symbol ∷ symbols) e b =
      let t = both_true (test symbol) (every test symbols) e in
      when-is (RoleHas P) (eqb b symbol.letter) (λ _. has symbol t.0) (λ _. among-has symbols t.1 b)

  pub or-else-has : (r s : Role) → RoleHas P r → RoleHas P s → RoleHas P (or_else r s)
  or-else-has role.Literal s h k = k
  or-else-has (role.Symbol rule) s h k = h

  pub role-has : table_passes test ≡ true → (pair : Pair) (b : ℕ) → RoleHas P (role_of pair b c)
  unfolding role_of
  role-has e Full b =
      let t = both_true (every test date_symbols) (every test time_symbols) e in
      or-else-has (date_role b c) (time_role b c) (among-has date_symbols t.0 b) (among-has time_symbols t.1 b)
  role-has e Date b = among-has date_symbols (both_true (every test date_symbols) (every test time_symbols) e).0 b

-- a test of rules: each row's, and that of all other counts; the year of any fixed count passes

abbrev row_passes : (Rule → Bool) → Row → Bool
row_passes test (counts is rule) = test rule

abbrev otherwise_passes : (Rule → Bool) → Otherwise → Bool
otherwise_passes test (always rule) = test rule
otherwise_passes test fixed_year = true

abbrev pub symbol_passes : (Rule → Bool) → Symbol → Bool
symbol_passes test symbol = both (every (row_passes test) symbol.rows) (otherwise_passes test symbol.otherwise)

abbrev pub step_passes : (Rule → Bool) → Step → Bool
step_passes test (literal w lost) = true
step_passes test (field rule) = test rule

-- a test of the names that a rule reads: of a list that is matched, and of one of so many letters
abbrev pub names_pass : (NameList → Bool) → (NameList → ℕ → Bool) → Rule → Bool
names_pass matched letters (Number q least most u z) = true
names_pass matched letters (SkippedNumber q least most) = true
names_pass matched letters LetterQuarter = true
names_pass matched letters (SkippedName l n) = true
names_pass matched letters (MatchedName l) = matched l
names_pass matched letters (Letters l n) = letters l n
names_pass matched letters (Years k) = true
names_pass matched letters (FixedYear k) = true
names_pass matched letters TwoDigitYear = true
names_pass matched letters (Zone zone) = true

module _ (test : Rule → Bool) (fixed : (c : ℕ) → test (FixedYear c) ≡ true) where
  otherwise-passes : (c : ℕ) (o : Otherwise) → otherwise_passes test o ≡ true → test (otherwise_rule c o) ≡ true
  unfolding otherwise_rule
  otherwise-passes c (always rule) h = h
  otherwise-passes c fixed_year h = fixed c

  pick-passes : (c : ℕ) (rows : List Row) (o : Otherwise) → every (row_passes test) rows ≡ true → otherwise_passes test o ≡ true → test (pick c rows o) ≡ true
  unfolding pick every
  pick-passes c [] o h k = otherwise-passes c o k
  pick-passes c (counts is rule ∷ rows) o h k =
      let t = both_true (test rule) (every (row_passes test) rows) h in
      when-is (λ r. test r ≡ true) (among c counts) (λ e. t.0) (λ e. pick-passes c rows o t.1 k)

  symbol-passes : (c : ℕ) (symbol : Symbol) → symbol_passes test symbol ≡ true → test (rule_of symbol c) ≡ true
  unfolding rule_of
  symbol-passes c symbol h =
      let t = both_true (every (row_passes test) symbol.rows) (otherwise_passes test symbol.otherwise) h in
      pick-passes c symbol.rows symbol.otherwise t.0 t.1

  pub role-passes : table_passes (symbol_passes test) ≡ true → (pair : Pair) (b c : ℕ) → RoleHas (λ rule. test rule ≡ true) (role_of pair b c)
  role-passes e pair b c = role-has (λ rule. test rule ≡ true) c (symbol_passes test) (symbol-passes c) e pair b

  run-passes : (r : Role) (b n : ℕ) → RoleHas (λ rule. test rule ≡ true) r → step_passes test (run_step r b n) ≡ true
  run-passes role.Literal b n h = refl
  run-passes (role.Symbol rule) b n h = h

  pub step-passes : table_passes (symbol_passes test) ≡ true → (pair : Pair) (c : Content) → step_passes test (step_of pair c) ≡ true
  unfolding step_of
  step-passes e pair (run b n) = run-passes (role_of pair b n) b n (role-passes e pair b n)
  step-passes e pair (quotes n) = refl
  step-passes e pair (quoted s) = refl
  step-passes e pair (unclosed s) = refl

  all_pass : table_passes (symbol_passes test) ≡ true → (pair : Pair) (cs : List Content) → every (step_passes test) (map (step_of pair) cs) ≡ true
  unfolding every
  all_pass e pair [] = refl
  all_pass e pair (c ∷ cs) = both-are (step_passes test (step_of pair c)) _ (step-passes e pair c) (all_pass e pair cs)

  pub steps-pass : table_passes (symbol_passes test) ≡ true → (pair : Pair) (p : List ℕ) → every (step_passes test) (steps pair p) ≡ true
  unfolding steps
  steps-pass e pair p = all_pass e pair (contents p)

-- where a rule that passes one test passes another, so does the table
module _ (test weaker : Rule → Bool) (implies : (rule : Rule) → test rule ≡ true → weaker rule ≡ true) where
  row-weaker : (row : Row) → row_passes test row ≡ true → row_passes weaker row ≡ true
  row-weaker (counts is rule) h = implies rule h

  otherwise-weaker : (o : Otherwise) → otherwise_passes test o ≡ true → otherwise_passes weaker o ≡ true
  otherwise-weaker (always rule) h = implies rule h
  otherwise-weaker fixed_year h = refl

  symbol-weaker : (symbol : Symbol) → symbol_passes test symbol ≡ true → symbol_passes weaker symbol ≡ true
  symbol-weaker symbol h =
      let t = both_true (every (row_passes test) symbol.rows) (otherwise_passes test symbol.otherwise) h in
      both-are (every (row_passes weaker) symbol.rows) (otherwise_passes weaker symbol.otherwise)
      (every-weaker (row_passes test) (row_passes weaker) row-weaker symbol.rows t.0) (otherwise-weaker symbol.otherwise t.1)

  pub table-weaker : table_passes (symbol_passes test) ≡ true → table_passes (symbol_passes weaker) ≡ true
  table-weaker h =
      let t = both_true (every (symbol_passes test) date_symbols) (every (symbol_passes test) time_symbols) h in
      both-are (every (symbol_passes weaker) date_symbols) (every (symbol_passes weaker) time_symbols)
      (every-weaker (symbol_passes test) (symbol_passes weaker) symbol-weaker date_symbols t.0)
      (every-weaker (symbol_passes test) (symbol_passes weaker) symbol-weaker time_symbols t.1)
