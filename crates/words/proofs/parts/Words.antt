-- The word of a run, from the step that was chosen for it, and of an inside.
use mathlib.Core.Bool.{Bool, true, false, not}
use mathlib.Core.List.{List, [], ◌∷◌}
use mathlib.Core.Path.{◌≡◌, refl, sym}
use Prim.Native.Nat.{ℕ, ◌+◌, ◌-◌, ◌*◌, ◌/◌, ◌≤◌, ◌<◌}
use native.Mathlib.Omega.{arith}
use borrow.Author.Tests.{ne_eqb}
use lib.Dec.{eqb}
use lib.ListN.{length, get_or, take, drop}
use Rattle.laws.proofs.Tests.{both-no, true-is-not-false}
use Rattle.meaning.specs.Rules.{role_of}
use Rattle.meaning.specs.Bytes.{quote}
use Rattle.meaning.specs.Splitting.{run, quotes, quoted, unclosed}
use Rattle.meaning.specs.Writing as meaning
use Rattle.meaning.specs.Writing.{ends_in_quote}
use Rattle.meaning.specs.declared.Kind.TheVariants.{Run, Quotes, Quoted, Open}
use Rattle.meaning.specs.declared.Pair.{Pair}
use Rattle.meaning.specs.declared.Part.{Part}
use Rattle.meaning.specs.declared.Role.{Role}
use Rattle.meaning.specs.declared.Role.TheVariants.{Literal, Symbol}
use Rattle.meaning.specs.declared.Rule.{Rule}
use Rattle.pattern.proofs.parts.Inside.{unescaped-turn}
use Rattle.pattern.proofs.parts.Walks.{rest_all}
use Rattle.pattern.specs.First.{unescaped, content_of}
use Rattle.pattern.specs.Next.{Next}
use Rattle.rules.specs.Steps.{means, Chosen}
use Rattle.rules.specs.declared.step.Step.{Step}
use Rattle.rules.specs.declared.step.Step.TheVariants as step
use Rattle.words.proofs.TableWords.{role-stands}
use Rattle.words.specs.Laying.{role_meant}
use Rattle.words.specs.Packing.{bit, rule_word, times_word, is_one, held_word, held_inside}

-- a step is a literal just where its role is one, and has its role's rule
abbrev role_in : meaning.Step → Role
role_in (meaning.literal s lost) = Literal
role_in (meaning.field rule) = Symbol rule

run-role : (r : Role) (b n : ℕ) → role_in (meaning.run_step r b n) ≡ r
run-role Literal b n = refl
run-role (Symbol rule) b n = refl

step-role : (p : List ℕ) (s : Step) → role_in (means p s) ≡ role_meant s
step-role p (step.Times b n) = refl
step-role p (step.Quoted from to) = refl
step-role p (step.Open from) = refl
step-role p (step.Short number c) = refl
step-role p (step.Year c) = refl
step-role p step.MonthAbbreviated = refl
step-role p step.MonthWide = refl
step-role p step.WdayWide = refl
step-role p (step.Run r b n) = run-role r b n

-- what was chosen for a run is what the table has for it
pub role-meant : {pair : Pair} {p : List ℕ} {part : Part} {s : Step} → Chosen pair p part s → part.kind ≡ Run
    → role_meant s ≡ role_of pair (get_or p part.start 0) part.length
unfolding meaning.step_of
role-meant {pair} {p} {part} {s} h e =
    let m : means p s ≡ meaning.run_step (role_of pair (get_or p part.start 0) part.length) (get_or p part.start 0) part.length = rw e at h.meant in
    rw (← step-role p s, m, run-role)

-- the word of a rule of the table has room for a byte behind it
pub rule-small : (rule : Rule) (pair : Pair) (b n : ℕ) → 0 < n → n ≤ 256 → role_of pair b n ≡ Symbol rule → rule_word rule < 72057594037927936
rule-small rule pair b n some few e = (rw e at (role-stands n pair b some few)).small

pub is-not : (b : Bool) → not b ≡ true → b ≡ false
is-not true h = true-is-not-false (sym h)
is-not false h = refl

pub is-so : (b : Bool) → not b ≡ false → b ≡ true
is-so true h = refl
is-so false h = true-is-not-false h

-- one byte that is not lost is a word by itself

pub some-inside : (src : List ℕ) → length (unescaped src) ≡ 1 → 0 < length src
unfolding unescaped
some-inside [] h = omega arith
some-inside (b ∷ src) h = omega arith

pub one-held : (s : List ℕ) → length s ≡ 1 → held_inside s false ≡ []
one-held s h = rw h

pub one_word : (src : List ℕ) (at : ℕ) → length (unescaped src) ≡ 1 → times_word (get_or src 0 0) 1 ≡ held_word at (unescaped src) false
one_word src at h = rw (h, unescaped-turn src 0 (some-inside src h))

-- any other inside is held whole

pub lost-is-held : (s : List ℕ) (lost : Bool) → lost ≡ true → is_one s lost ≡ false
lost-is-held s lost e = rw e (both-no (eqb (length s) 1))

pub many-are-held : (s : List ℕ) (lost : Bool) (n : ℕ) → n ≡ length s → (n ≡ 1 → ⊥) → is_one s lost ≡ false
many-are-held s lost n e h = rw (← e, ne_eqb n 1 h)

pub held-inside : (s : List ℕ) (lost : Bool) → is_one s lost ≡ false → held_inside s lost ≡ s
held-inside s lost e = rw e

pub held_word_lem : (s : List ℕ) (lost : Bool) (at : ℕ) → is_one s lost ≡ false
    → held_word at s lost ≡ 31 + 32 * length s + 16384 * at + 8388608 * bit lost
held_word_lem s lost at e = rw e

-- what a part of each kind holds, as the code has it

module _ (p : List ℕ) (part : Part) where
  pub run-content : part.kind ≡ Run → content_of p part ≡ run (get_or p part.start 0) part.length
  run-content e = rw e

  pub quotes-content : part.kind ≡ Quotes → content_of p part ≡ quotes (part.length / 2)
  quotes-content e = rw e

  abbrev pub inside_quoted : List ℕ
  inside_quoted = take (part.start + part.length - 1 - (part.start + 1)) (drop (part.start + 1) p)

  pub quoted-content : part.kind ≡ Quoted → content_of p part ≡ quoted (unescaped inside_quoted)
  quoted-content e =
      let k : part.start + part.length - 1 - (part.start + 1) ≡ part.length - 2 = omega arith in
      rw (e, k)

  abbrev pub inside_open : List ℕ
  inside_open = take (length p - (part.start + 1)) (drop (part.start + 1) p)

  pub open-content : part.kind ≡ Open → content_of p part ≡ unclosed (unescaped inside_open)
  open-content e = rw (e, rest_all (part.start + 1) p)

  pub open-lost : Next p part.start part → part.kind ≡ Open
      → eqb (get_or inside_open (length inside_open - 1) 0) quote ≡ ends_in_quote (unescaped inside_open)
  open-lost n e = rw (rest_all (part.start + 1) p) (sym (n.lost e).told)
