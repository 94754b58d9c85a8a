-- The check of a text's bytes is the search for the first that is refused.
use Rattle.std.proofs.Common.{Option, Some, None}
use Rattle.std.specs.Prelude.{not, nat_lt, Ok, Err}
use Rattle.std.specs.List.{position, position_from}
use Rattle.std.proofs.lemmas.Iterator.Adapters.{position_from-zero}
use Rattle.std.proofs.lemmas.Bool.Decides.{nat_tests}
use mathlib.Core.List.{List, [], ◌∷◌}
use mathlib.Core.Path.{◌≡◌, refl, sym, ap, ◌∙◌}
use Prim.Native.Nat.{ℕ, suc, ◌≤◌, ◌<◌}
use native.Mathlib.Numerals.{add-one}
use native.Mathlib.Omega.{arith}
use lib.ListN.{length}
use borrow.Author.Tests.{le-leb, lt-leb}
use Rattle.laws.proofs.Tests.{by-test}
use Rattle.meaning.specs.Answers.{within, byte_check, text_check}
use Rattle.meaning.specs.Results.{Checked}
use Rattle.meaning.specs.declared.Refusal.TheVariants.{TextTooLong, TextByte}
use Rattle.reader.proofs.checks.search_text.Goals as goal

long-text : (s : List ℕ) → 2048 < length s → text_check s ≡ Err (TextTooLong (length s))
unfolding text_check
long-text s h = rw (lt-leb (length s) 2048 h)

short-text : (s : List ℕ) → length s ≤ 2048 → text_check s ≡ byte_check TextByte 0 127 0 s
unfolding text_check
short-text s h = rw (le-leb (length s) 2048 h)

-- what closes the search
abbrev refused_at : Option ℕ → Checked
refused_at None = Ok tt
refused_at (Some i) = Err (TextByte i)

allowed : (b : ℕ) → within 0 127 b ≡ not (nat_lt 127 b)
allowed b = grind (arith, nat_tests)

byte_check-from : (i : ℕ) (s : List ℕ) → byte_check TextByte 0 127 i s ≡ refused_at (position_from (λ b. nat_lt 127 b) i s)
unfolding byte_check
byte_check-from i [] = refl
byte_check-from i (b ∷ s) =
    by-test (nat_lt 127 b) (λ e. let w = allowed b ∙ ap not e in rw (w, e, byte_check))
    (λ e. let w = allowed b ∙ ap not e in rw (w, e, byte_check, add-one i) (byte_check-from (suc i) s))

text_check-position : (s : List ℕ) → length s ≤ 2048 → text_check s ≡ refused_at (position (λ b. nat_lt 127 b) s)
text_check-position s h = short-text s h ∙ byte_check-from 0 s ∙ ap refused_at (sym (position_from-zero (λ b. nat_lt 127 b) s))

pub returns-then-n-gt2048 : goal.returns-then-n-gt2048
returns-then-n-gt2048 c = sym (long-text c.args.text.now c.if-n-gt2048.true)

pub returns-in-Some : goal.returns-in-Some
returns-in-Some c = sym (text_check-position c.args.text.now c.if-n-gt2048.false ∙ ap refused_at (sym c.first_above.ensures ∙ c.in-Some.is))

pub returns-in-None : goal.returns-in-None
returns-in-None c = sym (text_check-position c.args.text.now c.if-n-gt2048.false ∙ ap refused_at (sym c.first_above.ensures ∙ c.in-None.is))
