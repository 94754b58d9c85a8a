-- What steps write: an unclosed part, a short number, a long year.
use mathlib.Core.List.{List}
use mathlib.Core.Path.{◌≡◌}
use Prim.Native.Nat.{ℕ, ◌<◌}
use native.Mathlib.Omega.{arith}
use lib.Dec.{leb}
use Rattle.format.specs.Literals.{open_text}
use Rattle.laws.proofs.Fields.{Allowed}
use Rattle.laws.proofs.Tests.{by-test}
use Rattle.meaning.specs.Names.{Book}
use Rattle.meaning.specs.Writing.{literal, ends_in_quote, quantity_of, signed_text, rule_text, step_text}
use Rattle.meaning.specs.declared.Fields.{Fields}
use Rattle.pattern.specs.First.{unescaped}
use Rattle.rules.specs.ShortRules.{short_quantity}
use Rattle.rules.specs.Steps.{long_year}
use Rattle.rules.specs.declared.short.Short.{Short}
use Rattle.rules.specs.declared.short.Short.TheVariants.{Month, Day, Hour, Minute, Second}

pub open-text : (book : Book) (f : Fields) (s : List ℕ) → step_text book f (literal (unescaped s) (ends_in_quote (unescaped s))) ≡ open_text s
unfolding step_text open_text
open-text book f s = by-test (ends_in_quote (unescaped s)) (λ e. rw e) (λ e. rw e)

-- a short number has at most two digits
pub short-small : (s : Short) (f : Fields) → Allowed f → quantity_of (short_quantity s) f < 100
unfolding quantity_of
short-small Month f ok = omega arith
short-small Day f ok = omega arith
short-small Hour f ok = omega arith
short-small Minute f ok = omega arith
short-small Second f ok = omega arith

pub year-text : (book : Book) (c : ℕ) (f : Fields) → rule_text book (long_year c) f ≡ signed_text c f.year
unfolding rule_text
year-text book c f = by-test (leb c 4) (λ e. rw e) (λ e. rw e)
