-- A byte, or none.
use borrow.Author.Tests.{eq-eqb, ne_eqb}
use mathlib.Core.Bool.{true, false}
use mathlib.Core.Path.{◌≡◌, sym, ◌∙◌, refl}
use lib.Dec.{eqb}
use native.Mathlib.Omega.{arith}
use Rattle.words.specs.Fields.{last_byte}
use Rattle.word_writer.proofs.writing.put_behind.Goals as goal

pub returns-then-b-eq0 : goal.returns-then-b-eq0
returns-then-b-eq0 c =
    let none : eqb (last_byte c.args.w) 0 ≡ true = eq-eqb (last_byte c.args.w) 0 (sym c.last_byte-b.ensures ∙ c.if-b-eq0.true) in
    rw none (record { end = omega arith; held = refl })

pub returns : goal.returns
returns c =
    let there : eqb (last_byte c.args.w) 0 ≡ false = ne_eqb (last_byte c.args.w) 0 (λ e. c.if-b-eq0.false (c.last_byte-b.ensures ∙ e)) in
    rw (there, ← c.last_byte-b.ensures) c.put_byte.ensures
