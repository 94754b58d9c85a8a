-- The first eight letters as one number, and the ninth.
use mathlib.Core.List.{[], ◌∷◌}
use mathlib.Core.Path.{◌≡◌, sym, ◌∙◌}
use native.Mathlib.Omega.{arith}
use borrow.Author.Tests.{eqb-true}
use Rattle.names.proofs.letters.Laws.{first-letters, nine-letters, begins-few, begins-nine}
use Rattle.names.proofs.letters.same_letters.Goals as goal

pub returns-then-spelt-lt9 : goal.returns-then-spelt-lt9
returns-then-spelt-lt9 c =
    λ e.
    let a = c.args in
    begins-few a.spelt.length a.first a.at a.text.now (omega arith) (omega arith) c.requires.2 ∙ c.same_bytes.ensures e
    ∙ sym (first-letters a.spelt.length a.spelt.first (a.spelt.ninth ∷ []) (omega arith))

pub returns : goal.returns
returns c =
    λ e.
    let a = c.args in
    let nine : a.spelt.length ≡ 9 = omega arith in
    rw (nine, nine-letters a.spelt.first a.spelt.ninth)
    (begins-nine a.first a.at a.text.now (omega arith) c.requires.2 ∙ rw (eqb-true a.first a.spelt.first e, c.if-text-at-2.false))
