-- A byte by itself, or all of the inside.
use mathlib.Core.Bool.{Bool, false}
use mathlib.Core.List.{List}
use mathlib.Core.Path.{◌≡◌, refl, sym, ◌∙◌}
use Prim.Native.Nat.{ℕ, ◌-◌, ◌≤◌}
use native.Mathlib.Omega.{arith}
use lib.ListN.{length}
use Rattle.pattern.specs.First.{unescaped}
use Rattle.words.proofs.parts.Words.{some-inside, one-held, one_word, lost-is-held, many-are-held, held-inside, held_word_lem}
use Rattle.words.specs.Packing.{is_one, held_inside}
use Rattle.words.proofs.parts.hold.Goals as goal
use Rattle.words.proofs.parts.hold.Goals.{else-n-eq1-via-then-n-eq1+else-not-lost, else-n-eq1-via-else-n-eq1}

-- of an inside that is not just one byte, as many bytes are held as it has
few : (src : List ℕ) (lost : Bool) (n before : ℕ) → n ≡ length (unescaped src) → is_one (unescaped src) lost ≡ false
    → length (held_inside (unescaped src) lost) ≤ before → n ≤ before
few src lost n before e w h = omega (arith, e, rw (held-inside (unescaped src) lost w) at h)

pub bounds-src-0 : goal.bounds-src-0
bounds-src-0 c = some-inside c.args.src.now (sym c.unescaped_length-n.ensures ∙ c.if-n-eq1.true)

pub returns-then-not-lost : goal.returns-then-not-lost
returns-then-not-lost c =
    let src = c.args.src.now in
    let one = sym c.unescaped_length-n.ensures ∙ c.if-n-eq1.true in
    rw (c.if-not-lost.true)
    (c.times_word.ensures ∙ one_word src c.args.before one, rw (one-held (unescaped src) one) (record { start = omega arith; laid = refl }))

pub overflow_sub-at : goal.overflow_sub-at
overflow_sub-at c =
    let whole : is_one (unescaped c.args.src.now) c.args.lost ≡ false =
    elim c.else-n-eq1.branch [
      | else-n-eq1-via-then-n-eq1+else-not-lost w ↦ lost-is-held (unescaped c.args.src.now) c.args.lost w.if-not-lost.false
      | else-n-eq1-via-else-n-eq1 w ↦ many-are-held (unescaped c.args.src.now) c.args.lost c.unescaped_length-n.result c.unescaped_length-n.ensures w.if-n-eq1.false
    ] in
    let fits = few c.args.src.now c.args.lost c.unescaped_length-n.result c.args.before c.unescaped_length-n.ensures whole c.requires.0 in
    fits

pub lay_held-requires : goal.lay_held-requires
lay_held-requires c =
    let whole : is_one (unescaped c.args.src.now) c.args.lost ≡ false =
    elim c.else-n-eq1.branch [
      | else-n-eq1-via-then-n-eq1+else-not-lost w ↦ lost-is-held (unescaped c.args.src.now) c.args.lost w.if-not-lost.false
      | else-n-eq1-via-else-n-eq1 w ↦ many-are-held (unescaped c.args.src.now) c.args.lost c.unescaped_length-n.result c.unescaped_length-n.ensures w.if-n-eq1.false
    ] in
    let fits = few c.args.src.now c.args.lost c.unescaped_length-n.result c.args.before c.unescaped_length-n.ensures whole c.requires.0 in
    omega (arith, c.unescaped_length-n.ensures, c.requires)

pub held_word-requires : goal.held_word-requires
held_word-requires c =
    let whole : is_one (unescaped c.args.src.now) c.args.lost ≡ false =
    elim c.else-n-eq1.branch [
      | else-n-eq1-via-then-n-eq1+else-not-lost w ↦ lost-is-held (unescaped c.args.src.now) c.args.lost w.if-not-lost.false
      | else-n-eq1-via-else-n-eq1 w ↦ many-are-held (unescaped c.args.src.now) c.args.lost c.unescaped_length-n.result c.unescaped_length-n.ensures w.if-n-eq1.false
    ] in
    let fits = few c.args.src.now c.args.lost c.unescaped_length-n.result c.args.before c.unescaped_length-n.ensures whole c.requires.0 in
    (omega (arith, c.requires), omega (arith, c.requires))

pub returns : goal.returns
returns c =
    let inside = unescaped c.args.src.now in
    let n = c.unescaped_length-n in
    let whole : is_one (unescaped c.args.src.now) c.args.lost ≡ false =
    elim c.else-n-eq1.branch [
      | else-n-eq1-via-then-n-eq1+else-not-lost w ↦ lost-is-held (unescaped c.args.src.now) c.args.lost w.if-not-lost.false
      | else-n-eq1-via-else-n-eq1 w ↦ many-are-held (unescaped c.args.src.now) c.args.lost c.unescaped_length-n.result c.unescaped_length-n.ensures w.if-n-eq1.false
    ] in (
      c.held_word.ensures ∙ rw (held_word_lem inside c.args.lost (c.args.before - n.result) whole, n.ensures),
      rw (held-inside inside c.args.lost whole) (record { start = rw n.ensures; laid = c.lay_held.ensures }),
    )
