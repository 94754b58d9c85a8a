-- The first eight letters as one number, and the ninth.
use mathlib.Core.List.{[], ◌∷◌}
use mathlib.Core.Path.{refl}
use native.Mathlib.Omega.{arith}
use Rattle.laws.proofs.Laid.{laid_then}
use Rattle.names.proofs.letters.Laws.{length-bytes, first-letters, nine-letters, length-spelled}
use Rattle.names.proofs.letters.put_spelled.Goals as goal

pub put_bytes-next-requires : goal.put_bytes-next-requires
put_bytes-next-requires c =
    let m = c.cut_letters-spelt in
    omega (arith, length-spelled m.result m.ensures)

pub bounds-out-next : goal.bounds-out-next
bounds-out-next c =
    let m = c.cut_letters-spelt in
    omega (arith, c.put_bytes-next.ensures.end, length-bytes 8 m.result.first, length-spelled m.result m.ensures)

pub overflow_add-result : goal.overflow_add-result
overflow_add-result c =
    let m = c.cut_letters-spelt in
    omega (arith, c.put_bytes-next.ensures.end, length-bytes 8 m.result.first, length-spelled m.result m.ensures)

pub returns-then-spelt-eq9 : goal.returns-then-spelt-eq9
returns-then-spelt-eq9 c =
    let m = c.cut_letters-spelt in
    rw (← m.ensures.0, c.if-spelt-eq9.true, nine-letters)
    (laid_then c.put_bytes-next.ensures (record { end = omega arith; held = refl }))

pub put_bytes-requires : goal.put_bytes-requires
put_bytes-requires c =
    let m = c.cut_letters-spelt in
    omega (arith, length-spelled m.result m.ensures)

pub returns : goal.returns
returns c =
    let m = c.cut_letters-spelt in
    rw (← m.ensures.0, first-letters m.result.length m.result.first (m.result.ninth ∷ []) (omega arith))
    c.put_bytes.ensures
