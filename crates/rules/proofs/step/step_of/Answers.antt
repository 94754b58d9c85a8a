-- Each kind of part.
use mathlib.Core.Path.{◌≡◌, ap}
use native.Mathlib.Omega.{arith}
use Prim.Native.Nat.{◌+◌, ◌-◌}
use Rattle.meaning.specs.Splitting.{length_of}
use Rattle.meaning.specs.Writing.{step_of}
use Rattle.meaning.specs.declared.Part.{Part}
use Rattle.rules.proofs.step.step_of.Goals as goal

pub returns-in-Run : goal.returns-in-Run
unfolding step_of
returns-in-Run c =
    let run = c.run_step.ensures in
    let p = c.args.pattern.now in
    record { meant = rw c.in-Run.is (run.meant p); held = run.held p }

pub returns-in-Quotes : goal.returns-in-Quotes
unfolding step_of length_of
returns-in-Quotes c =
    let s = c in
    let kind = c.in-Quotes.is in
    let whole = ap (λ (part : Part). part.length) s.requires.itself in
    record { meant = rw kind; held = omega (arith, rw kind at whole, s.requires.some) }

pub returns-in-Quoted : goal.returns-in-Quoted
unfolding step_of
returns-in-Quoted c =
    let s = c in
    let kind = c.in-Quoted.is in
    let two = s.requires.two kind in
    let size : s.args.part.start + s.args.part.length - 1 - (s.args.part.start + 1) ≡ s.args.part.length - 2 = omega arith in
    record { meant = rw (kind, size); held = (omega (arith, two), omega (arith, s.requires.fits)) }

pub returns-in-Open : goal.returns-in-Open
unfolding step_of
returns-in-Open c =
    let s = c in
    let kind = c.in-Open.is in
    record { meant = rw kind; held = (omega (arith, s.requires.fits, s.requires.some), s.requires.lost kind) }
