-- What is held lies in the row, and each read that gives something brings its end nearer.
use Rattle.std.proofs.Common.{◌≡◌, ◌-◌, ◌≤◌, length}
use Rattle.pattern_check.proofs.input.first_line.Given as goal

abbrev pub invariant-loop-held : goal.invariant-loop-held
invariant-loop-held g l = (l.held ≤ 65536) × (length l.row ≡ length l.initial.row)

abbrev pub decreases-loop-held : goal.decreases-loop-held
decreases-loop-held g l = 65536 - l.held
