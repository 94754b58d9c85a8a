-- At each turn the line at this place ends where the line at the first one does.
use mathlib.Core.Path.{◌≡◌}
use Rattle.laws.specs.Lists.{line_end}
use Rattle.lists.proofs.lines.line_end.Given as goal

abbrev pub invariant-loop-end : goal.invariant-loop-end
invariant-loop-end l = line_end l.text l.end ≡ line_end l.text l.at
