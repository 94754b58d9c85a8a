use native.Mathlib.Omega.{arith}
use Rattle.laws.proofs.Lists.{end-inside}
use Rattle.lists.proofs.lines.line_at.Goals as goal

pub next_line-requires : goal.next_line-requires
next_line-requires c = omega (arith, c.line_end-end.ensures, end-inside c.args.text.now c.args.at (omega arith))
