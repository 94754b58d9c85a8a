-- `ends_in_lone_quote` meets its contract: at each turn the pattern ends in a lone quote just if the parts from here do.
use mathlib.Core.Path.{◌≡◌}
use lib.ListN.{drop}
use Rattle.meaning.specs.Answers.{ends_in_lone_quote}
use Rattle.meaning.specs.Splitting.{contents}
use Rattle.pattern.proofs.checks.ends_in_lone_quote.Given as goal

abbrev pub invariant-loop-part : goal.invariant-loop-part
invariant-loop-part l =
    (l.part-iterator.pattern.now ≡ l.pattern)
    × (ends_in_lone_quote (contents l.pattern) ≡ ends_in_lone_quote (contents (drop l.part-iterator.place l.pattern)))
