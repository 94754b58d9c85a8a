-- The measure is the kind's number: a run that stands for itself is compared as the first kind.
use denote.Enum.Declared.{tag_of}
use Rattle.rules.specs.contracts.step.Step.{the_type}
use Rattle.parse.proofs.literals.+compare.Given as goal

abbrev pub decreases-compare : goal.decreases-compare
decreases-compare l = tag_of the_type l.step
