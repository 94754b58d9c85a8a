-- The test, as the definition has it.
use Rattle.laws.proofs.Tests.{chosen}
use Rattle.parse.proofs.steps.zero_for.Goals as goal

pub returns-then-n-zero : goal.returns-then-n-zero
returns-then-n-zero c = search chosen

pub returns-else-n-zero : goal.returns-else-n-zero
returns-else-n-zero c = search chosen
