-- `starting::condition` meets its contract. Assumes nothing.
use Rattle.starting.proofs.Judging.{runs, condition-told}
use Rattle.model.specs.declared.Tested.TheVariants.{Holds, Fails, Unsure}
use Rattle.starting.proofs.condition.Goals as goal

pub test-requires : goal.test-requires
test-requires c = runs c.requires

pub returns-in-Holds : goal.returns-in-Holds
returns-in-Holds c = condition-told c.requires c.test.ensures Holds c.in-Holds.is

pub returns-in-Fails : goal.returns-in-Fails
returns-in-Fails c = condition-told c.requires c.test.ensures Fails c.in-Fails.is

pub returns-in-Unsure : goal.returns-in-Unsure
returns-in-Unsure c = condition-told c.requires c.test.ensures Unsure c.in-Unsure.is
