use Rattle.actions.proofs.Listed.{here-row}
use Rattle.actions.proofs.Done.{try-none, try_holds, try-fails, try-unsure}
use Rattle.actions.proofs.try_condition.Goals as goal

pub returns-then-c-eq-NONE : goal.returns-then-c-eq-NONE
returns-then-c-eq-NONE c =
    try-none _ _ _ _ _ c.if-c-eq-NONE.true

pub test-requires : goal.test-requires
test-requires c =
    here-row c.requires c.if-c-eq-NONE.false

pub returns-in-Holds : goal.returns-in-Holds
returns-in-Holds c =
    try_holds _ _ _ _ _ c.if-c-eq-NONE.false c.test.ensures c.in-Holds.is

pub returns-in-Fails : goal.returns-in-Fails
returns-in-Fails c =
    try-fails _ _ _ _ _ c.if-c-eq-NONE.false c.test.ensures c.in-Fails.is c.blocked_at.ensures

pub returns-in-Unsure : goal.returns-in-Unsure
returns-in-Unsure c =
    try-unsure _ _ _ _ _ c.if-c-eq-NONE.false c.test.ensures c.in-Unsure.is
