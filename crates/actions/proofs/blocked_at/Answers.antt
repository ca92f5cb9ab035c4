use Rattle.actions.proofs.blocked_at.Goals as goal

pub returns-then-spoken : goal.returns-then-spoken
returns-then-spoken c =
    rw c.if-spoken.true

pub returns : goal.returns
returns c =
    rw c.if-spoken.false
