use Rattle.told.proofs.Coded.{ends_at, jumps_at, stops_at}
use Rattle.told.proofs.outcome.Goals as goal

pub returns-then-n-eq-ENDS : goal.returns-then-n-eq-ENDS
returns-then-n-eq-ENDS c = ends_at c.args.n c.if-n-eq-ENDS.true

pub returns-then-n-lt-STOPS : goal.returns-then-n-lt-STOPS
returns-then-n-lt-STOPS c = jumps_at c.args.n c.if-n-eq-ENDS.false c.if-n-lt-STOPS.true

pub returns : goal.returns
returns c = stops_at c.args.n c.if-n-lt-STOPS.false c.refusal.ensures
