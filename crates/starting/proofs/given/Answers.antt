-- `starting::given` meets its contract. Assumes nothing.
use Rattle.starting.proofs.Filling.{given-value, given-mark}
use native.Mathlib.Omega.{arith}
use Rattle.starting.proofs.given.Goals as goal

pub offset_bounds-params-k : goal.offset_bounds-params-k
offset_bounds-params-k c = omega (arith, c.requires.inside c.if-p-eq1.true)

pub bounds-params-k : goal.bounds-params-k
bounds-params-k c = c.requires.inside c.if-p-eq1.true

pub returns-then-p-eq1 : goal.returns-then-p-eq1
returns-then-p-eq1 c = given-value _ _ c.if-p-eq1.true c.result-1.given

pub returns-else-p-eq1 : goal.returns-else-p-eq1
returns-else-p-eq1 c = given-mark _ _ c.if-p-eq1.false
