use mathlib.Core.Path.{refl}
use Rattle.machine.proofs.Helpers.{most-unsure, most-holds, most-fails, held-most}
use Rattle.machine.proofs.at_most.Goals as goal

pub returns-then-z-high : goal.returns-then-z-high
returns-then-z-high c =
    (most-holds _ _ c.value.ensures c.in-Some.is (held-most c.in-Some.z c.args.high c.in-Some.known_told-1-own.given.0.1 c.ranges.high.sfits c.if-z-high.true), refl)

pub returns-else-z-high : goal.returns-else-z-high
returns-else-z-high c =
    (most-fails _ _ c.value.ensures c.in-Some.is (held-most c.in-Some.z c.args.high c.in-Some.known_told-1-own.given.0.1 c.ranges.high.sfits c.if-z-high.false), refl)

pub returns-in-None : goal.returns-in-None
returns-in-None c = (most-unsure _ _ c.value.ensures c.in-None.is, refl)
