-- `values::remainder` meets its contract. Assumes nothing.
use native.Mathlib.Omega.{arith}
use lib.Signed.{quot_z, rem_z}
use Rattle.model.specs.Values.{remainder}
use Rattle.values.proofs.Held.{held-is, quotient-in, remainder-in, result_fits, result-held}
use Rattle.values.proofs.Computed.{zero-divisor, other-divisor}
use Rattle.values.proofs.remainder.Goals as goal

pub returns-then-b-eq0 : goal.returns-then-b-eq0
unfolding remainder
returns-then-b-eq0 c =
    rw (zero-divisor c.args.b c.ranges.b.sfits c.if-b-eq0.true) (held-is c.args.a c.ranges.a.sfits)

pub nonzero_rem-result : goal.nonzero_rem-result
nonzero_rem-result c = (omega (arith, c.if-b-eq0.false), result_fits c.requires quot_z (quotient-in c.requires))

pub returns : goal.returns
unfolding remainder
returns c =
    let i = c.requires in
    rw (other-divisor c.args.b c.if-b-eq0.false) (result-held i rem_z (remainder-in i))
