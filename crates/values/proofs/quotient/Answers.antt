-- `values::quotient` meets its contract. Assumes nothing.
use native.Mathlib.Omega.{arith}
use lib.Signed.{quot_z}
use Rattle.model.specs.Values.{quotient}
use Rattle.values.proofs.Held.{quotient-in, result_fits, wrapped}
use Rattle.values.proofs.Computed.{zero-divisor, other-divisor}
use Rattle.values.proofs.quotient.Goals as goal

pub returns-then-b-eq0 : goal.returns-then-b-eq0
unfolding quotient
returns-then-b-eq0 c = rw (zero-divisor c.args.b c.ranges.b.sfits c.if-b-eq0.true)

pub nonzero_div-a : goal.nonzero_div-a
nonzero_div-a c = (omega (arith, c.if-b-eq0.false), result_fits c.requires quot_z (quotient-in c.requires))

pub returns : goal.returns
unfolding quotient
returns c =
    let i = c.requires in
    rw (other-divisor c.args.b c.if-b-eq0.false) (wrapped i quot_z (quotient-in i) c.wrap.type_inv c.wrap.ensures)
