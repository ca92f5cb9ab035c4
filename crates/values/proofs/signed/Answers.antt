-- `values::signed` meets its contract. Assumes nothing.
use native.Mathlib.Omega.{arith}
use Rattle.values.proofs.Wrapping.{signed-wraps}
use Rattle.values.proofs.signed.Goals as goal

pub returns : goal.returns
returns c =
    signed-wraps c.args.half c.args.n c.requires.1 (omega (arith, c.requires.1, c.requires.0.small)) c.wrap.type_inv c.wrap.ensures
