-- `values::plus` meets its contract. Assumes nothing.
use lib.IntN.{◌+ℤ◌}
use Rattle.model.specs.Values.{plus}
use Rattle.values.proofs.Held.{sum-in, result_fits, wrapped}
use Rattle.values.proofs.plus.Goals as goal

pub overflow_add-a : goal.overflow_add-a
overflow_add-a c = result_fits c.requires ◌+ℤ◌ (sum-in c.requires)

pub returns : goal.returns
unfolding plus
returns c = wrapped c.requires ◌+ℤ◌ (sum-in c.requires) c.wrap.type_inv c.wrap.ensures
