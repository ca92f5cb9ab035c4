-- `values::times` meets its contract. Assumes nothing.
use lib.IntN.{◌*ℤ◌}
use Rattle.model.specs.Values.{times}
use Rattle.values.proofs.Held.{product-in, result_fits, wrapped}
use Rattle.values.proofs.times.Goals as goal

pub overflow_mul-a : goal.overflow_mul-a
overflow_mul-a c = result_fits c.requires ◌*ℤ◌ (product-in c.requires)

pub returns : goal.returns
unfolding times
returns c = wrapped c.requires ◌*ℤ◌ (product-in c.requires) c.wrap.type_inv c.wrap.ensures
