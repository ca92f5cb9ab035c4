-- `values::minus` meets its contract. Assumes nothing.
use lib.IntN.{◌-ℤ◌}
use Rattle.model.specs.Values.{minus}
use Rattle.values.proofs.Held.{difference-in, result_fits, wrapped}
use Rattle.values.proofs.minus.Goals as goal

pub overflow_sub-a : goal.overflow_sub-a
overflow_sub-a c = result_fits c.requires ◌-ℤ◌ (difference-in c.requires)

pub returns : goal.returns
unfolding minus
returns c = wrapped c.requires ◌-ℤ◌ (difference-in c.requires) c.wrap.type_inv c.wrap.ensures
