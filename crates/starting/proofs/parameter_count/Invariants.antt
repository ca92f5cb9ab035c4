-- `starting::parameter_count` meets its contract. Assumes nothing.
use Prim.Native.Nat.{◌≤◌}
use Rattle.model.specs.Image.{tables_of}
use Rattle.starting.proofs.Filling.{Counted}
use Rattle.starting.proofs.parameter_count.Given as goal

abbrev pub invariant-loop-v : goal.invariant-loop-v
invariant-loop-v l = (l.v ≤ l.count) × Counted (tables_of l.x.image.now).variables l.v l.n
