use mathlib.Core.Path.{◌≡◌}
use Prim.Native.Nat.{◌≤◌, ◌-◌}
use Rattle.model.specs.Exports.{count}
use Rattle.text.proofs.Halving.{Halved}
use Rattle.text.proofs.count.Given as goal

abbrev pub invariant-loop-v : goal.invariant-loop-v
invariant-loop-v l = (l.v ≤ l.n) × (l.found ≤ l.v) × (l.found ≡ count l.mask l.v) × Halved l.mask l.v l.left

abbrev pub decreases-loop-v : goal.decreases-loop-v
decreases-loop-v l = l.n - l.v
