-- `starting::fill` meets its contract. Assumes nothing.
use Prim.Native.Nat.{◌≤◌}
use mathlib.Core.Path.{◌≡◌}
use lib.ListN.{length}
use Rattle.model.specs.Image.{tables_of}
use Rattle.starting.proofs.Filling.{FilledTo}
use Rattle.starting.proofs.fill.Given as goal

abbrev pub invariant-loop-v : goal.invariant-loop-v
invariant-loop-v l = (l.v ≤ l.count) × (length l.work ≡ length l.initial.work) × FilledTo (tables_of l.x.image.now).variables l.params l.work l.v l.k
