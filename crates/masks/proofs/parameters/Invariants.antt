-- `masks::parameters` meets its contract: the mask of the variables passed, halved as often. Assumes nothing.
use mathlib.Core.Path.{◌≡◌}
use Prim.Native.Nat.{◌≤◌}
use lib.ListN.{length, drop}
use Rattle.model.specs.Image.{tables_of}
use Rattle.model.specs.Binding.{parameters_of}
use Rattle.masks.proofs.parameters.Given as goal

abbrev pub invariant-loop-v : goal.invariant-loop-v
invariant-loop-v l = (l.v ≤ length (tables_of l.x.image.now).variables) × (l.m ≡ parameters_of (drop l.v (tables_of l.x.image.now).variables))
