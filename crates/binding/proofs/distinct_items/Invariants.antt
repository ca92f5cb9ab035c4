-- `binding::distinct_items` meets its contract. The loop's invariant: the rule of the rest of the list is that of the whole.
-- Assumes nothing.
use mathlib.Core.Path.{◌≡◌}
use Prim.Native.Nat.{◌+◌, ◌%◌}
use Rattle.model.specs.Image.{tables_of}
use Rattle.model.specs.Binding.{distinct}
use Rattle.binding.specs.Bound.{bits_at, Vector}
use Rattle.binding.proofs.distinct_items.Given as goal

abbrev pub invariant-loop-r : goal.invariant-loop-r
invariant-loop-r l = Vector l.x.image.now l.x.trailer l.r l.masks × (distinct (bits_at (tables_of l.x.image.now) l.r) ≡ distinct (bits_at (tables_of l.x.image.now) l.first))

abbrev pub decreases-loop-r : goal.decreases-loop-r
decreases-loop-r l = (l.r + 1) % 65536
