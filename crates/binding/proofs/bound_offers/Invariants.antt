-- `binding::bound_offers` meets its contract. The loop's invariant: the rule of the rest of the list is that of the whole.
-- Assumes nothing.
use mathlib.Core.Path.{◌≡◌}
use Prim.Native.Nat.{◌+◌, ◌%◌}
use Rattle.model.specs.Image.{tables_of}
use Rattle.model.specs.Decode.{offers_at}
use Rattle.binding.specs.Bound.{bound_offers, Offers}
use Rattle.binding.proofs.bound_offers.Given as goal

abbrev pub invariant-loop-r : goal.invariant-loop-r
invariant-loop-r l = Offers l.x.image.now l.x.trailer l.r l.masks × (bound_offers (offers_at (tables_of l.x.image.now) l.r) ≡ bound_offers (offers_at (tables_of l.x.image.now) l.first))

abbrev pub decreases-loop-r : goal.decreases-loop-r
decreases-loop-r l = (l.r + 1) % 65536
