use mathlib.Core.Path.{◌≡◌}
use Prim.Native.Nat.{◌+◌, ◌%◌}
use lib.ListN.{length}
use Rattle.model.specs.Image.{tables_of}
use Rattle.model.specs.Rows.{item}
use Rattle.model.specs.Decode.{variables_at}
use Rattle.model.specs.Run.{resetting}
use Rattle.actions.specs.Items.{Items}
use Rattle.actions.proofs.reset.Given as goal

abbrev pub invariant-loop-r : goal.invariant-loop-r
invariant-loop-r l = (length l.store ≡ length l.initial.store) × Items item l.image l.rows l.r l.initial.store × (resetting (tables_of l.image) (variables_at (tables_of l.image) l.r) l.store ≡ resetting (tables_of l.image) (variables_at (tables_of l.image) l.first) l.initial.store)

abbrev pub decreases-loop-r : goal.decreases-loop-r
decreases-loop-r l = (l.r + 1) % 65536
