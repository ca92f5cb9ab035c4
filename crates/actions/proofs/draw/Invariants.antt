use mathlib.Core.{Path.◌≡◌, List.List}
use Prim.Native.Nat.{◌+◌, ◌%◌}
use lib.{IntN.ℤ, ListN.length}
use Rattle.model.specs.Image.{tables_of}
use Rattle.model.specs.Rows.{of_type}
use Rattle.model.specs.Decode.{of_types_at}
use Rattle.actions.specs.Items.{Items}
use Rattle.actions.specs.State.{run_at, state_of}
use Rattle.actions.specs.Words.{drawing}
use Rattle.actions.proofs.draw.Given as goal

abbrev pub invariant-loop-r : goal.invariant-loop-r
invariant-loop-r l = (length l.store ≡ length l.initial.store) × Items of_type l.x.image.now l.x.trailer.rows l.r l.initial.store × ((values : List ℤ) → drawing (tables_of l.x.image.now) (of_types_at (tables_of l.x.image.now) l.r) l.script l.place (state_of (run_at l.run l.words) l.store values) ≡ drawing (tables_of l.x.image.now) (of_types_at (tables_of l.x.image.now) l.first) l.script l.place (state_of l.run l.initial.store values))

abbrev pub decreases-loop-r : goal.decreases-loop-r
decreases-loop-r l = (l.r + 1) % 65536
