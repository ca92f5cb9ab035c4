-- `values::side` meets its contract. Assumes nothing.
use mathlib.Core.Path.{◌∙◌}
use mir.{Syntax.w32, ValLaws.to_z_pos}
use Rattle.values.proofs.Held.{flip-fits, flip-held}
use Rattle.values.proofs.side.Goals as goal

pub overflow_sub-result : goal.overflow_sub-result
overflow_sub-result c = flip-fits (to_z_pos w32 _ c.requires) c.requires

pub returns-then-s : goal.returns-then-s
returns-then-s c = rw (to_z_pos w32 _ c.requires, c.if-s.true)

pub returns-else-s : goal.returns-else-s
returns-else-s c = flip-held (to_z_pos w32 _ c.requires) c.requires ∙ rw c.if-s.false
