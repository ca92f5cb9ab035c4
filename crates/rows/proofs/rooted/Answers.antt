-- `rows::rooted` meets its contract. Assumes nothing.
use mathlib.Core.Path.{refl, ap, ◌∙◌}
use Rattle.model.specs.Rows.{action, is_root}
use Rattle.rows.proofs.Fields.{state-in}
use Rattle.rows.proofs.rooted.Goals as goal

pub state_row-requires : goal.state_row-requires
state_row-requires c = state-in c.requires.0.located _ c.requires.1

pub returns : goal.returns
returns c = c.is_root.ensures action refl ∙ ap (is_root _ action) c.state_row.ensures
