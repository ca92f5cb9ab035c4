-- `rows::is_root` meets its contract. Assumes nothing.
use Rattle.rows.proofs.Fields.{names-root}
use Rattle.rows.proofs.is_root.Goals as goal

pub returns : goal.returns
returns c j e = names-root _ _ j _ _ c.row_count-n.ensures (c.names.ensures j e)
