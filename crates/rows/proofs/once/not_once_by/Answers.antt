-- `rows::once::not_once_by` meets its contract. Assumes nothing.
use Rattle.model.specs.Image.{tables_of}
use Rattle.image.proofs.Laid.{condition-is}
use Rattle.rows.proofs.Counting.{lowest-named}
use Rattle.rows.proofs.once.not_once_by.Goals as goal

pub returns : goal.returns
returns c =
    lowest-named (tables_of c.args.x.now.image.now) c.requires.1 c.count_rows.ensures c.count_states.ensures
    (condition-is c.requires.0.located) c.count.ensures c.not_one.ensures
