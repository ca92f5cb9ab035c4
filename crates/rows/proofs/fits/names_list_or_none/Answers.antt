-- `rows::fits::names_list_or_none` meets its contract. Assumes nothing.
use Rattle.rows.proofs.Fields.{or-none}
use Rattle.rows.proofs.fits.names_list_or_none.Goals as goal

pub returns : goal.returns
returns c j e = or-none c.args.n (c.names_list.ensures j e)
