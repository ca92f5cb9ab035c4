-- `rows::fits::names_list` meets its contract. Assumes nothing.
use Rattle.rows.proofs.fits.names_list.Goals as goal

pub returns : goal.returns
returns c j e = cc (c.names.ensures j e, c.list_fits.ensures)
