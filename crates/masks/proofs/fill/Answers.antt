-- `masks::fill` meets its contract: what it lends has an entry for each row. Assumes nothing.
use native.Mathlib.Omega.{arith}
use mathlib.Core.Path.{◌∙◌}
use lib.ListN.{length-take}
use Rattle.image.proofs.Laid.{rows-count}
use Rattle.masks.proofs.Filling.{fit-front}
use Rattle.masks.proofs.fill.Goals as goal

pub slice_bounds-fill_rows-end : goal.slice_bounds-fill_rows-end
slice_bounds-fill_rows-end c = omega (arith, c.requires.size, rows-count c.requires.rooted.formed.located)

pub slice_bounds-fill_rows-end-2 : goal.slice_bounds-fill_rows-end-2
slice_bounds-fill_rows-end-2 c = simp length-take (omega (arith, c.requires.size, rows-count c.requires.rooted.formed.located))

pub fill_rows-requires : goal.fill_rows-requires
fill_rows-requires c = fit-front c.requires (c.row_count-n.ensures ∙ rows-count c.requires.rooted.formed.located)
