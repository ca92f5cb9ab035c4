-- `binding::binding_verdict` meets its contract: it lends an entry for each row. Assumes nothing.
use native.Mathlib.Omega.{arith}
use mathlib.Core.Path.{◌∙◌}
use lib.ListN.{length-take}
use Rattle.image.proofs.Laid.{rows-count}
use Rattle.binding.proofs.Lowest.{ruled-front}
use Rattle.binding.proofs.binding_verdict.Goals as goal

pub slice_bounds-rows_verdict-end : goal.slice_bounds-rows_verdict-end
slice_bounds-rows_verdict-end c = simp length-take (omega (arith, c.requires.size, rows-count c.requires.rooted.formed.located))

pub rows_verdict-requires : goal.rows_verdict-requires
rows_verdict-requires c = ruled-front c.requires (c.row_count-n.ensures ∙ rows-count c.requires.rooted.formed.located)
