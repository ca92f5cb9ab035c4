-- `sets_verdict` meets its contract. Assumes nothing.
use mathlib.Core.Path.{◌∙◌}
use native.Mathlib.Omega.{arith}
use lib.ListN.{length-take}
use Rattle.image.proofs.Laid.{rows-count}
use Rattle.sets.proofs.Finding.{front}
use Rattle.sets.proofs.sets_verdict.Goals as goal

pub slice_bounds-initialisation-end : goal.slice_bounds-initialisation-end
slice_bounds-initialisation-end c = simp length-take (omega (arith, c.requires.lending.filled.size, c.row_count-rows.ensures, rows-count c.requires.lending.rooted.formed.located))

pub initialisation-requires : goal.initialisation-requires
initialisation-requires c = record {
  rows = front c.requires.lending (c.row_count-rows.ensures ∙ rows-count c.requires.lending.rooted.formed.located);
  size = simp length-take (omega (arith, c.state_count-states.ensures, c.requires.room));
}
