-- `masks::fill_rows` meets its contract. The loop's invariant: the masks of the rows below r are filled in. Assumes nothing.
use native.Mathlib.Omega.{arith}
use Rattle.masks.proofs.Filling.{row_small, one_more}
use Rattle.image.proofs.Laid.{laid}
use Rattle.masks.proofs.fill_rows.Goals as goal

pub overflow_cast-r : goal.overflow_cast-r
overflow_cast-r c = let l = laid c.requires.rooted.formed.located in omega (arith, l.rows_most, c.requires.size)

pub masks_of-requires : goal.masks_of-requires
masks_of-requires c = row_small _ _ c.loop-r.invariant c.fields.ensures

pub loop-r-preserved : goal.loop-r-preserved
loop-r-preserved c = one_more _ _ _ c.loop-r.invariant (omega arith) c.fields.ensures c.masks_of.ensures
