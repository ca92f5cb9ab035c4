-- `rows::once::not_once` meets its contract. Assumes nothing.
use mathlib.Core.Path.{sym}
use Rattle.rows.proofs.Fields.{rows-most}
use Rattle.rows.proofs.Counting.{scratch}
use Rattle.rows.proofs.once.not_once.Goals as goal

pub slice_bounds-counts-end : goal.slice_bounds-counts-end
slice_bounds-counts-end c = rows-most c.requires.0.located c.requires.1

pub slice_bounds-not_once_by-end : goal.slice_bounds-not_once_by-end
slice_bounds-not_once_by-end c = let p = c.requires in sym (scratch _ 2048 (rows-most p.0.located p.1)).exact

pub not_once_by-requires : goal.not_once_by-requires
not_once_by-requires c = let p = c.requires in (p.0, scratch _ 2048 (rows-most p.0.located p.1))
