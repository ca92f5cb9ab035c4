use native.Mathlib.Omega.{arith}
use Rattle.header.proofs.Laws.{passes, fails, long-enough, located, trailer-long, header-1, header-2, header-3, header-4, header-5, header-6}
use Rattle.header.proofs.header.Goals as goal

pub returns-then-not-length_fits : goal.returns-then-not-length_fits
returns-then-not-length_fits c = header-1 _ (fails c.length_fits.ensures c.if-not-length_fits.true)

pub trailer-requires : goal.trailer-requires
trailer-requires c = omega (arith, long-enough _ (passes c.length_fits.ensures c.if-not-length_fits.false))

pub marked-requires : goal.marked-requires
marked-requires c = (passes c.length_fits.ensures c.if-not-length_fits.false, c.trailer.ensures)

pub returns-then-not-marked : goal.returns-then-not-marked
returns-then-not-marked c = header-2 _ (passes c.length_fits.ensures c.if-not-length_fits.false) (fails c.marked.ensures c.if-not-marked.true)

pub starts_fit-requires : goal.starts_fit-requires
starts_fit-requires c = trailer-long _ _ c.trailer.ensures (passes c.length_fits.ensures c.if-not-length_fits.false) (passes c.marked.ensures c.if-not-marked.false)

pub returns-then-not-starts_fit : goal.returns-then-not-starts_fit
returns-then-not-starts_fit c = header-3 _ _ c.trailer.ensures (passes c.length_fits.ensures c.if-not-length_fits.false) (passes c.marked.ensures c.if-not-marked.false) (fails c.starts_fit.ensures c.if-not-starts_fit.true)

pub sizes_fit-requires : goal.sizes_fit-requires
sizes_fit-requires c = located _ _ c.trailer.ensures (passes c.length_fits.ensures c.if-not-length_fits.false) (passes c.marked.ensures c.if-not-marked.false) (passes c.starts_fit.ensures c.if-not-starts_fit.false)

pub returns-then-not-sizes_fit : goal.returns-then-not-sizes_fit
returns-then-not-sizes_fit c = header-4 _ _ (located _ _ c.trailer.ensures (passes c.length_fits.ensures c.if-not-length_fits.false) (passes c.marked.ensures c.if-not-marked.false) (passes c.starts_fit.ensures c.if-not-starts_fit.false)) (fails c.sizes_fit.ensures c.if-not-sizes_fit.true)

pub entries_fit-requires : goal.entries_fit-requires
entries_fit-requires c = located _ _ c.trailer.ensures (passes c.length_fits.ensures c.if-not-length_fits.false) (passes c.marked.ensures c.if-not-marked.false) (passes c.starts_fit.ensures c.if-not-starts_fit.false)

pub returns-then-not-entries_fit : goal.returns-then-not-entries_fit
returns-then-not-entries_fit c = header-5 _ _ (located _ _ c.trailer.ensures (passes c.length_fits.ensures c.if-not-length_fits.false) (passes c.marked.ensures c.if-not-marked.false) (passes c.starts_fit.ensures c.if-not-starts_fit.false)) (passes c.sizes_fit.ensures c.if-not-sizes_fit.false) (fails c.entries_fit.ensures c.if-not-entries_fit.true)

pub returns : goal.returns
returns c = header-6 _ _ (located _ _ c.trailer.ensures (passes c.length_fits.ensures c.if-not-length_fits.false) (passes c.marked.ensures c.if-not-marked.false) (passes c.starts_fit.ensures c.if-not-starts_fit.false)) (passes c.sizes_fit.ensures c.if-not-sizes_fit.false) (passes c.entries_fit.ensures c.if-not-entries_fit.false)
