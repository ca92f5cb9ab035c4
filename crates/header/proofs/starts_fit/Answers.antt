use mathlib.Core.{Path.refl}
use Rattle.header.proofs.Laws.{passes, fails, chain-1, chain-2, chain-last}
use borrow.Author.Tests.{eq-eqb, ne_eqb, le-leb, lt-leb}
use Rattle.model.specs.Image.{starts_fit}
use Rattle.header.proofs.starts_fit.Goals as goal

pub returns-then-i-ne0 : goal.returns-then-i-ne0
unfolding starts_fit
returns-then-i-ne0 c = chain-1 _ _ (ne_eqb _ 0 c.if-i-ne0.true)

pub returns-then-not-table_fits : goal.returns-then-not-table_fits
unfolding starts_fit
returns-then-not-table_fits c = chain-2 _ _ (eq-eqb _ 0 c.if-i-ne0.false) (chain-1 _ _ (fails c.table_fits.ensures c.if-not-table_fits.true))

pub returns-then-not-table_fits-2 : goal.returns-then-not-table_fits-2
unfolding starts_fit
returns-then-not-table_fits-2 c = chain-2 _ _ (eq-eqb _ 0 c.if-i-ne0.false) (chain-2 _ _ (passes c.table_fits.ensures c.if-not-table_fits.false) (chain-1 _ _ (fails c.table_fits-2.ensures c.if-not-table_fits-2.true)))

pub returns-then-not-table_fits-3 : goal.returns-then-not-table_fits-3
unfolding starts_fit
returns-then-not-table_fits-3 c = chain-2 _ _ (eq-eqb _ 0 c.if-i-ne0.false) (chain-2 _ _ (passes c.table_fits.ensures c.if-not-table_fits.false) (chain-2 _ _ (passes c.table_fits-2.ensures c.if-not-table_fits-2.false) (chain-1 _ _ (fails c.table_fits-3.ensures c.if-not-table_fits-3.true))))

pub returns-then-not-table_fits-4 : goal.returns-then-not-table_fits-4
unfolding starts_fit
returns-then-not-table_fits-4 c = chain-2 _ _ (eq-eqb _ 0 c.if-i-ne0.false) (chain-2 _ _ (passes c.table_fits.ensures c.if-not-table_fits.false) (chain-2 _ _ (passes c.table_fits-2.ensures c.if-not-table_fits-2.false) (chain-2 _ _ (passes c.table_fits-3.ensures c.if-not-table_fits-3.false) (chain-1 _ _ (fails c.table_fits-4.ensures c.if-not-table_fits-4.true)))))

pub returns-then-i-lt-GATES_LEAST : goal.returns-then-i-lt-GATES_LEAST
unfolding starts_fit
returns-then-i-lt-GATES_LEAST c = chain-2 _ _ (eq-eqb _ 0 c.if-i-ne0.false) (chain-2 _ _ (passes c.table_fits.ensures c.if-not-table_fits.false) (chain-2 _ _ (passes c.table_fits-2.ensures c.if-not-table_fits-2.false) (chain-2 _ _ (passes c.table_fits-3.ensures c.if-not-table_fits-3.false) (chain-2 _ _ (passes c.table_fits-4.ensures c.if-not-table_fits-4.false) (chain-1 _ _ (lt-leb 1 _ c.if-i-lt-GATES_LEAST.true))))))

pub returns : goal.returns
unfolding starts_fit
returns c = chain-last _ _ _ (eq-eqb _ 0 c.if-i-ne0.false) (chain-last _ _ _ (passes c.table_fits.ensures c.if-not-table_fits.false) (chain-last _ _ _ (passes c.table_fits-2.ensures c.if-not-table_fits-2.false) (chain-last _ _ _ (passes c.table_fits-3.ensures c.if-not-table_fits-3.false) (chain-last _ _ _ (passes c.table_fits-4.ensures c.if-not-table_fits-4.false) (chain-last _ _ _ (le-leb 1 _ c.if-i-lt-GATES_LEAST.false) refl)))))
