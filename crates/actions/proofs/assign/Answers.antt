-- `actions::assign` meets its contract. Assumes nothing.
use mathlib.Core.Path.{refl}
use Rattle.expressions.proofs.Ways.{row_from, local-is}
use Rattle.actions.proofs.Listed.{here-row}
use Rattle.actions.proofs.Assigning.{assign-none, item-inside, item-value, item-next, assign-unknown, assign-stores}
use Rattle.actions.proofs.assign.Goals as goal

pub returns-then-r-eq-NONE : goal.returns-then-r-eq-NONE
returns-then-r-eq-NONE c = assign-none c.requires c.if-r-eq-NONE.true

pub row-w-requires : goal.row-w-requires
row-w-requires c = row_from refl (here-row c.requires c.if-r-eq-NONE.false)

pub eval-requires : goal.eval-requires
eval-requires c = item-value (here-row c.requires c.if-r-eq-NONE.false) c.if-r-eq-NONE.false c.row-w.ensures

pub bounds-store-w : goal.bounds-store-w
bounds-store-w c = item-inside (here-row c.requires c.if-r-eq-NONE.false) c.if-r-eq-NONE.false c.row-w.ensures

pub returns-in-None : goal.returns-in-None
returns-in-None c =
    assign-unknown (here-row c.requires c.if-r-eq-NONE.false) c.if-r-eq-NONE.false c.row-w.ensures c.eval.ensures c.in-None.is

pub returns-in-Some : goal.returns-in-Some
returns-in-Some c =
    let f = c.if-r-eq-NONE.false in
    let h = here-row c.requires f in
    let e = c.row-w.ensures in
    assign-stores h f e c.eval.ensures c.in-Some.is (assign-none (item-next h f e).1 c.if-w.false) refl
    (local-is (item-value h f e) c.eval.ensures c.in-Some.is)
