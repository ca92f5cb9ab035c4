use mathlib.Core.Path.{refl}
use Rattle.expressions.proofs.Ways.{row_from}
use Rattle.simple.proofs.Acts.{worded-runs, is-communicate, choose-way, communicate-way}
use Rattle.simple.proofs.read_on.Goals as goal

pub row-w-requires : goal.row-w-requires
row-w-requires c = row_from refl (worded-runs c.requires)

pub choose-requires : goal.choose-requires
choose-requires c =
    let h = c.requires in record { ready = h.ready; trailer = h.trailer; kind = h.kind; fields = c.row-w.ensures; code = c.if-w-eq50.true }

pub returns-then-w-eq50 : goal.returns-then-w-eq50
returns-then-w-eq50 c =
    choose-way (worded-runs c.requires) c.row-w.ensures _ _ c.if-w-eq50.true c.choose.ensures

pub communicate-requires : goal.communicate-requires
communicate-requires c =
    let h = c.requires in record { ready = h.ready; trailer = h.trailer; fields = c.row-w.ensures; room = h.room; code = is-communicate c.requires c.row-w.ensures c.if-w-eq50.false }

pub returns : goal.returns
returns c =
    communicate-way (worded-runs c.requires) c.row-w.ensures _ _ (is-communicate c.requires c.row-w.ensures c.if-w-eq50.false) c.communicate.ensures
