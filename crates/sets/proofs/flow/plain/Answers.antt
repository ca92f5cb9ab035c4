-- `flow::plain` meets its contract: a law of Plainly for each code. Assumes nothing.
use native.Mathlib.Omega.{arith}
use Rattle.model.specs.Rows.{action}
use Rattle.sets.proofs.Rows.{base-of, row-of-kind}
use Rattle.sets.proofs.Plainly.{do-assign, do-choose, do-reset, do-communicate, do-null}
use Rattle.sets.proofs.flow.plain.Goals as goal

pub fields-w-requires : goal.fields-w-requires
fields-w-requires c = row-of-kind action _ c.requires.lent.formed (omega arith) c.requires.kind

pub returns-in-49 : goal.returns-in-49
returns-in-49 c = do-assign (base-of c.requires.lent) c.args.row c.fields-w.ensures _ _ _ c.in-49.is c.masks_in-m.ensures c.inside.ensures

pub returns-in-50 : goal.returns-in-50
returns-in-50 c = do-choose (base-of c.requires.lent) c.args.row c.fields-w.ensures _ _ _ _ c.in-50.is c.masks_in.ensures c.masks_in-in-50.ensures c.inside-in-50.ensures

pub returns-in-51 : goal.returns-in-51
returns-in-51 c = do-reset (base-of c.requires.lent) c.args.row c.fields-w.ensures _ _ c.in-51.is c.masks_in-in-51.ensures c.without.ensures

pub returns-in-52 : goal.returns-in-52
returns-in-52 c = do-communicate (base-of c.requires.lent) c.args.row c.fields-w.ensures _ _ _ c.in-52.is c.masks_in-m-in-52.ensures c.inside-in-52.ensures

pub returns-in_default : goal.returns-in_default
returns-in_default c = do-null (base-of c.requires.lent) c.args.row c.fields-w.ensures _ c.requires.kind c.requires.code c.in_default.in_default-own.rest.0.0.0.1 c.in_default.in_default-own.rest.0.0.1 c.in_default.in_default-own.rest.0.1 c.in_default.in_default-own.rest.1
