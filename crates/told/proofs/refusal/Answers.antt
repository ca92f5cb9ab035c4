use Rattle.told.proofs.Coded.{as-21, as-22, as-23, as-24, as-25, as-26, as-27}
use Rattle.told.proofs.refusal.Goals as goal

pub returns-in-21 : goal.returns-in-21
returns-in-21 c = as-21 c.args.number c.args.r c.in-21.is

pub returns-in-22 : goal.returns-in-22
returns-in-22 c = as-22 c.args.number c.args.r c.in-22.is

pub returns-in-23 : goal.returns-in-23
returns-in-23 c = as-23 c.args.number c.args.r c.in-23.is

pub returns-in-24 : goal.returns-in-24
returns-in-24 c = as-24 c.args.number c.args.r c.in-24.is

pub returns-in-25 : goal.returns-in-25
returns-in-25 c = as-25 c.args.number c.args.r c.in-25.is

pub returns-in-26 : goal.returns-in-26
returns-in-26 c = as-26 c.args.number c.args.r c.in-26.is

pub returns-in_default : goal.returns-in_default
returns-in_default c = as-27 c.args.number c.args.r c.in_default.in_default-own.rest.0.0.0.0.0.1 c.in_default.in_default-own.rest.0.0.0.0.1 c.in_default.in_default-own.rest.0.0.0.1 c.in_default.in_default-own.rest.0.0.1 c.in_default.in_default-own.rest.0.1 c.in_default.in_default-own.rest.1
