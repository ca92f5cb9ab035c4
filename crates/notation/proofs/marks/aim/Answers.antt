use borrow.Author.Tests.{ne_eqb}
use Rattle.notation.specs.Texts.{aim_of, aim_by}
use Rattle.notation.proofs.marks.aim.Goals as goal

pub returns-in-65 : goal.returns-in-65
unfolding aim_of aim_by
returns-in-65 c = rw c.in-65.is c.aim_at.ensures

pub returns-in-66 : goal.returns-in-66
unfolding aim_of aim_by
returns-in-66 c = rw c.in-66.is c.aim_at-in-66.ensures

pub returns-in-67 : goal.returns-in-67
unfolding aim_of aim_by
returns-in-67 c = rw c.in-67.is c.aim_at-in-67.ensures

pub returns-in-68 : goal.returns-in-68
unfolding aim_of aim_by
returns-in-68 c = rw (c.in-68.is, ← c.deeper-deep.ensures) c.aim_at-in-68.ensures

pub returns-in-70 : goal.returns-in-70
unfolding aim_of aim_by
returns-in-70 c = rw (c.in-70.is, ← c.deeper-deep.ensures) c.aim_at-in-70.ensures

pub returns-in-78 : goal.returns-in-78
unfolding aim_of aim_by
returns-in-78 c = rw c.in-78.is c.aim_at-in-78.ensures

pub returns-in-81 : goal.returns-in-81
unfolding aim_of aim_by
returns-in-81 c = rw c.in-81.is c.aim_at-in-81.ensures

pub returns-in-82 : goal.returns-in-82
unfolding aim_of aim_by
returns-in-82 c = rw c.in-82.is c.aim_at-in-82.ensures

pub returns-in-87 : goal.returns-in-87
unfolding aim_of aim_by
returns-in-87 c = rw c.in-87.is c.aim_at-in-87.ensures

pub returns-in_default : goal.returns-in_default
unfolding aim_of aim_by
returns-in_default c = rw (aim_of, aim_by, ne_eqb c.args.b 65 c.in_default.in_default-own.rest.0.0.0.0.0.0.0.0.1, aim_by, ne_eqb c.args.b 66 c.in_default.in_default-own.rest.0.0.0.0.0.0.0.1, aim_by, ne_eqb c.args.b 67 c.in_default.in_default-own.rest.0.0.0.0.0.0.1, aim_by, ne_eqb c.args.b 68 c.in_default.in_default-own.rest.0.0.0.0.0.1, aim_by, ne_eqb c.args.b 70 c.in_default.in_default-own.rest.0.0.0.0.1, aim_by, ne_eqb c.args.b 78 c.in_default.in_default-own.rest.0.0.0.1, aim_by, ne_eqb c.args.b 81 c.in_default.in_default-own.rest.0.0.1, aim_by, ne_eqb c.args.b 82 c.in_default.in_default-own.rest.0.1, aim_by, ne_eqb c.args.b 87 c.in_default.in_default-own.rest.1) c.aim_at-in_default.ensures
