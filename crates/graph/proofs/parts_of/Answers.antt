use borrow.Author.Tests.{ne_eqb}
use Rattle.graph.specs.Ways.{parts_of}
use Rattle.graph.proofs.parts_of.Goals as goal

pub returns-in-54 : goal.returns-in-54
unfolding parts_of
returns-in-54 c = rw c.in-54.is c.parts_at.ensures

pub returns-in-55 : goal.returns-in-55
unfolding parts_of
returns-in-55 c = rw c.in-55.is c.parts_at-in-55.ensures

pub returns-in-56 : goal.returns-in-56
unfolding parts_of
returns-in-56 c = rw c.in-56.is c.parts_at-in-56.ensures

pub returns-in-57 : goal.returns-in-57
unfolding parts_of
returns-in-57 c = rw c.in-57.is c.parts_at-in-57.ensures

pub returns-in-58 : goal.returns-in-58
unfolding parts_of
returns-in-58 c = rw c.in-58.is c.parts_at-in-58.ensures

pub returns-in-59 : goal.returns-in-59
unfolding parts_of
returns-in-59 c = rw c.in-59.is c.parts_at-in-59.ensures

pub returns-in-60 : goal.returns-in-60
unfolding parts_of
returns-in-60 c = rw c.in-60.is c.parts_at-in-60.ensures

pub returns-in_default : goal.returns-in_default
unfolding parts_of
returns-in_default c = rw (parts_of, ne_eqb c.args.w.code 54 c.in_default.in_default-own.rest.0.0.0.0.0.0.1, ne_eqb c.args.w.code 55 c.in_default.in_default-own.rest.0.0.0.0.0.1, ne_eqb c.args.w.code 56 c.in_default.in_default-own.rest.0.0.0.0.1, ne_eqb c.args.w.code 57 c.in_default.in_default-own.rest.0.0.0.1, ne_eqb c.args.w.code 58 c.in_default.in_default-own.rest.0.0.1, ne_eqb c.args.w.code 59 c.in_default.in_default-own.rest.0.1, ne_eqb c.args.w.code 60 c.in_default.in_default-own.rest.1) c.parts_at-in_default.ensures
