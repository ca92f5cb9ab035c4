-- `initialisation` meets its contract: what each call asks is what those before it leave. Assumes nothing.
use native.Mathlib.Omega.{arith}
use Rattle.image.proofs.Laid.{laid, variables-count}
use Rattle.sets.proofs.Finding.{given-of, begun-staged, judged-none, judged-at}
use Rattle.sets.proofs.initialisation.Goals as goal

pub full-top-requires : goal.full-top-requires
full-top-requires c = let l = c.requires.rows.lending.rooted.formed.located in omega (arith, (laid l).variables_most, variables-count l, c.variable_count.ensures)

pub settle-wrong-requires : goal.settle-wrong-requires
settle-wrong-requires c = record {
  given = given-of c.requires _ _ c.variable_count.ensures c.full-top.ensures;
  stage = begun-staged c.requires c.begin.ensures;
}

pub returns-then-wrong-eq0 : goal.returns-then-wrong-eq0
returns-then-wrong-eq0 c = judged-none c.settle-wrong.ensures c.if-wrong-eq0.true

pub returns : goal.returns
returns c = judged-at c.settle-wrong.ensures _ c.lowest.ensures
