use mathlib.Core.{Path.sym, Path.◌∙◌}
use Rattle.stages.proofs.Stages.{trailer-inside, located-of, tables-stays, tables-rows}
use Rattle.model.proofs.Order.{passed-on}
use Rattle.stages.proofs.tables.Goals as goal

pub trailer-requires : goal.trailer-requires
trailer-requires c = trailer-inside _ (sym c.header.ensures ∙ c.in_ok-header.was)

pub rows_verdict-requires : goal.rows_verdict-requires
rows_verdict-requires c = located-of _ _ c.trailer.ensures (sym c.header.ensures ∙ c.in_ok-header.was)

pub returns-in_err-header : goal.returns-in_err-header
returns-in_err-header c = rw (passed-on _ _ c.from_residual.ensures.1, ← c.in_err-header.was) (tables-stays _ _ _ c.header.ensures c.in_err-header.was)

pub returns : goal.returns
returns c = tables-rows _ _ (sym c.header.ensures ∙ c.in_ok-header.was) c.rows_verdict.ensures
