use mathlib.Core.{Path.sym, Path.◌∙◌}
use Rattle.stages.proofs.Stages.{rules-stays, rules-binding}
use Rattle.model.proofs.Order.{passed-on}
use Rattle.stages.proofs.rules.Goals as goal

pub returns-in_err-typing_verdict : goal.returns-in_err-typing_verdict
returns-in_err-typing_verdict c = rw (passed-on _ _ c.from_residual.ensures.1, ← c.in_err-typing_verdict.was) (record { verdict = rules-stays _ _ _ c.typing_verdict.ensures c.in_err-typing_verdict.was; filled = c.fill.ensures })

pub returns : goal.returns
returns c = record { verdict = rules-binding _ _ (sym c.typing_verdict.ensures ∙ c.in_ok-typing_verdict.was) c.binding_verdict.ensures; filled = c.fill.ensures }
