use mathlib.Core.Path.{sym, ap}
use Rattle.model.specs.declared.Outcome.{Outcome}
use Rattle.told.proofs.{Coded.ends_at, Coded.out-ends, Coded.out-over, Coded.told-by, Coded.told-ends}
use Rattle.machine.proofs.{Ways.ran, Helpers.again-spent, Helpers.again-paid, Helpers.again-over}
use Rattle.machine.proofs.again.Goals as goal

pub returns-then-p-ne-ENDS : goal.returns-then-p-ne-ENDS
returns-then-p-ne-ENDS c = (c.requires, again-over _ (out-over c.args.p c.if-p-ne-ENDS.true))

pub returns-then-run-eq0 : goal.returns-then-run-eq0
returns-then-run-eq0 c =
    (told-by c.stopped.ensures, again-spent _ (sym (ends_at c.args.p c.if-p-ne-ENDS.false)) c.if-run-eq0.true (ap (λ (u : Outcome). ran u c.args.run.now) c.stopped.ensures.outcome))

pub returns : goal.returns
returns c =
    (told-ends, again-paid _ (sym (ends_at c.args.p c.if-p-ne-ENDS.false)) c.if-run-eq0.false c.charge.ensures (ap (λ (u : Outcome). ran u c.charge.new.run) out-ends))
