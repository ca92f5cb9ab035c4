use Rattle.notation.specs.Whole.{set_text}
use Rattle.notation.proofs.Steps.{each_next, each_none}
use Rattle.notation.proofs.whole.put_sets.Goals as goal

pub loop-q-init : goal.loop-q-init
loop-q-init c = each_none _ _

pub loop-q-preserved : goal.loop-q-preserved
loop-q-preserved c = each_next (set_text c.args.st c.args.n c.args.sets.now) c.loop-q.q c.loop-q.invariant c.put_set.ensures
