use Rattle.notation.specs.Whole.{member_text}
use Rattle.notation.proofs.Steps.{each_next, each_none}
use Rattle.notation.proofs.whole.put_members.Goals as goal

pub loop-v-init : goal.loop-v-init
loop-v-init c = each_none _ _

pub loop-v-preserved : goal.loop-v-preserved
loop-v-preserved c = each_next (member_text c.args.mask) c.loop-v.v c.loop-v.invariant c.put_member.ensures
