use borrow.Author.Rules.{rules}
use Rattle.text.proofs.Writing.{written-none, written-next}
use Rattle.text.proofs.Page.emit.Goals as goal

pub loop-b-init : goal.loop-b-init
loop-b-init c = written-none _

pub loop-b-preserved : goal.loop-b-preserved
loop-b-preserved c = written-next c.args.bytes.now c.loop-b.b-index (search rules) c.loop-b.invariant c.emit_byte.ensures
