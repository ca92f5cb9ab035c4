use borrow.Author.Rules.{rules}
use native.Mathlib.Omega.{arith}
use Rattle.model.specs.Image.{tables_of}
use Rattle.image.proofs.Laid.{laid}
use Rattle.notation.proofs.Steps.{each_next, each_none}
use Rattle.graph.specs.Ways.{state_arrows}
use Rattle.graph.proofs.put_arrows.Goals as goal

pub overflow_sub-n : goal.overflow_sub-n
overflow_sub-n c = let l = laid c.requires in omega (arith, l.rows)

pub loop-q-init : goal.loop-q-init
loop-q-init c = each_none _ _

pub put_state_arrows-requires : goal.put_state_arrows-requires
put_state_arrows-requires c = record { located = c.requires; inside = search rules }

pub loop-q-preserved : goal.loop-q-preserved
loop-q-preserved c = each_next (state_arrows (tables_of c.args.x.now.image.now)) c.loop-q.q c.loop-q.invariant c.put_state_arrows.ensures
