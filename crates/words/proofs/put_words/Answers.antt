-- `words::put_words` meets its contract. Assumes nothing.
use native.Mathlib.Omega.{arith}
use Rattle.words.proofs.Written.{written_none, written_step}
use Rattle.words.proofs.put_words.Goals as goal

pub loop-i-init : goal.loop-i-init
loop-i-init g c = written_none _ c.args.s.now

pub loop-i-preserved : goal.loop-i-preserved
loop-i-preserved g c = written_step g.W.LittleEndian.number g.W.LittleEndian.SIZE c.args.words.now c.args.s.now c.loop-i.s c.loop-i.i (omega arith) (rw c.SIZE.ensures) (omega arith) c.index-words-i.is c.put.ensures c.loop-i.invariant
