-- `words::get_words` meets its contract. Assumes nothing.
use native.Mathlib.Omega.{arith}
use Rattle.words.proofs.Words.{read_step}
use Rattle.words.proofs.get_words.Goals as goal

pub loop-i-preserved : goal.loop-i-preserved
loop-i-preserved c =
    read_step c.args.s.now c.loop-i.words c.loop-i.i (omega arith) (omega arith) c.word.type_inv c.word.ensures c.loop-i.invariant
