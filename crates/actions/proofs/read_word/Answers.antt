use native.Mathlib.Omega.{arith}
use Rattle.values.proofs.Held.{held-is}
use Rattle.actions.proofs.Reading.{word-ended, word_read, word_out}
use Rattle.actions.proofs.read_word.Goals as goal

pub returns-then-script-i : goal.returns-then-script-i
returns-then-script-i c = word-ended _ _ _ c.if-script-i.true

pub returns-then-of_size : goal.returns-then-of_size
returns-then-of_size c = word_read _ _ _ (omega (arith, c.if-script-i.false)) c.word-z.ensures (held-is _ c.word-z.type_inv) c.of_size.ensures c.if-of_size.true

pub returns : goal.returns
returns c = word_out _ _ _ (omega (arith, c.if-script-i.false)) c.word-z.ensures (held-is _ c.word-z.type_inv) c.of_size.ensures c.if-of_size.false
