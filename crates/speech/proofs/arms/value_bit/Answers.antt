-- `value_bit`: a constant below 64, another constant, another pattern. Assumes nothing.
use Rattle.speech.proofs.Sixty.{value_in, value_out, no_value}
use Rattle.speech.proofs.arms.value_bit.Goals as goal

pub returns-then-value-lt64 : goal.returns-then-value-lt64
returns-then-value-lt64 c = value_in _ _ _ c.if-code-eq34.true c.bit.ensures

pub returns-else-value-lt64 : goal.returns-else-value-lt64
returns-else-value-lt64 c = value_out _ _ c.if-value-lt64.false

pub returns-else-code-eq34 : goal.returns-else-code-eq34
returns-else-code-eq34 c = no_value _ _ c.if-code-eq34.false
