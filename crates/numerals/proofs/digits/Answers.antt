-- `numerals::digits` meets its contract: what is said so far and by the rest is what the whole says. Assumes nothing.
use mathlib.Core.Path.{sym, ◌∙◌}
use native.Mathlib.Omega.{arith}
use Rattle.numerals.proofs.Reading.{digit-is, saying-other, saying-all, next-digit}
use Rattle.numerals.proofs.digits.Goals as goal

pub returns-then-not-is_ascii_digit : goal.returns-then-not-is_ascii_digit
returns-then-not-is_ascii_digit c =
    sym (c.loop-b.invariant ∙ saying-other c.args.text.now c.loop-b.b-index c.loop-b.n (omega arith) (sym (digit-is _ c.is_ascii_digit.ensures.value) ∙ c.if-not-is_ascii_digit.true))

pub append-n-requires : goal.append-n-requires
append-n-requires c = sym (digit-is _ c.is_ascii_digit.ensures.value) ∙ c.if-not-is_ascii_digit.false

pub loop-b-preserved : goal.loop-b-preserved
loop-b-preserved c =
    next-digit c.args.text.now c.loop-b.b-index c.loop-b.n c.append-n.result (omega arith) (sym (digit-is _ c.is_ascii_digit.ensures.value) ∙ c.if-not-is_ascii_digit.false) c.append-n.ensures c.loop-b.invariant

pub returns : goal.returns
returns c = sym (c.loop-b.invariant ∙ saying-all c.args.text.now c.loop-b.b-index c.loop-b.n (omega arith))
