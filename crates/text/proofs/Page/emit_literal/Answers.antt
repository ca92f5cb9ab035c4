use borrow.Author.Rules.{rules}
use Rattle.text.proofs.Writing.{written-small, written-minus}
use Rattle.text.proofs.Page.emit_literal.Goals as goal

pub returns-then-n-lt32768 : goal.returns-then-n-lt32768
returns-then-n-lt32768 c = written-small c.args.n (search rules) c.emit_number.ensures

pub returns-else-n-lt32768 : goal.returns-else-n-lt32768
returns-else-n-lt32768 c = written-minus c.args.n (search rules) (search rules) c.emit_byte.ensures c.emit_number-else-n-lt32768.ensures
