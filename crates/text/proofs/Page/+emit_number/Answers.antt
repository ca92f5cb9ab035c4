use borrow.Author.Rules.{rules}
use Rattle.text.proofs.Writing.{written-digit, written-tenth}
use Rattle.text.proofs.Page.+emit_number.Goals.{then-n-ge10, else-n-ge10}
use Rattle.text.proofs.Page.+emit_number.Goals as goal

pub returns : goal.returns
returns t c = elim c.if-n-ge10.branch [
  | then-n-ge10 w ↦ written-tenth c.args.n (search rules) w.emit_number.ensures (rw w.self-is at c.emit_byte.ensures)
  | else-n-ge10 w ↦ written-digit c.args.n (search rules) (rw w.self-is at c.emit_byte.ensures)
]
