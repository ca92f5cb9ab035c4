use Rattle.text.proofs.Writing.{written-then, written-none}
use Rattle.notation.specs.Whole.{member_text}
use Rattle.notation.proofs.whole.put_member.Goals as goal

pub returns-then-inside : goal.returns-then-inside
unfolding member_text
returns-then-inside c = rw (member_text, ← c.bit-one.ensures, ← c.inside.ensures, c.if-inside.true) (written-then c.emit.ensures c.emit_number.ensures)

pub returns-else-inside : goal.returns-else-inside
unfolding member_text
returns-else-inside c = rw (member_text, ← c.bit-one.ensures, ← c.inside.ensures, c.if-inside.false) (written-none _)
