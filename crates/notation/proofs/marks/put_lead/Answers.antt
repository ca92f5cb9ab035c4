use Rattle.text.proofs.Writing.{written-none}
use Rattle.notation.specs.Texts.{lead_text}
use Rattle.notation.proofs.marks.put_lead.Goals as goal

pub returns-in-Nothing : goal.returns-in-Nothing
unfolding lead_text
returns-in-Nothing c = rw c.in-Nothing.is (written-none _)

pub returns-in-Comma : goal.returns-in-Comma
unfolding lead_text
returns-in-Comma c = rw c.in-Comma.is c.emit.ensures

pub returns-in-Where : goal.returns-in-Where
unfolding lead_text
returns-in-Where c = rw c.in-Where.is c.emit-in-Where.ensures
