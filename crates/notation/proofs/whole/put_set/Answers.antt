use Rattle.text.proofs.Writing.{written-then}
use Rattle.notation.specs.Whole.{set_text}
use Rattle.notation.proofs.whole.put_set.Goals as goal

pub returns : goal.returns
unfolding set_text
returns c = written-then (written-then c.put_said.ensures c.put_members.ensures) c.put_said-2.ensures
