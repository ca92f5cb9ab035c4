use borrow.Author.Rules.{rules}
use mathlib.Core.{List.[], List.◌∷◌}
use Rattle.notation.specs.Texts.{blanks}
use Rattle.notation.proofs.Steps.{each_next, each_none}
use Rattle.notation.proofs.marks.put_blanks.Goals as goal

pub loop-k-init : goal.loop-k-init
loop-k-init c = each_none _ _

pub loop-k-preserved : goal.loop-k-preserved
loop-k-preserved c = each_next (λ i. 32 ∷ []) c.loop-k.k c.loop-k.invariant c.emit_byte.ensures

pub returns : goal.returns
unfolding blanks
returns c = search rules
