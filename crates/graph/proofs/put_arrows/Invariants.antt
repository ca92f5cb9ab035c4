use Rattle.model.specs.Image.{tables_of}
use Rattle.text.specs.Written.{Written}
use Rattle.notation.specs.Texts.{each}
use Rattle.graph.specs.Ways.{state_arrows}
use Rattle.graph.proofs.put_arrows.Given as goal

abbrev pub invariant-loop-q : goal.invariant-loop-q
invariant-loop-q l = Written (each (state_arrows (tables_of l.x.image.now)) l.q) l.initial.page l.page
