use Rattle.text.specs.Written.{Written}
use Rattle.notation.specs.Texts.{each}
use Rattle.notation.specs.Whole.{set_text}
use Rattle.notation.proofs.whole.put_sets.Given as goal

abbrev pub invariant-loop-q : goal.invariant-loop-q
invariant-loop-q l = Written (each (set_text l.st l.n l.sets) l.q) l.initial.page l.page
