use mathlib.Core.{List.[], List.◌∷◌}
use Rattle.text.specs.Written.{Written}
use Rattle.notation.specs.Texts.{each}
use Rattle.notation.proofs.marks.put_blanks.Given as goal

abbrev pub invariant-loop-k : goal.invariant-loop-k
invariant-loop-k l = Written (each (λ i. 32 ∷ []) l.k) l.initial.page l.page
