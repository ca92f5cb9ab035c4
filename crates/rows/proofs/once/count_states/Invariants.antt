-- `rows::once::count_states` meets its contract. Assumes nothing.
use lib.ListN.{take}
use Rattle.model.specs.Image.{tables_of}
use Rattle.rows.specs.Counts.{Counted}
use Rattle.rows.proofs.once.count_states.Given as goal

abbrev pub invariant-loop-q : goal.invariant-loop-q
invariant-loop-q l = Counted l.initial.counts l.counts (take l.q (tables_of l.x.image.now).states)
