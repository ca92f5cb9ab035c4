-- `finishing::put_label` meets its contract. Assumes nothing.
use mathlib.Core.{Path.◌≡◌}
use lib.ListN.{take}
use Rattle.model.specs.Run.{label_words}
use Rattle.actions.specs.State.{label_of}
use Rattle.finishing.proofs.put_label.Given as goal

abbrev pub invariant-loop-k : goal.invariant-loop-k
invariant-loop-k l = take l.k l.word-items ≡ take l.k (label_words (label_of l.run l.values))
