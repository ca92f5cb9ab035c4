-- `words::get_words` meets its contract. Assumes nothing.
use mathlib.Core.{Path.◌≡◌}
use lib.ListN.{take}
use Rattle.model.specs.Bytes.{signed_words}
use Rattle.words.proofs.get_words.Given as goal

abbrev pub invariant-loop-i : goal.invariant-loop-i
invariant-loop-i l = take l.i l.words ≡ take l.i (signed_words l.s)
