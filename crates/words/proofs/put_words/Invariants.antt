-- `words::put_words` meets its contract. Assumes nothing.
use mathlib.Core.{Path.◌≡◌, List.map}
use lib.ListN.{take}
use Rattle.model.specs.Bytes.{written}
use Rattle.words.proofs.put_words.Given as goal

abbrev pub invariant-loop-i : goal.invariant-loop-i
invariant-loop-i g l = l.s ≡ written g.W.LittleEndian.SIZE (map g.W.LittleEndian.number (take l.i l.words)) l.initial.s
