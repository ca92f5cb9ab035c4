use lib.ListN.{take}
use Rattle.text.specs.Written.{Written}
use Rattle.text.proofs.Page.emit.Given as goal

abbrev pub invariant-loop-b : goal.invariant-loop-b
invariant-loop-b l = Written (take l.b-index l.bytes) l.initial.self l.self
