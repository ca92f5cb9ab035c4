use Prim.Native.Nat.{◌+◌, ◌%◌}
use Rattle.offers.proofs.Offering.{Along}
use Rattle.offers.proofs.accept_all.Given as goal

abbrev pub invariant-loop-r : goal.invariant-loop-r
invariant-loop-r l = Along l.x.image.now l.x.trailer l.w l.place l.script l.run l.initial.store l.initial.values l.store l.values l.words l.count l.r

abbrev pub decreases-loop-r : goal.decreases-loop-r
decreases-loop-r l = (l.r + 1) % 65536
