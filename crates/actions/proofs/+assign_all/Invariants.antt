use Prim.Native.Nat.{◌+◌, ◌%◌}
use Rattle.actions.proofs.+assign_all.Given as goal

abbrev pub decreases-assign_all : goal.decreases-assign_all
decreases-assign_all l = (l.r + 1) % 65536
