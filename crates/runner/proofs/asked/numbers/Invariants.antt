-- No more numbers than the slice holds.
use Rattle.std.proofs.Common.{◌≤◌, length}
use Rattle.runner.proofs.asked.numbers.Given as goal

abbrev pub invariant-loop-i : goal.invariant-loop-i
invariant-loop-i g l = l.count ≤ length l.given
