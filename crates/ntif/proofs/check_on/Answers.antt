-- `ntif::check_on` meets its contract. Assumes nothing.
use mathlib.Core.{Path.ap, List.◌++◌}
use Prim.Native.Nat.{ℕ}
use native.Mathlib.Omega.{arith}
use lib.ListN.{drop, length-take}
use Rattle.ntif.proofs.Checking.{accepted-trailer, accepted-rooted, accepted-fits, accepted-most, checked_refused, checked-accepted}
use Rattle.model.proofs.Order.{passed-on}
use Rattle.ntif.proofs.check_on.Goals as goal

pub trailer-requires : goal.trailer-requires
trailer-requires c = accepted-trailer _ _ c.judge.ensures.verdict c.in_ok-judge.was

pub state_count-n-requires : goal.state_count-n-requires
state_count-n-requires c = (accepted-rooted _ _ c.judge.ensures.verdict c.in_ok-judge.was _ c.trailer.ensures).formed.located

pub slice_bounds-copy_from_slice-end : goal.slice_bounds-copy_from_slice-end
slice_bounds-copy_from_slice-end c = omega (arith, c.state_count-n.ensures, accepted-fits _ _ c.judge.ensures.verdict c.in_ok-judge.was)

pub slice_bounds-copy_from_slice-end-2 : goal.slice_bounds-copy_from_slice-end-2
slice_bounds-copy_from_slice-end-2 c =
    omega (arith, length-take {A = ℕ}, c.state_count-n.ensures, accepted-fits _ _ c.judge.ensures.verdict c.in_ok-judge.was)

pub slice_bounds-copy_from_slice-end-3 : goal.slice_bounds-copy_from_slice-end-3
slice_bounds-copy_from_slice-end-3 c = omega (arith, c.state_count-n.ensures, accepted-most _ _ c.judge.ensures.verdict c.in_ok-judge.was)

pub slice_bounds-copy_from_slice-end-4 : goal.slice_bounds-copy_from_slice-end-4
slice_bounds-copy_from_slice-end-4 c =
    omega (arith, length-take {A = ℕ}, c.state_count-n.ensures, accepted-most _ _ c.judge.ensures.verdict c.in_ok-judge.was)

pub copy_from_slice-requires : goal.copy_from_slice-requires
copy_from_slice-requires c =
    let v = c.judge.ensures.verdict in
    omega (arith, length-take {A = ℕ}, c.state_count-n.ensures, accepted-fits _ _ v c.in_ok-judge.was, accepted-most _ _ v c.in_ok-judge.was)

pub returns-in_err-judge : goal.returns-in_err-judge
returns-in_err-judge c = rw (passed-on _ _ c.from_residual.ensures.1, ← c.in_err-judge.was) (checked_refused _ _ _ c.judge.ensures.verdict c.in_err-judge.was)

pub returns : goal.returns
returns c =
    rw (← c.in_ok-judge.was) (checked-accepted _ _ _ c.judge.ensures c.in_ok-judge.was c.state_count-n.ensures (ap (λ l. l ++ drop c.state_count-n.result c.args.sets.now) c.copy_from_slice.ensures.after))
