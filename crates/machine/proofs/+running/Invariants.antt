-- The run of an action and of what it holds meets its contracts: units and rows fall. Assumes nothing.
use Prim.Native.Nat.{◌+◌, ◌%◌, ◌*◌}
use mathlib.Core.Path.{◌≡◌}
use lib.IntN.{pos}
use Rattle.model.specs.Image.{tables_of}
use Rattle.model.specs.Rows.{branch}
use Rattle.model.specs.Decode.{action_at, list_at, branches_of}
use Rattle.model.specs.Run.{exec_branch}
use Rattle.actions.specs.State.{state_of}
use Rattle.machine.specs.Running.{RunningList}
use Rattle.machine.proofs.Loops.{Whiles, Fors}
use Rattle.machine.proofs.+running.Given as goal

abbrev pub decreases-run_while : goal.decreases-run_while
decreases-run_while l = l.run.now.left * 4 + 2

abbrev pub decreases-run_select : goal.decreases-run_select
decreases-run_select l = l.run.now.left * 4 + 3

abbrev pub decreases-run_for : goal.decreases-run_for
decreases-run_for l = l.run.now.left * 4 + 2

abbrev pub decreases-run_case : goal.decreases-run_case
decreases-run_case l = l.run.now.left * 4 + 3

abbrev pub decreases-run_branches : goal.decreases-run_branches
decreases-run_branches l = l.run.now.left * 4 + 2

abbrev pub decreases-run_both : goal.decreases-run_both
decreases-run_both l = l.run.now.left * 4 + 2

abbrev pub decreases-run_body : goal.decreases-run_body
decreases-run_body l = l.run.now.left * 4 + 1

abbrev pub decreases-run_arms : goal.decreases-run_arms
decreases-run_arms l = l.run.now.left * 4 + 2

abbrev pub decreases-run_action : goal.decreases-run_action
decreases-run_action l = l.run.now.left * 4

abbrev pub invariant-run_branches-loop-here : goal.invariant-run_branches-loop-here
invariant-run_branches-loop-here l = (l.store.now ≡ l.initial.store.now) × (l.values ≡ l.initial.values) × (l.run ≡ l.initial.run) × RunningList branch l.image.now l.rows l.here l.initial.store.now l.initial.values
    × (exec_branch (tables_of l.image.now) (branches_of (tables_of l.image.now) (action_at (tables_of l.image.now)) (list_at (tables_of l.image.now) l.here)) (pos l.ahead) l.script.now l.r (state_of l.initial.run l.initial.store.now l.initial.values) ≡ exec_branch (tables_of l.image.now) (branches_of (tables_of l.image.now) (action_at (tables_of l.image.now)) (list_at (tables_of l.image.now) l.first)) (pos l.k) l.script.now l.r (state_of l.initial.run l.initial.store.now l.initial.values))

abbrev pub decreases-run_branches-loop-here : goal.decreases-run_branches-loop-here
decreases-run_branches-loop-here l = (l.here + 1) % 65536

abbrev pub invariant-run_while-loop-store : goal.invariant-run_while-loop-store
invariant-run_while-loop-store l = Whiles l.image.now l.rows l.r l.e l.a l.script.now l.initial.store.now l.initial.values l.initial.run l.store.now l.values l.run

abbrev pub decreases-run_while-loop-store : goal.decreases-run_while-loop-store
decreases-run_while-loop-store l = l.run.left

abbrev pub invariant-run_for-loop-store : goal.invariant-run_for-loop-store
invariant-run_for-loop-store l = Fors l.image.now l.rows l.r l.g l.a l.script.now l.initial.store.now l.initial.values l.initial.run l.store.now l.values l.run

abbrev pub decreases-run_for-loop-store : goal.decreases-run_for-loop-store
decreases-run_for-loop-store l = l.run.left
