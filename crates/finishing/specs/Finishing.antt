-- What telling a run's result needs: buffers of their lengths, and numbers that fit. Assumes nothing.
use mathlib.Core.{Path.◌≡◌, List.List}
use Rattle.std.specs.Prelude.{ℕ, ◌≤◌, ◌<◌, ◌^◌}
use lib.{IntN.ℤ, ListN.length}
use Rattle.actions.specs.declared.Ran.{Ran}

pub record Finishes (ran : Ran) (budget : ℕ) (store label work values : List ℤ) : Type 0 where
  pub slots : length store ≡ length work
  pub room : 10 ≤ length label
  pub offers : length values ≡ 8
  pub units : ran.run.left ≤ budget
  pub words : ran.run.words < 2 ^ 32
