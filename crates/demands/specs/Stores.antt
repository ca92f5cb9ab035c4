-- Stores that a step runs (01, "Numbers given instead": 13 and 18). Assumes nothing.
use mathlib.Core.{Path.◌≡◌, Bool.true, List.List}
use Rattle.std.specs.Prelude.{ℕ, ◌<◌}
use lib.{IntN.ℤ, ListN.length}
use Rattle.model.specs.Image.{Tables}
use Rattle.model.specs.Calls.{slot_fits}

-- the store passes 13 and 18
pub record TypedStore (x : Tables) (m : List ℤ) : Type 0 where
  pub size : length m ≡ length x.variables
  pub each : (v : ℕ) → v < length x.variables → slot_fits x m v ≡ true
