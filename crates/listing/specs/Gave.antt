-- What the lister has from check. Assumes nothing.
use Rattle.model.specs.Answers.{Verdict}
use mathlib.Core.{Path.◌≡◌, List.List}
use Rattle.std.specs.Prelude.{ℕ, ◌≤◌, length, replicate}
use Rattle.model.specs.Limits.{limits}
use Rattle.model.specs.Calls.{check}

-- check's verdict on an image and the sets after it, with room for 64 sets that were 0
pub record Gave (s : List ℕ) (v : Verdict) (sets : List ℕ) : Type 0 where
  pub checked : record { answer = v; sets = sets } ≡ check s (replicate limits.states 0)
  pub room : limits.states ≤ length sets
