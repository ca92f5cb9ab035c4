-- Text put into a byte slice. Assumes nothing.
use mathlib.Core.{Path.◌≡◌, List.List, List.◌++◌}
use Rattle.std.specs.Prelude.{ℕ, ◌+◌, length, take, drop}

-- t put from byte `at` of s on, up to r, gives u: the bytes before t and after it stay
pub record Put (s : List ℕ) (at : ℕ) (t : List ℕ) (r : ℕ) (u : List ℕ) : Type 0 where
  pub next : r ≡ at + length t
  pub text : u ≡ take at s ++ t ++ drop r s
