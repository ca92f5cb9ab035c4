-- What an image free of 1 to 9 has for start. Assumes nothing.
use mathlib.Core.{Path.◌≡◌, List.List}
use Prim.Native.Nat.{ℕ, ◌≤◌, ◌<◌}
use native.Mathlib.Omega.{arith}
use lib.ListN.{length}
use Rattle.model.specs.declared.Image.{Image}
use Rattle.model.specs.Answers.{variable}
use Rattle.model.specs.Image.{tables_of, entry_of, type_of}
use Rattle.image.specs.Located.{TypeOf, VariableOf}
use Rattle.image.proofs.Laid.{laid, variables-count, types-count}
use Rattle.demands.proofs.Whole.{Whole, whole, entry-of}
use Rattle.stages.specs.Judging.{Cleared}
use Rattle.stages.proofs.Cleared.{located}

module _ {s : List ℕ} {i : Image} (h : Cleared s i) where
  pub all : Whole (tables_of s)
  all = whole s h.bytes h.passed

  pub variables-few : length (tables_of s).variables ≤ 64
  variables-few = let l = located h in omega (arith, variables-count l, (laid l).variables_most)

  pub variable-of : (v : ℕ) → v < length (tables_of s).variables → VariableOf s i v
  variable-of v p = let l = located h in record { located = l; inside = omega (arith, variables-count l) }

  pub parameter-small : (v : ℕ) → v < length (tables_of s).variables → (entry_of (tables_of s) (variable v)).parameter ≤ 1
  parameter-small v p = (entry-of (tables_of s) all.free v p).parameter

  pub type-of : (v t : ℕ) → v < length (tables_of s).variables → t ≡ type_of (tables_of s) (variable v) → TypeOf s i t
  type-of v t p e = let l = located h in record { located = l; inside = omega (arith, (entry-of (tables_of s) all.free v p).type, types-count l, e) }
