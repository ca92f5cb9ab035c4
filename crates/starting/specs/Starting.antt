-- What the stages of start give and what they are asked (01, "Numbers given instead": 13 to 16). Assumes nothing.
use mathlib.Core.{Path.◌≡◌, Bool.Bool, Bool.cond, Bool.not, Bool.◌||◌, List.List}
use Rattle.std.specs.Prelude.{ℕ, ◌<◌}
use lib.{Dec.eqb, IntN.ℤ, IntN.pos, ListN.length, ListN.get_or}
use Rattle.model.specs.declared.{Image.Image, Refusal.TheVariants.StoreLength, Refusal.TheVariants.ParameterCount, Refusal.TheVariants.ParameterValue, Refusal.TheVariants.ConditionFalse}
use Rattle.model.specs.Answers.{variable, after, unless, each, Verdict}
use Rattle.model.specs.Values.{half16, mark}
use Rattle.model.specs.Image.{Tables, tables_of}
use Rattle.model.specs.Calls.{parameter_count, started, slot_of_type, is_parameter, holds, Started, started_as}
use Rattle.demands.specs.Stores.{TypedStore}
use Rattle.stages.specs.Judging.{Cleared}

-- a parameter gets value number k of those given, any other variable the mark
unfoldable pub given_to : ℕ → List ℤ → ℕ → ℤ
given_to p params k = cond (eqb p 1) (get_or params k (pos 0)) (mark half16)

-- a variable is no parameter, or has a value of its type
unfoldable pub right_at : Tables → List ℤ → ℕ → Bool
right_at x m v = not (is_parameter x v) || slot_of_type x m v

-- 15
unfoldable pub parameters_verdict : Tables → List ℤ → Verdict
parameters_verdict x m = each (right_at x m) (length x.variables) (λ v. ParameterValue (variable v))

-- 16
unfoldable pub condition_verdict : Tables → List ℤ → Verdict
condition_verdict x m = unless (holds x m) ConditionFalse

-- 15 and 16
unfoldable pub values_verdict : Tables → List ℤ → Verdict
values_verdict x m = after (parameters_verdict x m) (condition_verdict x m)

-- 13 to 16
unfoldable pub counts_verdict : Tables → List ℤ → List ℤ → Verdict
counts_verdict x params store =
    after (unless (eqb (length store) (length x.variables)) StoreLength)
    (after (unless (eqb (length params) (parameter_count x.variables)) ParameterCount)
    (values_verdict x (started x params)))

-- what is left of start after 14, and after 9
unfoldable pub begun : Tables → List ℤ → List ℤ → Started
begun x params store = started_as (values_verdict x (started x params)) (started x params) store

unfoldable pub counted : Tables → List ℤ → List ℤ → Started
counted x params store = started_as (counts_verdict x params store) (started x params) store

-- an image free of 1 to 9, and a slot for each variable
pub record Slotted (s : List ℕ) (i : Image) (m : List ℤ) : Type 0 where
  pub cleared : Cleared s i
  pub slots : length m ≡ length (tables_of s).variables

-- and one of its variables
pub record SlotOf (s : List ℕ) (i : Image) (m : List ℤ) (v : ℕ) : Type 0 where
  pub slotted : Slotted s i m
  pub inside : v < length (tables_of s).variables

-- value number k is there for a parameter
pub record Given (p k n : ℕ) : Type 0 where
  pub inside : p ≡ 1 → k < n

-- and a value for each parameter
pub record Filling (s : List ℕ) (i : Image) (params m : List ℤ) : Type 0 where
  pub slotted : Slotted s i m
  pub values : length params ≡ parameter_count (tables_of s).variables

-- an image free of 1 to 9, and a store that passes 13 and 18
pub record Typed (s : List ℕ) (i : Image) (m : List ℤ) : Type 0 where
  pub cleared : Cleared s i
  pub store : TypedStore (tables_of s) m

-- an image free of 1 to 9, and a store filled with some parameter values
pub record Filled (s : List ℕ) (i : Image) (m : List ℤ) : Type 0 where
  pub slotted : Slotted s i m
  pub params : List ℤ
  pub holds : m ≡ started (tables_of s) params

-- and a store beside the working copy
pub record Begins (s : List ℕ) (i : Image) (params store work : List ℤ) : Type 0 where
  pub filling : Filling s i params work
  pub room : length store ≡ length work
