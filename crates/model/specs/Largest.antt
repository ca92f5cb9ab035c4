-- Initialisation, the whole automaton (report, Figure 8; 01: "the largest that fit"; refusal 11): what the sets are, and how
-- they are found. Assumes nothing.
use mathlib.Core.{Bool.Bool, Bool.true, Bool.false, Bool.not, Bool.cond, Bool.◌&&◌, Bool.◌||◌, List.List, List.[], List.◌∷◌}
use Rattle.std.specs.Prelude.{ℕ, zero, suc, ◌+◌, ◌≤◌}
use lib.{Dec.eqb, ListN.length, ListN.get_or}
use Rattle.model.specs.Lists.{table}
use Rattle.model.specs.Masks.{digit, Has, has, bit, full, meet, join}
use Rattle.model.specs.Image.{Tables}
use Rattle.model.specs.Decode.{act}
use Rattle.model.specs.Binding.{parameters_of}
use Rattle.model.specs.Sets.{jumps, fine, targets}

-- all variables
abbrev pub top_of : Tables → ℕ
top_of x = full (length x.variables)

-- each of a is in b
abbrev pub Sub : ℕ → ℕ → Type 0
Sub a b = (v : ℕ) → digit a v ≤ digit b v

-- state 0, and what jumps lead to from it
pub data Reached (x : Tables) : ℕ → Type 0 where
  first : Reached x 0
  next : {s q : ℕ} → Reached x s → Has (targets (act x s)) q → Reached x q

-- sets fit: state 0 is entered with the parameters, and a jump from a reached state carries what the state entered has
pub record Fits (x : Tables) (sets : ℕ → ℕ) : Type 0 where
  pub all : (s : ℕ) → Sub (sets s) (top_of x)
  pub begins : Sub (sets 0) (parameters_of x.variables)
  pub along : (s q : ℕ) → Reached x s → Sub (sets q) (jumps q (top_of x) (sets s) (act x s))

-- "the largest that fit"
pub record Largest (x : Tables) (sets : ℕ → ℕ) : Type 0 where
  pub fits : Fits x sets
  pub above : (others : ℕ → ℕ) → Fits x others → (s : ℕ) → Sub (others s) (sets s)

-- f again and again until nothing changes, n times at most
unfoldable pub settle : {A : Type 0} → (A → A → Bool) → (A → A) → ℕ → A → A
settle same f zero a = a
settle same f (suc n) a = let b = f a in elim (same b a) [ true ↦ a | false ↦ settle same f n b ]

-- the states seen, and those that jumps of the states below n that are seen lead to
unfoldable pub spread : Tables → ℕ → ℕ → ℕ
spread x zero seen = seen
spread x (suc n) seen = elim (has seen n) [ true ↦ join (targets (act x n)) (spread x n seen) | false ↦ spread x n seen ]

-- the mask of the reached states: each round raises it, or nothing changes
unfoldable pub reached_of : Tables → ℕ
reached_of x = let n = length x.states in settle eqb (spread x n) (full n) (bit 0)

-- what is left of m at state q after the jumps from the reached states below n
unfoldable pub carried : Tables → ℕ → List ℕ → ℕ → ℕ → ℕ → ℕ
carried x reached sets q m zero = m
carried x reached sets q m (suc n) =
    elim (has reached n) [
      | true ↦ meet (carried x reached sets q m n) (jumps q (top_of x) (get_or sets n (top_of x)) (act x n))
      | false ↦ carried x reached sets q m n
    ]

-- one sweep over all states
unfoldable pub sweep : Tables → ℕ → List ℕ → List ℕ
sweep x reached sets =
    let n = length x.states in table (λ q. carried x reached sets q (get_or sets q (top_of x)) n) 0 n

unfoldable pub alike : List ℕ → List ℕ → Bool
alike [] [] = true
alike [] (n ∷ ns) = false
alike (m ∷ ms) [] = false
alike (m ∷ ms) (n ∷ ns) = eqb m n && alike ms ns

unfoldable pub sum : List ℕ → ℕ
sum [] = 0
sum (m ∷ ms) = m + sum ms

-- at first the parameters at state 0, all variables elsewhere
unfoldable pub begun : Tables → List ℕ
begun x = table (λ q. cond (eqb q 0) (parameters_of x.variables) (top_of x)) 0 (length x.states)

-- the largest sets, by state: each sweep lowers the sum of the masks, or nothing changes
unfoldable pub sets_of : Tables → List ℕ
sets_of x = let r = reached_of x in settle alike (sweep x r) (suc (sum (begun x))) (begun x)

-- 11: "Errors are judged with the finished sets", at the states reached
unfoldable pub initialised : Tables → ℕ → List ℕ → ℕ → Bool
initialised x reached sets s = not (has reached s) || fine (top_of x) (get_or sets s (top_of x)) (act x s)
