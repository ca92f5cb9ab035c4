-- Lists: made from an index, and a test of each element. Assumes nothing.
use mathlib.Core.{Bool.Bool, Bool.true, Bool.◌&&◌, List.List, List.[], List.◌∷◌}
use Rattle.std.specs.Prelude.{ℕ, zero, suc}

-- f i, f (i + 1), ..., n of them
unfoldable pub table : {A : Type 0} → (ℕ → A) → ℕ → ℕ → List A
table f i zero = []
table f i (suc n) = f i ∷ table f (suc i) n

-- the test passes at every element
unfoldable pub all : {A : Type 0} → (A → Bool) → List A → Bool
all p [] = true
all p (a ∷ l) = p a && all p l
