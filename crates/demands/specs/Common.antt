-- What several statements are said with. Assumes nothing.
use Rattle.std.specs.Prelude.{List, [], ◌∷◌, ℕ, ◌<◌, get_or}

-- an image is bytes
pub record AreBytes (s : List ℕ) : Type 0 where
  pub each : (j : ℕ) → get_or s j 0 < 256

-- exactly if
pub record Iff (A B : Type 0) : Type 0 where
  pub on : A → B
  pub back : B → A

-- each element; each pair i < j; some element
pub data Every {A : Type 0} (P : A → Type 0) : List A → Type 0 where
  none_left : Every P []
  one_more : {a : A} {l : List A} → P a → Every P l → Every P (a ∷ l)

pub data Pairwise {A : Type 0} (R : A → A → Type 0) : List A → Type 0 where
  no_pair : Pairwise R []
  more_pairs : {a : A} {l : List A} → Every (λ b. R a b) l → Pairwise R l → Pairwise R (a ∷ l)

pub data Some {A : Type 0} (P : A → Type 0) : List A → Type 0 where
  s_here : {a : A} {l : List A} → P a → Some P (a ∷ l)
  s_later : {a : A} {l : List A} → Some P l → Some P (a ∷ l)

-- "Lowest place first": the lowest of n places at which P doesn't hold
pub record Lowest (P : ℕ → Type 0) (n r : ℕ) : Type 0 where
  pub row : r < n
  pub below : (i : ℕ) → i < r → P i
  pub fails : P r → ⊥
