-- The set of a loop: what every analysis uses of `loop_set`. Only these laws open it. Assumes nothing.
use mathlib.Core.Path.{◌≡◌, refl}
use Prim.Native.Nat.{ℕ}
use Rattle.model.specs.Masks.{Has}
use Rattle.model.specs.Sets.{loop_set}
use Rattle.model.specs.Largest.{Sub}
use Rattle.model.proofs.Masks.{sub_refl}

loop_set-is : (m : ℕ) (f : ℕ → ℕ) → loop_set m f ≡ m
unfolding loop_set
loop_set-is m f = refl

-- it is a part of the entering set
pub loop_set-below : (m : ℕ) (f : ℕ → ℕ) → Sub (loop_set m f) m
loop_set-below m f = rw loop_set-is (sub_refl m)

-- it grows with the entering set and the body
pub loop_set-mono : (m n : ℕ) (f g : ℕ → ℕ) → Sub m n → ((a b : ℕ) → Sub a b → Sub (f a) (g b)) → Sub (loop_set m f) (loop_set n g)
loop_set-mono m n f g h k = rw (loop_set-is m f, loop_set-is n g) h

-- it has what the entering set has and the body keeps
pub loop_set-has : (m : ℕ) (f : ℕ → ℕ) (v : ℕ) → Has m v → ((k : ℕ) → Has k v → Has (f k) v) → Has (loop_set m f) v
loop_set-has m f v h b = rw loop_set-is h
