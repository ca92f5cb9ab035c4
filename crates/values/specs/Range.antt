-- What the operations on values ask, over h, half the number of int's values. Assumes nothing.
use Rattle.std.specs.Prelude.{ℕ, ◌≤◌, ◌<◌}
use lib.{IntN.ℤ, Signed.mag}

-- 16 bits or fewer
pub record Half (h : ℕ) : Type 0 where
  pub some : 0 < h
  pub small : h ≤ 32768

-- an int
pub record InRange (h : ℕ) (a : ℤ) : Type 0 where
  pub half : Half h
  pub below : mag a < h

-- two ints
pub record BothInRange (h : ℕ) (a b : ℤ) : Type 0 where
  pub half : Half h
  pub left : mag a < h
  pub right : mag b < h
