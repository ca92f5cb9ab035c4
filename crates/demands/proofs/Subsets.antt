-- What the analyses need of sets as masks: parts of a join, and lists of sets put into one. Assumes nothing.
use mathlib.Core.{Path.◌≡◌, Path.ap, Bool.true, List.List, List.[], List.◌∷◌}
use Prim.Native.Nat.{ℕ, ◌+◌, ◌≤◌}
use native.Mathlib.{Omega.arith, Decide.ℕ_discrete}
use borrow.Author.Tests.{eqb-true}
use Rattle.model.specs.Masks.{digit, Has, bit, meet, join, without, union, apart}
use Rattle.model.specs.Largest.{Sub}
use Rattle.model.proofs.Masks.{digit-le, digit-zero, digit-meet, digit-join, digit-without, digit-bit-here, digit-bit-there, union-has}

pub sub-has : (a b v : ℕ) → Sub a b → Has a v → Has b v
sub-has a b v s h = omega (arith, s v, digit-le b v)

pub join-left : (a b : ℕ) → Sub a (join a b)
join-left a b v = omega (arith, digit-join a b v)

pub join-right : (a b : ℕ) → Sub b (join a b)
join-right a b v = omega (arith, digit-join a b v)

pub join-zero : (a : ℕ) → Sub (join a 0) a
join-zero a v = omega (arith, digit-join a 0 v, digit-zero v)

pub sub-left : (a b c : ℕ) → Sub (join a b) c → Sub a c
sub-left a b c s v = omega (arith, digit-join a b v, s v)

pub sub-right : (a b c : ℕ) → Sub (join a b) c → Sub b c
sub-right a b c s v = omega (arith, digit-join a b v, s v)

pub bit_in : (v b : ℕ) → Sub (bit v) b → Has b v
bit_in v b s = sub-has (bit v) b v s (digit-bit-here v)

pub bit-sub : (v b : ℕ) → Has b v → Sub (bit v) b
bit-sub v b h u = go (ℕ_discrete u v)
  where
    go : Dec (u ≡ v) → digit (bit v) u ≤ digit b u
    go (yes e) = rw e (omega (arith, digit-le (bit v) v))
    go (no f) = omega (arith, digit-bit-there v u f)

-- nothing is in both
pub apart-sum : (a b : ℕ) → apart a b ≡ true → (v : ℕ) → digit a v + digit b v ≤ 1
unfolding apart
apart-sum a b e v =
    omega (arith, digit-meet a b v, ap (λ (m : ℕ). digit m v) (eqb-true (meet a b) 0 e), digit-zero v, digit-le a v, digit-le b v)

union-nil : (v : ℕ) → digit (union []) v ≡ 0
unfolding union
union-nil v = digit-zero v

-- b and the sets of a list, the first set taken along
module _ (d b : ℕ) where
  pub join-none : Sub d (join b (union [])) → Sub d b
  join-none s v = omega (arith, s v, digit-join b (union []) v, union-nil v)

  pub join-next : (m : ℕ) (ms : List ℕ) → Sub d (join b (union (m ∷ ms))) → Sub d (join (join b m) (union ms))
  join-next m ms s v =
      omega (arith, s v, digit-join b (union (m ∷ ms)) v, union-has m ms v, digit-join (join b m) (union ms) v, digit-join b m v)

  pub join_one : (m : ℕ) → Sub d (join b m) → Sub d (join b (union (m ∷ [])))
  join_one m s v = omega (arith, s v, digit-join b (union (m ∷ [])) v, union-has m [] v, digit-join b m v)

  -- and taken from b
  pub less_none : Sub d (without b (union [])) → Sub d b
  less_none s v = omega (arith, s v, digit-without b (union []) v)

  pub less-next : (m : ℕ) (ms : List ℕ) → Sub d (without b (union (m ∷ ms))) → Sub d (without (without b m) (union ms))
  less-next m ms s v =
      omega (arith, s v, digit-without b (union (m ∷ ms)) v, union-has m ms v, digit-without (without b m) (union ms) v, digit-without b m v, digit-le b v)
