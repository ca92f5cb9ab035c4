-- The lowest in a mask, by its zeros. Assumes nothing.
use mathlib.Core.{Path.◌≡◌, Path.refl}
use Prim.Native.Nat.{ℕ, zero, suc, ◌/◌, ◌%◌, ◌^◌, ◌<◌}
use native.Mathlib.{Omega.arith, Nat.pow-suc}
use lib.Count.{under, count_trailing_zeros}
use Rattle.model.specs.Masks.{digit}
use Rattle.sets.specs.States.{Lowest}

-- the lowest of the n digits that is set is digit k
record Zeros (n m k : ℕ) : Type 0 where
  here : digit m k ≡ 1
  below : (j : ℕ) → j < k → digit m j ≡ 0
  small : k < n

zeros-odd : (n m : ℕ) → m % 2 ≡ 1 → Zeros (suc n) m zero
unfolding digit
zeros-odd n m e = record { here = e; below = λ j h. absurd (omega arith); small = omega arith }

zeros-even : (n m k : ℕ) → m % 2 ≡ 0 → Zeros n (m / 2) k → Zeros (suc n) m (suc k)
unfolding digit
zeros-even n m k e z = record { here = z.here; below = before; small = omega (arith, z.small) }
  where
    before : (j : ℕ) → j < suc k → digit m j ≡ 0
    before zero h = e
    before (suc j) h = z.below j (omega arith)

zeros : (n m : ℕ) → 0 < m → m < 2 ^ n → Zeros n m (count_trailing_zeros n m)
unfolding count_trailing_zeros
zeros zero m h l = absurd (omega arith)
zeros (suc n) m h l = go (m % 2) refl (λ e. zeros n (m / 2) (omega arith) (omega (arith, pow-suc 2 n)))
  where
    go : (d : ℕ) → m % 2 ≡ d → (m % 2 ≡ 0 → Zeros n (m / 2) (count_trailing_zeros n (m / 2))) → Zeros (suc n) m (under d (count_trailing_zeros n (m / 2)))
    go zero e ih = zeros-even n m _ e (ih e)
    go (suc d) e ih = zeros-odd n m (omega arith)

pub lowest-of : (m : ℕ) → 0 < m → m < 2 ^ 64 → Lowest m (count_trailing_zeros 64 m)
lowest-of m h l = let z = zeros 64 m h l in record { here = z.here; below = z.below; small = z.small }
