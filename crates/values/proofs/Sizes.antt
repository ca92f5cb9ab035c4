-- How large sums, negatives, products and quotients are, and what tests of a sign tell. Assumes nothing.
use mathlib.Core.{Path.◌≡◌, Path.refl, Path.ap, Bool.Bool, Bool.true, Bool.false, Bool.cond}
use Prim.Native.Nat.{ℕ, zero, suc, ◌+◌, ◌*◌, ◌/◌, ◌≤◌, ◌<◌, zero-le}
use native.Mathlib.{Nat.le_trans, Nat.div-le_self, Nat.mul-le-mul, Omega.arith}
use lib.{Dec.T, Dec.ltb, IntN.ℤ, IntN.pos, IntN.negsuc, IntN.neg_ℤ, IntN.nat_abs, IntN.◌+ℤ◌, IntN.◌-ℤ◌, IntN.◌*ℤ◌, Signed.mag, Signed.non_neg, Signed.lt_z, Signed.le_z, Signed.quot_z}
use borrow.Author.Tests.{le-ltb, le-leb, ltb-true}

mag-cond : (t : Bool) (x y : ℤ) {n : ℕ} → mag x ≤ n → mag y ≤ n → mag (cond t x y) ≤ n
mag-cond true x y h k = h
mag-cond false x y h k = k

pub mag-add : (a b : ℤ) → mag (a +ℤ b) ≤ mag a + mag b + 1
mag-add (pos a) (pos b) = omega arith
mag-add (pos a) (negsuc b) = mag-cond (ltb a (suc b)) _ _ (omega arith) (omega arith)
mag-add (negsuc a) (pos b) = mag-cond (ltb b (suc a)) _ _ (omega arith) (omega arith)
mag-add (negsuc a) (negsuc b) = omega arith

pub mag-neg : (a : ℤ) → mag (neg_ℤ a) ≤ mag a + 1
mag-neg (pos zero) = zero-le
mag-neg (pos (suc n)) = omega arith
mag-neg (negsuc n) = omega arith

pub mag-sub : (a b : ℤ) → mag (a -ℤ b) ≤ mag a + mag b + 2
mag-sub a b = omega (arith, mag-add a (neg_ℤ b), mag-neg b)

neg-pos : (n : ℕ) {m : ℕ} → n ≤ suc m → mag (neg_ℤ (pos n)) ≤ m
neg-pos zero h = zero-le
neg-pos (suc n) h = omega arith

pub mag-mul : (a b : ℤ) → mag (a *ℤ b) ≤ (mag a + 1) * (mag b + 1)
mag-mul (pos a) (pos b) = mul-le-mul (omega arith) (omega arith)
mag-mul (pos a) (negsuc b) = neg-pos (a * suc b) (le_trans (mul-le-mul {n₂ = a + 1} {m₂ = b + 1} (omega arith) (omega arith)) (omega arith))
mag-mul (negsuc a) (pos b) = neg-pos (suc a * b) (le_trans (mul-le-mul {n₂ = a + 1} {m₂ = b + 1} (omega arith) (omega arith)) (omega arith))
mag-mul (negsuc a) (negsuc b) = mul-le-mul (omega arith) (omega arith)

pub mag-quot : (a b : ℤ) → mag (quot_z a b) ≤ mag a + 1
mag-quot (pos a) (pos b) = omega (arith, div-le_self a b)
mag-quot (pos a) (negsuc b) = neg-pos (a / suc b) (omega (arith, div-le_self a (suc b)))
mag-quot (negsuc a) (pos b) = neg-pos (suc a / b) (omega (arith, div-le_self (suc a) b))
mag-quot (negsuc a) (negsuc b) = omega (arith, div-le_self (suc a) (suc b))

pub mag-quot-pos : (a : ℤ) (n : ℕ) → mag (quot_z a (pos n)) ≤ mag a
mag-quot-pos (pos a) n = div-le_self a n
mag-quot-pos (negsuc a) n = neg-pos (suc a / n) (div-le_self (suc a) n)

-- -1 - z, which takes n to -(n + 1) and back
abbrev pub flip : ℤ → ℤ
flip (pos n) = negsuc n
flip (negsuc n) = pos n

pub flips : (z : ℤ) → negsuc 0 -ℤ z ≡ flip z
flips (pos zero) = refl
flips (pos (suc n)) = ap negsuc (omega arith)
flips (negsuc n) = rw (le-ltb (suc n) 1 (omega arith)) (ap pos (omega arith))

pub mag-flip : (z : ℤ) → mag (flip z) ≡ mag z
mag-flip (pos n) = refl
mag-flip (negsuc n) = refl

-- the size of z, or of its flip, by a test against 0
pub below : (z : ℤ) → lt_z z (pos 0) ≡ true → (T (non_neg (flip z)) × (nat_abs (flip z) ≡ mag z))
below (pos n) e = let h : n < 0 = ltb-true n 0 e in absurd (omega arith)
below (negsuc n) e = (tt, refl)

pub above : (z : ℤ) → lt_z z (pos 0) ≡ false → (T (non_neg z) × (nat_abs z ≡ mag z))
above (pos n) e = (tt, refl)
above (negsuc n) e = let q : ◌≡◌ {A = ℕ} 0 1 = cc in absurd (omega arith)

pub le-sign : (z : ℤ) → le_z (pos 0) z ≡ non_neg z
le-sign (pos n) = le-leb 0 n zero-le
le-sign (negsuc n) = refl
