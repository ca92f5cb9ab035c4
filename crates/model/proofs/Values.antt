-- Laws of values and their operations, over h, half the number of int's values. Assumes nothing.
use mathlib.Core.{Path.◌≡◌, Path.refl, Path.ap, Path.◌∙◌, Bool.Bool, Bool.true, Bool.false, Bool.not, Bool.cond}
use Prim.Native.Nat.{ℕ, suc, ◌+◌, ◌-◌, ◌%◌, ◌<◌, ◌≤◌}
use native.Mathlib.{Nat.mod-lt, Nat.mod-eq_of_lt, Nat.div-one, Nat.mod-one, Omega.arith}
use lib.{Dec.ltb, Dec.eqb, IntN.ℤ, IntN.pos, IntN.negsuc, IntN.neg_ℤ, IntN.◌+ℤ◌, IntN.◌-ℤ◌, IntN.◌*ℤ◌, Signed.mag, Signed.non_neg, Signed.rem_z, Signed.mag_rem}
use borrow.Author.Tests.{lt-ltb, le-ltb, ltb-true, ltb-false, eq-eqb, eqb-true, ne_eqb}
use Rattle.model.specs.Values.{mark, side, round, wrap, is_zero, negate, plus, minus, times, quotient, remainder, same, of_bool, of_size}

mag-side : (s : Bool) (m : ℕ) → mag (side s m) ≡ m
mag-side true m = refl
mag-side false m = refl

side-mag : (z : ℤ) → side (non_neg z) (mag z) ≡ z
side-mag (pos n) = refl
side-mag (negsuc n) = refl

round_by : (h m : ℕ) (s t : Bool) → m < h + h → ltb m h ≡ t → mag (cond t (side s m) (side (not s) (h + h - suc m))) < h
round_by h m s true p e = rw mag-side (ltb-true m h e)
round_by h m s false p e = rw mag-side (omega (arith, ltb-false m h e))

pub round-in : (h m : ℕ) (s : Bool) → m < h + h → mag (round h s m) < h
round-in h m s p = round_by h m s (ltb m h) p refl

pub wrap-same : (h : ℕ) (z : ℤ) → mag z < h → wrap h z ≡ z
unfolding wrap
wrap-same h z p = rw (mod-eq_of_lt {n = mag z} {m = h + h} (omega arith)) (rw (lt-ltb _ _ p) (side-mag z))

-- h, one past the largest, wraps to the least
wrap-half : (h : ℕ) → 0 < h → wrap h (pos h) ≡ negsuc (h - 1)
unfolding wrap
wrap-half h p = rw (mod-eq_of_lt {n = h} {m = h + h} (omega arith)) (rw (le-ltb h h (omega arith)) (ap negsuc (omega arith)))

cond-in : (h : ℕ) (t : Bool) (x y : ℤ) → mag x < h → mag y < h → mag (cond t x y) < h
cond-in h true x y p q = p
cond-in h false x y p q = q

pub of_size-int : (h : ℕ) (z : ℤ) → of_size h 0 z ≡ ltb (mag z) h
unfolding of_size
of_size-int h z = refl

-- what the operations give is an int
pub remainder-in : (h : ℕ) (a b : ℤ) → mag a < h → mag (remainder a b) < h
unfolding remainder
remainder-in h a b p = cond-in h (is_zero b) a (rem_z a b) p (omega (arith, mag_rem a b))

module _ (h : ℕ) (p : 0 < h) where
  pub wrap-in : (z : ℤ) → mag (wrap h z) < h
  unfolding wrap
  wrap-in z = round-in h (mag z % (h + h)) (non_neg z) (mod-lt (mag z) (omega arith))

  pub negate-in : (a : ℤ) → mag (negate h a) < h
  unfolding negate
  negate-in a = wrap-in (neg_ℤ a)

  pub plus-in : (a b : ℤ) → mag (plus h a b) < h
  unfolding plus
  plus-in a b = wrap-in (a +ℤ b)

  pub minus-in : (a b : ℤ) → mag (minus h a b) < h
  unfolding minus
  minus-in a b = wrap-in (a -ℤ b)

  pub times-in : (a b : ℤ) → mag (times h a b) < h
  unfolding times
  times-in a b = wrap-in (a *ℤ b)

  pub quotient-in : (a b : ℤ) → mag (quotient h a b) < h
  unfolding quotient
  quotient-in a b = cond-in h (is_zero b) (pos 0) (wrap h _) p (wrap-in _)

  -- the least int by -1, at every width
  pub least_by_minus_one : (quotient h (negsuc (h - 1)) (negsuc 0) ≡ negsuc (h - 1)) × (remainder (negsuc (h - 1)) (negsuc 0) ≡ pos 0)
  unfolding quotient remainder
  least_by_minus_one =
      let e : suc (h - 1) ≡ h = omega arith in
      (ap (wrap h) (ap pos (div-one (suc (h - 1)) ∙ e)) ∙ wrap-half h p, ap (λ (n : ℕ). neg_ℤ (pos n)) (mod-one (suc (h - 1))))

pub same_refl : (a : ℤ) → same a a ≡ true
same_refl (pos m) = eq-eqb m m refl
same_refl (negsuc m) = eq-eqb m m refl

pub same-eq : (a b : ℤ) → same a b ≡ true → a ≡ b
same-eq (pos m) (pos n) e = ap pos (eqb-true m n e)
same-eq (pos m) (negsuc n) e = cc
same-eq (negsuc m) (pos n) e = cc
same-eq (negsuc m) (negsuc n) e = ap negsuc (eqb-true m n e)

pub same-ne : (a b : ℤ) → (a ≡ b → ⊥) → same a b ≡ false
same-ne (pos m) (pos n) h = ne_eqb m n (λ e. h (ap pos e))
same-ne (pos m) (negsuc n) h = refl
same-ne (negsuc m) (pos n) h = refl
same-ne (negsuc m) (negsuc n) h = ne_eqb m n (λ e. h (ap negsuc e))

pub of_bool-of-bool : (h : ℕ) (b : Bool) → of_size h 2 (of_bool b) ≡ true
unfolding of_size
of_bool-of-bool h true = refl
of_bool-of-bool h false = refl

below-mark : (h n m : ℕ) (t : Bool) → n ≤ h + h → cond t (ltb m h) (ltb m n) ≡ true → m < h + h
below-mark h n m true p e = omega (arith, ltb-true m h e)
below-mark h n m false p e = omega (arith, ltb-true m n e)

-- a value of a type isn't the mark
pub of_size-not-mark : (h n : ℕ) (z : ℤ) → n ≤ h + h → of_size h n z ≡ true → same z (mark h) ≡ false
unfolding of_size
of_size-not-mark h n (pos m) p e = let q = below-mark h n m (eqb n 0) p e in ne_eqb m (h + h) (λ d. omega arith)
of_size-not-mark h n (negsuc m) p e = refl
