-- Values and their operations (01, "Values"), over h, half the number of int's values: 32,768 at 16 bits. Assumes nothing.
use Rattle.std.specs.Prelude.{Bool, true, false, not, cond, ◌&&◌, ℕ, zero, suc, ◌+◌, ◌-◌, ◌%◌}
use lib.{Dec.ltb, Dec.eqb, IntN.ℤ, IntN.pos, IntN.negsuc, IntN.neg_ℤ, IntN.◌+ℤ◌, IntN.◌-ℤ◌, IntN.◌*ℤ◌, Signed.mag, Signed.non_neg, Signed.quot_z, Signed.rem_z}

-- 16 bits
abbrev pub half16 : ℕ
half16 = 32768

-- "a slot holding 65,536 is undefined": one past every value of the width
abbrev pub mark : ℕ → ℤ
mark h = pos (h + h)

-- m, or -(m + 1)
abbrev pub side : Bool → ℕ → ℤ
side true m = pos m
side false m = negsuc m

-- m stays below h, and comes round from the other end from there on
abbrev pub round : ℕ → Bool → ℕ → ℤ
round h s m = cond (ltb m h) (side s m) (side (not s) (h + h - suc m))

-- wrapped into -h .. h - 1
unfoldable pub wrap : ℕ → ℤ → ℤ
wrap h z = round h (non_neg z) (mag z % (h + h))

abbrev pub is_zero : ℤ → Bool
is_zero (pos zero) = true
is_zero (pos (suc n)) = false
is_zero (negsuc n) = false

unfoldable pub negate : ℕ → ℤ → ℤ
negate h a = wrap h (neg_ℤ a)

unfoldable pub plus : ℕ → ℤ → ℤ → ℤ
plus h a b = wrap h (a +ℤ b)

unfoldable pub minus : ℕ → ℤ → ℤ → ℤ
minus h a b = wrap h (a -ℤ b)

unfoldable pub times : ℕ → ℤ → ℤ → ℤ
times h a b = wrap h (a *ℤ b)

-- rounded toward zero, and 0 by 0; the least by -1 is h, which wraps to the least
unfoldable pub quotient : ℕ → ℤ → ℤ → ℤ
quotient h a b = cond (is_zero b) (pos 0) (wrap h (quot_z a b))

-- with the dividend's sign, and the dividend by 0
unfoldable pub remainder : ℤ → ℤ → ℤ
remainder a b = cond (is_zero b) a (rem_z a b)

abbrev pub same : ℤ → ℤ → Bool
same (pos m) (pos n) = eqb m n
same (pos m) (negsuc n) = false
same (negsuc m) (pos n) = false
same (negsuc m) (negsuc n) = eqb m n

-- false is 0, true is 1
abbrev pub of_bool : Bool → ℤ
of_bool b = cond b (pos 1) (pos 0)

-- "A type is its number of values n (values 0..n-1)"; int has 0: -h .. h - 1
unfoldable pub of_size : ℕ → ℕ → ℤ → Bool
of_size h n z = cond (eqb n 0) (ltb (mag z) h) (non_neg z && ltb (mag z) n)
