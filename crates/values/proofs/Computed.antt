-- The definitions' cases as the code reaches them, by its tests. Assumes nothing.
use mathlib.Core.{Path.◌≡◌, Path.refl, Path.sym, Path.ap, Path.◌∙◌, Bool.Bool, Bool.true, Bool.false, Bool.not, Bool.◌&&◌}
use Prim.Native.Nat.{ℕ, zero, suc, ◌+◌, ◌-◌, ◌^◌, ◌≤◌, ◌<◌}
use native.Mathlib.Omega.{arith}
use lib.{Dec.ltb, IntN.ℤ, IntN.pos, IntN.negsuc, Signed.mag, Signed.non_neg}
use borrow.Author.Tests.{lt-ltb, le-ltb, ne_eqb}
use mir.{Syntax.w32, Val.to_z, Val.of_z}
use Rattle.model.specs.Values.{side, round, is_zero, of_size}
use Rattle.values.proofs.Held.{held-is}

pub round-low : (h m : ℕ) (s : Bool) → m < h → side s m ≡ round h s m
round-low h m s p = rw (lt-ltb m h p)

pub round-high : (h m : ℕ) (s : Bool) → h ≤ m → m < h + h → side (not s) (h - 1 - (m - h)) ≡ round h s m
round-high h m s p q = rw (le-ltb m h p) (ap (side (not s)) (omega arith))

pub of_size-other : (h n : ℕ) (z : ℤ) → (n ≡ 0 → ⊥) → of_size h n z ≡ (non_neg z && ltb (mag z) n)
unfolding of_size
of_size-other h n z f = rw (ne_eqb n 0 f)

-- a divisor, from the test of its bits
pub zero-divisor : (b : ℤ) → mag b < 2 ^ 31 → of_z w32 b ≡ 0 → is_zero b ≡ true
zero-divisor b h e = ap is_zero (sym (held-is b h) ∙ ap (to_z w32) e)

pub other-divisor : (b : ℤ) → (of_z w32 b ≡ 0 → ⊥) → is_zero b ≡ false
other-divisor (pos zero) h = absurd (h refl)
other-divisor (pos (suc n)) h = refl
other-divisor (negsuc n) h = refl
