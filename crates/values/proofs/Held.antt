-- What a signed local's 32 bits read back as, and the operations on ints computed in such locals. Assumes nothing.
use mathlib.Core.{Path.◌≡◌, Path.ap, Path.◌∙◌, List.List}
use Prim.Native.Nat.{ℕ, ◌+◌, ◌*◌, ◌^◌, ◌≤◌, ◌<◌}
use native.Mathlib.{Nat.mul-le-mul, Omega.arith}
use lib.{IntN.ℤ, IntN.pos, IntN.negsuc, IntN.◌+ℤ◌, IntN.◌-ℤ◌, IntN.◌*ℤ◌, Signed.mag, Signed.quot_z, Signed.rem_z, Signed.mag_rem, ListN.length, ListN.get_or, ListN.set, ListN.take}
use mir.{Syntax.w32, Val.SFits, Val.Fits, Val.to_z, Val.of_z, ValLaws.to_z-of_z}
use Rattle.std.proofs.lemmas.List.{take_more, take_more_set}
use Rattle.model.specs.Values.{wrap}
use Rattle.values.specs.Range.{InRange, BothInRange}
use Rattle.values.proofs.Sizes.{mag-add, mag-sub, mag-mul, mag-quot, flip, flips, mag-flip}

-- what a local that z was put into gives
abbrev pub held : ℤ → ℤ
held z = to_z w32 (of_z w32 z)

pub held-is : (z : ℤ) → mag z < 2 ^ 31 → held z ≡ z
held-is z h = to_z-of_z w32 z (record { sfits = h })

-- one more word of l written from a local
pub more-held : (l w : List ℤ) (i : ℕ) {z : ℤ} → i < length l → i < length w → mag z < 2 ^ 31 → z ≡ get_or l i (pos 0) → take i w ≡ take i l
    → take (i + 1) (set w i (held z)) ≡ take (i + 1) l
more-held l w i {z} p q m e f = rw (held-is z m, take_more_set w i z q, take_more l i (pos 0) p, e, f)

-- -1 - z, computed in a local
pub flip-fits : {y z : ℤ} → y ≡ z → mag z < 2 ^ 31 → SFits w32 (negsuc 0 -ℤ y)
flip-fits {y} {z} e h = rw (e, flips) (record { sfits = rw mag-flip h })

pub flip-held : {y z : ℤ} → y ≡ z → mag z < 2 ^ 31 → held (negsuc 0 -ℤ y) ≡ flip z
flip-held {y} {z} e h = rw (e, flips) (held-is (flip z) (rw mag-flip h))

-- a size that was found for what a local holds
pub size-held : (z : ℤ) {n : ℕ} → mag z < 2 ^ 31 → n ≡ mag (held z) → n ≡ mag z
size-held z h e = e ∙ ap mag (held-is z h)

pub size_fits : (z : ℤ) {n : ℕ} → mag z < 2 ^ 31 → n ≡ mag z → Fits w32 n
size_fits z h e = record { fits = rw e (omega arith) }

pub once : {h : ℕ} {a : ℤ} → InRange h a → BothInRange h a a
once i = record { half = i.half; left = i.below; right = i.below }

module _ {h : ℕ} {a b : ℤ} (i : BothInRange h a b) where
  pub sum-in : mag (a +ℤ b) < 2 ^ 31
  sum-in = omega (arith, mag-add a b)

  pub difference-in : mag (a -ℤ b) < 2 ^ 31
  difference-in = omega (arith, mag-sub a b)

  pub negative-in : mag (pos 0 -ℤ a) < 2 ^ 31
  negative-in = omega (arith, mag-sub (pos 0) a)

  pub product-in : mag (a *ℤ b) < 2 ^ 31
  product-in =
      let m : (mag a + 1) * (mag b + 1) ≤ 32768 * 32768 = mul-le-mul {n₂ = 32768} {m₂ = 32768} (omega arith) (omega arith) in
      omega (arith, mag-mul a b)

  pub quotient-in : mag (quot_z a b) < 2 ^ 31
  quotient-in = omega (arith, mag-quot a b)

  pub remainder-in : mag (rem_z a b) < 2 ^ 31
  remainder-in = omega (arith, mag_rem a b)

  -- an operation whose operands are read from locals
  pub operands : (f : ℤ → ℤ → ℤ) → f (held a) (held b) ≡ f a b
  operands f = rw (held-is a (omega arith), held-is b (omega arith))

  pub result_fits : (f : ℤ → ℤ → ℤ) → mag (f a b) < 2 ^ 31 → SFits w32 (f (held a) (held b))
  result_fits f p = record { sfits = rw (operands f) p }

  pub result-held : (f : ℤ → ℤ → ℤ) → mag (f a b) < 2 ^ 31 → held (f (held a) (held b)) ≡ f a b
  result-held f p = rw (operands f) (held-is (f a b) p)

  -- its result wrapped, and returned in a local
  pub wrapped : (f : ℤ → ℤ → ℤ) {r : ℤ} → mag (f a b) < 2 ^ 31 → mag r < 2 ^ 31 → r ≡ wrap h (held (f (held a) (held b))) → held r ≡ wrap h (f a b)
  wrapped f {r} p q e = held-is r q ∙ e ∙ ap (wrap h) (result-held f p)
