-- The values 0 to 63 as a mask. Assumes nothing.
use mathlib.Core.{Path.◌≡◌, Path.refl, Path.sym, Path.ap, Path.◌∙◌, Bool.Bool, Bool.true, Bool.false, Bool.◌&&◌, Bool.◌||◌}
use Prim.Native.Nat.{ℕ, ◌≤◌, max}
use native.Mathlib.Omega.{arith}
use lib.{Dec.eqb, Bits.bit_or}
use borrow.Author.Tests.{eqb-true, eqb-false, eq-eqb, ne_eqb}
use Rattle.model.specs.Masks.{digit, has, bit, join}
use Rattle.model.proofs.Masks.{digit-le, digit-zero, digit-bit-here, digit-bit-there, digit-join}
use Rattle.model.proofs.Rows.{and-false}
use Rattle.speech.specs.Case.{ValueBit}

pub has-zero : (k : ℕ) → has 0 k ≡ false
has-zero k = rw (digit-zero k)

has-bit : (v k : ℕ) → has (bit v) k ≡ eqb k v
has-bit v k = go (eqb k v) refl
  where
    go : (b : Bool) → eqb k v ≡ b → has (bit v) k ≡ b
    go true e = rw (eqb-true k v e, digit-bit-here v)
    go false e = rw (digit-bit-there v k (eqb-false k v e))

max-one : (a b : ℕ) → a ≤ 1 → b ≤ 1 → eqb (max a b) 1 ≡ (eqb a 1 || eqb b 1)
max-one a b p q = go (eqb a 1) refl
  where
    go : (t : Bool) → eqb a 1 ≡ t → eqb (max a b) 1 ≡ (t || eqb b 1)
    go true e = eq-eqb (max a b) 1 (omega (arith, eqb-true a 1 e))
    go false e =
        let z : max a b ≡ b = omega (arith, eqb-false a 1 e) in
        rw z

pub has-or : (a b k : ℕ) → has (bit_or a b) k ≡ (has a k || has b k)
unfolding join
has-or a b k = ap (λ n. eqb n 1) (digit-join a b k) ∙ max-one (digit a k) (digit b k) (digit-le a k) (digit-le b k)

-- ---- the value of a constant
pub value_in : (code value b : ℕ) → code ≡ 34 → b ≡ bit value → ValueBit code value b
value_in code value b e h = record { each = λ k l. rw (e, h) (has-bit value k) }

pub value_out : (code value : ℕ) → 64 ≤ value → ValueBit code value 0
value_out code value h = record { each = λ k l. has-zero k ∙ sym (ap (λ b. eqb code 34 && b) (ne_eqb k value (λ e. omega arith)) ∙ and-false (eqb code 34)) }

pub no_value : (code value : ℕ) → (code ≡ 34 → ⊥) → ValueBit code value 0
no_value code value f = record { each = λ k l. rw (ne_eqb code 34 f) (has-zero k) }
