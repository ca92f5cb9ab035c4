-- A mask's variables, digit by digit. Assumes nothing.
use mathlib.Core.{Path.◌≡◌, Path.sym, Path.ap, Path.◌∙◌}
use Prim.Native.Nat.{ℕ, suc, ◌+◌, ◌/◌, ◌%◌}
use native.Mathlib.{Omega.arith, Numerals.add-one, Nat.zero-add, Nat.add-zero}
use Rattle.model.specs.Masks.{digit}
use Rattle.model.specs.Exports.{count}

-- `left` is what v halvings leave of m
pub record Halved (m v left : ℕ) : Type 0 where
  pub digits : (k : ℕ) → digit left k ≡ digit m (v + k)

pub halved_none : (m : ℕ) → Halved m 0 m
halved_none m = record { digits = λ k. ap (digit m) (sym (zero-add k)) }

pub halved-next : {m v left : ℕ} → Halved m v left → Halved m (v + 1) (left / 2)
unfolding digit
halved-next {m} {v} h =
    record { digits = λ k. let e : v + suc k ≡ v + 1 + k = omega arith in h.digits (suc k) ∙ ap (digit m) e }

-- one more variable counted
pub count_next : {m v left : ℕ} → Halved m v left → count m (v + 1) ≡ count m v + left % 2
unfolding digit count
count_next {m} {v} {left} h =
    let e : left % 2 ≡ digit m v = h.digits 0 ∙ ap (digit m) (add-zero v) in
    rw add-one (omega (arith, e))
