-- An operator's row: its operands, read as numbers of which the mark means unknown. Assumes nothing.
use Rattle.std.specs.Prelude.{Some, None}
use mathlib.Core.Logic.{inl, inr, ◌⊎◌}
use mathlib.Core.{Path.◌≡◌, Path.refl, Path.sym, Path.ap, Path.◌∙◌, Bool.Bool, Bool.true, Bool.false, List.List, List.[], List.◌∷◌}
use Prim.Native.Nat.{ℕ, ◌-◌, ◌^◌, ◌<◌}
use native.Mathlib.Omega.{arith}
use lib.{Dec.eqb, IntN.ℤ, IntN.pos, ListN.length, ListN.get_or, ListN.take, Seq.take-length, Signed.mag}
use borrow.Author.Tests.{eqb-true, eqb-false}
use types.Run.{OneOf}
use mir.{Syntax.w32, Val.to_z, Val.of_z}
use Rattle.model.specs.declared.{Fields.Fields}
use Rattle.model.specs.Values.{half16, mark}
use Rattle.model.specs.Image.{tables_of, fields_of}
use Rattle.model.specs.Rows.{expression}
use Rattle.model.specs.Decode.{expression_at}
use Rattle.model.specs.Run.{apply_unary, apply_binary, eval}
use Rattle.values.proofs.Held.{held, held-is}
use Rattle.expressions.specs.Operators.{unary_of, binary_of, value_of, constant_by}
use Rattle.expressions.specs.Ready.{Runs, Applies}
use Rattle.expressions.proofs.Operated.{value-undefined, value-defined, get_d_any}
use Rattle.expressions.proofs.Ways.{eval-small, variable-way, constant-way, operand, unary-way, unary-unknown, operands, binary-way, left-unknown, right-unknown}

-- a value isn't the mark
pub small-known : (z : ℤ) → mag z < 32768 → value_of z ≡ Some z
small-known z h = sym (value-defined z (omega arith) not-mark) ∙ ap Some (held-is z (omega arith))
  where
    not-mark : of_z w32 z ≡ 65536 → ⊥
    not-mark e =
        let q : z ≡ pos 65536 = sym (held-is z (omega arith)) ∙ ap (to_z w32) e in
        let n : mag z ≡ 65536 = ap mag q in
        omega arith

module _ {s : List ℕ} {rows r : ℕ} {m : List ℤ} (h : Runs expression s rows r m) where
  -- what an expression gives, as a number
  pub as_number : {z : ℤ} → Some z ≡ eval (tables_of s) (expression_at (tables_of s) r) m → value_of z ≡ eval (tables_of s) (expression_at (tables_of s) r) m
  as_number {z} e = small-known z (eval-small h z (sym e)) ∙ e

  module _ {w : Fields} (e : w ≡ fields_of (tables_of s) r) where
    pub variable-number : w.code ≡ 1 → w.a < length m → value_of (get_or m w.a (pos 0)) ≡ eval (tables_of s) (expression_at (tables_of s) r) m
    variable-number c l = ap value_of (get_d_any m w.a (pos 0) (mark half16) l) ∙ variable-way h e c

    pub constant_number : {z : ℤ} → mag z < 2 ^ 31 → w.code ≡ 2 → z ≡ constant_by w.a w.b → value_of (held z) ≡ eval (tables_of s) (expression_at (tables_of s) r) m
    constant_number {z} p c f = as_number (constant-way h e c (held-is z p ∙ f))

    pub an-operator : (w.code ≡ 1 → ⊥) → (w.code ≡ 2 → ⊥) → Applies s rows r m
    an-operator f g = record { runs = h; not_variable = λ c. f (ap (λ (k : Fields). k.code) e ∙ c); not_constant = λ c. g (ap (λ (k : Fields). k.code) e ∙ c) }

-- a number that an operand gave
module _ {s : List ℕ} {rows r : ℕ} {m : List ℤ} (h : Runs expression s rows r m) (y : ℤ) (p : mag y < 2 ^ 31) (f : value_of y ≡ eval (tables_of s) (expression_at (tables_of s) r) m) where
  number-unknown : of_z w32 y ≡ 65536 → eval (tables_of s) (expression_at (tables_of s) r) m ≡ None
  number-unknown k = sym (value-undefined y p k ∙ f)

  number-known : (of_z w32 y ≡ 65536 → ⊥) → eval (tables_of s) (expression_at (tables_of s) r) m ≡ Some (held y)
  number-known k = sym (value-defined y p k ∙ f)

  pub number_small : (of_z w32 y ≡ 65536 → ⊥) → mag (held y) < 32768
  number_small k = eval-small h (held y) (number-known k)

module _ {s : List ℕ} {rows r : ℕ} {m : List ℤ} (h : Applies s rows r m) {w : Fields} (e : w ≡ fields_of (tables_of s) r) where
  not_variable : w.code ≡ 1 → ⊥
  not_variable c = h.not_variable (ap (λ (f : Fields). f.code) (sym e) ∙ c)

  not_constant : w.code ≡ 2 → ⊥
  not_constant c = h.not_constant (ap (λ (f : Fields). f.code) (sym e) ∙ c)

  kind-of : OneOf (16 ∷ 19 ∷ []) w.code ⊎ (OneOf (16 ∷ 19 ∷ []) w.code → ⊥)
  kind-of = go (eqb w.code 16) refl (eqb w.code 19) refl
    where
      go : (a : Bool) → eqb w.code 16 ≡ a → (b : Bool) → eqb w.code 19 ≡ b → OneOf (16 ∷ 19 ∷ []) w.code ⊎ (OneOf (16 ∷ 19 ∷ []) w.code → ⊥)
      go true p b q = inl (inl (eqb-true w.code 16 p))
      go false p true q = inl (inr (eqb-true w.code 19 q))
      go false p false q = inr neither
        where
          neither : OneOf (16 ∷ 19 ∷ []) w.code → ⊥
          neither (inl c) = eqb-false w.code 16 p c
          neither (inr c) = eqb-false w.code 19 q c

  pub first : (w.a < r) × Runs expression s rows w.a m
  first = go kind-of
    where
      go : OneOf (16 ∷ 19 ∷ []) w.code ⊎ (OneOf (16 ∷ 19 ∷ []) w.code → ⊥) → (w.a < r) × Runs expression s rows w.a m
      go (inl o) = operand h.runs e o
      go (inr k) = (operands h.runs e not_variable not_constant k).0

  pub second : (OneOf (16 ∷ 19 ∷ []) w.code → ⊥) → (w.b < r) × Runs expression s rows w.b m
  second k = (operands h.runs e not_variable not_constant k).1

  module _ (y : ℤ) (p : mag y < 2 ^ 31) (f : value_of y ≡ eval (tables_of s) (expression_at (tables_of s) w.a) m) where
    pub first-unknown : of_z w32 y ≡ 65536 → value_of (pos 65536) ≡ eval (tables_of s) (expression_at (tables_of s) r) m
    unfolding value_of
    first-unknown k = go kind-of
      where
        go : OneOf (16 ∷ 19 ∷ []) w.code ⊎ (OneOf (16 ∷ 19 ∷ []) w.code → ⊥) → None ≡ eval (tables_of s) (expression_at (tables_of s) r) m
        go (inl o) = unary-unknown h.runs e o refl (number-unknown first.1 y p f k)
        go (inr n) = left-unknown h.runs e not_variable not_constant n refl (number-unknown first.1 y p f k)

    pub first_small : (of_z w32 y ≡ 65536 → ⊥) → mag (held y) < 32768
    first_small k = number_small first.1 y p f k

    pub unary-number : {z : ℤ} → (of_z w32 y ≡ 65536 → ⊥) → OneOf (16 ∷ 19 ∷ []) w.code → mag z < 2 ^ 31 → z ≡ apply_unary half16 (unary_of w.code) (held y)
        → value_of (held z) ≡ eval (tables_of s) (expression_at (tables_of s) r) m
    unary-number {z} k o q g = as_number h.runs (unary-way h.runs e o refl (number-known first.1 y p f k) (held-is z q ∙ g))

    module _ (k : of_z w32 y ≡ 65536 → ⊥) (n : OneOf (16 ∷ 19 ∷ []) w.code → ⊥) (x : ℤ) (q : mag x < 2 ^ 31)
        (g : value_of x ≡ eval (tables_of s) (expression_at (tables_of s) w.b) m) where
      pub second-unknown : of_z w32 x ≡ 65536 → value_of (pos 65536) ≡ eval (tables_of s) (expression_at (tables_of s) r) m
      unfolding value_of
      second-unknown u =
          right-unknown h.runs e not_variable not_constant n refl (number-known first.1 y p f k) refl (number-unknown (second n).1 x q g u)

      pub second-small : (of_z w32 x ≡ 65536 → ⊥) → mag (held x) < 32768
      second-small u = number_small (second n).1 x q g u

      pub binary-number : {z : ℤ} → (of_z w32 x ≡ 65536 → ⊥) → mag z < 2 ^ 31 → z ≡ apply_binary half16 (binary_of w.code) (held y) (held x)
          → value_of (held z) ≡ eval (tables_of s) (expression_at (tables_of s) r) m
      binary-number {z} u i j =
          as_number h.runs
          (binary-way h.runs e not_variable not_constant n refl (number-known first.1 y p f k) refl (number-known (second n).1 x q g u) (held-is z i ∙ j))

-- a slice made anew
pub whole : {A : Type 0} (l : List A) → take (length l - 0) l ≡ l
whole l = let e : length l - 0 ≡ length l = omega arith in ap (λ (n : ℕ). take n l) e ∙ take-length l

pub anew : (s : List ℕ) (m : List ℤ) (r : ℕ) (z : ℤ) → mag z < 2 ^ 31
    → value_of z ≡ eval (tables_of (take (length s - 0) s)) (expression_at (tables_of (take (length s - 0) s)) r) (take (length m - 0) m)
    → value_of (held z) ≡ eval (tables_of s) (expression_at (tables_of s) r) m
anew s m r z p e = ap value_of (held-is z p) ∙ rw (whole s, whole m) at e
