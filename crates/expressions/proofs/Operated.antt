-- Operators by their codes. Assumes nothing.
use Rattle.std.specs.Prelude.{Some, None}
use mathlib.Core.{Path.◌≡◌, Path.refl, Path.sym, Path.ap, Path.◌∙◌, Bool.Bool, Bool.true, Bool.false, Bool.not, List.List, List.[], List.◌∷◌}
use Prim.Native.Nat.{ℕ, zero, suc, ◌^◌, ◌<◌}
use lib.{Dec.eqb, IntN.ℤ, IntN.pos, ListN.length, ListN.get_or, Signed.mag}
use borrow.Author.Tests.{eqb-true, eqb-false, ne_eqb, eq-eqb}
use native.Mathlib.Omega.{arith}
use mir.{Syntax.w32, Val.to_z, Val.of_z, ValLaws.to_z-of_z}
use Rattle.model.specs.Bytes.{signed}
use Rattle.model.specs.Values.{half16, mark, is_zero, same}
use Rattle.model.proofs.Values.{same_refl, same-ne}
use Rattle.values.proofs.Computed.{zero-divisor, other-divisor}
use Rattle.model.specs.Rows.{Unary, Not, Negate, Binary, logic, arithmetic, comparison, And, Or, Plus, Minus, Times, Quotient, Remainder, Equal, Less, AtMost, an_expression, is_unary, is_binary}
use Rattle.model.specs.Run.{apply_unary, apply_binary}
use Rattle.model.proofs.Codes.{code_of}
use Rattle.values.proofs.Held.{held, held-is}
use Rattle.expressions.specs.Operators.{unary_of, binary_of, value_of, constant_by}

pub unary-of : (o : Unary) → unary_of (code_of (an_expression (is_unary o))) ≡ o
unfolding unary_of
unary-of Not = refl
unary-of Negate = refl

pub binary-of : (o : Binary) → binary_of (code_of (an_expression (is_binary o))) ≡ o
unfolding binary_of
binary-of (logic And) = refl
binary-of (logic Or) = refl
binary-of (arithmetic Plus) = refl
binary-of (arithmetic Minus) = refl
binary-of (arithmetic Times) = refl
binary-of (arithmetic Quotient) = refl
binary-of (arithmetic Remainder) = refl
binary-of (comparison Equal) = refl
binary-of (comparison Less) = refl
binary-of (comparison AtMost) = refl

-- tests of a local's bits
pub zero_is : (a : ℤ) → mag a < 2 ^ 31 → eqb (of_z w32 a) 0 ≡ is_zero a
zero_is a h = go (eqb (of_z w32 a) 0) refl
  where
    go : (b : Bool) → eqb (of_z w32 a) 0 ≡ b → b ≡ is_zero a
    go true e = sym (zero-divisor a h (eqb-true _ _ e))
    go false e = sym (other-divisor a (eqb-false _ _ e))

pub same-is : (a b : ℤ) → mag a < 2 ^ 31 → mag b < 2 ^ 31 → eqb (of_z w32 a) (of_z w32 b) ≡ same a b
same-is a b h k = go (eqb (of_z w32 a) (of_z w32 b)) refl
  where
    go : (t : Bool) → eqb (of_z w32 a) (of_z w32 b) ≡ t → t ≡ same a b
    go true e =
        let q : a ≡ b = sym (held-is a h) ∙ ap (to_z w32) (eqb-true (of_z w32 a) (of_z w32 b) e) ∙ held-is b k in
        sym (ap (same a) (sym q) ∙ same_refl a)
    go false e = sym (same-ne a b (λ q. eqb-false (of_z w32 a) (of_z w32 b) e (ap (of_z w32) q)))

-- what is given by a code's function, of locals, is the operator's value
pub unary-by : (c n : ℕ) (a : ℤ) {r : ℤ} → c ≡ n → mag r < 2 ^ 31 → r ≡ apply_unary half16 (unary_of n) a → held r ≡ apply_unary half16 (unary_of c) a
unary-by c n a {r} e h f = held-is r h ∙ rw e f

pub binary-by : (c n : ℕ) (a b : ℤ) {r : ℤ} → c ≡ n → mag r < 2 ^ 31 → r ≡ apply_binary half16 (binary_of n) a b → held r ≡ apply_binary half16 (binary_of c) a b
binary-by c n a b {r} e h f = held-is r h ∙ rw e f

-- operands that were put into locals
pub held_both : (f : ℤ → ℤ → ℤ) (a b : ℤ) → mag a < 2 ^ 31 → mag b < 2 ^ 31 → f (held a) (held b) ≡ f a b
held_both f a b h k = rw (held-is a h, held-is b k)

other : {A : Type 0} (b : Bool) (x y : A) → b ≡ false → elim b [ true ↦ x | false ↦ y ] ≡ y
other b x y e = rw e

first : {A : Type 0} (b : Bool) (x y : A) → b ≡ true → elim b [ true ↦ x | false ↦ y ] ≡ x
first b x y e = rw e

-- every code of two operands but 17 to 26 is read as 27
pub last_code : (c : ℕ) → (c ≡ 17 → ⊥) → (c ≡ 18 → ⊥) → (c ≡ 20 → ⊥) → (c ≡ 21 → ⊥) → (c ≡ 22 → ⊥) → (c ≡ 23 → ⊥) → (c ≡ 24 → ⊥) → (c ≡ 25 → ⊥) → (c ≡ 26 → ⊥)
    → binary_of c ≡ comparison AtMost
unfolding binary_of
last_code c a b d e f g h i j =
    other (eqb c 17) _ _ (ne_eqb c 17 a) ∙ other (eqb c 18) _ _ (ne_eqb c 18 b) ∙ other (eqb c 20) _ _ (ne_eqb c 20 d) ∙ other (eqb c 21) _ _ (ne_eqb c 21 e)
    ∙ other (eqb c 22) _ _ (ne_eqb c 22 f) ∙ other (eqb c 23) _ _ (ne_eqb c 23 g) ∙ other (eqb c 24) _ _ (ne_eqb c 24 h) ∙ other (eqb c 25) _ _ (ne_eqb c 25 i)
    ∙ other (eqb c 26) _ _ (ne_eqb c 26 j)

pub other-code : (c : ℕ) → (c ≡ 16 → ⊥) → unary_of c ≡ Negate
unfolding unary_of
other-code c f = other (eqb c 16) _ _ (ne_eqb c 16 f)

-- constants and variables
pub int-constant : (a b : ℕ) {r : ℤ} → a ≡ 1 → mag r < 2 ^ 31 → r ≡ signed half16 b → held r ≡ constant_by a b
unfolding constant_by
int-constant a b {r} e h f = held-is r h ∙ rw (eq-eqb a 1 e, f)

pub other_constant : (a b : ℕ) → (a ≡ 1 → ⊥) → b < 65536 → to_z w32 b ≡ constant_by a b
unfolding constant_by
other_constant a b f h = rw (ne_eqb a 1 f) (to_z-of_z w32 (pos b) (record { sfits = omega arith }))

pub value-undefined : (z : ℤ) → mag z < 2 ^ 31 → of_z w32 z ≡ 65536 → None ≡ value_of z
unfolding value_of
value-undefined z h e = let q : z ≡ pos 65536 = sym (held-is z h) ∙ ap (to_z w32) e in rw q

pub value-defined : (z : ℤ) → mag z < 2 ^ 31 → (of_z w32 z ≡ 65536 → ⊥) → Some (held z) ≡ value_of z
unfolding value_of
value-defined z h f =
    let n : same z (mark half16) ≡ false = same-ne z (pos 65536) (λ q. f (ap (of_z w32) q)) in
    ap Some (held-is z h) ∙ sym (first (not (same z (mark half16))) _ _ (ap not n))

pub get_d_any : (l : List ℤ) (i : ℕ) (d e : ℤ) → i < length l → get_or l i d ≡ get_or l i e
get_d_any [] i d e h = absurd (omega arith)
get_d_any (z ∷ l) zero d e h = refl
get_d_any (z ∷ l) (suc i) d e h = get_d_any l i d e (omega arith)
