-- Codes and meanings: the codes that a row of a meaning can have, and the operators of the codes 16 to 27. Assumes nothing.
use mathlib.Core.{Path.◌≡◌, Path.refl, Path.sym, Path.ap, Logic.inl, Logic.inr}
use mathlib.Core.{Bool.Bool, Bool.true, Bool.false, Bool.◌&&◌, List.List, List.[], List.◌∷◌}
use Prim.Native.Nat.{ℕ}
use native.Mathlib.Omega.{arith}
use lib.Dec.{T, leb, ltb}
use types.Run.{OneOf}
use borrow.Author.Tests.{leb-true, ltb-true}
use Rattle.model.specs.Lists.{all}
use Rattle.model.specs.Rows.{Unary, Not, Negate, Binary, And, Or, Plus, Minus, Times, Quotient, Remainder, Equal, Less, AtMost, logic, arithmetic, comparison, is_variable, is_constant, is_unary, is_binary, Means, an_expression, a_pattern, an_offer, an_action, another, codes, lookup, shape_of}
use Rattle.model.proofs.Rows.{both_true}
use Rattle.model.proofs.Codes.{code_of, one_code}
use Rattle.typing.specs.Rules.{Operator}
use Rattle.typing.proofs.Table.{at_code}

-- c is the code of the meaning; of an operator, one of those with as many operands
abbrev pub Coded : Means → ℕ → Type 0
Coded (an_expression is_variable) c = c ≡ 1
Coded (an_expression is_constant) c = c ≡ 2
Coded (an_expression (is_unary o)) c = OneOf (16 ∷ 19 ∷ []) c
Coded (an_expression (is_binary o)) c = OneOf (17 ∷ 18 ∷ 20 ∷ 21 ∷ 22 ∷ 23 ∷ 24 ∷ 25 ∷ 26 ∷ 27 ∷ []) c
Coded (a_pattern p) c = c ≡ code_of (a_pattern p)
Coded (an_offer o) c = Unit
Coded (an_action a) c = c ≡ code_of (an_action a)
Coded (another k) c = Unit

unary-coded : (o : Unary) (c : ℕ) → c ≡ code_of (an_expression (is_unary o)) → Coded (an_expression (is_unary o)) c
unary-coded Not c e = inl e
unary-coded Negate c e = inr e

binary-coded : (o : Binary) (c : ℕ) → c ≡ code_of (an_expression (is_binary o)) → Coded (an_expression (is_binary o)) c
binary-coded (logic And) c e = inl e
binary-coded (logic Or) c e = inr (inl e)
binary-coded (arithmetic Plus) c e = inr (inr (inl e))
binary-coded (arithmetic Minus) c e = inr (inr (inr (inl e)))
binary-coded (arithmetic Times) c e = inr (inr (inr (inr (inl e))))
binary-coded (arithmetic Quotient) c e = inr (inr (inr (inr (inr (inl e)))))
binary-coded (arithmetic Remainder) c e = inr (inr (inr (inr (inr (inr (inl e))))))
binary-coded (comparison Equal) c e = inr (inr (inr (inr (inr (inr (inr (inl e)))))))
binary-coded (comparison Less) c e = inr (inr (inr (inr (inr (inr (inr (inr (inl e))))))))
binary-coded (comparison AtMost) c e = inr (inr (inr (inr (inr (inr (inr (inr (inr e))))))))

-- a code is one of its meaning's codes
pub code-of : (c : ℕ) (m : Means) → (shape_of c).means ≡ m → Coded m c
code-of c (an_expression is_variable) e = sym (one_code c (an_expression is_variable) refl e)
code-of c (an_expression is_constant) e = sym (one_code c (an_expression is_constant) refl e)
code-of c (an_expression (is_unary o)) e = unary-coded o c (sym (one_code c (an_expression (is_unary o)) refl e))
code-of c (an_expression (is_binary o)) e = binary-coded o c (sym (one_code c (an_expression (is_binary o)) refl e))
code-of c (a_pattern p) e = sym (one_code c (a_pattern p) refl e)
code-of c (an_offer o) e = tt
code-of c (an_action a) e = sym (one_code c (an_action a) refl e)
code-of c (another k) e = tt

-- the operators of one operand
means-of-code : (n : ℕ) (c : ℕ) → c ≡ n → (shape_of c).means ≡ (shape_of n).means
means-of-code n c e = ap (λ k. (shape_of k).means) e

pub unary-code : (c : ℕ) → OneOf (16 ∷ 19 ∷ []) c → (o : Unary) × ((shape_of c).means ≡ an_expression (is_unary o))
unfolding shape_of lookup codes
unary-code c (inl e) = (Not, means-of-code 16 c e)
unary-code c (inr e) = (Negate, means-of-code 19 c e)

-- operators' codes
abbrev is_operator : ℕ → Bool
is_operator k = leb 16 k && ltb k 28

operator-of : (k c : ℕ) → c ≡ k → is_operator k ≡ true → Operator c
operator-of k c e t =
    let p = both_true (leb 16 k) (ltb k 28) t in
    let low = leb-true 16 k p.0 in
    let high = ltb-true k 28 p.1 in
    record { low = omega arith; high = omega arith }

operator-in : (ks : List ℕ) (c : ℕ) → all is_operator ks ≡ true → OneOf ks c → Operator c
unfolding all
operator-in [] c t o = absurd o
operator-in (k ∷ []) c t e = operator-of k c e (both_true (is_operator k) true t).0
operator-in (k ∷ j ∷ ks) c t (inl e) = operator-of k c e (both_true (is_operator k) (all is_operator (j ∷ ks)) t).0
operator-in (k ∷ j ∷ ks) c t (inr o) = operator-in (j ∷ ks) c (both_true (is_operator k) (all is_operator (j ∷ ks)) t).1 o

pub unary-operator : (c : ℕ) → OneOf (16 ∷ 19 ∷ []) c → Operator c
unfolding all
unary-operator c o = operator-in (16 ∷ 19 ∷ []) c refl o

pub binary-operator : (c : ℕ) → OneOf (17 ∷ 18 ∷ 20 ∷ 21 ∷ 22 ∷ 23 ∷ 24 ∷ 25 ∷ 26 ∷ 27 ∷ []) c → Operator c
unfolding all
binary-operator c o = operator-in (17 ∷ 18 ∷ 20 ∷ 21 ∷ 22 ∷ 23 ∷ 24 ∷ 25 ∷ 26 ∷ 27 ∷ []) c refl o

-- the other operators have two operands
is_operator_row : Means → Bool
is_operator_row (an_expression is_variable) = false
is_operator_row (an_expression is_constant) = false
is_operator_row (an_expression (is_unary o)) = true
is_operator_row (an_expression (is_binary o)) = true
is_operator_row (a_pattern p) = false
is_operator_row (an_offer o) = false
is_operator_row (an_action a) = false
is_operator_row (another k) = false

binary-by : (c : ℕ) (m : Means) → (shape_of c).means ≡ m → T (is_operator_row m) → (OneOf (16 ∷ 19 ∷ []) c → ⊥)
    → (o : Binary) × ((shape_of c).means ≡ an_expression (is_binary o))
unfolding is_operator_row
binary-by c (an_expression is_variable) e t n = absurd t
binary-by c (an_expression is_constant) e t n = absurd t
binary-by c (an_expression (is_unary o)) e t n = absurd (n (code-of c (an_expression (is_unary o)) e))
binary-by c (an_expression (is_binary o)) e t n = (o, e)
binary-by c (a_pattern p) e t n = absurd t
binary-by c (an_offer o) e t n = absurd t
binary-by c (an_action a) e t n = absurd t
binary-by c (another k) e t n = absurd t

pub binary-code : (c : ℕ) → Operator c → (OneOf (16 ∷ 19 ∷ []) c → ⊥) → (o : Binary) × ((shape_of c).means ≡ an_expression (is_binary o))
unfolding shape_of lookup codes is_operator_row
binary-code c o n =
    binary-by c (shape_of c).means refl
    (at_code (λ k t. is_operator_row (shape_of k).means) (0 ∷ 0 ∷ 0 ∷ 0 ∷ 0 ∷ 0 ∷ 0 ∷ 0 ∷ 0 ∷ 0 ∷ 0 ∷ 0 ∷ []) tt refl c o) n
