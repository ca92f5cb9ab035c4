-- The types of an operator, by where its code lies. Assumes nothing.
use mathlib.Core.{Path.◌≡◌, Path.refl, Bool.cond, List.List, List.[], List.◌∷◌}
use Prim.Native.Nat.{ℕ, ◌≤◌, ◌<◌}
use lib.Dec.{eqb, leb, eqb→eq}
use borrow.Author.Tests.{le-leb, lt-leb, ne_eqb}
use Rattle.model.specs.Image.{none, bool, int}
use Rattle.model.specs.Rows.{codes, lookup, shape_of}
use Rattle.typing.specs.Rules.{operand_of, result_of, Operator}
use Rattle.typing.proofs.Table.{at_code}

-- a place for each of the twelve operators
abbrev places : List ℕ
places = 0 ∷ 0 ∷ 0 ∷ 0 ∷ 0 ∷ 0 ∷ 0 ∷ 0 ∷ 0 ∷ 0 ∷ 0 ∷ 0 ∷ []

abbrev operands : ℕ → ℕ
operands c = cond (leb c 18) bool (cond (eqb c 25) none int)

abbrev results : ℕ → ℕ
results c = cond (leb c 18) bool (cond (leb c 24) int bool)

operands-are : (c : ℕ) → Operator c → operands c ≡ operand_of c
unfolding operand_of shape_of lookup codes
operands-are c o = eqb→eq (operands c) (operand_of c) (at_code (λ k t. eqb (operands k) (operand_of k)) places tt refl c o)

results-are : (c : ℕ) → Operator c → results c ≡ result_of c
unfolding result_of shape_of lookup codes
results-are c o = eqb→eq (results c) (result_of c) (at_code (λ k t. eqb (results k) (result_of k)) places tt refl c o)

module _ {c : ℕ} (o : Operator c) where
  pub logic-operands : c ≤ 18 → bool ≡ operand_of c
  logic-operands h = rw (← operands-are c o, le-leb c 18 h)

  pub equal-operands : c ≡ 25 → none ≡ operand_of c
  equal-operands e = rw (← operands-are c o, e)

  pub int-operands : 18 < c → (c ≡ 25 → ⊥) → int ≡ operand_of c
  int-operands h n = rw (← operands-are c o, lt-leb c 18 h, ne_eqb c 25 n)

  pub logic-result : c ≤ 18 → bool ≡ result_of c
  logic-result h = rw (← results-are c o, le-leb c 18 h)

  pub int-result : 18 < c → c ≤ 24 → int ≡ result_of c
  int-result h k = rw (← results-are c o, lt-leb c 18 h, le-leb c 24 k)

  pub comparison-result : 18 < c → 24 < c → bool ≡ result_of c
  comparison-result h k = rw (← results-are c o, lt-leb c 18 h, lt-leb c 24 k)
