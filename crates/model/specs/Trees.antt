-- Expressions, patterns, offers and actions (report, Figure 1) as trees. An action carries its row, which places name; an
-- action that no row says, as the parts of a for's expansion, is at row none. Assumes nothing.
use mathlib.Core.{Bool.Bool, Bool.true, Bool.false, List.List}
use Rattle.std.specs.Prelude.{ℕ, ℤ}
use Rattle.model.specs.declared.{State.State, Variable.Variable, Gate.Gate}
use Rattle.model.specs.Rows.{Unary, Binary}

-- R1 to R3: a variable; a constant of a type; an operator's call
pub data Exp : Type 0 where
  var : (v : Variable) → Exp
  const : (t : ℕ) (z : ℤ) → Exp
  unary : (o : Unary) → Exp → Exp
  binary : (o : Binary) → Exp → Exp → Exp

-- R4 to R7: any of a type; a variable; a constant of a type; a pattern with a condition
pub data Pat : Type 0 where
  any : (t : ℕ) → Pat
  bind : (v : Variable) → Pat
  equals : (t : ℕ) (z : ℤ) → Pat
  guarded : Pat → Exp → Pat

-- R8, R9
pub data Offer : Type 0 where
  emit : Exp → Offer
  receive : Pat → Offer

-- an item of R11: the variable gets the expression's value
pub record Gets : Type 0 where
  pub v : Variable
  pub e : Exp

-- an item of R12: the variable gets any value of the type
pub record OfType : Type 0 where
  pub v : Variable
  pub t : ℕ

-- R10 to R19, and for
mutual
  pub data Action : Type 0 where
    at : (r : ℕ) → Act → Action

  pub data Act : Type 0 where
    null : Act
    assign : List Gets → Act
    choose : List OfType → Exp → Act
    reset : List Variable → Act
    communicate : (g : Gate) → List Offer → Act
    to : (q : State) → Act
    then : Action → Action → Act
    select : Branches → Act
    case : Exp → Arms → Act
    while : Exp → Action → Act
    for : (v : Variable) (low high : ℤ) → Action → Act

  pub data Branches : Type 0 where
    no_branch : Branches
    branch : Action → Branches → Branches

  pub data Arms : Type 0 where
    no_arm : Arms
    arm : Pat → Action → Arms → Arms

-- a select with branches
abbrev pub some_branch : Branches → Bool
some_branch no_branch = false
some_branch (branch a bs) = true
