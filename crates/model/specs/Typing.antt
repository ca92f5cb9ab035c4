-- Typing (report, A.2; 01, "The checker's rules"; refusal 8): the rule of each row. Assumes nothing.
use mathlib.Core.{Bool.Bool, Bool.true, Bool.not, Bool.◌&&◌, Bool.◌||◌, List.List, List.[], List.◌∷◌}
use Rattle.std.specs.Prelude.{ℕ, eqb}
use Rattle.model.specs.declared.Gate.{Gate}
use Rattle.model.specs.Lists.{all}
use Rattle.model.specs.Image.{Tables, bool, int, type_of}
use Rattle.model.specs.Rows.{Unary, Not, Negate, Equal, Less, AtMost, Binary, logic, arithmetic, comparison}
use Rattle.model.specs.Trees.{Exp, var, const, unary, binary, Pat, any, bind, equals, guarded, Offer, Act, null, assign, choose, reset, communicate, to, then, select, case, while, for, Arms, no_arm, arm}
use Rattle.model.specs.Decode.{expression_at, rule_at}

-- operand and result type of an operator of one operand
abbrev pub type_of_unary : Unary → ℕ
type_of_unary Not = bool
type_of_unary Negate = int

-- operands of the types s and t are what the operator takes
abbrev pub takes : Binary → ℕ → ℕ → Bool
takes (logic o) s t = eqb s bool && eqb t bool
takes (arithmetic o) s t = eqb s int && eqb t int
takes (comparison Equal) s t = eqb s t
takes (comparison Less) s t = eqb s int && eqb t int
takes (comparison AtMost) s t = eqb s int && eqb t int

-- result type of an operator of two operands
abbrev pub type_of_binary : Binary → ℕ
type_of_binary (logic o) = bool
type_of_binary (arithmetic o) = int
type_of_binary (comparison o) = bool

-- type(E); where E's own rule fails, the type that its operator would give
unfoldable pub type_of_exp : Tables → Exp → ℕ
type_of_exp x (var v) = type_of x v
type_of_exp x (const t z) = t
type_of_exp x (unary o e) = type_of_unary o
type_of_exp x (binary o a b) = type_of_binary o

-- type(P)
unfoldable pub type_of_pat : Tables → Pat → ℕ
type_of_pat x (any t) = t
type_of_pat x (bind v) = type_of x v
type_of_pat x (equals t z) = t
type_of_pat x (guarded p e) = type_of_pat x p

-- an operator's operands are of its prototype's types
unfoldable pub typed_exp : Tables → Exp → Bool
typed_exp x (var v) = true
typed_exp x (const t z) = true
typed_exp x (unary o e) = eqb (type_of_exp x e) (type_of_unary o)
typed_exp x (binary o a b) = takes o (type_of_exp x a) (type_of_exp x b)

-- a pattern's condition is bool
unfoldable pub typed_pat : Tables → Pat → Bool
typed_pat x (any t) = true
typed_pat x (bind v) = true
typed_pat x (equals t z) = true
typed_pat x (guarded p e) = eqb (type_of_exp x e) bool

-- each pattern is of the type
unfoldable pub arms_of_type : Tables → ℕ → Arms → Bool
arms_of_type x t no_arm = true
arms_of_type x t (arm p a rest) = eqb (type_of_pat x p) t && arms_of_type x t rest

-- "τ has no offers"
abbrev pub may_offer : Gate → List Offer → Bool
may_offer g [] = true
may_offer g (o ∷ os) = not (eqb g.0 0)

-- the rule of an action, the actions in it apart
unfoldable pub typed_act : Tables → Act → Bool
typed_act x null = true
typed_act x (assign items) = all (λ i. eqb (type_of_exp x i.e) (type_of x i.v)) items
typed_act x (choose items e) = all (λ i. eqb (type_of x i.v) i.t) items && eqb (type_of_exp x e) bool
typed_act x (reset vs) = true
typed_act x (communicate g os) = may_offer g os
typed_act x (to q) = true
typed_act x (then a b) = true
typed_act x (select bs) = true
typed_act x (case e arms) = arms_of_type x (type_of_exp x e) arms
typed_act x (while e a) = eqb (type_of_exp x e) bool
typed_act x (for v low high a) = eqb (type_of x v) int

-- 8: row r's rule, and the trailer's condition is bool
unfoldable pub typed : Tables → ℕ → Bool
typed x r = rule_at x (typed_exp x) (typed_pat x) (typed_act x) r && (not (eqb r x.condition) || eqb (type_of_exp x (expression_at x r)) bool)
