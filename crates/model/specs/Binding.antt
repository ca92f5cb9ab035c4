-- Binding (report, A.1; 01, "The checker's rules"; refusal 9): use and def, and the rule of each row. Assumes nothing.
use mathlib.Core.{Bool.Bool, Bool.true, Bool.not, Bool.◌&&◌, Bool.◌||◌, List.List, List.[], List.◌∷◌, List.map}
use Rattle.std.specs.Prelude.{ℕ, ◌+◌, ◌*◌, eqb}
use Rattle.model.specs.declared.Variable.{Variable}
use Rattle.model.specs.Masks.{bit, join, without, union, inside, apart}
use Rattle.model.specs.Image.{Tables, Entry}
use Rattle.model.specs.Trees.{Exp, var, const, unary, binary, Pat, any, bind, equals, guarded, Offer, emit, receive, Gets, OfType, Action, at, Act, null, assign, choose, reset, communicate, to, then, select, case, while, for, Branches, no_branch, branch, Arms, no_arm, arm}
use Rattle.model.specs.Decode.{expression_at, rule_at}

-- the variables of items
abbrev pub assigned : List Gets → ℕ
assigned items = union (map (λ i. bit i.v.0) items)

abbrev pub chosen : List OfType → ℕ
chosen items = union (map (λ i. bit i.v.0) items)

abbrev pub dropped : List Variable → ℕ
dropped vs = union (map (λ v. bit v.0) vs)

-- use(E)
unfoldable pub use_of_exp : Exp → ℕ
use_of_exp (var v) = bit v.0
use_of_exp (const t z) = 0
use_of_exp (unary o e) = use_of_exp e
use_of_exp (binary o a b) = join (use_of_exp a) (use_of_exp b)

-- def(P)
unfoldable pub def_of_pat : Pat → ℕ
def_of_pat (any t) = 0
def_of_pat (bind v) = bit v.0
def_of_pat (equals t z) = 0
def_of_pat (guarded p e) = def_of_pat p

-- use(P)
unfoldable pub use_of_pat : Pat → ℕ
use_of_pat (any t) = 0
use_of_pat (bind v) = 0
use_of_pat (equals t z) = 0
use_of_pat (guarded p e) = join (without (use_of_exp e) (def_of_pat p)) (use_of_pat p)

-- use(O), def(O)
abbrev pub use_of_offer : Offer → ℕ
use_of_offer (emit e) = use_of_exp e
use_of_offer (receive p) = use_of_pat p

abbrev pub def_of_offer : Offer → ℕ
def_of_offer (emit e) = 0
def_of_offer (receive p) = def_of_pat p

abbrev pub use_of_offers : List Offer → ℕ
use_of_offers os = union (map use_of_offer os)

abbrev pub def_of_offers : List Offer → ℕ
def_of_offers os = union (map def_of_offer os)

-- each variable is defined at most once: the sets are pairwise disjoint
unfoldable pub distinct : List ℕ → Bool
distinct [] = true
distinct (m ∷ ms) = apart m (union ms) && distinct ms

-- "Offers run left to right": none is used before a later offer defines it
unfoldable pub ordered : List Offer → Bool
ordered [] = true
ordered (o ∷ os) = apart (use_of_offer o) (def_of_offers os) && ordered os

-- the variables that an action may define or reset
unfoldable mutual
  pub touches : Action → ℕ
  touches (at r a) = touches_act a

  pub touches_act : Act → ℕ
  touches_act null = 0
  touches_act (assign items) = assigned items
  touches_act (choose items e) = chosen items
  touches_act (reset vs) = dropped vs
  touches_act (communicate g os) = def_of_offers os
  touches_act (to q) = 0
  touches_act (then a b) = join (touches a) (touches b)
  touches_act (select bs) = touches_branches bs
  touches_act (case e arms) = touches_arms arms
  touches_act (while e a) = touches a
  touches_act (for v low high a) = join (bit v.0) (touches a)

  pub touches_branches : Branches → ℕ
  touches_branches no_branch = 0
  touches_branches (branch a bs) = join (touches a) (touches_branches bs)

  pub touches_arms : Arms → ℕ
  touches_arms no_arm = 0
  touches_arms (arm p a rest) = join (def_of_pat p) (join (touches a) (touches_arms rest))

-- the rule of an action, the actions in it apart
unfoldable pub bound_act : Act → Bool
bound_act null = true
bound_act (assign items) = distinct (map (λ i. bit i.v.0) items)
bound_act (choose items e) = distinct (map (λ i. bit i.v.0) items)
bound_act (reset vs) = distinct (map (λ v. bit v.0) vs)
bound_act (communicate g os) = distinct (map def_of_offer os) && ordered os
bound_act (to q) = true
bound_act (then a b) = true
bound_act (select bs) = true
bound_act (case e arms) = true
bound_act (while e a) = true
bound_act (for v low high a) = apart (bit v.0) (touches a)

-- the parameters
unfoldable pub parameters_of : List Entry → ℕ
parameters_of [] = 0
parameters_of (e ∷ es) = e.parameter + 2 * parameters_of es

-- 9: row r's rule (a pattern here holds one pattern at most, so it is well-bound), and the trailer's condition reads parameters only
unfoldable pub bound : Tables → ℕ → Bool
bound x r =
    rule_at x (λ e. true) (λ p. true) bound_act r && (not (eqb r x.condition) || inside (use_of_exp (expression_at x r)) (parameters_of x.variables))
