-- Trees whose every node keeps the rules 5, 8 and 9, and that the trees of an image's rows are such. Assumes nothing.
use mathlib.Core.{Path.◌≡◌}
use mathlib.Core.{Bool.true}
use Prim.Native.Nat.{ℕ, suc, ◌≤◌, ◌<◌}
use lib.{IntN.ℤ, ListN.length, Signed.mag}
use Rattle.model.specs.declared.{Variable.Variable}
use Rattle.model.specs.Values.{of_size}
use Rattle.model.specs.Image.{Tables, bool, int, size_of, type_of}
use Rattle.model.specs.Trees.{Exp, var, const, unary, binary, Pat, any, bind, equals, guarded, Offer, emit, receive, Gets, OfType, Action, at, Act, null, assign, choose, reset, communicate, to, then, select, case, while, for, Branches, no_branch, branch as a_branch, Arms, no_arm, arm as an_arm}
use Rattle.model.specs.Typing.{type_of_exp, type_of_pat, typed_exp}
use Rattle.model.specs.Binding.{bound_act}
use Rattle.demands.proofs.All.{All}

-- a constant is a value of its type
pub record GoodConstant (x : Tables) (t : ℕ) (z : ℤ) : Type 0 where
  pub type : t < length x.sizes
  pub value : of_size x.half (size_of x t) z ≡ true

abbrev pub Inside : Tables → Variable → Type 0
Inside x v = v.0 < length x.variables

unfoldable pub GoodExp : Tables → Exp → Type 0
GoodExp x (var v) = Inside x v
GoodExp x (const t z) = GoodConstant x t z
GoodExp x (unary o e) = (typed_exp x (unary o e) ≡ true) × GoodExp x e
GoodExp x (binary o a b) = (typed_exp x (binary o a b) ≡ true) × GoodExp x a × GoodExp x b

unfoldable pub GoodPat : Tables → Pat → Type 0
GoodPat x (any t) = t < length x.sizes
GoodPat x (bind v) = Inside x v
GoodPat x (equals t z) = GoodConstant x t z
GoodPat x (guarded p e) = (type_of_exp x e ≡ bool) × GoodPat x p × GoodExp x e

abbrev pub GoodOffer : Tables → Offer → Type 0
GoodOffer x (emit e) = GoodExp x e
GoodOffer x (receive p) = GoodPat x p

pub record GoodGets (x : Tables) (i : Gets) : Type 0 where
  pub inside : Inside x i.v
  pub typed : type_of_exp x i.e ≡ type_of x i.v
  pub good : GoodExp x i.e

pub record GoodOfType (x : Tables) (i : OfType) : Type 0 where
  pub inside : Inside x i.v
  pub typed : type_of x i.v ≡ i.t

unfoldable pub count_branches : Branches → ℕ
count_branches no_branch = 0
count_branches (a_branch a bs) = suc (count_branches bs)

-- every node keeps its rules; what each holds is in range
unfoldable mutual
  pub Good : Tables → Action → Type 0
  Good x (at r a) = GoodAct x a

  pub GoodAct : Tables → Act → Type 0
  GoodAct x null = Unit
  GoodAct x (assign is) = (bound_act (assign is) ≡ true) × All (GoodGets x) is
  GoodAct x (choose is e) = (bound_act (choose is e) ≡ true) × All (GoodOfType x) is × (type_of_exp x e ≡ bool) × GoodExp x e
  GoodAct x (reset vs) = (bound_act (reset vs) ≡ true) × All (Inside x) vs
  GoodAct x (communicate g os) = (bound_act (communicate g os) ≡ true) × All (GoodOffer x) os × (length os ≤ 8) × (g.0 < x.gates)
  GoodAct x (to q) = q.0 < length x.states
  GoodAct x (then a b) = Good x a × Good x b
  GoodAct x (select bs) = (count_branches bs ≤ 64) × GoodBranches x bs
  GoodAct x (case e arms) = GoodExp x e × GoodArms x (type_of_exp x e) arms
  GoodAct x (while e a) = (type_of_exp x e ≡ bool) × GoodExp x e × Good x a
  GoodAct x (for v low high a) =
      (bound_act (for v low high a) ≡ true) × Inside x v × (type_of x v ≡ int) × (mag low < x.half) × (mag high < x.half) × Good x a

  pub GoodBranches : Tables → Branches → Type 0
  GoodBranches x no_branch = Unit
  GoodBranches x (a_branch a bs) = Good x a × GoodBranches x bs

  pub GoodArms : Tables → ℕ → Arms → Type 0
  GoodArms x t no_arm = Unit
  GoodArms x t (an_arm p a rest) = (type_of_pat x p ≡ t) × GoodPat x p × Good x a × GoodArms x t rest
