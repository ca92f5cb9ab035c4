-- Typing and binding as the report prints them (A.2, A.1), rule by rule, with what 01 adds ("The checker's rules"): judgements on
-- trees, no masks and no tests. Assumes nothing.
use mathlib.Core.{Path.◌≡◌, Bool.true, List.List, List.[], List.◌∷◌}
use Rattle.std.specs.Prelude.{ℕ, ◌<◌, Ok, Err}
use lib.{IntN.ℤ, ListN.length}
use Rattle.model.specs.declared.{Variable.Variable, State.State, Gate.Gate, Refusal.TheVariants.Typing, Refusal.TheVariants.Binding}
use Rattle.model.specs.Answers.{row}
use Rattle.model.specs.Image.{Tables, bool, int, type_of, entry_of, length_fits, marked, trailer_of, starts_fit, entries_right, tables_of}
use Rattle.model.specs.Rows.{Unary, Not, Negate, Logic, Arithmetic, Equal, Less, AtMost, Binary, logic, arithmetic, comparison, Means, an_expression, a_pattern, an_offer, an_action, another, means_at}
use Rattle.model.specs.Trees.{Exp, var, const, unary, binary, Pat, any, bind, equals, guarded, Offer, emit, receive, Gets, OfType, Action, at, Act, null, assign, choose, reset, communicate, to, then, select, case, while, for, Branches, no_branch, branch, Arms, no_arm, arm}
use Rattle.model.specs.Decode.{expression_at, pattern_at, action_at, act, initial}
use Rattle.model.specs.Calls.{rows_verdict, image_verdict}
use Rattle.demands.specs.Common.{Iff, Every, Pairwise, Some, Lowest}

-- ---- A.2 Typing

-- prototypes of the function symbols
pub data Takes1 : Unary → ℕ → ℕ → Type 0 where
  p_not : Takes1 Not bool bool
  p_negate : Takes1 Negate int int

pub data Takes2 : Binary → ℕ → ℕ → ℕ → Type 0 where
  p_logic : {o : Logic} → Takes2 (logic o) bool bool bool
  p_arithmetic : {o : Arithmetic} → Takes2 (arithmetic o) int int int
  p_equal : {t : ℕ} → Takes2 (comparison Equal) t t bool
  p_less : Takes2 (comparison Less) int int bool
  p_at_most : Takes2 (comparison AtMost) int int bool

-- type(E) = T
pub data HasType (x : Tables) : Exp → ℕ → Type 0 where
  t_var : {v : Variable} → HasType x (var v) (type_of x v)
  t_const : {t : ℕ} {z : ℤ} → HasType x (const t z) t
  t_unary : {o : Unary} {s t : ℕ} {e : Exp} → Takes1 o s t → HasType x e s → HasType x (unary o e) t
  t_binary : {o : Binary} {s u t : ℕ} {a b : Exp} → Takes2 o s u t → HasType x a s → HasType x b u → HasType x (binary o a b) t

-- type(P) = T
pub data PatType (x : Tables) : Pat → ℕ → Type 0 where
  t_any : {t : ℕ} → PatType x (any t) t
  t_bind : {v : Variable} → PatType x (bind v) (type_of x v)
  t_equals : {t : ℕ} {z : ℤ} → PatType x (equals t z) t
  t_guarded : {t : ℕ} {p : Pat} {e : Exp} → PatType x p t → HasType x e bool → PatType x (guarded p e) t

-- type(E), type(P) of an offer is defined
pub data OfferTyped (x : Tables) : Offer → Type 0 where
  t_emit : {e : Exp} {t : ℕ} → HasType x e t → OfferTyped x (emit e)
  t_receive : {p : Pat} {t : ℕ} → PatType x p t → OfferTyped x (receive p)

abbrev pub GetsTyped : Tables → Gets → Type 0
GetsTyped x i = HasType x i.e (type_of x i.v)

abbrev pub OfTypeTyped : Tables → OfType → Type 0
OfTypeTyped x i = type_of x i.v ≡ i.t

mutual
  pub data WellTyped (x : Tables) : Action → Type 0 where
    t_at : {r : ℕ} {a : Act} → TypedAct x a → WellTyped x (at r a)

  pub data TypedAct (x : Tables) : Act → Type 0 where
    t_null : TypedAct x null
    t_reset : {vs : List Variable} → TypedAct x (reset vs)
    t_to : {q : State} → TypedAct x (to q)
    t_assign : {is : List Gets} → Every (GetsTyped x) is → TypedAct x (assign is)
    t_choose : {is : List OfType} {e : Exp} → HasType x e bool → Every (OfTypeTyped x) is → TypedAct x (choose is e)
    -- "τ has no offers": a gate with offers isn't τ, gate 0
    t_quiet : {g : Gate} → TypedAct x (communicate g [])
    t_communicate : {g : Gate} {o : Offer} {os : List Offer} → (g.0 ≡ 0 → ⊥) → Every (OfferTyped x) (o ∷ os) → TypedAct x (communicate g (o ∷ os))
    t_then : {a b : Action} → WellTyped x a → WellTyped x b → TypedAct x (then a b)
    t_select : {bs : Branches} → TypedBranches x bs → TypedAct x (select bs)
    t_case : {e : Exp} {t : ℕ} {arms : Arms} → HasType x e t → TypedArms x t arms → TypedAct x (case e arms)
    t_while : {e : Exp} {a : Action} → HasType x e bool → WellTyped x a → TypedAct x (while e a)
    -- "A range's variable is int"
    t_for : {v : Variable} {low high : ℤ} {a : Action} → type_of x v ≡ int → WellTyped x a → TypedAct x (for v low high a)

  pub data TypedBranches (x : Tables) : Branches → Type 0 where
    t_no_branch : TypedBranches x no_branch
    t_branch : {a : Action} {bs : Branches} → WellTyped x a → TypedBranches x bs → TypedBranches x (branch a bs)

  pub data TypedArms (x : Tables) : ℕ → Arms → Type 0 where
    t_no_arm : {t : ℕ} → TypedArms x t no_arm
    t_arm : {t : ℕ} {p : Pat} {a : Action} {rest : Arms} → PatType x p t → WellTyped x a → TypedArms x t rest → TypedArms x t (arm p a rest)

-- ---- A.1 Binding

-- V ∈ use(E)
pub data UsedIn (v : Variable) : Exp → Type 0 where
  u_var : UsedIn v (var v)
  u_unary : {o : Unary} {e : Exp} → UsedIn v e → UsedIn v (unary o e)
  u_left : {o : Binary} {a b : Exp} → UsedIn v a → UsedIn v (binary o a b)
  u_right : {o : Binary} {a b : Exp} → UsedIn v b → UsedIn v (binary o a b)

-- V ∈ def(P)
pub data DefinedIn (v : Variable) : Pat → Type 0 where
  d_bind : DefinedIn v (bind v)
  d_guarded : {p : Pat} {e : Exp} → DefinedIn v p → DefinedIn v (guarded p e)

-- V ∈ use(P): use(P where E) = (use(E) \ def(P)) ∪ use(P)
pub data UsedInPat (v : Variable) : Pat → Type 0 where
  u_guard : {p : Pat} {e : Exp} → UsedIn v e → (DefinedIn v p → ⊥) → UsedInPat v (guarded p e)
  u_inner : {p : Pat} {e : Exp} → UsedInPat v p → UsedInPat v (guarded p e)

-- V ∈ use(O), V ∈ def(O)
pub data UsedInOffer (v : Variable) : Offer → Type 0 where
  u_emit : {e : Exp} → UsedIn v e → UsedInOffer v (emit e)
  u_receive : {p : Pat} → UsedInPat v p → UsedInOffer v (receive p)

pub data DefinedInOffer (v : Variable) : Offer → Type 0 where
  d_receive : {p : Pat} → DefinedIn v p → DefinedInOffer v (receive p)

-- V is defined or reset somewhere in the action (01: the body of a for)
mutual
  pub data Touched (v : Variable) : Action → Type 0 where
    h_at : {r : ℕ} {a : Act} → TouchedAct v a → Touched v (at r a)

  pub data TouchedAct (v : Variable) : Act → Type 0 where
    h_assign : {is : List Gets} → Some (λ i. v ≡ i.v) is → TouchedAct v (assign is)
    h_choose : {is : List OfType} {e : Exp} → Some (λ i. v ≡ i.v) is → TouchedAct v (choose is e)
    h_reset : {vs : List Variable} → Some (λ u. v ≡ u) vs → TouchedAct v (reset vs)
    h_communicate : {g : Gate} {os : List Offer} → Some (DefinedInOffer v) os → TouchedAct v (communicate g os)
    h_first : {a b : Action} → Touched v a → TouchedAct v (then a b)
    h_second : {a b : Action} → Touched v b → TouchedAct v (then a b)
    h_select : {bs : Branches} → TouchedBranches v bs → TouchedAct v (select bs)
    h_case : {e : Exp} {arms : Arms} → TouchedArms v arms → TouchedAct v (case e arms)
    h_while : {e : Exp} {a : Action} → Touched v a → TouchedAct v (while e a)
    h_range : {low high : ℤ} {a : Action} → TouchedAct v (for v low high a)
    h_for : {u : Variable} {low high : ℤ} {a : Action} → Touched v a → TouchedAct v (for u low high a)

  pub data TouchedBranches (v : Variable) : Branches → Type 0 where
    h_branch : {a : Action} {bs : Branches} → Touched v a → TouchedBranches v (branch a bs)
    h_branches : {a : Action} {bs : Branches} → TouchedBranches v bs → TouchedBranches v (branch a bs)

  pub data TouchedArms (v : Variable) : Arms → Type 0 where
    h_pattern : {p : Pat} {a : Action} {rest : Arms} → DefinedIn v p → TouchedArms v (arm p a rest)
    h_arm : {p : Pat} {a : Action} {rest : Arms} → Touched v a → TouchedArms v (arm p a rest)
    h_arms : {p : Pat} {a : Action} {rest : Arms} → TouchedArms v rest → TouchedArms v (arm p a rest)

-- a pattern is well-bound; a constant is a constructor without arguments
pub data BoundPat : Pat → Type 0 where
  b_any : {t : ℕ} → BoundPat (any t)
  b_bind : {v : Variable} → BoundPat (bind v)
  b_equals : {t : ℕ} {z : ℤ} → BoundPat (equals t z)
  b_guarded : {p : Pat} {e : Exp} → BoundPat p → BoundPat (guarded p e)

pub data BoundOffer : Offer → Type 0 where
  b_emit : {e : Exp} → BoundOffer (emit e)
  b_receive : {p : Pat} → BoundPat p → BoundOffer (receive p)

-- O before O': def(O) ∩ def(O') = ∅ and def(O') ∩ use(O) = ∅
pub record InTurn (o p : Offer) : Type 0 where
  pub once : (v : Variable) → DefinedInOffer v o → DefinedInOffer v p → ⊥
  pub order : (v : Variable) → DefinedInOffer v p → UsedInOffer v o → ⊥

mutual
  pub data WellBound : Action → Type 0 where
    b_at : {r : ℕ} {a : Act} → BoundAct a → WellBound (at r a)

  pub data BoundAct : Act → Type 0 where
    b_null : BoundAct null
    b_to : {q : State} → BoundAct (to q)
    b_reset : {vs : List Variable} → Pairwise (λ u v. u ≡ v → ⊥) vs → BoundAct (reset vs)
    b_assign : {is : List Gets} → Pairwise (λ i j. i.v ≡ j.v → ⊥) is → BoundAct (assign is)
    b_choose : {is : List OfType} {e : Exp} → Pairwise (λ i j. i.v ≡ j.v → ⊥) is → BoundAct (choose is e)
    b_communicate : {g : Gate} {os : List Offer} → Every BoundOffer os → Pairwise InTurn os → BoundAct (communicate g os)
    b_then : {a b : Action} → WellBound a → WellBound b → BoundAct (then a b)
    b_select : {bs : Branches} → BoundBranches bs → BoundAct (select bs)
    b_case : {e : Exp} {arms : Arms} → BoundArms arms → BoundAct (case e arms)
    b_while : {e : Exp} {a : Action} → WellBound a → BoundAct (while e a)
    -- "the body of a for may not define or reset its variable"
    b_for : {v : Variable} {low high : ℤ} {a : Action} → (Touched v a → ⊥) → WellBound a → BoundAct (for v low high a)

  pub data BoundBranches : Branches → Type 0 where
    b_no_branch : BoundBranches no_branch
    b_branch : {a : Action} {bs : Branches} → WellBound a → BoundBranches bs → BoundBranches (branch a bs)

  pub data BoundArms : Arms → Type 0 where
    b_no_arm : BoundArms no_arm
    b_arm : {p : Pat} {a : Action} {rest : Arms} → BoundPat p → WellBound a → BoundArms rest → BoundArms (arm p a rest)

-- use(E) ⊆ X: only parameters are read
abbrev pub ReadsParameters : Tables → Exp → Type 0
ReadsParameters x e = (v : Variable) → UsedIn v e → (entry_of x v).parameter ≡ 1

-- ---- the automaton

pub record AutomatonTyped (x : Tables) : Type 0 where
  pub condition : HasType x (initial x) bool
  pub states : (s : ℕ) → s < length x.states → WellTyped x (act x s)

pub record AutomatonBound (x : Tables) : Type 0 where
  pub condition : ReadsParameters x (initial x)
  pub states : (s : ℕ) → s < length x.states → WellBound (act x s)

-- ---- the rows that can be places of 8 and 9: what their trees are judged to be

-- row r is an expression or a pattern that has a type, an action that is well typed, or none of these
abbrev pub TypedAs : Tables → ℕ → Means → Type 0
TypedAs x r (an_expression m) = (t : ℕ) × HasType x (expression_at x r) t
TypedAs x r (a_pattern m) = (t : ℕ) × PatType x (pattern_at x r) t
TypedAs x r (an_offer m) = Unit
TypedAs x r (an_action m) = WellTyped x (action_at x r)
TypedAs x r (another k) = Unit

-- and the condition's row is bool
pub record RowTyped (x : Tables) (r : ℕ) : Type 0 where
  pub tree : TypedAs x r (means_at x r)
  pub condition : r ≡ x.condition → HasType x (initial x) bool

abbrev pub BoundAs : Tables → ℕ → Means → Type 0
BoundAs x r (an_expression m) = Unit
BoundAs x r (a_pattern m) = BoundPat (pattern_at x r)
BoundAs x r (an_offer m) = Unit
BoundAs x r (an_action m) = WellBound (action_at x r)
BoundAs x r (another k) = Unit

pub record RowBound (x : Tables) (r : ℕ) : Type 0 where
  pub tree : BoundAs x r (means_at x r)
  pub condition : r ≡ x.condition → ReadsParameters x (initial x)

-- ---- what 8 and 9 are

-- nothing of 1 to 7 is refused
pub record FreeToSeven (s : List ℕ) : Type 0 where
  pub long : length_fits s ≡ true
  pub marked : marked s ≡ true
  pub starts : starts_fit (trailer_of s) ≡ true
  pub entries : entries_right (tables_of s) ≡ true
  pub rows : rows_verdict (tables_of s) ≡ Ok tt

-- an image is accepted exactly if 1 to 7 pass and its automaton is well typed and well bound
abbrev pub AcceptedIsWell : Type 0
AcceptedIsWell = (s : List ℕ) → Iff (image_verdict s ≡ Ok tt) (FreeToSeven s × AutomatonTyped (tables_of s) × AutomatonBound (tables_of s))

-- 8 is given exactly at the lowest row whose tree isn't well typed
abbrev pub TypingIsLowest : Type 0
TypingIsLowest =
    (s : List ℕ) (r : ℕ)
    → Iff (image_verdict s ≡ Err (Typing (row r))) (FreeToSeven s × Lowest (RowTyped (tables_of s)) (length (tables_of s).rows) r)

-- 9 is given exactly if the automaton is well typed, at the lowest row whose tree isn't well bound
abbrev pub BindingIsLowest : Type 0
BindingIsLowest =
    (s : List ℕ) (r : ℕ)
    → Iff (image_verdict s ≡ Err (Binding (row r)))
    (FreeToSeven s × AutomatonTyped (tables_of s) × Lowest (RowBound (tables_of s)) (length (tables_of s).rows) r)

pub record RulesAreJudgements : Type 0 where
  pub accepted : AcceptedIsWell
  pub typing : TypingIsLowest
  pub binding : BindingIsLowest
