-- Figure 2 of the report, rule by rule as printed, with match and accept of section 3.4 and appendix B.2. A for is its
-- expansion. Derivations are data: what they cost, choose and read are functions of them. Assumes nothing.
use mathlib.Core.{Path.◌≡◌, Bool.true, Bool.false, Bool.cond, List.List, List.[], List.◌∷◌, List.◌++◌, List.map}
use Rattle.std.specs.Prelude.{ℕ, zero, suc, ◌+◌, Some, None}
use lib.{Dec.eqb, IntN.ℤ, IntN.pos}
use Rattle.model.specs.declared.{State.State, Variable.Variable, Gate.Gate, Tested.TheVariants.Holds, Tested.TheVariants.Fails, Tested.TheVariants.Unsure}
use Rattle.model.specs.Values.{same, of_size}
use Rattle.model.specs.Image.{Tables, none, size_of}
use Rattle.model.specs.Trees.{Exp, Pat, any, bind, equals, guarded, Offer, emit, receive, Gets, OfType, Action, at, null, assign, choose, reset, communicate, to, then, select, case, while, for, Branches, branch, Arms, arm}
use Rattle.model.specs.Typing.{type_of_pat}
use Rattle.model.specs.Run.{store, eval, test, failed, match, Label, ε, on, resetting, to_low, at_most_high, onward}

-- "s is a state if A terminates with a to s action, or none otherwise"
pub data Next : Type 0 where
  onto : (q : State) → Next
  ended : Next

-- a store, or fail
pub data Found : Type 0 where
  fail : Found
  found : (m : List ℤ) → Found

-- match(v, ρ, P) of appendix B.2: a condition that reads an undefined variable fails
unfoldable pub match_of : Tables → ℤ → List ℤ → Pat → Found
match_of x z m (any t) = found m
match_of x z m (bind v) = found (store m v z)
match_of x z m (equals t k) = elim (same z k) [ true ↦ found m | false ↦ fail ]
match_of x z m (guarded p e) =
    elim (match_of x z m p) [ fail ↦ fail | found n ↦ elim (test x e n) [ Holds ↦ found n | Fails ↦ fail | Unsure ↦ fail ] ]

-- accept(v, ρ, O) of section 3.4
unfoldable pub accept : Tables → ℤ → List ℤ → Offer → Found
accept x z m (emit e) = elim (eval x e m) [ Some a ↦ elim (same a z) [ true ↦ found m | false ↦ fail ] | None ↦ fail ]
accept x z m (receive p) = match_of x z m p

-- "v ∈ T"
abbrev pub OfThe : Tables → ℕ → ℤ → Type 0
OfThe x t z = of_size x.half (size_of x t) z ≡ true

-- "The values that a receipt may take in Figure 2 are those of its pattern's type"
abbrev pub MayTake : Tables → Offer → ℤ → Type 0
MayTake x (emit e) z = Unit
MayTake x (receive p) z = OfThe x (type_of_pat x p) z

-- accept(v_i, ρ_i, O_i) = ρ_{i+1} ≠ fail, for each i
pub data Accepts (x : Tables) : List Offer → List ℤ → List ℤ → List ℤ → Type 0 where
  all_run : {m : List ℤ} → Accepts x [] [] m m
  runs : {o : Offer} {os : List Offer} {z : ℤ} {zs m n k : List ℤ} → MayTake x o z → accept x z m o ≡ found n
      → Accepts x os zs n k → Accepts x (o ∷ os) (z ∷ zs) m k

-- one value for each item, as R says: eval(E_i, ρ, v_i), and v_i ∈ T_i
pub data Each {A : Type 0} (R : A → ℤ → Type 0) : List A → List ℤ → Type 0 where
  none_left : Each R [] []
  one_more : {i : A} {is : List A} {z : ℤ} {zs : List ℤ} → R i z → Each R is zs → Each R (i ∷ is) (z ∷ zs)

abbrev pub Evals : Tables → List ℤ → List Gets → List ℤ → Type 0
Evals x m is zs = Each (λ i z. eval x i.e m ≡ Some z) is zs

abbrev pub Chosen : Tables → List OfType → List ℤ → Type 0
Chosen x is zs = Each (λ i z. OfThe x i.t z) is zs

-- ρ ⊙ [V_0 ↦ v_0, ..., V_n ↦ v_n]
unfoldable pub update : List ℤ → List Variable → List ℤ → List ℤ
update m [] zs = m
update m (v ∷ vs) [] = m
update m (v ∷ vs) (z ∷ zs) = update (store m v z) vs zs

abbrev pub getters : List Gets → List Variable
getters is = map (λ i. i.v) is

abbrev pub choosers : List OfType → List Variable
choosers is = map (λ i. i.v) is

-- ℓ = ℓ_1 + ℓ_2
abbrev pub Sum : Label → Label → Label → Type 0
Sum ε l k = l ≡ k
Sum (on g vs) ε k = on g vs ≡ k
Sum (on g vs) (on h us) k = ⊥

-- A_i of a select, i from 0
pub data Nth : Branches → ℕ → Action → Type 0 where
  here : {a : Action} {bs : Branches} → Nth (branch a bs) zero a
  further : {a b : Action} {bs : Branches} {i : ℕ} → Nth bs i a → Nth (branch b bs) (suc i) a

-- match(v, ρ, P_i) = ρ_i ≠ fail, and match(v, ρ, P_j) = fail for j < i
pub data Taken (x : Tables) (z : ℤ) (m : List ℤ) : Arms → Action → List ℤ → Type 0 where
  this : {p : Pat} {a : Action} {rest : Arms} {n : List ℤ} → match_of x z m p ≡ found n → Taken x z m (arm p a rest) a n
  later : {p : Pat} {a b : Action} {rest : Arms} {n : List ℤ} → match_of x z m p ≡ fail → Taken x z m rest b n
      → Taken x z m (arm p a rest) b n

-- for V in low..high do A = V := low; while V <= high do A; V := V + 1 end; the while is at the for's row
abbrev pub expansion : ℕ → Variable → ℤ → ℤ → Action → Action
expansion r v low high a =
    at none (then (at none (assign (to_low v low)))
    (at r (while (at_most_high v high) (at none (then a (at none (assign (onward v))))))))

-- [A], ρ ⇒ s, ρ' with label ℓ
pub data Does (x : Tables) : Action → List ℤ → Label → Next → List ℤ → Type 0 where
  d_null : {r : ℕ} {m : List ℤ} → Does x (at r null) m ε ended m
  d_to : {r : ℕ} {q : State} {m : List ℤ} → Does x (at r (to q)) m ε (onto q) m
  d_assign : {r : ℕ} {is : List Gets} {m zs : List ℤ} → Evals x m is zs → Does x (at r (assign is)) m ε ended (update m (getters is) zs)
  d_choose : {r : ℕ} {is : List OfType} {e : Exp} {m zs : List ℤ} → Chosen x is zs → test x e (update m (choosers is) zs) ≡ Holds
      → Does x (at r (choose is e)) m ε ended (update m (choosers is) zs)
  d_reset : {r : ℕ} {vs : List Variable} {m : List ℤ} → Does x (at r (reset vs)) m ε ended (resetting x vs m)
  d_communicate : {r : ℕ} {g : Gate} {os : List Offer} {m n zs : List ℤ} → Accepts x os zs m n
      → Does x (at r (communicate g os)) m (on g zs) ended n
  d_then : {r : ℕ} {a b : Action} {m n k : List ℤ} {l₁ l₂ l : Label} {s : Next} → Does x a m l₁ ended n → Does x b n l₂ s k
      → Sum l₁ l₂ l → Does x (at r (then a b)) m l s k
  d_leave : {r : ℕ} {a b : Action} {m n : List ℤ} {l : Label} {q : State} → Does x a m l (onto q) n → Does x (at r (then a b)) m l (onto q) n
  d_select : {r i : ℕ} {bs : Branches} {a : Action} {m n : List ℤ} {l : Label} {s : Next} → Nth bs i a → Does x a m l s n
      → Does x (at r (select bs)) m l s n
  d_case : {r : ℕ} {e : Exp} {arms : Arms} {a : Action} {z : ℤ} {m n k : List ℤ} {l : Label} {s : Next} → eval x e m ≡ Some z
      → Taken x z m arms a n → Does x a n l s k → Does x (at r (case e arms)) m l s k
  d_again : {r : ℕ} {e : Exp} {a : Action} {m n : List ℤ} {l : Label} {s : Next} → test x e m ≡ Holds
      → Does x (at none (then a (at r (while e a)))) m l s n → Does x (at r (while e a)) m l s n
  d_done : {r : ℕ} {e : Exp} {a : Action} {m : List ℤ} → test x e m ≡ Fails → Does x (at r (while e a)) m ε ended m
  d_for : {r : ℕ} {v : Variable} {low high : ℤ} {a : Action} {m n : List ℤ} {l : Label} {s : Next}
      → Does x (expansion r v low high a) m l s n → Does x (at r (for v low high a)) m l s n

-- one unit for an action row, nothing for an action that no row says
abbrev pub toll : ℕ → ℕ
toll r = cond (eqb r none) 0 1

-- the units of a derivation; a while that goes on is entered again for its further test, a for's while has the for's unit
unfoldable pub cost : {x : Tables} {a : Action} {m n : List ℤ} {l : Label} {s : Next} → Does x a m l s n → ℕ
cost (d_null {r}) = toll r
cost (d_to {r}) = toll r
cost (d_assign {r} p) = toll r
cost (d_choose {r} p q) = toll r
cost (d_reset {r}) = toll r
cost (d_communicate {r} p) = toll r
cost (d_then {r} d e p) = toll r + (cost d + cost e)
cost (d_leave {r} d) = toll r + cost d
cost (d_select {r} p d) = toll r + cost d
cost (d_case {r} p q d) = toll r + cost d
cost (d_again {r} p d) = toll r + cost d
cost (d_done {r} p) = toll r
cost (d_for d) = cost d

-- the values received, of the values of a label
unfoldable pub received : List Offer → List ℤ → List ℤ
received [] zs = []
received (o ∷ os) [] = []
received (emit e ∷ os) (z ∷ zs) = received os zs
received (receive p ∷ os) (z ∷ zs) = z ∷ received os zs

-- the choices of a derivation in running order: what a script supplies
unfoldable pub choices : {x : Tables} {a : Action} {m n : List ℤ} {l : Label} {s : Next} → Does x a m l s n → List ℤ
choices d_null = []
choices d_to = []
choices (d_assign p) = []
choices (d_choose {zs} p q) = zs
choices d_reset = []
choices (d_communicate {os} {zs} p) = received os zs
choices (d_then d e p) = choices d ++ choices e
choices (d_leave d) = choices d
choices (d_select {i} p d) = pos i ∷ choices d
choices (d_case p q d) = choices d
choices (d_again p d) = choices d
choices (d_done p) = []
choices (d_for d) = choices d

-- the arms that failed read nothing undefined
unfoldable pub Sure : {x : Tables} {z : ℤ} {m : List ℤ} {arms : Arms} {a : Action} {n : List ℤ} → Taken x z m arms a n → Type 0
Sure (this p) = Unit
Sure {x} {z} {m} (later {p} f t) = (match x p z m ≡ failed) × Sure t

-- the derivation reads nothing undefined
unfoldable pub ReadsDefined : {x : Tables} {a : Action} {m n : List ℤ} {l : Label} {s : Next} → Does x a m l s n → Type 0
ReadsDefined d_null = Unit
ReadsDefined d_to = Unit
ReadsDefined (d_assign p) = Unit
ReadsDefined (d_choose p q) = Unit
ReadsDefined d_reset = Unit
ReadsDefined (d_communicate p) = Unit
ReadsDefined (d_then d e p) = ReadsDefined d × ReadsDefined e
ReadsDefined (d_leave d) = ReadsDefined d
ReadsDefined (d_select p d) = ReadsDefined d
ReadsDefined (d_case p q d) = Sure q × ReadsDefined d
ReadsDefined (d_again p d) = ReadsDefined d
ReadsDefined (d_done p) = Unit
ReadsDefined (d_for d) = ReadsDefined d
