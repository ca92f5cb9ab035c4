-- An assignment's items are stored in one order in the definition and in another in the code: their variables are apart, so
-- that it can't be seen. Assumes nothing.
use Rattle.std.specs.Prelude.{Option, Some, None}
use mathlib.Core.{Path.◌≡◌, Path.refl, Path.sym, Path.ap, Path.◌∙◌, Bool.Bool, Bool.true, Bool.false, List.List, List.[], List.◌∷◌, List.map}
use Prim.Native.Nat.{ℕ, max}
use native.Mathlib.Omega.{arith}
use lib.{IntN.ℤ, Seq.set_comm}
use Rattle.model.specs.declared.{Variable.Variable, Refusal.TheVariants.Undefined, Outcome.TheVariants.Ends, Outcome.TheVariants.Stops}
use Rattle.model.specs.Answers.{row}
use Rattle.model.specs.Masks.{bit, digit, union, apart}
use Rattle.model.specs.Image.{Tables}
use Rattle.model.specs.Trees.{Gets}
use Rattle.model.specs.Binding.{distinct}
use Rattle.model.specs.Run.{store, eval, St, Res, gives, stored, valued, storing, assigning}
use Rattle.model.proofs.Masks.{union-has, digit-bit-here, apart-digit}
use Rattle.model.proofs.Rows.{both_true}
use Rattle.model.proofs.Run.{valued-is, valued-unknown}
use Rattle.demands.proofs.All.{All, nil, cons}
use Rattle.actions.specs.Items.{Assigned, assigns}
use Rattle.actions.proofs.Assigning.{made}

-- none of the items' variables is v
Other : ℕ → Gets → Type 0
Other v i = i.v.0 ≡ v → ⊥

max-zero : (a b : ℕ) → max a b ≡ 0 → (a ≡ 0) × (b ≡ 0)
max-zero a b e = (omega arith, omega arith)

differs : (v w : ℕ) → digit (bit w) v ≡ 0 → w ≡ v → ⊥
differs v w e q = let k : digit (bit v) v ≡ 0 = ap (λ (n : ℕ). digit (bit n) v) (sym q) ∙ e in omega (arith, digit-bit-here v)

others : (v : ℕ) (items : List Gets) → digit (union (map (λ i. bit i.v.0) items)) v ≡ 0 → All (Other v) items
unfolding Other
others v [] e = nil
others v (i ∷ items) e =
    let p = max-zero _ _ (sym (union-has (bit i.v.0) (map (λ (j : Gets). bit j.v.0) items) v) ∙ e) in
    cons (differs v i.v.0 p.0) (others v items p.1)

-- an item's value stored after the others', where all are known; n else
put_one : List ℤ → Variable → Option ℤ → Assigned → Assigned
put_one n v (Some z) q = elim q.done [ true ↦ made true (store q.store v z) | false ↦ made false n ]
put_one n v None q = made false n

-- evaluated in n, stored over m
assigns_on : Tables → List Gets → List ℤ → List ℤ → Assigned
assigns_on x [] n m = made true m
assigns_on x (i ∷ items) n m = put_one n i.v (eval x i.e n) (assigns_on x items n m)

as_one : (n : List ℤ) (v : Variable) (y : Option ℤ) (q : Assigned)
    → ◌≡◌ {A = Assigned} (elim y [ Some z ↦ elim q.done [ true ↦ made true (store q.store v z) | false ↦ made false n ] | None ↦ made false n ]) (put_one n v y q)
unfolding put_one
as_one n v (Some z) q = refl
as_one n v None q = refl

same-on : (x : Tables) (items : List Gets) (m : List ℤ) → assigns x items m ≡ assigns_on x items m m
unfolding assigns assigns_on
same-on x [] m = refl
same-on x (i ∷ items) m = as_one m i.v (eval x i.e m) (assigns x items m) ∙ ap (put_one m i.v (eval x i.e m)) (same-on x items m)

-- a store to another variable passes by
over : List ℤ → Assigned → Variable → ℤ → Assigned
over n q v z = elim q.done [ true ↦ made true (store q.store v z) | false ↦ made false n ]

pass-one : (n : List ℤ) (v w : Variable) (z : ℤ) (y : Option ℤ) (d : Bool) (l : List ℤ) → (w.0 ≡ v.0 → ⊥)
    → put_one n w y (over n (made d l) v z) ≡ over n (put_one n w y (made d l)) v z
unfolding put_one over store
pass-one n v w z (Some a) true l f = ap (made true) (set_comm l v.0 w.0 z a (λ e. f (sym e)))
pass-one n v w z (Some a) false l f = refl
pass-one n v w z None d l f = refl

pass : (x : Tables) (n : List ℤ) (v : Variable) (z : ℤ) (items : List Gets) (m : List ℤ) → All (Other v.0) items
    → assigns_on x items n (store m v z) ≡ over n (assigns_on x items n m) v z
unfolding assigns_on over Other
pass x n v z [] m nil = refl
pass x n v z (i ∷ items) m (cons f fs) =
    let q = assigns_on x items n m in
    ap (put_one n i.v (eval x i.e n)) (pass x n v z items m fs) ∙ pass-one n v i.v z (eval x i.e n) q.done q.store f

-- what an assignment gives, by what the code stores
abbrev pub by_assigned : Assigned → ℕ → St → Res
by_assigned q r s = elim q.done [ true ↦ gives Ends (stored q.store s) | false ↦ gives (Stops (Undefined (row r))) s ]

one_known : (n : List ℤ) (v : Variable) (z : ℤ) (q : Assigned) → over n q v z ≡ put_one n v (Some z) q
unfolding over put_one
one_known n v z q = refl

unknown-by : (n : List ℤ) (v : Variable) (q : Assigned) (r : ℕ) (s : St) → gives (Stops (Undefined (row r))) s ≡ by_assigned (put_one n v None q) r s
unfolding put_one
unknown-by n v q r s = refl

apart-first : (i : Gets) (items : List Gets) → distinct (map (λ j. bit j.v.0) (i ∷ items)) ≡ true
    → All (Other i.v.0) items × (distinct (map (λ j. bit j.v.0) items) ≡ true)
unfolding distinct
apart-first i items d =
    let p = both_true (apart (bit i.v.0) (union (map (λ (j : Gets). bit j.v.0) items))) _ d in
    (others i.v.0 items (apart-digit _ _ p.0 i.v.0 (digit-bit-here i.v.0)), p.1)

known-way : (x : Tables) (i : Gets) (items : List Gets) (r : ℕ) (m : List ℤ) (s : St) (z : ℤ) → All (Other i.v.0) items
    → storing x items r (store m i.v z) s ≡ by_assigned (assigns_on x items s.store (store m i.v z)) r s
    → storing x items r (store m i.v z) s ≡ by_assigned (put_one s.store i.v (Some z) (assigns_on x items s.store m)) r s
known-way x i items r m s z f h =
    h ∙ ap (λ (q : Assigned). by_assigned q r s) (pass x s.store i.v z items m f ∙ one_known s.store i.v z (assigns_on x items s.store m))

storing-on : (x : Tables) (items : List Gets) (r : ℕ) (m : List ℤ) (s : St) → distinct (map (λ i. bit i.v.0) items) ≡ true
    → storing x items r m s ≡ by_assigned (assigns_on x items s.store m) r s
unfolding storing assigns_on
storing-on x [] r m s d = refl
storing-on x (i ∷ items) r m s d =
    let p = apart-first i items d in
    go (eval x i.e s.store) (λ z. known-way x i items r m s z p.0 (storing-on x items r (store m i.v z) s p.1))
  where
    go : (y : Option ℤ) → ((z : ℤ) → storing x items r (store m i.v z) s ≡ by_assigned (put_one s.store i.v (Some z) (assigns_on x items s.store m)) r s)
        → valued y r s (λ z. storing x items r (store m i.v z) s) ≡ by_assigned (put_one s.store i.v y (assigns_on x items s.store m)) r s
    go (Some z) h = valued-is (Some z) r s _ z refl ∙ h z
    go None h = valued-unknown None r s _ refl ∙ unknown-by s.store i.v _ r s

-- R11 as the code does it
pub assigning-by : (x : Tables) (items : List Gets) (r : ℕ) (s : St) → distinct (map (λ i. bit i.v.0) items) ≡ true
    → assigning x items r s ≡ by_assigned (assigns x items s.store) r s
assigning-by x items r s d = storing-on x items r s.store s d ∙ ap (λ (q : Assigned). by_assigned q r s) (sym (same-on x items s.store))
