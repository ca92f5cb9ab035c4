-- The run of a good action keeps the store typed, wherever it ends or jumps. Assumes nothing.
use mathlib.Core.{Path.◌≡◌, Path.refl, Path.sym, Path.subst, List.List, List.[], List.◌∷◌, List.◌++◌}
use Prim.Native.Nat.{ℕ, zero, suc, ◌<◌}
use native.Mathlib.Omega.{arith}
use lib.{IntN.ℤ, IntN.pos, IntN.negsuc, Signed.mag}
use Rattle.model.specs.declared.{Gate.Gate, Variable.Variable, Refusal.Refusal, Outcome.TheVariants.Stops}
use Rattle.model.specs.Image.{Tables, int, type_of}
use Rattle.model.specs.Values.{mark}
use Rattle.model.specs.Rows.{arithmetic, Plus}
use Rattle.model.specs.Trees.{Exp, var, const, binary, Offer, emit, receive, Gets, OfType as OfTypeItem, some_branch, Action, at, Act, null, assign, choose, reset, communicate, to, then, select, case, while, for, Branches, no_branch, branch, Arms, no_arm, arm}
use Rattle.model.specs.Typing.{type_of_exp, type_of_pat, typed_exp}
use Rattle.model.specs.Run.{store, eval, test, match, spoken, St, gives, stored, and_then, storing, assigning, choosing, resetting, offering, communicating, to_low, at_most_high, onward, exec, exec_act, exec_branch, exec_arms}
use Rattle.model.proofs.Run.{if-rule, match-rule}
use Rattle.demands.proofs.All.{All, nil, cons}
use Rattle.demands.proofs.Whole.{Whole}
use Rattle.demands.proofs.Good.{Inside, GoodExp, GoodOffer, GoodGets, GoodOfType, Good, GoodAct, GoodBranches, GoodArms}
use Rattle.demands.proofs.Hoare.{Post, Shown, same_post, Like, after, charged, word, word_of, value, test_of, loops}
use Rattle.demands.specs.Stores.{TypedStore}
use Rattle.demands.proofs.Typed.{OfType, store-typed, reset-typed, int-constant, eval-typed, match-typed}

-- typed at the end and at a jump
abbrev pub Kept : Tables → Post
Kept x = record { ends = λ s. TypedStore x s.store; jumps = λ q s. TypedStore x s.store; stops = λ y s. Unit }

module _ (x : Tables) (w : Whole x) where
  like-typed : (s u : St) → Like s u → TypedStore x s.store → TypedStore x u.store
  like-typed s u l t = subst (TypedStore x) (sym l.store) t

  stop : {y : Refusal} {s : St} → Shown (Kept x) (gives (Stops y) s)
  stop = record { says = tt }

  storing-kept : (is : List Gets) (r : ℕ) (m : List ℤ) (s : St) → All (GoodGets x) is → TypedStore x s.store → TypedStore x m → Shown (Kept x) (storing x is r m s)
  unfolding storing
  storing-kept [] r m s nil t k = record { says = k }
  storing-kept (i ∷ is) r m s (cons g gs) t k =
      value (eval x i.e s.store) r s _ (λ e. tt)
      (λ z e. storing-kept is r (store m i.v z) s gs t
      (store-typed x m i.v z g.inside k (subst (λ (n : ℕ). OfType x n z) g.typed (eval-typed x w i.e s.store z g.good t e))))

  choosing-kept : (is : List OfTypeItem) (e : Exp) (script : List ℕ) (r : ℕ) (s : St) → All (GoodOfType x) is → TypedStore x s.store → Shown (Kept x) (choosing x is e script r s)
  unfolding choosing
  choosing-kept [] e script r s nil t = test_of (test x e s.store) r s _ _ (λ q. tt) (λ q. record { says = t }) (λ q. stop)
  choosing-kept (i ∷ is) e script r s (cons g gs) t =
      word_of x i.t script r s _ tt (λ u l. tt)
      (λ z u o l. choosing-kept is e script r (stored (store u.store i.v z) u) gs
      (store-typed x u.store i.v z g.inside (like-typed s u l t) (subst (λ (n : ℕ). OfType x n z) (sym g.typed) o)))

  resetting-kept : (vs : List Variable) (m : List ℤ) → All (Inside x) vs → TypedStore x m → TypedStore x (resetting x vs m)
  unfolding resetting
  resetting-kept [] m nil t = t
  resetting-kept (v ∷ vs) m (cons i is) t = resetting-kept vs (store m v (mark x.half)) is (reset-typed x m v i t)

  offering-kept : (g : Gate) (os : List Offer) (vs : List ℤ) (script : List ℕ) (r : ℕ) (s : St) → All (GoodOffer x) os → TypedStore x s.store
      → Shown (Kept x) (offering x g os vs script r s)
  unfolding offering
  offering-kept g [] vs script r s nil t = record { says = t }
  offering-kept g (emit e ∷ os) vs script r s (cons h hs) t =
      value (eval x e s.store) r s _ (λ q. tt) (λ z q. offering-kept g os (vs ++ (z ∷ [])) script r s hs t)
  offering-kept g (receive p ∷ os) vs script r s (cons h hs) t =
      word_of x (type_of_pat x p) script r s _ tt (λ u l. tt)
      (λ z u o l. match-rule (Shown (Kept x)) (match x p z u.store) _ _ _
      (λ m q. offering-kept g os (vs ++ (z ∷ [])) script r (stored m u) hs (match-typed x w p z u.store m h o (like-typed s u l t) q))
      (λ q. stop) (λ q. stop))

  communicating-kept : (g : Gate) (os : List Offer) (script : List ℕ) (r : ℕ) (s : St) → All (GoodOffer x) os → TypedStore x s.store
      → Shown (Kept x) (communicating x g os script r s)
  unfolding communicating
  communicating-kept g os script r s h t = if-rule (Shown (Kept x)) (spoken s.label) _ _ (λ e. stop) (λ e. offering-kept g os [] script r s h t)

  -- a for's hidden assignments
  pub low-good : (v : Variable) (low : ℤ) → Inside x v → type_of x v ≡ int → mag low < x.half → All (GoodGets x) (to_low v low)
  unfolding GoodExp type_of_exp
  low-good v low i t h = cons (record { inside = i; typed = sym t; good = int-constant x w low h }) nil

  pub onward-good : (v : Variable) → Inside x v → type_of x v ≡ int → All (GoodGets x) (onward v)
  unfolding GoodExp type_of_exp typed_exp
  onward-good v i t =
      let g : GoodExp x (binary (arithmetic Plus) (var v) (const int (pos 1))) = (rw t refl, i, int-constant x w (pos 1) (omega (arith, w.half))) in
      cons (record { inside = i; typed = sym t; good = g }) nil

  mutual
    unfolding exec Good

    pub kept : (a : Action) (script : List ℕ) (s : St) → Good x a → TypedStore x s.store → Shown (Kept x) (exec x a script s)
    kept (at r a) script s g t = charged r s _ tt (λ u l. kept-act a script r u g (like-typed s u l t))

    kept-act : (a : Act) (script : List ℕ) (r : ℕ) (s : St) → GoodAct x a → TypedStore x s.store → Shown (Kept x) (exec_act x a script r s)
    kept-act null script r s g t = record { says = t }
    kept-act (assign is) script r s g t = storing-kept is r s.store s g.1 t t
    kept-act (choose is e) script r s g t = choosing-kept is e script r s g.1 t
    kept-act (reset vs) script r s g t = record { says = resetting-kept vs s.store g.1 t }
    kept-act (communicate c os) script r s g t = communicating-kept c os script r s g.1 t
    kept-act (to q) script r s g t = record { says = t }
    kept-act (then a b) script r s g t = after (λ u. exec x b script u) same_post (kept a script s g.0 t) (λ u k. kept b script u g.1 k)
    kept-act (select bs) script r s g t =
        if-rule (Shown (Kept x)) (some_branch bs) _ _
        (λ e. word script r s _ tt (λ z u l. kept-branch bs z script r u g.1 (like-typed s u l t))) (λ e. stop)
    kept-act (case e arms) script r s g t =
        value (eval x e s.store) r s _ (λ q. tt)
        (λ z q. kept-arms arms (type_of_exp x e) z script r s g.1 (eval-typed x w e s.store z g.0 t q) t)
    kept-act (while e a) script r s g t =
        loops (suc s.left) x e (λ u. exec x a script u) r (λ u k. tt) (λ u k q. tt) (λ u k q. kept a script u g.2 k) like-typed s t
    kept-act (for v low high a) script r s g t =
        after _ same_post (storing-kept (to_low v low) r s.store s (low-good v low g.1 g.2 g.3) t t)
        (λ u k. loops (suc u.left) x (at_most_high v high) (λ y. and_then (exec x a script y) (assigning x (onward v) r)) r
        (λ y j. tt) (λ y j q. tt)
        (λ y j q. after (assigning x (onward v) r) same_post (kept a script y g.5 j)
        (λ z i. storing-kept (onward v) r z.store z (onward-good v g.1 g.2) i i))
        like-typed u k)

    kept-branch : (bs : Branches) (z : ℤ) (script : List ℕ) (r : ℕ) (s : St) → GoodBranches x bs → TypedStore x s.store
        → Shown (Kept x) (exec_branch x bs z script r s)
    kept-branch no_branch z script r s g t = stop
    kept-branch (branch a bs) z script r s g t =
        elim z as (λ k. Shown (Kept x) (exec_branch x (branch a bs) k script r s)) [
          | pos n ↦ elim n as (λ k. Shown (Kept x) (exec_branch x (branch a bs) (pos k) script r s)) [ zero ↦ kept a script s g.0 t | suc k ↦ kept-branch bs (pos k) script r s g.1 t ]
          | negsuc n ↦ stop
        ]

    kept-arms : (arms : Arms) (n : ℕ) (z : ℤ) (script : List ℕ) (r : ℕ) (s : St) → GoodArms x n arms → OfType x n z → TypedStore x s.store
        → Shown (Kept x) (exec_arms x arms z script r s)
    kept-arms no_arm n z script r s g o t = stop
    kept-arms (arm p a rest) n z script r s g o t =
        match-rule (Shown (Kept x)) (match x p z s.store) _ _ _
        (λ m q. kept a script (stored m s) g.2 (match-typed x w p z s.store m g.1 (subst (λ (k : ℕ). OfType x k z) (sym g.0) o) t q))
        (λ q. kept-arms rest n z script r s g.3 o t) (λ q. stop)
