-- A run stops only with a refusal of the run, 21 to 27. Assumes nothing.
use mathlib.Core.{Path.◌≡◌, Path.sym, Path.subst, Bool.true, Bool.false, Bool.cond, Bool.Bool, List.List, List.[], List.◌∷◌, List.◌++◌}
use Prim.Native.Nat.{ℕ, zero, suc, ◌≤◌}
use native.Mathlib.Omega.{arith}
use lib.{IntN.ℤ, IntN.pos, IntN.negsuc}
use Rattle.model.specs.declared.{Gate.Gate, Refusal.Refusal, Refusal.TheVariants.Blocked, Refusal.TheVariants.BlockedSpoken, Outcome.TheVariants.Stops}
use Rattle.model.specs.Answers.{row, number}
use Rattle.model.specs.Image.{Tables}
use Rattle.model.specs.Trees.{Exp, Offer, emit, receive, Gets, OfType as OfTypeItem, some_branch, Action, at, Act, null, assign, choose, reset, communicate, to, then, select, case, while, for, Branches, no_branch, branch, Arms, no_arm, arm}
use Rattle.model.specs.Typing.{type_of_pat}
use Rattle.model.specs.Run.{store, eval, test, match, spoken, St, Res, gives, stored, blocked_at, blocked, and_then, storing, assigning, choosing, offering, communicating, to_low, at_most_high, onward, exec, exec_act, exec_branch, exec_arms}
use Rattle.model.proofs.Run.{if-rule, match-rule}
use Rattle.demands.proofs.Hoare.{Post, Shown, same_post, after, charged, word, word_of, value, test_of, loops, shown-stop}

abbrev Late : Post
Late = record { ends = λ s. Unit; jumps = λ q s. Unit; stops = λ y s. 21 ≤ number y }

blocked-late : (r : ℕ) (s : St) → Shown Late (blocked r s)
unfolding blocked_at
blocked-late r s = record { says = go (spoken s.label) }
  where
    go : (b : Bool) → 21 ≤ number (cond b (BlockedSpoken (row r)) (Blocked (row r)))
    go true = omega arith
    go false = omega arith

stop : {y : Refusal} {s : St} → 21 ≤ number y → Shown Late (gives (Stops y) s)
stop h = record { says = h }

module _ (x : Tables) where
  storing-late : (is : List Gets) (r : ℕ) (m : List ℤ) (s : St) → Shown Late (storing x is r m s)
  unfolding storing
  storing-late [] r m s = record { says = tt }
  storing-late (i ∷ is) r m s = value (eval x i.e s.store) r s _ (λ e. omega arith) (λ z e. storing-late is r (store m i.v z) s)

  choosing-late : (is : List OfTypeItem) (e : Exp) (script : List ℕ) (r : ℕ) (s : St) → Shown Late (choosing x is e script r s)
  unfolding choosing
  choosing-late [] e script r s = test_of (test x e s.store) r s _ _ (λ q. omega arith) (λ q. record { says = tt }) (λ q. blocked-late r s)
  choosing-late (i ∷ is) e script r s =
      word_of x i.t script r s _ (omega arith) (λ u l. omega arith)
      (λ z u o l. choosing-late is e script r (stored (store u.store i.v z) u))

  offering-late : (g : Gate) (os : List Offer) (vs : List ℤ) (script : List ℕ) (r : ℕ) (s : St) → Shown Late (offering x g os vs script r s)
  unfolding offering
  offering-late g [] vs script r s = record { says = tt }
  offering-late g (emit e ∷ os) vs script r s =
      value (eval x e s.store) r s _ (λ q. omega arith) (λ z q. offering-late g os (vs ++ (z ∷ [])) script r s)
  offering-late g (receive p ∷ os) vs script r s =
      word_of x (type_of_pat x p) script r s _ (omega arith) (λ u l. omega arith)
      (λ z u o l. match-rule (Shown Late) (match x p z u.store) _ _ _
      (λ m q. offering-late g os (vs ++ (z ∷ [])) script r (stored m u)) (λ q. blocked-late r u) (λ q. stop (omega arith)))

  communicating-late : (g : Gate) (os : List Offer) (script : List ℕ) (r : ℕ) (s : St) → Shown Late (communicating x g os script r s)
  unfolding communicating
  communicating-late g os script r s = if-rule (Shown Late) (spoken s.label) _ _ (λ e. stop (omega arith)) (λ e. offering-late g os [] script r s)

  mutual
    unfolding exec

    late : (a : Action) (script : List ℕ) (s : St) → Shown Late (exec x a script s)
    late (at r a) script s = charged r s _ (omega arith) (λ u l. late-act a script r u)

    pub late-act : (a : Act) (script : List ℕ) (r : ℕ) (s : St) → Shown Late (exec_act x a script r s)
    late-act null script r s = record { says = tt }
    late-act (assign is) script r s = storing-late is r s.store s
    late-act (choose is e) script r s = choosing-late is e script r s
    late-act (reset vs) script r s = record { says = tt }
    late-act (communicate c os) script r s = communicating-late c os script r s
    late-act (to q) script r s = record { says = tt }
    late-act (then a b) script r s = after (λ u. exec x b script u) same_post (late a script s) (λ u k. late b script u)
    late-act (select bs) script r s =
        if-rule (Shown Late) (some_branch bs) _ _ (λ e. word script r s _ (omega arith) (λ z u l. late-branch bs z script r u)) (λ e. blocked-late r s)
    late-act (case e arms) script r s = value (eval x e s.store) r s _ (λ q. omega arith) (λ z q. late-arms arms z script r s)
    late-act (while e a) script r s =
        loops (suc s.left) x e (λ u. exec x a script u) r (λ u k. omega arith) (λ u k q. omega arith) (λ u k q. late a script u) (λ u v l k. tt) s tt
    late-act (for v low high a) script r s =
        after _ same_post (storing-late (to_low v low) r s.store s)
        (λ u k. loops (suc u.left) x (at_most_high v high) (λ y. and_then (exec x a script y) (assigning x (onward v) r)) r
        (λ y j. omega arith) (λ y j q. omega arith)
        (λ y j q. after (assigning x (onward v) r) same_post (late a script y) (λ z i. storing-late (onward v) r z.store z))
        (λ y z l k. tt) u tt)

    late-branch : (bs : Branches) (z : ℤ) (script : List ℕ) (r : ℕ) (s : St) → Shown Late (exec_branch x bs z script r s)
    late-branch no_branch z script r s = stop (omega arith)
    late-branch (branch a bs) z script r s =
        elim z as (λ k. Shown Late (exec_branch x (branch a bs) k script r s)) [
          | pos n ↦ elim n as (λ k. Shown Late (exec_branch x (branch a bs) (pos k) script r s)) [ zero ↦ late a script s | suc k ↦ late-branch bs (pos k) script r s ]
          | negsuc n ↦ stop (omega arith)
        ]

    late-arms : (arms : Arms) (z : ℤ) (script : List ℕ) (r : ℕ) (s : St) → Shown Late (exec_arms x arms z script r s)
    late-arms no_arm z script r s = blocked-late r s
    late-arms (arm p a rest) z script r s =
        match-rule (Shown Late) (match x p z s.store) _ _ _ (λ m q. late a script (stored m s)) (λ q. late-arms rest z script r s) (λ q. stop (omega arith))

  -- what an act's run stops with, as a result is known
  pub act-stops : (a : Act) (script : List ℕ) (r : ℕ) (s : St) {p : Res} → p ≡ exec_act x a script r s → (y : Refusal) → p.out ≡ Stops y → 21 ≤ number y
  act-stops a script r s {p} e y o = shown-stop y o (subst (Shown Late) (sym e) (late-act a script r s))
