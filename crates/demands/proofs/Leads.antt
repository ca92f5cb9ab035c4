-- A run jumps only where a jump stands. Assumes nothing.
use mathlib.Core.{List.List, List.[], List.◌∷◌, List.◌++◌}
use Prim.Native.Nat.{ℕ, zero, suc}
use lib.{IntN.ℤ, IntN.pos, IntN.negsuc}
use Rattle.model.specs.declared.{Gate.Gate, State.State, Refusal.Refusal, Outcome.TheVariants.Stops}
use Rattle.model.specs.Image.{Tables}
use Rattle.model.specs.Masks.{Has, join}
use Rattle.model.specs.Trees.{Exp, Offer, emit, receive, Gets, OfType, some_branch, Action, at, Act, null, assign, choose, reset, communicate, to, then, select, case, while, for, Branches, no_branch, branch, Arms, no_arm, arm}
use Rattle.model.specs.Typing.{type_of_pat}
use Rattle.model.specs.Sets.{targets, targets_act, targets_branches, targets_arms}
use Rattle.model.specs.Largest.{Sub}
use Rattle.model.specs.Run.{store, eval, test, match, spoken, St, Res, gives, stored, and_then, storing, assigning, choosing, offering, communicating, at_most_high, to_low, onward, exec, exec_act, exec_branch, exec_arms}
use Rattle.model.proofs.Masks.{digit-bit-here}
use Rattle.model.proofs.Run.{if-rule, match-rule}
use Rattle.demands.proofs.Hoare.{Post, Shown, same_post, after, weaken, charged, word, word_of, value, test_of, loops}
use Rattle.demands.proofs.Subsets.{sub-has, join-left, join-right}

-- of a jump only
abbrev Only : (State → St → Type 0) → Post
Only j = record { ends = λ s. Unit; jumps = j; stops = λ y s. Unit }

-- a jump is to a state of t
abbrev pub To : ℕ → Post
To t = record { ends = λ s. Unit; jumps = λ q s. Has t q.0; stops = λ y s. Unit }

wide : (t u : ℕ) {q : Res} → Sub t u → Shown (To t) q → Shown (To u) q
wide t u h = weaken (record { jumps = λ q s. sub-has t u q.0 h; stops = λ y s z. z }) (λ s z. z)

module _ (x : Tables) where
  module _ {j : State → St → Type 0} where
    stop : {y : Refusal} {s : St} → Shown (Only j) (gives (Stops y) s)
    stop = record { says = tt }

    storing-to : (is : List Gets) (r : ℕ) (m : List ℤ) (s : St) → Shown (Only j) (storing x is r m s)
    unfolding storing
    storing-to [] r m s = record { says = tt }
    storing-to (i ∷ is) r m s = value (eval x i.e s.store) r s _ (λ e. tt) (λ z e. storing-to is r (store m i.v z) s)

    choosing-to : (is : List OfType) (e : Exp) (script : List ℕ) (r : ℕ) (s : St) → Shown (Only j) (choosing x is e script r s)
    unfolding choosing
    choosing-to [] e script r s = test_of (test x e s.store) r s _ _ (λ q. tt) (λ q. record { says = tt }) (λ q. stop)
    choosing-to (i ∷ is) e script r s = word_of x i.t script r s _ tt (λ u l. tt) (λ z u o l. choosing-to is e script r _)

    offering-to : (g : Gate) (os : List Offer) (vs : List ℤ) (script : List ℕ) (r : ℕ) (s : St) → Shown (Only j) (offering x g os vs script r s)
    unfolding offering
    offering-to g [] vs script r s = record { says = tt }
    offering-to g (emit e ∷ os) vs script r s =
        value (eval x e s.store) r s _ (λ q. tt) (λ z q. offering-to g os (vs ++ (z ∷ [])) script r s)
    offering-to g (receive p ∷ os) vs script r s =
        word_of x (type_of_pat x p) script r s _ tt (λ u l. tt)
        (λ z u o l. match-rule (Shown (Only j)) (match x p z u.store) _ _ _
        (λ m q. offering-to g os (vs ++ (z ∷ [])) script r (stored m u)) (λ q. stop) (λ q. stop))

    communicating-to : (g : Gate) (os : List Offer) (script : List ℕ) (r : ℕ) (s : St) → Shown (Only j) (communicating x g os script r s)
    unfolding communicating
    communicating-to g os script r s = if-rule (Shown (Only j)) (spoken s.label) _ _ (λ e. stop) (λ e. offering-to g os [] script r s)

  mutual
    unfolding exec targets

    pub leads : (a : Action) (script : List ℕ) (s : St) → Shown (To (targets a)) (exec x a script s)
    leads (at r a) script s = charged r s _ tt (λ u l. leads-act a script r u)

    leads-act : (a : Act) (script : List ℕ) (r : ℕ) (s : St) → Shown (To (targets_act a)) (exec_act x a script r s)
    leads-act null script r s = record { says = tt }
    leads-act (assign is) script r s = storing-to is r s.store s
    leads-act (choose is e) script r s = choosing-to is e script r s
    leads-act (reset vs) script r s = record { says = tt }
    leads-act (communicate g os) script r s = communicating-to g os script r s
    leads-act (to q) script r s = record { says = digit-bit-here q.0 }
    leads-act (then a b) script r s =
        let t = targets a in
        let u = targets b in
        after _ (record { jumps = λ q s. sub-has t (join t u) q.0 (join-left t u); stops = λ y s z. z }) (leads a script s)
        (λ v z. wide u (join t u) (join-right t u) (leads b script v))
    leads-act (select bs) script r s =
        if-rule (Shown (To (targets_branches bs))) (some_branch bs) _ _ (λ e. word script r s _ tt (λ z u l. leads-branch bs z script r u)) (λ e. stop)
    leads-act (case e arms) script r s = value (eval x e s.store) r s _ (λ q. tt) (λ z q. leads-arms arms z script r s)
    leads-act (while e a) script r s =
        loops (suc s.left) x e (λ u. exec x a script u) r (λ u k. tt) (λ u k q. tt) (λ u k q. leads a script u) (λ s u l k. tt) s tt
    leads-act (for v low high a) script r s =
        after _ same_post (storing-to (to_low v low) r s.store s)
        (λ u k. loops (suc u.left) x (at_most_high v high) (λ y. and_then (exec x a script y) (assigning x (onward v) r)) r
        (λ y j. tt) (λ y j q. tt)
        (λ y j q. after (assigning x (onward v) r) same_post (leads a script y) (λ z i. storing-to (onward v) r z.store z))
        (λ s u l k. tt) u tt)

    leads-branch : (bs : Branches) (z : ℤ) (script : List ℕ) (r : ℕ) (s : St) → Shown (To (targets_branches bs)) (exec_branch x bs z script r s)
    leads-branch no_branch z script r s = stop
    leads-branch (branch a bs) z script r s =
        let t = targets a in
        let u = targets_branches bs in
        elim z as (λ k. Shown (To (join t u)) (exec_branch x (branch a bs) k script r s)) [
          | pos n ↦ elim n as (λ k. Shown (To (join t u)) (exec_branch x (branch a bs) (pos k) script r s)) [
            | zero ↦ wide t (join t u) (join-left t u) (leads a script s)
            | suc k ↦ wide u (join t u) (join-right t u) (leads-branch bs (pos k) script r s)
          ]
          | negsuc n ↦ stop
        ]

    leads-arms : (arms : Arms) (z : ℤ) (script : List ℕ) (r : ℕ) (s : St) → Shown (To (targets_arms arms)) (exec_arms x arms z script r s)
    leads-arms no_arm z script r s = stop
    leads-arms (arm p a rest) z script r s =
        let t = targets a in
        let u = targets_arms rest in
        match-rule (Shown (To (join t u))) (match x p z s.store) _ _ _
        (λ m q. wide t (join t u) (join-left t u) (leads a script (stored m s)))
        (λ q. wide u (join t u) (join-right t u) (leads-arms rest z script r s)) (λ q. stop)
