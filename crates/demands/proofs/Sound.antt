-- 1. Every run that ends or jumps is a derivation of Figure 2, and so is every move of step. Assumes nothing.
use Rattle.std.specs.Prelude.{Ok, Err, Some}
use Rattle.model.specs.Answers.{Verdict}
use mathlib.Core.{Path.◌≡◌, Path.refl, Path.sym, Path.ap, Path.◌∙◌, Path.subst, List.List, List.[], List.◌++◌}
use Prim.Native.Nat.{ℕ, zero, suc, ◌+◌, ◌-◌, ◌/◌, ◌<◌}
use native.Mathlib.Omega.{arith}
use lib.{IntN.ℤ, IntN.pos, IntN.negsuc, ListN.length, ListN.drop}
use Rattle.model.specs.declared.{State.State, Variable.Variable, Move.Move, Outcome.Outcome, Outcome.TheVariants.Ends, Outcome.TheVariants.Jumps, Outcome.TheVariants.Stops}
use Rattle.model.specs.Bytes.{word_at}
use Rattle.model.specs.Lists.{table}
use Rattle.model.specs.Image.{Tables, none, tables_of}
use Rattle.model.specs.Decode.{act}
use Rattle.model.specs.Trees.{Exp, Action, at, Act, null, assign, choose, reset, communicate, to, then, select, case, while, for, Branches, no_branch, branch, some_branch, Arms, no_arm, arm}
use Rattle.model.specs.Run.{store, eval, test, match, Label, ε, spoken, label_words, St, Res, gives, stored, charge, communicating, looping, at_most_high, to_low, onward, exec, exec_act, exec_branch, exec_arms}
use Rattle.model.specs.Calls.{step_verdict, attempt, StepDone, moved_as, stepped_as, step}
use Rattle.model.specs.Figure2.{Next, Nth, here, further, Taken, this, later, expansion, d_null, d_to, d_reset, d_select, d_case, d_done, d_for, toll, cost, choices, Sure, ReadsDefined}
use Rattle.model.proofs.Run.{heard, if-rule, match-rule, reading-rule, valued-rule, tested-rule, looping-step}
use Rattle.demands.specs.Statements.{Transition, MovesAreTransitions}
use Rattle.demands.proofs.Script.{reads-length, reads-table}
use Rattle.demands.proofs.Figure.{made, match-found, match-fail, sum-none, assign-stays}
use Rattle.demands.proofs.Moves.{Moves, stops, ends, jumps, weaken, after, Run, pair, leave, again, charged, assigned, choosing-chose, chose-run, offering-spoke, spoke-run}

module _ (x : Tables) (script : List ℕ) where
  -- ---- loops, branches and arms
  looping-run : (n r : ℕ) (e : Exp) (a : Action) (body : St → Res) → ((u : St) → Moves (Run x script a u u.left) (body u)) → (s : St)
      → Moves (Run x script (at r (while e a)) s (toll r + s.left)) (looping n x e body r s)
  unfolding looping cost choices ReadsDefined
  looping-run zero r e a body h s = stops
  looping-run (suc n) r e a body h s =
      let K = Moves (Run x script (at r (while e a)) s (toll r + s.left)) in
      rw (looping-step x e body r n s) (tested-rule K (test x e s.store) r s _ _
      (λ t. after (λ u. charge r u (looping n x e body r)) (λ q u p. again x script r t (leave x script _ none _ p (omega arith)))
      (λ u p. weaken (λ o w q. again x script r t (pair x script none _ p q (omega arith))) (charged x script r (while e a) u _ (looping-run n r e a body h))) (h s))
      (λ t. ends (record { said = ε; does = d_done t; sure = tt; sum = sum-none s.label; pays = refl; words = refl }))
      (λ t. stops))

  record Picked (bs : Branches) (z : ℤ) (s : St) (o : Next) (u : St) : Type 0 where
    number : ℕ
    action : Action
    is : z ≡ pos number
    nth : Nth bs number action
    run : Run x script action s s.left o u

  record Armed (arms : Arms) (z : ℤ) (s : St) (o : Next) (u : St) : Type 0 where
    action : Action
    store : List ℤ
    taken : Taken x z s.store arms action store
    sure : Sure taken
    run : Run x script action (stored store s) s.left o u

  picked-run : {bs : Branches} {s u : St} {o : Next} (r : ℕ) → s.words < length script / 4 → Picked bs (word_at script s.words) (heard s) o u
      → Run x script (at r (select bs)) s (toll r + s.left) o u
  unfolding cost choices ReadsDefined
  picked-run r l p =
      let q = p.run in
      record { said = q.said; does = d_select p.nth q.does; sure = q.sure; sum = q.sum; pays = omega (arith, q.pays); words = (l, p.is, q.words) }

  armed-run : {e : Exp} {arms : Arms} {z : ℤ} {s u : St} {o : Next} (r : ℕ) → eval x e s.store ≡ Some z → Armed arms z s o u
      → Run x script (at r (case e arms)) s (toll r + s.left) o u
  unfolding cost choices ReadsDefined
  armed-run r h p =
      let q = p.run in
      record { said = q.said; does = d_case h p.taken q.does; sure = (p.sure, q.sure); sum = q.sum; pays = omega (arith, q.pays); words = q.words }

  for-run : {v : Variable} {low high : ℤ} {a : Action} {s u : St} {o : Next} {j : ℕ} (r : ℕ) → Run x script (expansion r v low high a) s j o u
      → Run x script (at r (for v low high a)) s j o u
  unfolding cost choices ReadsDefined
  for-run r p = record { said = p.said; does = d_for p.does; sure = p.sure; sum = p.sum; pays = p.pays; words = p.words }

  -- ---- every action
  mutual
    unfolding exec communicating cost choices ReadsDefined Sure

    pub sound : (a : Action) (s : St) → Moves (Run x script a s s.left) (exec x a script s)
    sound (at r a) s = charged x script r a s _ (λ u. sound-act a r u)

    sound-act : (a : Act) (r : ℕ) (s : St) → Moves (Run x script (at r a) s (toll r + s.left)) (exec_act x a script r s)
    sound-act null r s = ends (record { said = ε; does = d_null; sure = tt; sum = sum-none s.label; pays = refl; words = refl })
    sound-act (assign is) r s = assigned x script is r r s
    sound-act (choose is e) r s = weaken (λ o u p. chose-run x script r p) (choosing-chose x script is e r s)
    sound-act (reset vs) r s = ends (record { said = ε; does = d_reset; sure = tt; sum = sum-none s.label; pays = refl; words = refl })
    sound-act (communicate g os) r s =
        if-rule (Moves (Run x script (at r (communicate g os)) s (toll r + s.left))) (spoken s.label) _ _ (λ e. stops)
        (λ e. weaken (λ o u p. spoke-run x script r e p) (offering-spoke x script g os [] r s))
    sound-act (to q) r s = jumps (record { said = ε; does = d_to; sure = tt; sum = sum-none s.label; pays = refl; words = refl })
    sound-act (then a b) r s =
        after (λ u. exec x b script u) (λ q u p. leave x script b r _ p refl) (λ u p. weaken (λ o w q. pair x script r _ p q (omega arith)) (sound b u)) (sound a s)
    sound-act (select bs) r s =
        let K = Moves (Run x script (at r (select bs)) s (toll r + s.left)) in
        if-rule K (some_branch bs) _ _
        (λ e. reading-rule K script r s _ (λ l. weaken (λ o u p. picked-run r l p) (sound-branch bs (word_at script s.words) r (heard s)))
        (λ l. stops)) (λ e. stops)
    sound-act (case e arms) r s =
        valued-rule (Moves (Run x script (at r (case e arms)) s (toll r + s.left))) (eval x e s.store) r s _
        (λ z h. weaken (λ o u p. armed-run r h p) (sound-arms arms z r s)) (λ h. stops)
    sound-act (while e a) r s = looping-run (suc s.left) r e a _ (λ u. sound a u) s
    sound-act (for v low high a) r s =
        after _ (λ q u p. absurd (assign-stays p.does))
        (λ u p. weaken (λ o w q. for-run r (pair x script none _ p q (omega arith)))
        (looping-run (suc u.left) r (at_most_high v high) (at none (then a (at none (assign (onward v))))) _
        (λ t. after _ (λ q w p. leave x script _ none _ p (omega arith)) (λ w p. weaken (λ o y q. pair x script none _ p q (omega arith)) (assigned x script (onward v) none r w)) (sound a t)) u))
        (assigned x script (to_low v low) none r s)

    sound-branch : (bs : Branches) (z : ℤ) (r : ℕ) (s : St) → Moves (Picked bs z s) (exec_branch x bs z script r s)
    sound-branch no_branch z r s = stops
    sound-branch (branch a bs) (pos zero) r s =
        weaken (λ o u p. record { number = 0; action = a; is = refl; nth = here; run = p }) (sound a s)
    sound-branch (branch a bs) (pos (suc k)) r s =
        weaken (λ o u p. record { number = suc p.number; action = p.action; is = cc p.is; nth = further p.nth; run = p.run })
        (sound-branch bs (pos k) r s)
    sound-branch (branch a bs) (negsuc k) r s = stops

    sound-arms : (arms : Arms) (z : ℤ) (r : ℕ) (s : St) → Moves (Armed arms z s) (exec_arms x arms z script r s)
    sound-arms no_arm z r s = stops
    sound-arms (arm p a rest) z r s =
        match-rule (Moves (Armed (arm p a rest) z s)) (match x p z s.store) _ _ _
        (λ m h. weaken (λ o u q. record { action = a; store = m; taken = this (match-found x p z s.store m h); sure = tt; run = q }) (sound a (stored m s)))
        (λ h. weaken (λ o u q. record { action = q.action; store = q.store; taken = later (match-fail x p z s.store h) q.taken; sure = (h, q.sure); run = q.run })
        (sound-arms rest z r s)) (λ h. stops)

-- ---- step
module _ (x : Tables) (q : State) (store : List ℤ) (script : List ℕ) (budget : ℕ) (label : List ℤ) (m : Move) where
  run-transition : (r : ℕ) (o : Outcome) (u : St) → Moves (Run x script (act x q.0) (made store 0 budget ε) budget) (gives o u)
      → (moved_as (gives o u) r budget store label).answer ≡ Ok m → Transition x q store script label m (moved_as (gives o u) r budget store label)
  unfolding moved_as
  run-transition r Ends u a e = let c : ◌≡◌ {A = ℕ} 0 1 = cc in absurd (omega arith)
  run-transition r (Jumps t) u a e =
      let p = a.shown.says in
      let n = reads-length script 0 (choices p.does) u.words p.words in
      let k : u.words ≡ length (choices p.does) = omega arith in
      let h : record { next = t; words = u.words; units = budget - u.left } ≡ m = cc in
      subst (λ (y : Move). Transition x q store script label y (moved_as (gives (Jumps t) u) r budget store label)) h
      (record {
        said = p.said;
        derivation = p.does;
        reads = p.sure;
        ten = ap (λ (l : Label). label_words l ++ drop 10 label) (sym p.sum);
        units = omega (arith, p.pays);
        words = ap (table (word_at script) 0) k ∙ reads-table script 0 (choices p.does) u.words p.words;
      })
  run-transition r (Stops y) u a e = let c : ◌≡◌ {A = ℕ} 0 1 = cc in absurd (omega arith)

  step-transition : (v : Verdict) (d : StepDone) → (d.answer ≡ Ok m → Transition x q store script label m d)
      → (stepped_as v d store label).answer ≡ Ok m → Transition x q store script label m (stepped_as v d store label)
  step-transition (Ok _) d h e = h e
  step-transition (Err y) d h e = let c : ◌≡◌ {A = ℕ} 0 1 = cc in absurd (omega arith)

pub moves-are-transitions : MovesAreTransitions
unfolding step attempt
moves-are-transitions image q store script budget label m e =
    let x = tables_of image in
    let s = made store 0 budget ε in
    step-transition x q store script budget label m (step_verdict image q store budget label) _
    (run-transition x q store script budget label m _ _ _ (sound x script (act x q.0) s)) e
