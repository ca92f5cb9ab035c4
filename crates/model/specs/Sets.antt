-- Initialisation, one action (report, Figure 7 as 01 reads it): m is the set of variables surely defined on entering, top all
-- variables; where an action never ends, or never jumps to a state, its set there is top. Assumes nothing.
use mathlib.Core.{Bool.Bool, Bool.true, Bool.false, Bool.◌&&◌}
use Rattle.std.specs.Prelude.{ℕ, eqb}
use Rattle.model.specs.Lists.{all}
use Rattle.model.specs.Masks.{bit, meet, join, without, inside}
use Rattle.model.specs.Trees.{Action, at, Act, null, assign, choose, reset, communicate, to, then, select, case, while, for, Branches, no_branch, branch, Arms, no_arm, arm}
use Rattle.model.specs.Binding.{assigned, chosen, dropped, use_of_exp, def_of_pat, use_of_pat, use_of_offers, def_of_offers}

-- "A loop keeps its entering set": the set with which a loop's condition and body are judged and that holds after it, from
-- the entering set and from what the body leaves of a set
unfoldable pub loop_set : ℕ → (ℕ → ℕ) → ℕ
loop_set m body = m

-- the set that holds where the action ends, after[none]; a loop's is the set that its body is entered with
unfoldable mutual
  pub ends : ℕ → ℕ → Action → ℕ
  ends top m (at r a) = ends_act top m a

  pub ends_act : ℕ → ℕ → Act → ℕ
  ends_act top m null = m
  ends_act top m (assign items) = join m (assigned items)
  ends_act top m (choose items e) = join m (chosen items)
  ends_act top m (reset vs) = without m (dropped vs)
  ends_act top m (communicate g os) = join m (def_of_offers os)
  ends_act top m (to q) = top
  ends_act top m (then a b) = ends top (ends top m a) b
  ends_act top m (select bs) = ends_branches top m bs
  ends_act top m (case e arms) = ends_arms top m arms
  ends_act top m (while e a) = loop_set m (λ k. ends top k a)
  ends_act top m (for v low high a) = loop_set (join m (bit v.0)) (λ k. join (ends top k a) (bit v.0))

  pub ends_branches : ℕ → ℕ → Branches → ℕ
  ends_branches top m no_branch = top
  ends_branches top m (branch a bs) = meet (ends top m a) (ends_branches top m bs)

  pub ends_arms : ℕ → ℕ → Arms → ℕ
  ends_arms top m no_arm = top
  ends_arms top m (arm p a rest) = meet (ends top (join m (def_of_pat p)) a) (ends_arms top m rest)

-- the set that holds at the jumps to state q, after[q]
unfoldable mutual
  pub jumps : ℕ → ℕ → ℕ → Action → ℕ
  jumps q top m (at r a) = jumps_act q top m a

  pub jumps_act : ℕ → ℕ → ℕ → Act → ℕ
  jumps_act q top m null = top
  jumps_act q top m (assign items) = top
  jumps_act q top m (choose items e) = top
  jumps_act q top m (reset vs) = top
  jumps_act q top m (communicate g os) = top
  jumps_act q top m (to s) = elim (eqb s.0 q) [ true ↦ m | false ↦ top ]
  jumps_act q top m (then a b) = meet (jumps q top m a) (jumps q top (ends top m a) b)
  jumps_act q top m (select bs) = jumps_branches q top m bs
  jumps_act q top m (case e arms) = jumps_arms q top m arms
  jumps_act q top m (while e a) = jumps q top (ends_act top m (while e a)) a
  jumps_act q top m (for v low high a) = jumps q top (ends_act top m (for v low high a)) a

  pub jumps_branches : ℕ → ℕ → ℕ → Branches → ℕ
  jumps_branches q top m no_branch = top
  jumps_branches q top m (branch a bs) = meet (jumps q top m a) (jumps_branches q top m bs)

  pub jumps_arms : ℕ → ℕ → ℕ → Arms → ℕ
  jumps_arms q top m no_arm = top
  jumps_arms q top m (arm p a rest) = meet (jumps q top (join m (def_of_pat p)) a) (jumps_arms q top m rest)

-- the patterns' variables that a case uses
unfoldable pub use_of_arms : Arms → ℕ
use_of_arms no_arm = 0
use_of_arms (arm p a rest) = join (use_of_pat p) (use_of_arms rest)

-- no error is raised; "a body that may lose a variable of that set is an error here"
unfoldable mutual
  pub fine : ℕ → ℕ → Action → Bool
  fine top m (at r a) = fine_act top m a

  pub fine_act : ℕ → ℕ → Act → Bool
  fine_act top m null = true
  fine_act top m (assign items) = all (λ i. inside (use_of_exp i.e) m) items
  fine_act top m (choose items e) = inside (use_of_exp e) (join m (chosen items))
  fine_act top m (reset vs) = true
  fine_act top m (communicate g os) = inside (use_of_offers os) (join m (def_of_offers os))
  fine_act top m (to q) = true
  fine_act top m (then a b) = fine top m a && fine top (ends top m a) b
  fine_act top m (select bs) = fine_branches top m bs
  fine_act top m (case e arms) = inside (join (use_of_exp e) (use_of_arms arms)) m && fine_arms top m arms
  fine_act top m (while e a) =
      let k = ends_act top m (while e a) in inside (use_of_exp e) k && (fine top k a && inside k (ends top k a))
  -- V := V + 1 reads V, which the body can't have reset (9)
  fine_act top m (for v low high a) =
      let k = ends_act top m (for v low high a) in fine top k a && inside k (join (ends top k a) (bit v.0))

  pub fine_branches : ℕ → ℕ → Branches → Bool
  fine_branches top m no_branch = true
  fine_branches top m (branch a bs) = fine top m a && fine_branches top m bs

  pub fine_arms : ℕ → ℕ → Arms → Bool
  fine_arms top m no_arm = true
  fine_arms top m (arm p a rest) = fine top (join m (def_of_pat p)) a && fine_arms top m rest

-- succ(s): the states that jumps of the action lead to, dead jumps too
unfoldable mutual
  pub targets : Action → ℕ
  targets (at r a) = targets_act a

  pub targets_act : Act → ℕ
  targets_act null = 0
  targets_act (assign items) = 0
  targets_act (choose items e) = 0
  targets_act (reset vs) = 0
  targets_act (communicate g os) = 0
  targets_act (to q) = bit q.0
  targets_act (then a b) = join (targets a) (targets b)
  targets_act (select bs) = targets_branches bs
  targets_act (case e arms) = targets_arms arms
  targets_act (while e a) = targets a
  targets_act (for v low high a) = targets a

  pub targets_branches : Branches → ℕ
  targets_branches no_branch = 0
  targets_branches (branch a bs) = join (targets a) (targets_branches bs)

  pub targets_arms : Arms → ℕ
  targets_arms no_arm = 0
  targets_arms (arm p a rest) = join (targets a) (targets_arms rest)
