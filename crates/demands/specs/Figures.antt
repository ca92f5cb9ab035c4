-- Figures 9 and 10 of the report as printed: what they say of `A; A'`, where w is welldef(A') and r is reach_to(A'). Of null,
-- after which nothing follows, these are true and false. Assumes nothing.
use Rattle.std.specs.Prelude.{Bool, true, false, ◌&&◌}
use Rattle.model.specs.Image.{Tables}
use Rattle.model.specs.Trees.{Action, at, Act, null, assign, choose, reset, communicate, to, then, select, case, while, for, Branches, no_branch, branch, some_branch, Arms, no_arm, arm}
use Rattle.model.specs.Typing.{type_of_exp}
use Rattle.model.specs.Speech.{is_always, exhaustive}

-- Figure 10, "reachability of to actions without communications"
unfoldable mutual
  pub reach_to : Tables → Action → Bool → Bool
  reach_to x (at n a) r = reach_to_act x a r

  pub reach_to_act : Tables → Act → Bool → Bool
  -- null; A' → reach_to(A')
  reach_to_act x null r = r
  -- V := E; A' → reach_to(A')
  reach_to_act x (assign items) r = r
  -- V := any T where E; A' → (E = true) ∧ reach_to(A')
  reach_to_act x (choose items e) r = is_always e && r
  -- reset V; A' → reach_to(A')
  reach_to_act x (reset vs) r = r
  -- G O1 ... On; A' → false
  reach_to_act x (communicate g os) r = false
  -- to s; A' → true
  reach_to_act x (to q) r = true
  -- (A1; A2); A' → reach_to(A1; (A2; A'))
  reach_to_act x (then a b) r = reach_to x a (reach_to x b r)
  -- select A1 □ ... □ An end; A' → n > 0 ∧ ⋀ reach_to(Ai; A')
  reach_to_act x (select bs) r = some_branch bs && reach_to_branches x bs r
  -- case E is P1 → A1 | ... | Pn → An end; A' → exh({⟨P1⟩, ..., ⟨Pn⟩}) ∧ ⋀ reach_to(Ai; A')
  reach_to_act x (case e arms) r = exhaustive x (type_of_exp x e) arms && reach_to_arms x arms r
  -- while E do A0 end; A', no expansion of for → false
  reach_to_act x (while e a) r = false
  -- while E do A0 end; A', the expansion of for → reach_to(A0; A') ∧ reach_to(A')
  reach_to_act x (for v low high a) r = reach_to x a r && r

  pub reach_to_branches : Tables → Branches → Bool → Bool
  reach_to_branches x no_branch r = true
  reach_to_branches x (branch a bs) r = reach_to x a r && reach_to_branches x bs r

  pub reach_to_arms : Tables → Arms → Bool → Bool
  reach_to_arms x no_arm r = true
  reach_to_arms x (arm p a rest) r = reach_to x a r && reach_to_arms x rest r

-- Figure 9, "well-definedness of actions"
unfoldable mutual
  pub well_def : Tables → Action → Bool → Bool → Bool
  well_def x (at n a) w r = well_def_act x a w r

  pub well_def_act : Tables → Act → Bool → Bool → Bool
  -- null; A' → welldef(A')
  well_def_act x null w r = w
  -- V := E; A' → welldef(A')
  well_def_act x (assign items) w r = w
  -- V := any T where E; A' → welldef(A')
  well_def_act x (choose items e) w r = w
  -- reset V; A' → welldef(A')
  well_def_act x (reset vs) w r = w
  -- G O1 ... On; A' → reach_to(A')
  well_def_act x (communicate g os) w r = r
  -- to s; A' → true
  well_def_act x (to q) w r = true
  -- (A1; A2); A' → welldef(A1; (A2; A'))
  well_def_act x (then a b) w r = well_def x a (well_def x b w r) (reach_to x b r)
  -- select A1 □ ... □ An end; A' → ⋀ welldef(Ai; A')
  well_def_act x (select bs) w r = well_def_branches x bs w r
  -- case E is P1 → A1 | ... | Pn → An end; A' → ⋀ welldef(Ai; A')
  well_def_act x (case e arms) w r = well_def_arms x arms w r
  -- while E do A0 end; A' → welldef(A0) ∧ welldef(A')
  well_def_act x (while e a) w r = well_def x a true false && w
  -- the same of the expansion of for
  well_def_act x (for v low high a) w r = well_def x a true false && w

  pub well_def_branches : Tables → Branches → Bool → Bool → Bool
  well_def_branches x no_branch w r = true
  well_def_branches x (branch a bs) w r = well_def x a w r && well_def_branches x bs w r

  pub well_def_arms : Tables → Arms → Bool → Bool → Bool
  well_def_arms x no_arm w r = true
  well_def_arms x (arm p a rest) w r = well_def x a w r && well_def_arms x rest w r
