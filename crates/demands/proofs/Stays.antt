-- A variable that an action neither defines nor resets stays in the set: with the rule of for, its variable is there at the end of
-- its body. Assumes nothing.
use mathlib.Core.{Path.◌≡◌}
use Prim.Native.Nat.{ℕ}
use native.Mathlib.Omega.{arith}
use Rattle.model.specs.Masks.{digit, Has, bit, meet, join}
use Rattle.model.specs.Trees.{Action, at, Act, null, assign, choose, reset, communicate, to, then, select, case, while, for, Branches, no_branch, branch, Arms, no_arm, arm}
use Rattle.model.specs.Binding.{assigned, chosen, def_of_pat, def_of_offers, touches, touches_act, touches_branches, touches_arms}
use Rattle.model.specs.Sets.{ends, ends_act, ends_branches, ends_arms}
use Rattle.model.proofs.Masks.{digit-meet, digit-join, digit-without}
use Rattle.demands.proofs.Subsets.{sub-has, join-left}
use Rattle.demands.proofs.LoopSet.{loop_set-has}

module _ (top v : ℕ) (i : Has top v) where
  both : (a b : ℕ) → Has a v → Has b v → Has (meet a b) v
  both a b h k = omega (arith, digit-meet a b v)

  more : (a b : ℕ) → Has a v → Has (join a b) v
  more a b = sub-has a (join a b) v (join-left a b)

  abbrev Not : ℕ → Type 0
  Not a = digit a v ≡ 0

  not_left : (a b : ℕ) → Not (join a b) → Not a
  not_left a b n = omega (arith, digit-join a b v)

  not_right : (a b : ℕ) → Not (join a b) → Not b
  not_right a b n = omega (arith, digit-join a b v)

  mutual
    unfolding ends touches

    pub stays : (a : Action) (m : ℕ) → Not (touches a) → Has m v → Has (ends top m a) v
    stays (at r a) m n h = stays-act a m n h

    stays-act : (a : Act) (m : ℕ) → Not (touches_act a) → Has m v → Has (ends_act top m a) v
    stays-act null m n h = h
    stays-act (assign is) m n h = more m (assigned is) h
    stays-act (choose is e) m n h = more m (chosen is) h
    stays-act (reset vs) m n h = omega (arith, n, digit-without m (touches_act (reset vs)) v)
    stays-act (communicate g os) m n h = more m (def_of_offers os) h
    stays-act (to q) m n h = i
    stays-act (then a c) m n h =
        stays c (ends top m a) (not_right (touches a) (touches c) n) (stays a m (not_left (touches a) (touches c) n) h)
    stays-act (select bs) m n h = stays-branches bs m n h
    stays-act (case e arms) m n h = stays-arms arms m n h
    stays-act (while e a) m n h = loop_set-has m _ v h (λ k l. stays a k n l)
    stays-act (for w low high a) m n h =
        loop_set-has (join m (bit w.0)) _ v (more m (bit w.0) h) (λ k l.
        more (ends top k a) (bit w.0) (stays a k (not_right (bit w.0) (touches a) n) l))

    stays-branches : (bs : Branches) (m : ℕ) → Not (touches_branches bs) → Has m v → Has (ends_branches top m bs) v
    stays-branches no_branch m n h = i
    stays-branches (branch a bs) m n h =
        both (ends top m a) (ends_branches top m bs) (stays a m (not_left (touches a) (touches_branches bs) n) h)
        (stays-branches bs m (not_right (touches a) (touches_branches bs) n) h)

    stays-arms : (arms : Arms) (m : ℕ) → Not (touches_arms arms) → Has m v → Has (ends_arms top m arms) v
    stays-arms no_arm m n h = i
    stays-arms (arm p a rest) m n h =
        let t = not_right (def_of_pat p) (join (touches a) (touches_arms rest)) n in
        both (ends top (join m (def_of_pat p)) a) (ends_arms top m rest)
        (stays a (join m (def_of_pat p)) (not_left (touches a) (touches_arms rest) t) (more m (def_of_pat p) h))
        (stays-arms rest m (not_right (touches a) (touches_arms rest) t) h)
