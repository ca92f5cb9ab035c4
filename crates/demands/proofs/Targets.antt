-- The states that jumps lead to: of a good action they exist, and to any other state everything is carried. Assumes nothing.
use mathlib.Core.{Path.◌≡◌, Path.refl, Path.ap, Bool.Bool, Bool.true, Bool.false}
use Prim.Native.Nat.{ℕ, ◌^◌, ◌<◌}
use native.Mathlib.Omega.{arith}
use lib.{Dec.eqb, ListN.length, Pow.pow_pos}
use borrow.Author.Tests.{eqb-true}
use Rattle.model.specs.Image.{Tables}
use Rattle.model.specs.Masks.{digit, bit, join}
use Rattle.model.specs.Trees.{Action, at, Act, null, assign, choose, reset, communicate, to, then, select, case, while, for, Branches, no_branch, branch, Arms, no_arm, arm}
use Rattle.model.specs.Sets.{jumps, jumps_act, jumps_branches, jumps_arms, targets, targets_act, targets_branches, targets_arms}
use Rattle.model.specs.Largest.{Sub}
use Rattle.model.proofs.Masks.{digit-join, digit-bit-here, join-lt, bit-lt, sub_refl, sub-meet}
use Rattle.demands.proofs.Good.{Good, GoodAct, GoodBranches, GoodArms}

module _ (x : Tables) where
  mutual
    unfolding targets Good

    pub targets-lt : (a : Action) → Good x a → targets a < 2 ^ length x.states
    targets-lt (at r a) g = targets_act-lt a g

    targets_act-lt : (a : Act) → GoodAct x a → targets_act a < 2 ^ length x.states
    targets_act-lt null g = pow_pos _
    targets_act-lt (assign items) g = pow_pos _
    targets_act-lt (choose items e) g = pow_pos _
    targets_act-lt (reset vs) g = pow_pos _
    targets_act-lt (communicate k os) g = pow_pos _
    targets_act-lt (to q) g = bit-lt _ q.0 g
    targets_act-lt (then a b) g = join-lt _ _ _ (targets-lt a g.0) (targets-lt b g.1)
    targets_act-lt (select bs) g = targets_branches-lt bs g.1
    targets_act-lt (case e arms) g = targets_arms-lt arms _ g.1
    targets_act-lt (while e a) g = targets-lt a g.2
    targets_act-lt (for v low high a) g = targets-lt a g.5

    targets_branches-lt : (bs : Branches) → GoodBranches x bs → targets_branches bs < 2 ^ length x.states
    targets_branches-lt no_branch g = pow_pos _
    targets_branches-lt (branch a bs) g = join-lt _ _ _ (targets-lt a g.0) (targets_branches-lt bs g.1)

    targets_arms-lt : (arms : Arms) (t : ℕ) → GoodArms x t arms → targets_arms arms < 2 ^ length x.states
    targets_arms-lt no_arm t g = pow_pos _
    targets_arms-lt (arm p a rest) t g = join-lt _ _ _ (targets-lt a g.2) (targets_arms-lt rest t g.3)

neither : (a b v : ℕ) → digit (join a b) v ≡ 0 → (digit a v ≡ 0) × (digit b v ≡ 0)
neither a b v e = (omega (arith, digit-join a b v), omega (arith, digit-join a b v))

module _ (q top : ℕ) where
  to-away : (s m : ℕ) (b : Bool) → eqb s q ≡ b → digit (bit s) q ≡ 0 → Sub top (elim b [ true ↦ m | false ↦ top ])
  to-away s m true e z = absurd (omega (arith, digit-bit-here s, ap (digit (bit s)) (eqb-true s q e)))
  to-away s m false e z = sub_refl top

  mutual
    unfolding targets jumps

    pub jumps-away : (a : Action) (m : ℕ) → digit (targets a) q ≡ 0 → Sub top (jumps q top m a)
    jumps-away (at r a) m e = jumps_act-away a m e

    jumps_act-away : (a : Act) (m : ℕ) → digit (targets_act a) q ≡ 0 → Sub top (jumps_act q top m a)
    jumps_act-away null m e = sub_refl top
    jumps_act-away (assign items) m e = sub_refl top
    jumps_act-away (choose items c) m e = sub_refl top
    jumps_act-away (reset vs) m e = sub_refl top
    jumps_act-away (communicate k os) m e = sub_refl top
    jumps_act-away (to s) m e = to-away s.0 m (eqb s.0 q) refl e
    jumps_act-away (then a b) m e =
        let n = neither (targets a) (targets b) q e in sub-meet _ _ _ (jumps-away a m n.0) (jumps-away b _ n.1)
    jumps_act-away (select bs) m e = jumps_branches-away bs m e
    jumps_act-away (case c arms) m e = jumps_arms-away arms m e
    jumps_act-away (while c a) m e = jumps-away a _ e
    jumps_act-away (for v low high a) m e = jumps-away a _ e

    jumps_branches-away : (bs : Branches) (m : ℕ) → digit (targets_branches bs) q ≡ 0 → Sub top (jumps_branches q top m bs)
    jumps_branches-away no_branch m e = sub_refl top
    jumps_branches-away (branch a bs) m e =
        let n = neither (targets a) (targets_branches bs) q e in sub-meet _ _ _ (jumps-away a m n.0) (jumps_branches-away bs m n.1)

    jumps_arms-away : (arms : Arms) (m : ℕ) → digit (targets_arms arms) q ≡ 0 → Sub top (jumps_arms q top m arms)
    jumps_arms-away no_arm m e = sub_refl top
    jumps_arms-away (arm p a rest) m e =
        let n = neither (targets a) (targets_arms rest) q e in sub-meet _ _ _ (jumps-away a _ n.0) (jumps_arms-away rest m n.1)
