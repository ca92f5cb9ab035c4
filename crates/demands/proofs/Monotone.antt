-- More on entering an action, more where it ends and at its jumps; and of a good action all these sets are inside the top.
-- Assumes nothing.
use mathlib.Core.{Bool.Bool, Bool.true, Bool.false, List.List, List.map}
use Prim.Native.Nat.{ℕ, ◌<◌}
use native.Mathlib.Omega.{arith}
use lib.{Dec.eqb, ListN.length}
use Rattle.model.specs.Masks.{bit, full, meet, join, without, union}
use Rattle.model.specs.Image.{Tables}
use Rattle.model.specs.Trees.{Pat, any, bind, equals, guarded, Offer, emit, receive, Action, at, Act, null, assign, choose, reset, communicate, to, then, select, case, while, for, Branches, no_branch, branch, Arms, no_arm, arm}
use Rattle.model.specs.Binding.{assigned, chosen, def_of_pat, def_of_offer, def_of_offers}
use Rattle.model.specs.Sets.{ends, ends_act, ends_branches, ends_arms, jumps, jumps_act, jumps_branches, jumps_arms}
use Rattle.model.specs.Largest.{Sub, top_of}
use Rattle.model.proofs.Masks.{digit-zero, digit-join, digit-without, bit-lt, sub_refl, sub_trans, sub-full, meet_left, meet-mono, join-mono, without-mono}
use Rattle.demands.proofs.All.{All, nil, cons}
use Rattle.demands.proofs.Good.{GoodPat, GoodOffer, Good, GoodAct, GoodBranches, GoodArms}
use Rattle.demands.proofs.LoopSet.{loop_set-below, loop_set-mono}

more : (m n d : ℕ) → Sub m n → Sub (join m d) (join n d)
more m n d h = join-mono m d n d h (sub_refl d)

module _ (top : ℕ) where
  mutual
    unfolding ends

    pub ends-mono : (a : Action) (m n : ℕ) → Sub m n → Sub (ends top m a) (ends top n a)
    ends-mono (at r a) m n h = ends_act-mono a m n h

    pub ends_act-mono : (a : Act) (m n : ℕ) → Sub m n → Sub (ends_act top m a) (ends_act top n a)
    ends_act-mono null m n h = h
    ends_act-mono (assign items) m n h = more m n (assigned items) h
    ends_act-mono (choose items e) m n h = more m n (chosen items) h
    ends_act-mono (reset vs) m n h = let d = union (map (λ v. bit v.0) vs) in without-mono m d n d h (sub_refl d)
    ends_act-mono (communicate g os) m n h = more m n (def_of_offers os) h
    ends_act-mono (to q) m n h = sub_refl top
    ends_act-mono (then a b) m n h = ends-mono b (ends top m a) (ends top n a) (ends-mono a m n h)
    ends_act-mono (select bs) m n h = ends_branches-mono bs m n h
    ends_act-mono (case e arms) m n h = ends_arms-mono arms m n h
    ends_act-mono (while e a) m n h = loop_set-mono m n _ _ h (λ k l i. ends-mono a k l i)
    ends_act-mono (for v low high a) m n h =
        loop_set-mono (join m (bit v.0)) (join n (bit v.0)) _ _ (more m n (bit v.0) h)
        (λ k l i. more (ends top k a) (ends top l a) (bit v.0) (ends-mono a k l i))

    ends_branches-mono : (bs : Branches) (m n : ℕ) → Sub m n → Sub (ends_branches top m bs) (ends_branches top n bs)
    ends_branches-mono no_branch m n h = sub_refl top
    ends_branches-mono (branch a bs) m n h = meet-mono _ _ _ _ (ends-mono a m n h) (ends_branches-mono bs m n h)

    ends_arms-mono : (arms : Arms) (m n : ℕ) → Sub m n → Sub (ends_arms top m arms) (ends_arms top n arms)
    ends_arms-mono no_arm m n h = sub_refl top
    ends_arms-mono (arm p a rest) m n h =
        let d = def_of_pat p in meet-mono _ _ _ _ (ends-mono a (join m d) (join n d) (more m n d h)) (ends_arms-mono rest m n h)

  to-mono : (b : Bool) (m n : ℕ) → Sub m n → Sub (elim b [ true ↦ m | false ↦ top ]) (elim b [ true ↦ n | false ↦ top ])
  to-mono true m n h = h
  to-mono false m n h = sub_refl top

  module _ (q : ℕ) where
    mutual
      unfolding jumps

      pub jumps-mono : (a : Action) (m n : ℕ) → Sub m n → Sub (jumps q top m a) (jumps q top n a)
      jumps-mono (at r a) m n h = jumps_act-mono a m n h

      jumps_act-mono : (a : Act) (m n : ℕ) → Sub m n → Sub (jumps_act q top m a) (jumps_act q top n a)
      jumps_act-mono null m n h = sub_refl top
      jumps_act-mono (assign items) m n h = sub_refl top
      jumps_act-mono (choose items e) m n h = sub_refl top
      jumps_act-mono (reset vs) m n h = sub_refl top
      jumps_act-mono (communicate g os) m n h = sub_refl top
      jumps_act-mono (to s) m n h = to-mono (eqb s.0 q) m n h
      jumps_act-mono (then a b) m n h =
          meet-mono _ _ _ _ (jumps-mono a m n h) (jumps-mono b (ends top m a) (ends top n a) (ends-mono a m n h))
      jumps_act-mono (select bs) m n h = jumps_branches-mono bs m n h
      jumps_act-mono (case e arms) m n h = jumps_arms-mono arms m n h
      jumps_act-mono (while e a) m n h = jumps-mono a _ _ (ends_act-mono (while e a) m n h)
      jumps_act-mono (for v low high a) m n h = jumps-mono a _ _ (ends_act-mono (for v low high a) m n h)

      jumps_branches-mono : (bs : Branches) (m n : ℕ) → Sub m n → Sub (jumps_branches q top m bs) (jumps_branches q top n bs)
      jumps_branches-mono no_branch m n h = sub_refl top
      jumps_branches-mono (branch a bs) m n h = meet-mono _ _ _ _ (jumps-mono a m n h) (jumps_branches-mono bs m n h)

      jumps_arms-mono : (arms : Arms) (m n : ℕ) → Sub m n → Sub (jumps_arms q top m arms) (jumps_arms q top n arms)
      jumps_arms-mono no_arm m n h = sub_refl top
      jumps_arms-mono (arm p a rest) m n h =
          let d = def_of_pat p in meet-mono _ _ _ _ (jumps-mono a (join m d) (join n d) (more m n d h)) (jumps_arms-mono rest m n h)

-- ---- inside the top
zero_in : (t : ℕ) → Sub 0 t
zero_in t v = omega (arith, digit-zero v)

join-in : (a b t : ℕ) → Sub a t → Sub b t → Sub (join a b) t
join-in a b t h k v = omega (arith, digit-join a b v, h v, k v)

without_in : (a b t : ℕ) → Sub a t → Sub (without a b) t
without_in a b t h v = omega (arith, digit-without a b v, h v)

meet-in : (a b t : ℕ) → Sub a t → Sub (meet a b) t
meet-in a b t h = sub_trans (meet a b) a t (meet_left a b) h

bit_in : (n v : ℕ) → v < n → Sub (bit v) (full n)
bit_in n v h = sub-full n (bit v) (bit-lt n v h)

union-in : {A : Type 0} {P : A → Type 0} {l : List A} (f : A → ℕ) (t : ℕ) → ((a : A) → P a → Sub (f a) t) → All P l → Sub (union (map f l)) t
unfolding union
union-in f t h nil = zero_in t
union-in f t h (cons {a} p ps) = join-in _ _ t (h a p) (union-in f t h ps)

module _ (x : Tables) where
  variable-in : (v : ℕ) → v < length x.variables → Sub (bit v) (top_of x)
  variable-in v h = bit_in (length x.variables) v h

  pattern-in : (p : Pat) → GoodPat x p → Sub (def_of_pat p) (top_of x)
  unfolding def_of_pat GoodPat
  pattern-in (any t) g = zero_in (top_of x)
  pattern-in (bind v) g = variable-in v.0 g
  pattern-in (equals t z) g = zero_in (top_of x)
  pattern-in (guarded p e) g = pattern-in p g.1

  offer-in : (o : Offer) → GoodOffer x o → Sub (def_of_offer o) (top_of x)
  offer-in (emit e) g = zero_in (top_of x)
  offer-in (receive p) g = pattern-in p g

  mutual
    unfolding ends Good

    pub ends-in : (a : Action) (m : ℕ) → Good x a → Sub m (top_of x) → Sub (ends (top_of x) m a) (top_of x)
    ends-in (at r a) m g h = ends_act-in a m g h

    pub ends_act-in : (a : Act) (m : ℕ) → GoodAct x a → Sub m (top_of x) → Sub (ends_act (top_of x) m a) (top_of x)
    ends_act-in null m g h = h
    ends_act-in (assign items) m g h = join-in m _ _ h (union-in _ _ (λ i p. variable-in i.v.0 p.inside) g.1)
    ends_act-in (choose items e) m g h = join-in m _ _ h (union-in _ _ (λ i p. variable-in i.v.0 p.inside) g.1)
    ends_act-in (reset vs) m g h = without_in m _ _ h
    ends_act-in (communicate k os) m g h = join-in m _ _ h (union-in _ _ offer-in g.1)
    ends_act-in (to q) m g h = sub_refl (top_of x)
    ends_act-in (then a b) m g h = ends-in b _ g.1 (ends-in a m g.0 h)
    ends_act-in (select bs) m g h = ends_branches-in bs m g.1 h
    ends_act-in (case e arms) m g h = ends_arms-in arms _ m g.1 h
    ends_act-in (while e a) m g h = sub_trans _ m _ (loop_set-below m _) h
    ends_act-in (for v low high a) m g h = sub_trans _ _ _ (loop_set-below _ _) (join-in m _ _ h (variable-in v.0 g.1))

    ends_branches-in : (bs : Branches) (m : ℕ) → GoodBranches x bs → Sub m (top_of x) → Sub (ends_branches (top_of x) m bs) (top_of x)
    ends_branches-in no_branch m g h = sub_refl (top_of x)
    ends_branches-in (branch a bs) m g h = meet-in _ _ _ (ends-in a m g.0 h)

    ends_arms-in : (arms : Arms) (t m : ℕ) → GoodArms x t arms → Sub m (top_of x) → Sub (ends_arms (top_of x) m arms) (top_of x)
    ends_arms-in no_arm t m g h = sub_refl (top_of x)
    ends_arms-in (arm p a rest) t m g h = meet-in _ _ _ (ends-in a _ g.2 (join-in m _ _ h (pattern-in p g.1)))

  to_in : (b : Bool) (m : ℕ) → Sub m (top_of x) → Sub (elim b [ true ↦ m | false ↦ top_of x ]) (top_of x)
  to_in true m h = h
  to_in false m h = sub_refl (top_of x)

  module _ (q : ℕ) where
    mutual
      unfolding jumps Good

      pub jumps_in : (a : Action) (m : ℕ) → Good x a → Sub m (top_of x) → Sub (jumps q (top_of x) m a) (top_of x)
      jumps_in (at r a) m g h = jumps_act-in a m g h

      jumps_act-in : (a : Act) (m : ℕ) → GoodAct x a → Sub m (top_of x) → Sub (jumps_act q (top_of x) m a) (top_of x)
      jumps_act-in null m g h = sub_refl (top_of x)
      jumps_act-in (assign items) m g h = sub_refl (top_of x)
      jumps_act-in (choose items e) m g h = sub_refl (top_of x)
      jumps_act-in (reset vs) m g h = sub_refl (top_of x)
      jumps_act-in (communicate k os) m g h = sub_refl (top_of x)
      jumps_act-in (to s) m g h = to_in (eqb s.0 q) m h
      jumps_act-in (then a b) m g h = meet-in _ _ _ (jumps_in a m g.0 h)
      jumps_act-in (select bs) m g h = jumps_branches-in bs m g.1 h
      jumps_act-in (case e arms) m g h = jumps_arms-in arms _ m g.1 h
      jumps_act-in (while e a) m g h = jumps_in a _ g.2 (ends_act-in (while e a) m g h)
      jumps_act-in (for v low high a) m g h = jumps_in a _ g.5 (ends_act-in (for v low high a) m g h)

      jumps_branches-in : (bs : Branches) (m : ℕ) → GoodBranches x bs → Sub m (top_of x) → Sub (jumps_branches q (top_of x) m bs) (top_of x)
      jumps_branches-in no_branch m g h = sub_refl (top_of x)
      jumps_branches-in (branch a bs) m g h = meet-in _ _ _ (jumps_in a m g.0 h)

      jumps_arms-in : (arms : Arms) (t m : ℕ) → GoodArms x t arms → Sub m (top_of x) → Sub (jumps_arms q (top_of x) m arms) (top_of x)
      jumps_arms-in no_arm t m g h = sub_refl (top_of x)
      jumps_arms-in (arm p a rest) t m g h = meet-in _ _ _ (jumps_in a _ g.2 (join-in m _ _ h (pattern-in p g.1)))
