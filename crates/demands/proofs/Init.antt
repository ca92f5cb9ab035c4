-- An action without errors reads nothing undefined, and the sets of Figure 7 cover what is defined where it ends and where it
-- jumps. Assumes nothing.
use mathlib.Core.{Path.◌≡◌, Path.refl, Path.sym, Path.subst, Bool.Bool, Bool.true, Bool.false, Bool.◌&&◌, List.List, List.map}
use Prim.Native.Nat.{ℕ, zero, suc}
use native.Mathlib.Omega.{arith}
use lib.{Dec.eqb, IntN.ℤ, IntN.pos, IntN.negsuc, ListN.length}
use borrow.Author.Tests.{eq-eqb}
use Rattle.model.specs.Image.{Tables}
use Rattle.model.specs.Masks.{digit, bit, meet, join, without, union, inside}
use Rattle.model.specs.Trees.{some_branch, Action, at, Act, null, assign, choose, reset, communicate, to, then, select, case, while, for, Branches, no_branch, branch, Arms, no_arm, arm}
use Rattle.model.specs.Typing.{type_of_exp}
use Rattle.model.specs.Binding.{assigned, chosen, use_of_exp, def_of_pat, use_of_pat, def_of_offer, use_of_offers, def_of_offers, distinct, ordered, touches, bound_act}
use Rattle.model.specs.Sets.{loop_set, ends, ends_act, ends_branches, ends_arms, jumps, jumps_act, jumps_branches, jumps_arms, use_of_arms, fine, fine_act, fine_branches, fine_arms}
use Rattle.model.specs.Largest.{top_of, Sub}
use Rattle.model.specs.Run.{eval, match, St, stored, exec, exec_act, exec_branch, exec_arms}
use Rattle.model.proofs.Rows.{both_true}
use Rattle.model.proofs.Masks.{digit-full, digit-bit-here, inside-sub, sub_refl}
use Rattle.model.proofs.Run.{if-rule}
use Rattle.demands.proofs.All.{all_true, all_then}
use Rattle.demands.proofs.Whole.{Whole}
use Rattle.demands.proofs.Good.{Good, GoodAct, GoodBranches, GoodArms}
use Rattle.demands.proofs.Hoare.{Shown, charged, word, value}
use Rattle.demands.proofs.Typed.{OfType, eval-typed}
use Rattle.demands.proofs.Subsets.{join-right, sub-left, sub-right, bit_in, apart-sum}
use Rattle.demands.proofs.Covers.{Held, held-sub, eval-sure, resetting-held, suits-rule, match-suits}
use Rattle.demands.proofs.Offers.{threads}
use Rattle.demands.proofs.LoopSet.{loop_set-below, loop_set-has}
use Rattle.demands.proofs.Stays.{stays}
use Rattle.demands.proofs.Entering.{Sound, like-held, less, first, second, blocks, storing-sound, choosing-sound, communicating-sound, then-sound, turns, for-sound}

module _ (x : Tables) (w : Whole x) where
  jump-here : (n top b : ℕ) → elim (eqb n n) as (λ (t : Bool). ℕ) [ true ↦ b | false ↦ top ] ≡ b
  jump-here n top b = rw (eq-eqb n n refl)

  mutual
    unfolding exec Good ends jumps fine bound_act use_of_arms

    pub sound : (a : Action) (b : ℕ) (script : List ℕ) (s : St) → Good x a → fine (top_of x) b a ≡ true → Held x b s.store
        → Shown (Sound x (ends (top_of x) b a) (λ q. jumps q (top_of x) b a)) (exec x a script s)
    sound (at r a) b script s g f h = charged r s _ (λ q. omega arith) (λ u l. sound-act a b script r u g f (like-held x b s u l h))

    sound-act : (a : Act) (b : ℕ) (script : List ℕ) (r : ℕ) (s : St) → GoodAct x a → fine_act (top_of x) b a ≡ true → Held x b s.store
        → Shown (Sound x (ends_act (top_of x) b a) (λ q. jumps_act q (top_of x) b a)) (exec_act x a script r s)
    sound-act null b script r s g f h = record { says = h }
    sound-act (assign is) b script r s g f h =
        let e = join b (assigned is) in
        storing-sound x w e b b is r s.store s g.1 (all_then (λ i. inside-sub (use_of_exp i.e) b) (all_true (λ i. inside (use_of_exp i.e) b) is f)) h h (sub_refl e)
    sound-act (choose is e) b script r s g f h =
        let d = join b (chosen is) in
        choosing-sound x w d b is e script r s g.1 (inside-sub (use_of_exp e) d f) h (sub_refl d)
    sound-act (reset vs) b script r s g f h =
        let d = without b (union (map (λ v. bit v.0) vs)) in
        record { says = resetting-held x d b vs s.store g.1 h (sub_refl d) }
    sound-act (communicate c os) b script r s g f h =
        let d = join b (def_of_offers os) in
        communicating-sound x w d b c os script r s g.1
        (threads b os (both_true (distinct (map def_of_offer os)) (ordered os) g.0).1 (inside-sub (use_of_offers os) d f)) h (sub_refl d)
    sound-act (to q) b script r s g f h = record { says = rw jump-here h }
    sound-act (then a c) b script r s g f h =
        let top = top_of x in
        let e = ends top b a in
        let p = both_true (fine top b a) (fine top e c) f in
        then-sound x e (ends top e c) (λ q. jumps q top b a) (λ q. jumps q top e c) (λ u. exec x c script u) (sound a b script s g.0 p.0 h)
        (λ u k. sound c e script u g.1 p.1 k)
    sound-act (select bs) b script r s g f h =
        let e = ends_branches (top_of x) b bs in
        if-rule (Shown (Sound x e (λ q. jumps_branches q (top_of x) b bs))) (some_branch bs) _ _
        (λ t. word script r s _ (λ q. omega arith) (λ z u l. sound-branch bs b z script r u g.1 f (like-held x b s u l h))) (λ t. blocks x e r s)
    sound-act (case e arms) b script r s g f h =
        let u = use_of_exp e in
        let v = use_of_arms arms in
        let p = both_true (inside (join u v) b) (fine_arms (top_of x) b arms) f in
        let t = inside-sub (join u v) b p.0 in
        value (eval x e s.store) r s _ (λ q. absurd (eval-sure x e b s.store (sub-left u v b t) h.1 q))
        (λ z q. sound-arms arms b (type_of_exp x e) z script r s g.1 (eval-typed x w e s.store z g.0 h.0 q) (sub-right u v b t) p.1 h)
    sound-act (while e a) b script r s g f h =
        let top = top_of x in
        let k = loop_set b (λ k. ends top k a) in
        let p = both_true (inside (use_of_exp e) k) (fine top k a && inside k (ends top k a)) f in
        let q = both_true (fine top k a) (inside k (ends top k a)) p.1 in
        turns x (suc s.left) e (λ u. exec x a script u) r k (λ q. jumps q top k a) (inside-sub (use_of_exp e) k p.0)
        (λ u i. less x k (ends top k a) (λ q. jumps q top k a) (λ q. jumps q top k a) (inside-sub k (ends top k a) q.1) (λ n. sub_refl (jumps n top k a))
        (sound a k script u g.2 q.0 i))
        s (held-sub k b (loop_set-below b (λ k. ends top k a)) h)
    sound-act (for v low high a) b script r s g f h =
        let top = top_of x in
        let n = bit v.0 in
        let l : ℕ → ℕ = λ k. join (ends top k a) n in
        let k = loop_set (join b n) l in
        let p = both_true (fine top k a) (inside k (l k)) f in
        let vk = loop_set-has (join b n) l v.0 (bit_in v.0 (join b n) (join-right b n)) (λ i o. bit_in v.0 (l i) (join-right (ends top i a) n)) in
        let vt = digit-full (length x.variables) v.0 g.1 in
        let va : digit (touches a) v.0 ≡ 0 = omega (arith, apart-sum n (touches a) g.0 v.0, digit-bit-here v.0) in
        for-sound x w v low high r g.1 g.2 g.3 b k (ends top k a) (λ q. jumps q top k a) (loop_set-below (join b n) l) (inside-sub k (l k) p.1) vk
        (stays top v.0 vt a k va vk) (λ u. exec x a script u) (λ u i. sound a k script u g.5 p.0 i) s h

    sound-branch : (bs : Branches) (b : ℕ) (z : ℤ) (script : List ℕ) (r : ℕ) (s : St) → GoodBranches x bs → fine_branches (top_of x) b bs ≡ true
        → Held x b s.store → Shown (Sound x (ends_branches (top_of x) b bs) (λ q. jumps_branches q (top_of x) b bs)) (exec_branch x bs z script r s)
    sound-branch no_branch b z script r s g f h = record { says = λ q. omega arith }
    sound-branch (branch a bs) b z script r s g f h =
        let top = top_of x in
        let p = both_true (fine top b a) (fine_branches top b bs) f in
        let d = ends top b a in
        let e = ends_branches top b bs in
        let i : ℕ → ℕ = λ q. jumps q top b a in
        let j : ℕ → ℕ = λ q. jumps_branches q top b bs in
        elim z as (λ k. Shown (Sound x (meet d e) (λ q. meet (i q) (j q))) (exec_branch x (branch a bs) k script r s)) [
          | pos n ↦ elim n as (λ k. Shown (Sound x (meet d e) (λ q. meet (i q) (j q))) (exec_branch x (branch a bs) (pos k) script r s)) [
            | zero ↦ first x d e i j (sound a b script s g.0 p.0 h)
            | suc k ↦ second x d e i j (sound-branch bs b (pos k) script r s g.1 p.1 h)
          ]
          | negsuc n ↦ record { says = λ q. omega arith }
        ]

    sound-arms : (arms : Arms) (b n : ℕ) (z : ℤ) (script : List ℕ) (r : ℕ) (s : St) → GoodArms x n arms → OfType x n z → Sub (use_of_arms arms) b
        → fine_arms (top_of x) b arms ≡ true → Held x b s.store
        → Shown (Sound x (ends_arms (top_of x) b arms) (λ q. jumps_arms q (top_of x) b arms)) (exec_arms x arms z script r s)
    sound-arms no_arm b n z script r s g o u f h = blocks x (top_of x) r s
    sound-arms (arm p a rest) b n z script r s g o u f h =
        let top = top_of x in
        let c = join b (def_of_pat p) in
        let t = both_true (fine top c a) (fine_arms top b rest) f in
        let d = ends top c a in
        let e = ends_arms top b rest in
        let i : ℕ → ℕ = λ q. jumps q top c a in
        let j : ℕ → ℕ = λ q. jumps_arms q top b rest in
        suits-rule (Shown (Sound x (meet d e) (λ q. meet (i q) (j q)))) x c (match x p z s.store) _ _ _
        (match-suits x w p z b s.store g.1 (subst (λ (k : ℕ). OfType x k z) (sym g.0) o) (sub-left (use_of_pat p) (use_of_arms rest) b u) h)
        (λ m k. first x d e i j (sound a c script (stored m s) g.2 t.0 k))
        (second x d e i j (sound-arms rest b n z script r s g.3 o (sub-right (use_of_pat p) (use_of_arms rest) b u) t.1 h))
