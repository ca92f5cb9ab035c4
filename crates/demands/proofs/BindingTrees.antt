-- Binding's masks and judgements on trees: a mask has the variables of which the judgement says that they are used, defined or
-- touched; the tests of disjoint masks are the rules. Assumes nothing.
use mathlib.Core.{Path.◌≡◌, Path.refl, Path.sym, Path.ap, Path.◌∙◌, Path.subst, Logic.◌⊎◌, Logic.inl, Logic.inr, Logic.⊎_elim}
use mathlib.Core.{Bool.true, Bool.◌&&◌, List.List, List.[], List.◌∷◌, List.map}
use Prim.Native.Nat.{ℕ, zero, suc, ◌≤◌}
use native.Mathlib.{Omega.arith, Decide.ℕ_discrete}
use lib.{Dec.ltb, Dec.leb, ListN.length, ListN.get_or}
use borrow.Author.Tests.{eq-eqb, leb-true}
use Rattle.model.specs.declared.Variable.{Variable}
use Rattle.model.specs.Answers.{variable}
use Rattle.model.specs.Masks.{digit, Has, bit, meet, join, without, union, inside, apart}
use Rattle.model.specs.Image.{Tables, Entry, entries_fit, sizes_fit, entries_right}
use Rattle.model.specs.Trees.{Exp, var, const, unary, binary, Pat, any, bind, equals, guarded, Offer, emit, receive, Gets, OfType, Action, at, Act, null, assign, choose, reset, communicate, to, then, select, case, while, for, Branches, no_branch, branch, Arms, no_arm, arm}
use Rattle.model.specs.Binding.{use_of_exp, def_of_pat, use_of_pat, use_of_offer, def_of_offer, def_of_offers, distinct, ordered, touches, touches_act, touches_branches, touches_arms, bound_act, parameters_of}
use Rattle.model.proofs.Rows.{both_true}
use Rattle.model.proofs.Masks.{digit-le, digit-meet, digit-join, digit-without, digit-zero, digit-bit-here, digit-bit-there, digit-ext, apart-digit, inside-sub, sub-inside}
use Rattle.demands.specs.Common.{Iff, Every, none_left, one_more, Pairwise, no_pair, more_pairs, Some, s_here, s_later}
use Rattle.demands.specs.Judgements.{UsedIn, u_var, u_unary, u_left, u_right, DefinedIn, d_bind, d_guarded, UsedInPat, u_guard, u_inner, UsedInOffer, u_emit, u_receive, DefinedInOffer, d_receive, Touched, h_at, TouchedAct, h_assign, h_choose, h_reset, h_communicate, h_first, h_second, h_select, h_case, h_while, h_range, h_for, TouchedBranches, h_branch, h_branches, TouchedArms, h_pattern, h_arm, h_arms, BoundPat, b_any, b_bind, b_equals, b_guarded, BoundOffer, b_emit, b_receive, InTurn, BoundAct, b_null, b_to, b_reset, b_assign, b_choose, b_communicate, b_then, b_select, b_case, b_while, b_for, ReadsParameters}
use Rattle.demands.proofs.Everys.{and_both}
use Rattle.demands.proofs.Begun.{parameter-digit}

-- ---- members of masks
zero_has : (n : ℕ) → Has 0 n → ⊥
zero_has n h = omega (arith, digit-zero n, h)

join-has : (a b n : ℕ) → Has (join a b) n → Has a n ⊎ Has b n
join-has a b n h = go (ℕ_discrete (digit a n) 1)
  where
    go : Dec (digit a n ≡ 1) → Has a n ⊎ Has b n
    go (yes e) = inl e
    go (no f) = inr (omega (arith, digit-join a b n, digit-le a n, h, f))

left-has : (a b n : ℕ) → Has a n → Has (join a b) n
left-has a b n h = omega (arith, digit-join a b n, digit-le b n, h)

right-has : (a b n : ℕ) → Has b n → Has (join a b) n
right-has a b n h = omega (arith, digit-join a b n, digit-le a n, h)

bit-has : (v n : ℕ) → Has (bit v) n → n ≡ v
bit-has v n h = go (ℕ_discrete n v)
  where
    go : Dec (n ≡ v) → n ≡ v
    go (yes e) = e
    go (no f) = absurd (omega (arith, digit-bit-there v n f, h))

same-has : (v n : ℕ) → n ≡ v → Has (bit v) n
same-has v n e = rw e (digit-bit-here v)

abbrev Disjoint : ℕ → ℕ → Type 0
Disjoint a b = (n : ℕ) → Has a n → Has b n → ⊥

apart-on : (a b : ℕ) → apart a b ≡ true → Disjoint a b
apart-on a b e n h k = omega (arith, apart-digit a b e n h, k)

apart-back : (a b : ℕ) → Disjoint a b → apart a b ≡ true
unfolding apart
apart-back a b f = eq-eqb (meet a b) 0 (digit-ext (meet a b) 0 (λ n. go n (ℕ_discrete (digit a n) 1) (ℕ_discrete (digit b n) 1)))
  where
    go : (n : ℕ) → Dec (digit a n ≡ 1) → Dec (digit b n ≡ 1) → digit (meet a b) n ≡ digit 0 n
    go n (yes p) (yes q) = absurd (f n p q)
    go n (yes p) (no q) = omega (arith, digit-meet a b n, digit-zero n, digit-le b n, q)
    go n (no p) q = omega (arith, digit-meet a b n, digit-zero n, digit-le a n, p)

module _ {A : Type 0} (f : A → ℕ) where
  some-on : (P : A → Type 0) (n : ℕ) → ((a : A) → Has (f a) n → P a) → (l : List A) → Has (union (map f l)) n → Some P l
  unfolding union
  some-on P n g [] h = absurd (zero_has n h)
  some-on P n g (a ∷ l) h = ⊎_elim (λ p. s_here (g a p)) (λ p. s_later (some-on P n g l p)) (join-has (f a) (union (map f l)) n h)

  some_back : {P : A → Type 0} {l : List A} (n : ℕ) → ((a : A) → P a → Has (f a) n) → Some P l → Has (union (map f l)) n
  unfolding union
  some_back n g (s_here {a} {l} h) = left-has (f a) (union (map f l)) n (g a h)
  some_back n g (s_later {a} {l} h) = right-has (f a) (union (map f l)) n (some_back n g h)

  -- apart from a union is apart from each
  apart-every : (m : ℕ) (l : List A) → Disjoint m (union (map f l)) → Every (λ b. Disjoint m (f b)) l
  unfolding union
  apart-every m [] d = none_left
  apart-every m (a ∷ l) d =
      one_more (λ n h k. d n h (left-has (f a) (union (map f l)) n k)) (apart-every m l (λ n h k. d n h (right-has (f a) (union (map f l)) n k)))

  every-apart : (m : ℕ) {l : List A} → Every (λ b. Disjoint m (f b)) l → Disjoint m (union (map f l))
  unfolding union
  every-apart m none_left n h k = zero_has n k
  every-apart m (one_more {a} {l} d ds) n h k = ⊎_elim (d n h) (every-apart m ds n h) (join-has (f a) (union (map f l)) n k)

  pub distinct-on : (l : List A) → distinct (map f l) ≡ true → Pairwise (λ a b. Disjoint (f a) (f b)) l
  unfolding distinct
  distinct-on [] e = no_pair
  distinct-on (a ∷ l) e =
      let p = both_true (apart (f a) (union (map f l))) (distinct (map f l)) e in
      more_pairs (apart-every (f a) l (apart-on (f a) (union (map f l)) p.0)) (distinct-on l p.1)

  pub distinct-back : {l : List A} → Pairwise (λ a b. Disjoint (f a) (f b)) l → distinct (map f l) ≡ true
  unfolding distinct
  distinct-back no_pair = refl
  distinct-back (more_pairs {a} {l} h hs) =
      and_both (apart (f a) (union (map f l))) (distinct (map f l)) (apart-back _ _ (every-apart (f a) h)) (distinct-back hs)

ordered-on : (l : List Offer) → ordered l ≡ true → Pairwise (λ o p. Disjoint (use_of_offer o) (def_of_offer p)) l
unfolding ordered
ordered-on [] e = no_pair
ordered-on (o ∷ l) e =
    let p = both_true (apart (use_of_offer o) (def_of_offers l)) (ordered l) e in
    more_pairs (apart-every def_of_offer (use_of_offer o) l (apart-on (use_of_offer o) (def_of_offers l) p.0)) (ordered-on l p.1)

ordered-back : {l : List Offer} → Pairwise (λ o p. Disjoint (use_of_offer o) (def_of_offer p)) l → ordered l ≡ true
unfolding ordered
ordered-back no_pair = refl
ordered-back (more_pairs {a = o} {l} h hs) =
    and_both (apart (use_of_offer o) (def_of_offers l)) (ordered l) (apart-back _ _ (every-apart def_of_offer (use_of_offer o) h)) (ordered-back hs)

every-then : {A : Type 0} {P Q : A → Type 0} {l : List A} → ((a : A) → P a → Q a) → Every P l → Every Q l
every-then f none_left = none_left
every-then f (one_more {a} h hs) = one_more (f a h) (every-then f hs)

every-zip : {A : Type 0} {P Q R : A → Type 0} {l : List A} → ((a : A) → P a → Q a → R a) → Every P l → Every Q l → Every R l
every-zip f none_left none_left = none_left
every-zip f (one_more {a} h hs) (one_more k ks) = one_more (f a h k) (every-zip f hs ks)

pairwise-then : {A : Type 0} {R S : A → A → Type 0} {l : List A} → ((a b : A) → R a b → S a b) → Pairwise R l → Pairwise S l
pairwise-then f no_pair = no_pair
pairwise-then f (more_pairs {a} h hs) = more_pairs (every-then (f a) h) (pairwise-then f hs)

pairwise-zip : {A : Type 0} {R S T : A → A → Type 0} {l : List A} → ((a b : A) → R a b → S a b → T a b) → Pairwise R l → Pairwise S l → Pairwise T l
pairwise-zip f no_pair no_pair = no_pair
pairwise-zip f (more_pairs {a} h hs) (more_pairs k ks) = more_pairs (every-zip (f a) h k) (pairwise-zip f hs ks)

-- ---- use and def
same-variable : (u v : Variable) → u.0 ≡ v.0 → u ≡ v
same-variable u v e = ap variable e

pub use-on : (v : Variable) (e : Exp) → Has (use_of_exp e) v.0 → UsedIn v e
unfolding use_of_exp
use-on v (var u) h = subst (λ (w : Variable). UsedIn v (var w)) (same-variable v u (bit-has u.0 v.0 h)) u_var
use-on v (const t z) h = absurd (zero_has v.0 h)
use-on v (unary o e) h = u_unary (use-on v e h)
use-on v (binary o a b) h = ⊎_elim (λ p. u_left (use-on v a p)) (λ p. u_right (use-on v b p)) (join-has (use_of_exp a) (use_of_exp b) v.0 h)

pub use-back : {v : Variable} {e : Exp} → UsedIn v e → Has (use_of_exp e) v.0
unfolding use_of_exp
use-back {v} u_var = digit-bit-here v.0
use-back (u_unary h) = use-back h
use-back {v} (u_left {a = a} {b = b} h) = left-has (use_of_exp a) (use_of_exp b) v.0 (use-back h)
use-back {v} (u_right {a = a} {b = b} h) = right-has (use_of_exp a) (use_of_exp b) v.0 (use-back h)

def-on : (v : Variable) (p : Pat) → Has (def_of_pat p) v.0 → DefinedIn v p
unfolding def_of_pat
def-on v (any t) h = absurd (zero_has v.0 h)
def-on v (bind u) h = subst (λ (w : Variable). DefinedIn v (bind w)) (same-variable v u (bit-has u.0 v.0 h)) d_bind
def-on v (equals t z) h = absurd (zero_has v.0 h)
def-on v (guarded p e) h = d_guarded (def-on v p h)

def-back : {v : Variable} {p : Pat} → DefinedIn v p → Has (def_of_pat p) v.0
unfolding def_of_pat
def-back {v} d_bind = digit-bit-here v.0
def-back (d_guarded h) = def-back h

pattern-on : (v : Variable) (p : Pat) → Has (use_of_pat p) v.0 → UsedInPat v p
unfolding use_of_pat
pattern-on v (any t) h = absurd (zero_has v.0 h)
pattern-on v (bind u) h = absurd (zero_has v.0 h)
pattern-on v (equals t z) h = absurd (zero_has v.0 h)
pattern-on v (guarded p e) h =
    ⊎_elim (λ q. u_guard (use-on v e (omega (arith, digit-without (use_of_exp e) (def_of_pat p) v.0, digit-le (use_of_exp e) v.0, q)))
    (λ d. omega (arith, digit-without (use_of_exp e) (def_of_pat p) v.0, digit-le (use_of_exp e) v.0, q, def-back d))) (λ q. u_inner (pattern-on v p q))
    (join-has (without (use_of_exp e) (def_of_pat p)) (use_of_pat p) v.0 h)

pattern-back : {v : Variable} {p : Pat} → UsedInPat v p → Has (use_of_pat p) v.0
unfolding use_of_pat
pattern-back {v} (u_guard {p} {e} h f) =
    left-has (without (use_of_exp e) (def_of_pat p)) (use_of_pat p) v.0 (go (ℕ_discrete (digit (def_of_pat p) v.0) 1))
  where
    go : Dec (digit (def_of_pat p) v.0 ≡ 1) → Has (without (use_of_exp e) (def_of_pat p)) v.0
    go (yes q) = absurd (f (def-on v p q))
    go (no q) = omega (arith, digit-without (use_of_exp e) (def_of_pat p) v.0, use-back h, digit-le (def_of_pat p) v.0, q)
pattern-back {v} (u_inner {p} {e} h) = right-has (without (use_of_exp e) (def_of_pat p)) (use_of_pat p) v.0 (pattern-back h)

offer-use-on : (v : Variable) (o : Offer) → Has (use_of_offer o) v.0 → UsedInOffer v o
offer-use-on v (emit e) h = u_emit (use-on v e h)
offer-use-on v (receive p) h = u_receive (pattern-on v p h)

offer-use-back : {v : Variable} {o : Offer} → UsedInOffer v o → Has (use_of_offer o) v.0
offer-use-back (u_emit h) = use-back h
offer-use-back (u_receive h) = pattern-back h

offer-def-on : (v : Variable) (o : Offer) → Has (def_of_offer o) v.0 → DefinedInOffer v o
offer-def-on v (emit e) h = absurd (zero_has v.0 h)
offer-def-on v (receive p) h = d_receive (def-on v p h)

offer-def-back : {v : Variable} {o : Offer} → DefinedInOffer v o → Has (def_of_offer o) v.0
offer-def-back (d_receive h) = def-back h

-- ---- what an action touches
mutual
  unfolding touches

  pub touch-on : (v : Variable) (a : Action) → Has (touches a) v.0 → Touched v a
  touch-on v (at r a) h = h_at (touch-act v a h)

  touch-act : (v : Variable) (a : Act) → Has (touches_act a) v.0 → TouchedAct v a
  touch-act v null h = absurd (zero_has v.0 h)
  touch-act v (assign is) h = h_assign (some-on _ _ v.0 (λ i p. same-variable v i.v (bit-has i.v.0 v.0 p)) is h)
  touch-act v (choose is e) h = h_choose (some-on _ _ v.0 (λ i p. same-variable v i.v (bit-has i.v.0 v.0 p)) is h)
  touch-act v (reset vs) h = h_reset (some-on _ _ v.0 (λ u p. same-variable v u (bit-has u.0 v.0 p)) vs h)
  touch-act v (communicate g os) h = h_communicate (some-on _ _ v.0 (λ o p. offer-def-on v o p) os h)
  touch-act v (to q) h = absurd (zero_has v.0 h)
  touch-act v (then a b) h = ⊎_elim (λ p. h_first (touch-on v a p)) (λ p. h_second (touch-on v b p)) (join-has (touches a) (touches b) v.0 h)
  touch-act v (select bs) h = h_select (touch-branches v bs h)
  touch-act v (case e arms) h = h_case (touch-arms v arms h)
  touch-act v (while e a) h = h_while (touch-on v a h)
  touch-act v (for u low high a) h =
      ⊎_elim (λ p. subst (λ (w : Variable). TouchedAct v (for w low high a)) (same-variable v u (bit-has u.0 v.0 p)) h_range)
      (λ p. h_for (touch-on v a p)) (join-has (bit u.0) (touches a) v.0 h)

  touch-branches : (v : Variable) (bs : Branches) → Has (touches_branches bs) v.0 → TouchedBranches v bs
  touch-branches v no_branch h = absurd (zero_has v.0 h)
  touch-branches v (branch a bs) h =
      ⊎_elim (λ p. h_branch (touch-on v a p)) (λ p. h_branches (touch-branches v bs p)) (join-has (touches a) (touches_branches bs) v.0 h)

  touch-arms : (v : Variable) (arms : Arms) → Has (touches_arms arms) v.0 → TouchedArms v arms
  touch-arms v no_arm h = absurd (zero_has v.0 h)
  touch-arms v (arm p a rest) h =
      ⊎_elim (λ q. h_pattern (def-on v p q)) (λ q.
      ⊎_elim (λ k. h_arm (touch-on v a k)) (λ k. h_arms (touch-arms v rest k)) (join-has (touches a) (touches_arms rest) v.0 q))
      (join-has (def_of_pat p) (join (touches a) (touches_arms rest)) v.0 h)

mutual
  unfolding touches

  pub touch-back : {v : Variable} {a : Action} → Touched v a → Has (touches a) v.0
  touch-back (h_at h) = back-act h

  back-act : {v : Variable} {a : Act} → TouchedAct v a → Has (touches_act a) v.0
  back-act {v} (h_assign h) = some_back _ v.0 (λ i p. same-has i.v.0 v.0 (ap (λ (u : Variable). u.0) p)) h
  back-act {v} (h_choose h) = some_back _ v.0 (λ i p. same-has i.v.0 v.0 (ap (λ (u : Variable). u.0) p)) h
  back-act {v} (h_reset h) = some_back _ v.0 (λ u p. same-has u.0 v.0 (ap (λ (u : Variable). u.0) p)) h
  back-act {v} (h_communicate h) = some_back _ v.0 (λ o p. offer-def-back p) h
  back-act {v} (h_first {a} {b} h) = left-has (touches a) (touches b) v.0 (touch-back h)
  back-act {v} (h_second {a} {b} h) = right-has (touches a) (touches b) v.0 (touch-back h)
  back-act (h_select h) = back-branches h
  back-act (h_case h) = back-arms h
  back-act (h_while h) = touch-back h
  back-act {v} (h_range {a = a}) = left-has (bit v.0) (touches a) v.0 (digit-bit-here v.0)
  back-act {v} (h_for {u} {a = a} h) = right-has (bit u.0) (touches a) v.0 (touch-back h)

  back-branches : {v : Variable} {bs : Branches} → TouchedBranches v bs → Has (touches_branches bs) v.0
  back-branches {v} (h_branch {a} {bs} h) = left-has (touches a) (touches_branches bs) v.0 (touch-back h)
  back-branches {v} (h_branches {a} {bs} h) = right-has (touches a) (touches_branches bs) v.0 (back-branches h)

  back-arms : {v : Variable} {arms : Arms} → TouchedArms v arms → Has (touches_arms arms) v.0
  back-arms {v} (h_pattern {p} {a} {rest} h) = left-has (def_of_pat p) (join (touches a) (touches_arms rest)) v.0 (def-back h)
  back-arms {v} (h_arm {p} {a} {rest} h) =
      right-has (def_of_pat p) (join (touches a) (touches_arms rest)) v.0 (left-has (touches a) (touches_arms rest) v.0 (touch-back h))
  back-arms {v} (h_arms {p} {a} {rest} h) =
      right-has (def_of_pat p) (join (touches a) (touches_arms rest)) v.0 (right-has (touches a) (touches_arms rest) v.0 (back-arms h))

-- ---- the rules
apart-bits : (u v : Variable) → Iff (Disjoint (bit u.0) (bit v.0)) (u ≡ v → ⊥)
apart-bits u v = record {
  on = λ d e. d u.0 (digit-bit-here u.0) (same-has v.0 u.0 (ap (λ (w : Variable). w.0) e));
  back = λ f n h k. f (same-variable u v (sym (bit-has u.0 n h) ∙ bit-has v.0 n k));
}

pub all-bound-pat : (p : Pat) → BoundPat p
all-bound-pat (any t) = b_any
all-bound-pat (bind v) = b_bind
all-bound-pat (equals t z) = b_equals
all-bound-pat (guarded p e) = b_guarded (all-bound-pat p)

bound-offer : (o : Offer) → BoundOffer o
bound-offer (emit e) = b_emit
bound-offer (receive p) = b_receive (all-bound-pat p)

bound-offers : (os : List Offer) → Every BoundOffer os
bound-offers [] = none_left
bound-offers (o ∷ os) = one_more (bound-offer o) (bound-offers os)

pub gets-rule : (is : List Gets) → Iff (Pairwise (λ i j. i.v ≡ j.v → ⊥) is) (distinct (map (λ i. bit i.v.0) is) ≡ true)
gets-rule is = record {
  on = λ h. distinct-back _ (pairwise-then (λ i j. (apart-bits i.v j.v).back) h);
  back = λ e. pairwise-then (λ i j. (apart-bits i.v j.v).on) (distinct-on _ is e);
}

pub of_types-rule : (is : List OfType) → Iff (Pairwise (λ i j. i.v ≡ j.v → ⊥) is) (distinct (map (λ i. bit i.v.0) is) ≡ true)
of_types-rule is = record {
  on = λ h. distinct-back _ (pairwise-then (λ i j. (apart-bits i.v j.v).back) h);
  back = λ e. pairwise-then (λ i j. (apart-bits i.v j.v).on) (distinct-on _ is e);
}

pub variables-rule : (vs : List Variable) → Iff (Pairwise (λ u v. u ≡ v → ⊥) vs) (distinct (map (λ v. bit v.0) vs) ≡ true)
variables-rule vs = record {
  on = λ h. distinct-back _ (pairwise-then (λ u v. (apart-bits u v).back) h);
  back = λ e. pairwise-then (λ u v. (apart-bits u v).on) (distinct-on _ vs e);
}

pub offers-rule : (os : List Offer) → Iff (Every BoundOffer os × Pairwise InTurn os) ((distinct (map def_of_offer os) && ordered os) ≡ true)
offers-rule os = record {
  on = λ h. and_both (distinct (map def_of_offer os)) (ordered os)
      (distinct-back _ (pairwise-then (λ o p t n a b. t.once (variable n) (offer-def-on (variable n) o a) (offer-def-on (variable n) p b)) h.1))
      (ordered-back (pairwise-then (λ o p t n a b. t.order (variable n) (offer-def-on (variable n) p b) (offer-use-on (variable n) o a)) h.1));
  back = λ e.
      let b = both_true (distinct (map def_of_offer os)) (ordered os) e in (
        bound-offers os,
        pairwise-zip (λ o p d u. record {
          once = λ v s t. d v.0 (offer-def-back s) (offer-def-back t);
          order = λ v s t. u v.0 (offer-use-back t) (offer-def-back s);
        }) (distinct-on _ os b.0) (ordered-on os b.1),
      );
}

pub for-rule : (v : Variable) (a : Action) → Iff (Touched v a → ⊥) (apart (bit v.0) (touches a) ≡ true)
for-rule v a = record {
  on = λ f. apart-back _ _ (λ n h k. f (subst (λ (u : Variable). Touched u a) (same-variable (variable n) v (bit-has v.0 n h)) (touch-on (variable n) a k)));
  back = λ e t. apart-on _ _ e v.0 (digit-bit-here v.0) (touch-back t);
}

-- a judged node passes its test
pub bound-passes : {a : Act} → BoundAct a → bound_act a ≡ true
unfolding bound_act
bound-passes b_null = refl
bound-passes b_to = refl
bound-passes (b_reset {vs} h) = (variables-rule vs).on h
bound-passes (b_assign {is} h) = (gets-rule is).on h
bound-passes (b_choose {is} h) = (of_types-rule is).on h
bound-passes (b_communicate {os = os} h k) = (offers-rule os).on (h, k)
bound-passes (b_then h k) = refl
bound-passes (b_select h) = refl
bound-passes (b_case h) = refl
bound-passes (b_while h) = refl
bound-passes (b_for {v} {a = a} f h) = (for-rule v a).on f

-- ---- the condition
entries-small : (n : ℕ) (es : List Entry) → entries_fit n es ≡ true → (v : ℕ) → (get_or es v (record { type = 0; parameter = 0 })).parameter ≤ 1
unfolding entries_fit
entries-small n [] e v = omega arith
entries-small n (y ∷ es) e zero = leb-true _ 1 (both_true (leb y.parameter 1) _ (both_true (ltb y.type n) _ e).1).0
entries-small n (y ∷ es) e (suc v) = entries-small n es (both_true (leb y.parameter 1) _ (both_true (ltb y.type n) _ e).1).1 v

module _ (x : Tables) (entries : entries_right x ≡ true) where
  parameter-is : (v : ℕ) → digit (parameters_of x.variables) v ≡ (get_or x.variables v (record { type = 0; parameter = 0 })).parameter
  unfolding entries_right
  parameter-is = parameter-digit x.variables (entries-small (length x.sizes) x.variables (both_true (sizes_fit x.sizes) _ entries).1)

  pub reads-rule : (e : Exp) → Iff (ReadsParameters x e) (inside (use_of_exp e) (parameters_of x.variables) ≡ true)
  reads-rule e = record {
    on = λ h. sub-inside (use_of_exp e) (parameters_of x.variables) (λ n. go h n (ℕ_discrete (digit (use_of_exp e) n) 1));
    back = λ t v u. omega (arith, parameter-is v.0, inside-sub (use_of_exp e) (parameters_of x.variables) t v.0, use-back u, digit-le (parameters_of x.variables) v.0);
  }
    where
      go : ReadsParameters x e → (n : ℕ) → Dec (digit (use_of_exp e) n ≡ 1) → digit (use_of_exp e) n ≤ digit (parameters_of x.variables) n
      go h n (yes p) = omega (arith, p, parameter-is n, h (variable n) (use-on (variable n) e p))
      go h n (no p) = omega (arith, p, digit-le (use_of_exp e) n)
