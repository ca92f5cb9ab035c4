-- What an action without errors gives, for the rows that hold no action and for the forms that put runs together. Assumes nothing.
use mathlib.Core.{Path.◌≡◌, Path.sym, Path.subst, List.List, List.[], List.◌∷◌, List.◌++◌, List.map}
use Prim.Native.Nat.{ℕ, suc, ◌<◌}
use native.Mathlib.Omega.{arith}
use lib.{IntN.ℤ, IntN.pos, Signed.mag}
use Rattle.model.specs.declared.{Gate.Gate, State.State, Variable.Variable}
use Rattle.model.specs.Answers.{number}
use Rattle.model.specs.Image.{Tables, int, type_of}
use Rattle.model.specs.Masks.{Has, bit, meet, join}
use Rattle.model.specs.Rows.{Binary, arithmetic, Plus, comparison, AtMost}
use Rattle.model.specs.Trees.{Exp, var, const, binary, Offer, emit, receive, Gets, OfType as OfTypeItem}
use Rattle.model.specs.Typing.{type_of_pat}
use Rattle.model.specs.Binding.{assigned, chosen, use_of_exp, def_of_pat, def_of_offer, def_of_offers}
use Rattle.model.specs.Largest.{Sub}
use Rattle.model.specs.Run.{store, eval, test, match, Label, ε, on, spoken, St, Res, stored, blocked_at, blocked, and_then, storing, assigning, choosing, offering, communicating, looping, at_most_high, to_low, onward}
use Rattle.model.proofs.Masks.{digit-zero, digit-join, sub_refl, meet_left, meet_right}
use Rattle.model.proofs.Run.{if-rule}
use Rattle.demands.proofs.All.{All, nil, cons}
use Rattle.demands.proofs.Whole.{Whole}
use Rattle.demands.proofs.Good.{Inside, GoodOffer, GoodGets, GoodOfType}
use Rattle.demands.proofs.Hoare.{Post, Shown, same_post, Like, after, weaken, word_of, value, test_of, loops}
use Rattle.demands.specs.Stores.{TypedStore}
use Rattle.demands.proofs.Typed.{OfType, eval-typed}
use Rattle.demands.proofs.Kept.{low-good, onward-good}
use Rattle.demands.proofs.Subsets.{join-zero, bit-sub, join-none, join-next, join_one}
use Rattle.demands.proofs.Covers.{Covers, Held, held-sub, held-store, eval-sure, test-sure, suits-rule, match-suits}
use Rattle.demands.proofs.Offers.{Threaded}

-- the store typed and e defined at the end, j at a jump; never stopped by an undefined variable
abbrev pub Ending : Tables → ℕ → (State → St → Type 0) → Post
Ending x e j = record { ends = λ u. TypedStore x u.store × Covers x e u.store; jumps = j; stops = λ y u. number y ≡ 22 → ⊥ }

-- the same at a jump, with j q defined at a jump to q
abbrev pub Sound : Tables → ℕ → (ℕ → ℕ) → Post
Sound x e j = Ending x e (λ q u. TypedStore x u.store × Covers x (j q.0) u.store)

blocked-other : (r : ℕ) (l : Label) → number (blocked_at r l) ≡ 22 → ⊥
unfolding blocked_at
blocked-other r ε e = omega arith
blocked-other r (on g vs) e = omega arith

const-use : (t : ℕ) (z : ℤ) (b : ℕ) → Sub (use_of_exp (const t z)) b
unfolding use_of_exp
const-use t z b v = omega (arith, digit-zero v)

one-use : (o : Binary) (v : Variable) (t : ℕ) (z : ℤ) (b : ℕ) → Has b v.0 → Sub (use_of_exp (binary o (var v) (const t z))) b
unfolding use_of_exp
one-use o v t z b h u = omega (arith, digit-join (bit v.0) 0 u, digit-zero u, bit-sub v.0 b h u)

module _ (x : Tables) where
  pub like-held : (b : ℕ) (s u : St) → Like s u → Held x b s.store → Held x b u.store
  like-held b s u l h = subst (Held x b) (sym l.store) h

  -- less is said
  pub less : (d e : ℕ) (i j : ℕ → ℕ) {q : Res} → Sub d e → ((n : ℕ) → Sub (i n) (j n)) → Shown (Sound x e j) q → Shown (Sound x d i) q
  less d e i j s t =
      weaken (record { jumps = λ q u. held-sub (i q.0) (j q.0) (t q.0); stops = λ y u z. z }) (λ u. held-sub d e s)

  module _ (d e : ℕ) (i j : ℕ → ℕ) {q : Res} where
    pub first : Shown (Sound x d i) q → Shown (Sound x (meet d e) (λ n. meet (i n) (j n))) q
    first = less (meet d e) d (λ n. meet (i n) (j n)) i (meet_left d e) (λ n. meet_left (i n) (j n))

    pub second : Shown (Sound x e j) q → Shown (Sound x (meet d e) (λ n. meet (i n) (j n))) q
    second = less (meet d e) e (λ n. meet (i n) (j n)) j (meet_right d e) (λ n. meet_right (i n) (j n))

  pub blocks : {j : State → St → Type 0} (d r : ℕ) (s : St) → Shown (Ending x d j) (blocked r s)
  blocks d r s = record { says = blocked-other r s.label }

  -- ---- one after the other
  pub then-sound : (d e : ℕ) (i j : ℕ → ℕ) {q : Res} (k : St → Res) → Shown (Sound x d i) q → ((u : St) → Held x d u.store → Shown (Sound x e j) (k u))
      → Shown (Sound x e (λ n. meet (i n) (j n))) (and_then q k)
  then-sound d e i j k a h =
      let m : ℕ → ℕ = λ n. meet (i n) (j n) in
      after k (record { jumps = λ q u z. z; stops = λ y u z. z }) (less d d m i (sub_refl d) (λ n. meet_left (i n) (j n)) a)
      (λ u l. less e e m j (sub_refl e) (λ n. meet_right (i n) (j n)) (h u l))

  -- ---- a loop whose body keeps k
  pub turns : (n : ℕ) (e : Exp) (body : St → Res) (r k : ℕ) (j : ℕ → ℕ) → Sub (use_of_exp e) k
      → ((u : St) → Held x k u.store → Shown (Sound x k j) (body u)) → (s : St) → Held x k s.store → Shown (Sound x k j) (looping n x e body r s)
  turns n e body r k j t h s i =
      loops n x e body r (λ u l z. omega arith) (λ u l z. absurd (test-sure x e k u.store t l.1 z)) (λ u l z. h u l) (like-held k) s i

module _ (x : Tables) (w : Whole x) where
  -- ---- rows that never jump; d is what is said to be defined at the end
  module _ {j : State → St → Type 0} (d : ℕ) where
    pub storing-sound : (b c : ℕ) (is : List Gets) (r : ℕ) (m : List ℤ) (s : St) → All (GoodGets x) is → All (λ i. Sub (use_of_exp i.e) b) is
        → Held x b s.store → Held x c m → Sub d (join c (assigned is)) → Shown (Ending x d j) (storing x is r m s)
    unfolding storing
    storing-sound b c [] r m s nil nil h k t = record { says = held-sub d c (join-none d c t) k }
    storing-sound b c (i ∷ is) r m s (cons g gs) (cons u us) h k t =
        value (eval x i.e s.store) r s _ (λ q. absurd (eval-sure x i.e b s.store u h.1 q))
        (λ z q. storing-sound b (join c (bit i.v.0)) is r (store m i.v z) s gs us h
        (held-store x c m i.v w z g.inside (subst (λ (n : ℕ). OfType x n z) g.typed (eval-typed x w i.e s.store z g.good h.0 q)) k)
        (join-next d c (bit i.v.0) (map (λ o. bit o.v.0) is) t))

    pub choosing-sound : (b : ℕ) (is : List OfTypeItem) (e : Exp) (script : List ℕ) (r : ℕ) (s : St) → All (GoodOfType x) is
        → Sub (use_of_exp e) d → Held x b s.store → Sub d (join b (chosen is)) → Shown (Ending x d j) (choosing x is e script r s)
    unfolding choosing
    choosing-sound b [] e script r s nil u h t =
        let k = held-sub d b (join-none d b t) h in
        test_of (test x e s.store) r s _ _ (λ q. absurd (test-sure x e d s.store u k.1 q)) (λ q. record { says = k }) (λ q. blocks x d r s)
    choosing-sound b (i ∷ is) e script r s (cons g gs) u h t =
        word_of x i.t script r s _ (λ q. omega arith) (λ v l q. omega arith)
        (λ z v o l. choosing-sound (join b (bit i.v.0)) is e script r (stored (store v.store i.v z) v) gs u
        (held-store x b v.store i.v w z g.inside (subst (λ (n : ℕ). OfType x n z) (sym g.typed) o) (like-held x b s v l h))
        (join-next d b (bit i.v.0) (map (λ k. bit k.v.0) is) t))

    offering-sound : (b : ℕ) (g : Gate) (os : List Offer) (vs : List ℤ) (script : List ℕ) (r : ℕ) (s : St) → All (GoodOffer x) os → Threaded b os
        → Held x b s.store → Sub d (join b (def_of_offers os)) → Shown (Ending x d j) (offering x g os vs script r s)
    unfolding offering Threaded
    offering-sound b g [] vs script r s nil u h t = record { says = held-sub d b (join-none d b t) h }
    offering-sound b g (emit e ∷ os) vs script r s (cons i is) u h t =
        value (eval x e s.store) r s _ (λ q. absurd (eval-sure x e b s.store u.0 h.1 q))
        (λ z q. offering-sound (join b 0) g os (vs ++ (z ∷ [])) script r s is u.1
        (held-sub (join b 0) b (join-zero b) h) (join-next d b 0 (map def_of_offer os) t))
    offering-sound b g (receive p ∷ os) vs script r s (cons i is) u h t =
        word_of x (type_of_pat x p) script r s _ (λ q. omega arith) (λ v l q. omega arith)
        (λ z v o l. suits-rule (Shown (Ending x d j)) x (join b (def_of_pat p)) (match x p z v.store) _ _ _
        (match-suits x w p z b v.store i o u.0 (like-held x b s v l h))
        (λ m k. offering-sound (join b (def_of_pat p)) g os (vs ++ (z ∷ [])) script r (stored m v) is u.1 k
        (join-next d b (def_of_pat p) (map def_of_offer os) t)) (blocks x d r v))

    pub communicating-sound : (b : ℕ) (g : Gate) (os : List Offer) (script : List ℕ) (r : ℕ) (s : St) → All (GoodOffer x) os → Threaded b os
        → Held x b s.store → Sub d (join b (def_of_offers os)) → Shown (Ending x d j) (communicating x g os script r s)
    unfolding communicating
    communicating-sound b g os script r s i u h t =
        if-rule (Shown (Ending x d j)) (spoken s.label) _ _ (λ e. record { says = λ q. omega arith }) (λ e. offering-sound b g os [] script r s i u h t)

  -- a for, where e is what its body leaves of k
  module _ (v : Variable) (low high : ℤ) (r : ℕ) (in_table : Inside x v) (type : type_of x v ≡ int) (small : mag low < x.half) where
    pub for-sound : (b k e : ℕ) (j : ℕ → ℕ) → Sub k (join b (bit v.0)) → Sub k (join e (bit v.0)) → Has k v.0 → Has e v.0
        → (body : St → Res) → ((u : St) → Held x k u.store → Shown (Sound x e j) (body u)) → (s : St) → Held x b s.store
        → Shown (Sound x k j) (and_then (assigning x (to_low v low) r s) (λ u.
        looping (suc u.left) x (at_most_high v high) (λ t. and_then (body t) (assigning x (onward v) r)) r u))
    for-sound b k e j before later vk ve body h s i =
        after _ same_post
        (storing-sound k b b (to_low v low) r s.store s (low-good x w v low in_table type small) (cons (const-use int low b) nil) i i
        (join_one k b (bit v.0) before))
        (λ u l. turns x (suc u.left) (at_most_high v high) (λ t. and_then (body t) (assigning x (onward v) r)) r k j
        (one-use (comparison AtMost) v int high k vk)
        (λ t o. after (assigning x (onward v) r) (record { jumps = λ q y z. z; stops = λ q y z. z }) (h t o)
        (λ y z. storing-sound k e e (onward v) r y.store y (onward-good x w v in_table type)
        (cons (one-use (arithmetic Plus) v int (pos 1) e ve) nil) z z (join_one k e (bit v.0) later))) u l)
