-- Every derivation of Figure 2 that reads nothing undefined is a run, for every script that has its choices. Assumes nothing.
use mathlib.Core.{Path.◌≡◌, Path.refl, Path.sym, Path.ap, Path.◌∙◌, List.List, List.[], List.◌∷◌, List.◌++◌, List.append_assoc, List.append-nil}
use Prim.Native.Nat.{ℕ, suc, ◌+◌, ◌-◌, ◌/◌, ◌<◌}
use native.Mathlib.Omega.{arith}
use lib.{IntN.ℤ, IntN.pos, ListN.length}
use Rattle.model.specs.declared.{Gate.Gate, Variable.Variable, Tested.TheVariants.Holds, Refusal.Refusal, Outcome.Outcome, Outcome.TheVariants.Ends, Outcome.TheVariants.Jumps, Outcome.TheVariants.Stops}
use Rattle.model.specs.Bytes.{word_at}
use Rattle.model.specs.Image.{Tables, none}
use Rattle.model.specs.Trees.{Exp, Offer, emit, receive, Gets, OfType, Action, at, Act, null, assign, choose, reset, communicate, to, then, select, case, while, Branches, Arms}
use Rattle.model.specs.Typing.{type_of_pat}
use Rattle.model.specs.Run.{store, eval, test, match, Label, ε, on, St, Res, gives, stored, and_then, reading, reading_of, storing, choosing, offering, communicating, exec, exec_act, exec_branch, exec_arms}
use Rattle.model.specs.Figure2.{Next, onto, ended, found, accept, OfThe, MayTake, Accepts, all_run, runs, none_left, one_more, Evals, Chosen, update, getters, choosers, Sum, Nth, here, further, Taken, this, later, expansion, Does, d_null, d_to, d_assign, d_choose, d_reset, d_communicate, d_then, d_leave, d_select, d_case, d_again, d_done, d_for, toll, cost, received, choices, Sure, ReadsDefined}
use Rattle.model.proofs.Run.{paid, heard, match-rule, charge-none, charge-rule, charge-cong, then-cong, reading-word, reading_of-word, valued-is, tested-holds, looping-holds, looping-fails, looping-enough, exec-left, for-expansion}
use Rattle.demands.proofs.Script.{Reads, reads-split}
use Rattle.demands.proofs.Figure.{made, found-match, emitted, sum-part, toll-none, toll-some, assign-stays}
use Rattle.demands.proofs.Fit.{Fit, FitAct, fit-branch, fit-arm}

-- how a run ends, by where a derivation goes next
abbrev pub goes : Next → Outcome
goes ended = Ends
goes (onto q) = Jumps q

goes_on : (o : Next) (y : Refusal) → goes o ≡ Stops y → ⊥
goes_on ended y e = let c : ◌≡◌ {A = ℕ} 0 1 = cc in omega arith
goes_on (onto q) y e = let c : ◌≡◌ {A = ℕ} 0 1 = cc in omega arith

-- nothing read, nothing said
rests : (o : Outcome) (m : List ℤ) (i j n : ℕ) (k h : Label) → i ≡ j → Sum k ε h → gives o (made m i n k) ≡ gives o (made m j n h)
rests o m i j n ε h e s = cc
rests o m i j n (on g vs) h e s = cc

module _ (x : Tables) where
  module _ (script : List ℕ) (r : ℕ) where
    pub enter : (a : Act) (m : List ℤ) (i c n : ℕ) (l : Label) → c ≡ toll r + n → exec x (at r a) script (made m i c l) ≡ exec_act x a script r (made m i n l)
    unfolding exec
    enter a m i c n l e =
        charge-rule (λ q. q ≡ exec_act x a script r (made m i n l)) r (made m i c l) _
        (λ z. ap (λ (k : ℕ). exec_act x a script r (made m i k l)) (omega (arith, toll-none r z)))
        (λ f z. absurd (omega (arith, toll-some r f)))
        (λ f z. ap (λ (k : ℕ). exec_act x a script r (made m i k l)) (omega (arith, toll-some r f)))

    -- the word that is there
    pub reading_of-is : (t : ℕ) (s : St) (k : ℤ → St → Res) (z : ℤ) → s.words < length script / 4 → word_at script s.words ≡ z → OfThe x t z
        → reading_of x t script r s k ≡ k z (heard s)
    reading_of-is t s k z l w h = reading_of-word x t script r s k l (rw w h) ∙ ap (λ (y : ℤ). k y (heard s)) w

    -- ---- actions that hold none
    pub puts : (s : St) {is : List Gets} {zs : List ℤ} (m : List ℤ) → Evals x s.store is zs
        → storing x is r m s ≡ gives Ends (stored (update m (getters is) zs) s)
    unfolding storing update
    puts s m none_left = refl
    puts s m (one_more {i} {is} {z} e es) = valued-is (eval x i.e s.store) r s _ z e ∙ puts s (store m i.v z) es

    chooses : {is : List OfType} {zs : List ℤ} (e : Exp) (m : List ℤ) (i j n : ℕ) (l : Label) → Chosen x is zs
        → test x e (update m (choosers is) zs) ≡ Holds → Reads script i zs j
        → choosing x is e script r (made m i n l) ≡ gives Ends (made (update m (choosers is) zs) j n l)
    unfolding choosing update
    chooses e m i j n l none_left h p =
        tested-holds _ r _ _ _ h ∙ ap (λ (k : ℕ). gives Ends (made m k n l)) p
    chooses e m i j n l (one_more {i = y} {z = z} t c) h p =
        reading_of-is y.t (made m i n l) _ z p.0 p.1 t ∙ chooses e (store m y.v z) (i + 1) j n l c h p.2

    module _ (g : Gate) (l : Label) (n : ℕ) where
      offers-one : (o : Offer) (os : List Offer) (z : ℤ) (zs vs m k h : List ℤ) (i j : ℕ) → MayTake x o z → accept x z m o ≡ found k
          → Reads script i (received (o ∷ os) (z ∷ zs)) j
          → ((i : ℕ) → Reads script i (received os zs) j
          → offering x g os (vs ++ (z ∷ [])) script r (made k i n l) ≡ gives Ends (made h j n (on g ((vs ++ (z ∷ [])) ++ zs))))
          → offering x g (o ∷ os) vs script r (made m i n l) ≡ gives Ends (made h j n (on g (vs ++ (z ∷ zs))))
      unfolding offering received accept
      offers-one (emit e) os z zs vs m k h i j t a p ih =
          let q = emitted x e z m k a in
          valued-is _ r _ _ z q.value ∙ ap (λ (y : List ℤ). offering x g os (vs ++ (z ∷ [])) script r (made y i n l)) q.store ∙ ih i p
          ∙ ap (λ (y : List ℤ). gives Ends (made h j n (on g y))) (append_assoc vs (z ∷ []) zs)
      offers-one (receive p) os z zs vs m k h i j t a w ih =
          reading_of-is (type_of_pat x p) (made m i n l) _ z w.0 w.1 t ∙ rw (found-match x p z m k a) (ih (i + 1) w.2)
          ∙ ap (λ (y : List ℤ). gives Ends (made h j n (on g y))) (append_assoc vs (z ∷ []) zs)

      offers : {os : List Offer} {zs m k : List ℤ} (vs : List ℤ) (i j : ℕ) → Accepts x os zs m k → Reads script i (received os zs) j
          → offering x g os vs script r (made m i n l) ≡ gives Ends (made k j n (on g (vs ++ zs)))
      unfolding offering received
      offers vs i j (all_run {m}) p = rw (p, append-nil vs)
      offers vs i j (runs {o} {os} {z} {zs} {m} {n = k} {k = h} t e a) p =
          offers-one o os z zs vs m k h i j t e p (λ y q. offers (vs ++ (z ∷ [])) y j a q)

    speaks : {os : List Offer} {zs m n : List ℤ} (g : Gate) (i j c : ℕ) (k h : Label) → Accepts x os zs m n → Reads script i (received os zs) j
        → Sum k (on g zs) h → communicating x g os script r (made m i c k) ≡ gives Ends (made n j c h)
    unfolding communicating
    speaks {n = n} g i j c ε h a w s = offers g ε c [] i j a w ∙ ap (λ (l : Label). gives Ends (made n j c l)) s
    speaks g i j c (on e vs) h a w s = absurd s

    -- ---- branches, arms and loops
    pub picks : {bs : Branches} {i : ℕ} {a : Action} (s : St) → Nth bs i a → exec_branch x bs (pos i) script r s ≡ exec x a script s
    unfolding exec
    picks s here = refl
    picks s (further n) = picks s n

    pub selects : {bs : Branches} {i : ℕ} {a : Action} (s : St) → Nth bs i a
        → exec_act x (select bs) script r s ≡ reading script r s (λ z u. exec_branch x bs z script r u)
    unfolding exec
    selects s here = refl
    selects s (further n) = refl

    pub takes : {z : ℤ} {m n : List ℤ} {arms : Arms} {a : Action} (i c : ℕ) (l : Label) (t : Taken x z m arms a n) → Sure t
        → exec_arms x arms z script r (made m i c l) ≡ exec x a script (made n i c l)
    unfolding exec Sure
    takes {z} {m} {n} i c l (this {p} {a} e) s =
        let q = found-match x p z m n e in
        match-rule (λ y. y ≡ exec x a script (made n i c l)) (match x p z m) _ _ _ (λ k h. ap (λ (y : List ℤ). exec x a script (made y i c l)) (cc))
        (λ h. cc) (λ h. cc)
    takes {z} {m} {n} i c l (later {p} {b} e t) s =
        let q = s.0 in
        match-rule (λ y. y ≡ exec x b script (made n i c l)) (match x p z m) _ _ _ (λ k h. cc) (λ h. takes i c l t s.1) (λ h. cc)

    -- a turn of a while, and the while
    turns : (e : Exp) (a : Action) (s : St) → (r ≡ none → ⊥) → test x e s.store ≡ Holds
        → exec_act x (while e a) script r s ≡ exec x (at none (then a (at r (while e a)))) script s
    unfolding exec
    turns e a s f h =
        let body : St → Res = λ u. exec x a script u in
        let u = (exec x a script s).st in
        looping-holds x e body r s.left s h
        ∙ then-cong (exec x a script s) _ _ (λ _.
        charge-cong r u _ _ (λ p. absurd (f p)) (λ _ l.
        looping-enough x e body r f (λ t. exec-left x a script t) s.left (suc (u.left - 1)) (paid u) (omega (arith, exec-left x a script s)) (omega arith)))
        ∙ sym (charge-none s (λ t. exec_act x (then a (at r (while e a))) script none t))

  -- a for's derivation has its while's unit
  while-costs : {r : ℕ} {e : Exp} {a : Action} {m n : List ℤ} {l : Label} {o : Next} (d : Does x (at r (while e a)) m l o n) → (r ≡ none → ⊥) → 0 < cost d
  unfolding cost
  while-costs (d_again {r} h d) f = omega (arith, toll-some r f)
  while-costs (d_done {r} h) f = omega (arith, toll-some r f)

  for-costs : {r : ℕ} {v : Variable} {low high : ℤ} {a : Action} {m n : List ℤ} {l : Label} {o : Next} (d : Does x (expansion r v low high a) m l o n)
      → (r ≡ none → ⊥) → 0 < cost d
  unfolding cost
  for-costs (d_then d e p) f = omega (arith, while-costs e f)
  for-costs (d_leave d) f = absurd (assign-stays d)

  -- the run of a derivation: from place i of the script to place j, its cost and these units before it, label k before it
  pub derived : {a : Action} {m n : List ℤ} {l : Label} {o : Next} (d : Does x a m l o n) → Fit a → ReadsDefined d
      → (script : List ℕ) (i j left : ℕ) (k h : Label) → Reads script i (choices d) j → Sum k l h
      → exec x a script (made m i (cost d + left) k) ≡ gives (goes o) (made n j left h)
  unfolding exec cost choices ReadsDefined Fit FitAct and_then communicating
  derived (d_null {r} {m}) f y script i j left k h w s = enter script r null m i _ left k refl ∙ rests Ends m i j left k h w s
  derived (d_to {r} {q} {m}) f y script i j left k h w s = enter script r (to q) m i _ left k refl ∙ rests (Jumps q) m i j left k h w s
  derived (d_assign {r} {is} {m} p) f y script i j left k h w s =
      enter script r (assign is) m i _ left k refl ∙ puts script r (made m i left k) m p ∙ rests Ends _ i j left k h w s
  derived (d_choose {r} {is} {e} {m} p q) f y script i j left k h w s =
      enter script r (choose is e) m i _ left k refl ∙ chooses script r e m i j left k p q w ∙ rests Ends _ j j left k h refl s
  derived (d_reset {r} {vs} {m}) f y script i j left k h w s = enter script r (reset vs) m i _ left k refl ∙ rests Ends _ i j left k h w s
  derived (d_communicate {r} {g} {os} {m} p) f y script i j left k h w s =
      enter script r (communicate g os) m i _ left k refl ∙ speaks script r g i j left k h p w s
  derived (d_then {r} {a} {b} {m} {l₁} {l₂} {l} d e p) f y script i j left k h w s =
      let q = reads-split script i (choices d) (choices e) j w in
      let t = sum-part k l₁ l₂ l h p s in
      enter script r (then a b) m i _ (cost d + (cost e + left)) k (omega arith)
      ∙ ap (λ z. and_then z (λ u. exec x b script u)) (derived d f.0 y.0 script i q.0 (cost e + left) k t.0 q.1 t.1)
      ∙ derived e f.1 y.1 script q.0 j left t.0 h q.2 t.2
  derived (d_leave {r} {a} {b} {m} d) f y script i j left k h w s =
      enter script r (then a b) m i _ (cost d + left) k (omega arith)
      ∙ ap (λ z. and_then z (λ u. exec x b script u)) (derived d f.0 y script i j left k h w s)
  derived (d_select {r} {i = z} {bs} {a} {m} p d) f y script i j left k h w s =
      let u = made m i (cost d + left) k in
      enter script r (select bs) m i _ (cost d + left) k (omega arith)
      ∙ selects script r u p
      ∙ reading-word script r u (λ z u. exec_branch x bs z script r u) w.0 ∙ ap (λ (z : ℤ). exec_branch x bs z script r (heard u)) w.1
      ∙ picks script r (heard u) p ∙ derived d (fit-branch p f.1) y script (i + 1) j left k h w.2 s
  derived (d_case {r} {e} {arms} {a} {z} {m} p t d) f y script i j left k h w s =
      enter script r (case e arms) m i _ (cost d + left) k (omega arith) ∙ valued-is _ r _ _ z p ∙ takes script r i (cost d + left) k t y.0
      ∙ derived d (fit-arm t f) y.1 script i j left k h w s
  derived (d_again {r} {e} {a} {m} p d) f y script i j left k h w s =
      enter script r (while e a) m i _ (cost d + left) k (omega arith) ∙ turns script r e a (made m i (cost d + left) k) f.0 p
      ∙ derived d (f.1, f) y script i j left k h w s
  derived (d_done {r} {e} {a} {m} p) f y script i j left k h w s =
      enter script r (while e a) m i _ left k refl ∙ looping-fails x e (λ u. exec x a script u) r left (made m i left k) p ∙ rests Ends m i j left k h w s
  derived (d_for {r} {v} {low} {high} {a} {m} {s = o} d) f y script i j left k h w s =
      let e = derived d (tt, (f.0, (f.1, tt))) y script i j left k h w s in
      for-expansion x r v low high a script (made m i (cost d + left) k) (omega (arith, for-costs d f.0)) (λ q z _ c.
      goes_on o z (sym (ap (λ (g : Res). g.out) e) ∙ c)) ∙ e
