-- The run of a well-spoken action never communicates twice and, once it has communicated, is never blocked. Assumes nothing.
use mathlib.Core.{Path.◌≡◌, Path.refl, Path.sym, Path.ap, Path.◌∙◌, Path.subst}
use mathlib.Core.{Bool.Bool, Bool.true, Bool.false, Bool.not, Bool.cond, Bool.◌&&◌, Bool.◌||◌, Bool.false≢true, List.List, List.[], List.◌∷◌, List.◌++◌}
use Prim.Native.Nat.{ℕ, zero, suc, ◌≤◌}
use native.Mathlib.Omega.{arith}
use lib.{Dec.eqb, Dec.ltb, IntN.ℤ, IntN.pos, IntN.negsuc}
use borrow.Author.Tests.{ltb-true, not-true}
use Rattle.model.specs.declared.{Gate.Gate, Tested.TheVariants.Fails, Outcome.Outcome, Outcome.TheVariants.Ends, Outcome.TheVariants.Jumps, Outcome.TheVariants.Stops}
use Rattle.model.specs.Answers.{number}
use Rattle.model.specs.Image.{Tables, bool}
use Rattle.model.specs.Trees.{Exp, var, const, unary, binary, Offer, emit, receive, Gets, OfType as OfTypeItem, some_branch, Action, at, Act, null, assign, choose, reset, communicate, to, then, select, case, while, for, Branches, no_branch, branch, Arms, no_arm, arm}
use Rattle.model.specs.Typing.{type_of_exp, type_of_pat}
use Rattle.model.specs.Speech.{Ways, ends_as, either, is_always, some_catches_all, some_catches, exhaustive, speech, speech_act, speech_branches, speech_arms, well_spoken}
use Rattle.model.specs.Run.{store, eval, test, match, Label, ε, on, spoken, St, Res, gives, stored, blocked_at, blocked, and_then, storing, assigning, choosing, offering, communicating, to_low, at_most_high, onward, exec, exec_act, exec_branch, exec_arms}
use Rattle.model.proofs.Rows.{both_true, and-false}
use Rattle.model.proofs.Run.{if-rule, match-rule}
use Rattle.demands.proofs.All.{All, nil, cons}
use Rattle.demands.proofs.Whole.{Whole}
use Rattle.demands.proofs.Good.{GoodGets, Good, GoodAct, GoodBranches, GoodArms}
use Rattle.demands.proofs.Hoare.{Post, Shown, Within, same_post, Like, after, weaken, charged, word, word_of, value, test_of, loops}
use Rattle.demands.specs.Stores.{TypedStore}
use Rattle.demands.proofs.Typed.{OfType, store-typed, eval-typed, match-typed}
use Rattle.demands.proofs.Kept.{Kept, low-good, onward-good, kept}
use Rattle.demands.proofs.Caught.{caught, exhaustive-caught, rest-caught}
use Rattle.demands.proofs.Ways.{Lets, either_left, either-right, then-lets, while-body, for-body, for-ends, ends_as_lem, in-mode, quiet-unless, unless-then}

-- a stop with number n is 21 to 25, and above 21 after communicating
pub record Stopped (n : ℕ) (m : Bool) : Type 0 where
  pub low : 21 ≤ n
  pub high : n ≤ 25
  pub said : m ≡ true → 22 ≤ n

-- what holds of every run: a jump's store is typed, a stop is one of those
abbrev pub Ending : Tables → (St → Type 0) → Post
Ending x E = record { ends = E; jumps = λ q u. TypedStore x u.store; stops = λ y u. Stopped (number y) (spoken u.label) }

-- typed at the end, and quiet or spoken there only where the ways let it
abbrev pub Heard : Tables → Ways → Post
Heard x w =
    Ending x
    (λ u. TypedStore x u.store × (spoken u.label ≡ false → w.quiet ≡ true) × (spoken u.label ≡ true → w.spoken ≡ true))

within : {x : Tables} {E F : St → Type 0} → Within (Ending x E) (Ending x F)
within = record { jumps = λ q u h. h; stops = λ y u h. h }

fine : {m : Bool} (n : ℕ) → (ltb 21 n && ltb n 26) ≡ true → Stopped n m
fine n e =
    let p = both_true (ltb 21 n) _ e in
    let a = ltb-true 21 n p.0 in
    record { low = omega arith; high = omega (arith, ltb-true n 26); said = λ d. a }

-- the constant true doesn't fail
fails-not-always : (x : Tables) (e : Exp) (m : List ℤ) → test x e m ≡ Fails → is_always e ≡ false
unfolding test eval
fails-not-always x (var v) m q = refl
fails-not-always x (const t (pos zero)) m q = and-false (eqb t bool)
fails-not-always x (const t (pos (suc n))) m q = cc
fails-not-always x (const t (negsuc n)) m q = cc
fails-not-always x (unary o e) m q = refl
fails-not-always x (binary o d e) m q = refl

module _ (x : Tables) (w : Whole x) where
  -- entered in mode m, it ends only as quiet and spoke let it
  abbrev Speaks : Bool → Bool → Bool → Post
  Speaks m quiet spoke = Ending x (λ u. Lets m quiet spoke (spoken u.label))

  abbrev SpeaksBy : Bool → Ways → Post
  SpeaksBy m v = Speaks m v.quiet v.spoken

  -- entered in mode m, and so kept by a loop
  record Enters (m : Bool) (s : St) : Type 0 where
    mode : spoken s.label ≡ m
    typed : TypedStore x s.store

  abbrev Turns : Bool → Post
  Turns m = Ending x (Enters m)

  like : {m : Bool} (s u : St) → Like s u → Enters m s → Enters m u
  like s u l e = record { mode = ap spoken l.label ∙ e.mode; typed = subst (TypedStore x) (sym l.store) e.typed }

  typed_at : {E : St → Type 0} (o : Outcome) (u : St) → Shown (Kept x) (gives o u) → Shown (Ending x E) (gives o u)
      → Shown (Ending x (λ v. TypedStore x v.store × E v)) (gives o u)
  typed_at Ends u k h = record { says = (k.says, h.says) }
  typed_at (Jumps y) u k h = record { says = h.says }
  typed_at (Stops y) u k h = record { says = h.says }

  -- typed at the end too
  typed-too : {E : St → Type 0} {p : Res} → Shown (Kept x) p → Shown (Ending x E) p → Shown (Ending x (λ v. TypedStore x v.store × E v)) p
  typed-too {p = p} k h = typed_at p.out p.st k h

  module _ {m q s : Bool} where
    stuck : (r : ℕ) (u : St) → spoken u.label ≡ false → Shown (Speaks m q s) (blocked r u)
    unfolding blocked_at
    stuck r u e = record { says = go u.label e }
      where
        go : (l : Label) → spoken l ≡ false → Stopped (number (blocked_at r l)) (spoken l)
        go ε d = record { low = omega arith; high = omega arith; said = λ h. absurd (false≢true h) }
        go (on g vs) d = absurd (false≢true (sym d))

    turned : {p : Res} → (m ≡ false → s ≡ false) → Shown (Kept x) p → Shown (Speaks m q s) p → Shown (Turns m) p
    turned f k h = weaken within (λ u d. record { mode = in-mode m (spoken u.label) f d.1; typed = d.0 }) (typed-too k h)

    turns-end : {p : Res} → cond m s q ≡ true → Shown (Turns m) p → Shown (Speaks m q s) p
    turns-end h k = weaken within (λ u e. record { so = rw e.mode h; on = λ i. e.mode ∙ i }) k

  eased : {m n q s q' s' : Bool} {p : Res} → ((b : Bool) → cond b s q ≡ true → cond b s' q' ≡ true) → (m ≡ true → n ≡ true)
      → Shown (Speaks n q s) p → Shown (Speaks m q' s') p
  eased l f h = weaken within (λ u d. record { so = l (spoken u.label) d.so; on = λ i. d.on (f i) }) h

  ended : {m : Bool} (u : St) → spoken u.label ≡ m → Shown (SpeaksBy m (ends_as m)) (gives Ends u)
  ended {m} u e = record { says = record { so = rw e (ends_as_lem m); on = λ d. e ∙ d } }

  storing-turns : {m : Bool} (is : List Gets) (r : ℕ) (k : List ℤ) (s : St) → All (GoodGets x) is → Enters m s → TypedStore x k
      → Shown (Turns m) (storing x is r k s)
  unfolding storing
  storing-turns [] r k s nil e t = record { says = record { mode = e.mode; typed = t } }
  storing-turns (i ∷ is) r k s (cons g gs) e t =
      value (eval x i.e s.store) r s _ (λ q. fine 22 refl)
      (λ z q. storing-turns is r (store k i.v z) s gs e
      (store-typed x k i.v z g.inside t (subst (λ (n : ℕ). OfType x n z) g.typed (eval-typed x w i.e s.store z g.good e.typed q))))

  choosing-speaks : (m : Bool) (is : List OfTypeItem) (e : Exp) (script : List ℕ) (r : ℕ) (s : St) → spoken s.label ≡ m → (not m || is_always e) ≡ true
      → Shown (SpeaksBy m (ends_as m)) (choosing x is e script r s)
  unfolding choosing
  choosing-speaks m [] e script r s d h =
      test_of (test x e s.store) r s _ _ (λ q. fine 22 refl) (λ q. ended s d)
      (λ q. stuck r s (d ∙ quiet-unless m (is_always e) h (fails-not-always x e s.store q)))
  choosing-speaks m (i ∷ is) e script r s d h =
      word_of x i.t script r s _ (fine 23 refl) (λ u l. fine 24 refl)
      (λ z u o l. choosing-speaks m is e script r (stored (store u.store i.v z) u) (ap spoken l.label ∙ d) h)

  offering-speaks : {m : Bool} (g : Gate) (os : List Offer) (vs : List ℤ) (script : List ℕ) (r : ℕ) (s : St) → spoken s.label ≡ false
      → Shown (SpeaksBy m (ends_as true)) (offering x g os vs script r s)
  unfolding offering
  offering-speaks g [] vs script r s d = record { says = record { so = refl; on = λ e. refl } }
  offering-speaks g (emit e ∷ os) vs script r s d =
      value (eval x e s.store) r s _ (λ q. fine 22 refl) (λ z q. offering-speaks g os (vs ++ (z ∷ [])) script r s d)
  offering-speaks {m} g (receive p ∷ os) vs script r s d =
      word_of x (type_of_pat x p) script r s _ (fine 23 refl) (λ u l. fine 24 refl)
      (λ z u o l. let d' = ap spoken l.label ∙ d in
      match-rule (Shown (SpeaksBy m (ends_as true))) (match x p z u.store) _ _ _
      (λ k q. offering-speaks g os (vs ++ (z ∷ [])) script r (stored k u) d') (λ q. stuck r u d')
      (λ q. record { says = fine 22 refl }))

  communicating-speaks : {m : Bool} (g : Gate) (os : List Offer) (script : List ℕ) (r : ℕ) (s : St) → spoken s.label ≡ false
      → Shown (SpeaksBy m (ends_as true)) (communicating x g os script r s)
  unfolding communicating
  communicating-speaks {m} g os script r s d =
      if-rule (Shown (SpeaksBy m (ends_as true))) (spoken s.label) _ _ (λ e. absurd (false≢true (sym d ∙ e)))
      (λ e. offering-speaks g os [] script r s d)

  mutual
    unfolding exec speech Good some_catches_all some_catches

    speaks : (a : Action) (m : Bool) (script : List ℕ) (s : St) → Good x a → (speech x m a).right ≡ true → Enters m s
        → Shown (SpeaksBy m (speech x m a)) (exec x a script s)
    speaks (at r a) m script s g h e = charged r s _ (fine 25 refl) (λ u l. speaks-act a m script r u g h (like s u l e))

    speaks-act : (a : Act) (m : Bool) (script : List ℕ) (r : ℕ) (s : St) → GoodAct x a → (speech_act x m a).right ≡ true → Enters m s
        → Shown (SpeaksBy m (speech_act x m a)) (exec_act x a script r s)
    speaks-act null m script r s g h e = ended s e.mode
    speaks-act (assign is) m script r s g h e = turns-end (ends_as_lem m) (storing-turns is r s.store s g.1 e e.typed)
    speaks-act (choose is c) m script r s g h e = choosing-speaks m is c script r s e.mode (both_true (not m || is_always c) _ h).0
    speaks-act (reset vs) m script r s g h e = ended _ e.mode
    speaks-act (communicate c os) m script r s g h e = communicating-speaks c os script r s (e.mode ∙ not-true m (both_true (not m) true h).0)
    speaks-act (to q) m script r s g h e = record { says = e.typed }
    speaks-act (then a b) m script r s g h e =
        let v = speech x m a in
        let p = both_true v.right _ h in
        after (λ u. exec x b script u) within
        (typed-too (kept x w a script s g.0 e.typed) (speaks a m script s g.0 p.0 e))
        (λ u k. let q = then-lets v.quiet v.spoken (λ n. speech x n b) (spoken u.label) k.1.so p.1 in
        eased q.1 k.1.on
        (speaks b (spoken u.label) script u g.1 q.0 (record { mode = refl; typed = k.0 })))
    speaks-act (select bs) m script r s g h e =
        let p = both_true (not m || some_branch bs) _ h in
        if-rule (Shown (SpeaksBy m (speech_branches x m bs))) (some_branch bs) _ _
        (λ d. word script r s _ (fine 23 refl) (λ z u l. speaks-branch bs m z script r u g.1 p.1 (like s u l e)))
        (λ d. stuck r s (e.mode ∙ quiet-unless m (some_branch bs) p.0 d))
    speaks-act (case c arms) m script r s g h e =
        let p = both_true (not m || exhaustive x (type_of_exp x c) arms) _ h in
        value (eval x c s.store) r s _ (λ q. fine 22 refl)
        (λ z q. let o = eval-typed x w c s.store z g.0 e.typed q in
        speaks-arms arms m (type_of_exp x c) z script r s g.1 o
        (unless-then m (exhaustive-caught x w c arms z g.0 o) p.0) p.1 e)
    speaks-act (while c a) true script r s g h e = absurd (false≢true h)
    speaks-act (while c a) false script r s g h e =
        let p = while-body (speech x false a) h in
        turns-end refl (loops (suc s.left) x c (λ u. exec x a script u) r (λ u k. fine 25 refl)
        (λ u k q. fine 22 refl)
        (λ u k q. turned (λ d. p.1) (kept x w a script u g.2 k.typed) (speaks a false script u g.2 p.0 k)) like s e)
    speaks-act (for v low high a) m script r s g h e =
        let p = for-body m (λ n. speech x n a) h in
        turns-end (for-ends m (speech x false a) (speech x true a))
        (after _ same_post
        (storing-turns (to_low v low) r s.store s (low-good x w v low g.1 g.2 g.3) e e.typed)
        (λ u k. loops (suc u.left) x (at_most_high v high) (λ y. and_then (exec x a script y) (assigning x (onward v) r)) r
        (λ y j. fine 25 refl) (λ y j q. fine 22 refl)
        (λ y j q. after (assigning x (onward v) r) same_post
        (turned p.1 (kept x w a script y g.5 j.typed) (speaks a m script y g.5 p.0 j))
        (λ z i. storing-turns (onward v) r z.store z (onward-good x w v g.1 g.2) i i.typed))
        like u k))

    speaks-branch : (bs : Branches) (m : Bool) (z : ℤ) (script : List ℕ) (r : ℕ) (s : St) → GoodBranches x bs → (speech_branches x m bs).right ≡ true
        → Enters m s → Shown (SpeaksBy m (speech_branches x m bs)) (exec_branch x bs z script r s)
    speaks-branch no_branch m z script r s g h e = record { says = fine 24 refl }
    speaks-branch (branch a bs) m z script r s g h e =
        let p = both_true (speech x m a).right _ h in
        elim z as (λ k. Shown (SpeaksBy m (speech_branches x m (branch a bs))) (exec_branch x (branch a bs) k script r s)) [
          | pos n ↦ elim n as (λ k. Shown (SpeaksBy m (speech_branches x m (branch a bs))) (exec_branch x (branch a bs) (pos k) script r s)) [
            | zero ↦ eased (either_left (speech x m a) (speech_branches x m bs)) (λ d. d) (speaks a m script s g.0 p.0 e)
            | suc k ↦
                eased (either-right (speech x m a) (speech_branches x m bs)) (λ d. d)
                (speaks-branch bs m (pos k) script r s g.1 p.1 e)
          ]
          | negsuc n ↦ record { says = fine 24 refl }
        ]

    -- some arm catches the value, where it is entered spoken
    speaks-arms : (arms : Arms) (m : Bool) (n : ℕ) (z : ℤ) (script : List ℕ) (r : ℕ) (s : St) → GoodArms x n arms → OfType x n z
        → (not m || caught z arms) ≡ true → (speech_arms x m arms).right ≡ true → Enters m s
        → Shown (SpeaksBy m (speech_arms x m arms)) (exec_arms x arms z script r s)
    speaks-arms no_arm m n z script r s g o c h e = stuck r s (e.mode ∙ quiet-unless m false c refl)
    speaks-arms (arm p a rest) m n z script r s g o c h e =
        let v = speech x m a in
        let t = speech_arms x m rest in
        let d = both_true v.right _ h in
        match-rule (Shown (SpeaksBy m (either v t))) (match x p z s.store) _ _ _
        (λ k q. eased (either_left v t) (λ i. i)
        (speaks a m script (stored k s) g.2 d.0
        (record { mode = e.mode; typed = match-typed x w p z s.store k g.1 (subst (λ (l : ℕ). OfType x l z) (sym g.0) o) e.typed q })))
        (λ q. eased (either-right v t) (λ i. i)
        (speaks-arms rest m n z script r s g.3 o (unless-then m (rest-caught x p a rest z s.store q) c) d.1 e))
        (λ q. record { says = fine 22 refl })

  -- entered in a mode in which nothing is wrong
  pub heard : (a : Action) (m : Bool) (script : List ℕ) (s : St) → Good x a → (speech x m a).right ≡ true → spoken s.label ≡ m
      → TypedStore x s.store → Shown (Heard x (speech x m a)) (exec x a script s)
  heard a m script s g h e t =
      weaken within (λ u d. (d.0, λ i. rw i at d.1.so, λ i. rw i at d.1.so))
      (typed-too (kept x w a script s g t) (speaks a m script s g h (record { mode = e; typed = t })))

  -- a state's action, entered quiet, doesn't end spoken
  pub well-heard : (a : Action) (script : List ℕ) (s : St) → Good x a → well_spoken x a ≡ true → spoken s.label ≡ false → TypedStore x s.store
      → Shown (Ending x (λ u. TypedStore x u.store × (spoken u.label ≡ false))) (exec x a script s)
  unfolding well_spoken
  well-heard a script s g h e t =
      let p = both_true (speech x false a).right _ h in
      weaken within (λ u d. (d.typed, d.mode))
      (turned (λ i. not-true (speech x false a).spoken p.1) (kept x w a script s g t) (speaks a false script s g p.0 (record { mode = e; typed = t })))
