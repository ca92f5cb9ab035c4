-- What is shown of a run that ends or jumps, and that the runs of actions that hold none are derivations of Figure 2. Assumes nothing.
use Rattle.std.specs.Prelude.{Some}
use mathlib.Core.{Path.◌≡◌, Path.refl, Path.subst, Bool.false, List.List, List.[], List.◌∷◌, List.◌++◌, List.append_assoc, List.append-nil}
use Prim.Native.Nat.{ℕ, ◌+◌, ◌/◌, ◌<◌}
use native.Mathlib.Omega.{arith}
use lib.{IntN.ℤ, ListN.length}
use Rattle.model.specs.declared.{Refusal.Refusal, Gate.Gate, State.State, Tested.TheVariants.Holds, Outcome.TheVariants.Ends, Outcome.TheVariants.Jumps, Outcome.TheVariants.Stops}
use Rattle.model.specs.Bytes.{word_at}
use Rattle.model.specs.Image.{Tables, none}
use Rattle.model.specs.Trees.{Exp, Pat, Offer, emit, receive, Gets, OfType, Action, at, Act, assign, choose, communicate, then, while}
use Rattle.model.specs.Typing.{type_of_pat}
use Rattle.model.specs.Run.{store, eval, test, matched, match, Label, ε, on, spoken, St, Res, gives, stored, charge, and_then, assigning, storing, choosing, offering}
use Rattle.model.specs.Figure2.{Next, onto, ended, OfThe, accept, Accepts, all_run, runs, none_left, one_more, Evals, Chosen, update, getters, choosers, Sum, Does, d_assign, d_choose, d_communicate, d_then, d_leave, d_again, toll, cost, received, choices, ReadsDefined}
use Rattle.model.proofs.Run.{paid, heard, match-rule, charge-rule, reading_of-rule, valued-rule, tested-rule}
use Rattle.demands.proofs.Hoare.{Post, Shown, weaken as weaken-shown, after as after-shown}
use Rattle.demands.proofs.Script.{Reads, reads_both}
use Rattle.demands.proofs.Figure.{made, match-found, emits, sum-none, sum_first, sum-join, toll-none, toll-some}

-- P of a run that ends or jumps, by where it goes next
abbrev moves : (Next → St → Type 0) → Post
moves P = record { ends = P ended; jumps = λ q. P (onto q); stops = λ y s. Unit }

pub record Moves (P : Next → St → Type 0) (q : Res) : Type 0 where
  pub shown : Shown (moves P) q

module _ {P : Next → St → Type 0} {s : St} where
  pub stops : {y : Refusal} → Moves P (gives (Stops y) s)
  stops = record { shown = record { says = tt } }

  pub ends : P ended s → Moves P (gives Ends s)
  ends p = record { shown = record { says = p } }

  pub jumps : {q : State} → P (onto q) s → Moves P (gives (Jumps q) s)
  jumps p = record { shown = record { says = p } }

module _ {P Q : Next → St → Type 0} {q : Res} where
  pub weaken : ((o : Next) (u : St) → P o u → Q o u) → Moves P q → Moves Q q
  weaken f a = record { shown = weaken-shown (record { jumps = λ t. f (onto t); stops = λ y u h. tt }) (f ended) a.shown }

  pub after : (k : St → Res) → ((t : State) (u : St) → P (onto t) u → Q (onto t) u) → ((u : St) → P ended u → Moves Q (k u)) → Moves P q
      → Moves Q (and_then q k)
  after k f g a = record { shown = after-shown k (record { jumps = f; stops = λ y u h. tt }) a.shown (λ u p. (g u p).shown) }

module _ (x : Tables) (script : List ℕ) where
  -- a derivation of an action, from s with these units to u
  pub record Run (a : Action) (s : St) (units : ℕ) (o : Next) (u : St) : Type 0 where
    pub said : Label
    pub does : Does x a s.store said o u.store
    pub sure : ReadsDefined does
    pub sum : Sum s.label said u.label
    pub pays : units ≡ cost does + u.left
    pub words : Reads script s.words (choices does) u.words

  -- ---- actions made of actions
  pub pair : {a b : Action} {s u w : St} {j k : ℕ} {o : Next} (r n : ℕ) → Run a s j ended u → Run b u k o w → n + u.left ≡ toll r + (j + k)
      → Run (at r (then a b)) s n o w
  unfolding cost choices ReadsDefined
  pair {s = s} {u = u} {w = w} r n p q e =
      let l = sum-join s.label p.said u.label q.said w.label p.sum q.sum in
      record {
        said = l.0;
        does = d_then p.does q.does l.1;
        sure = (p.sure, q.sure);
        sum = l.2;
        pays = omega (arith, p.pays, q.pays);
        words = reads_both script s.words (choices p.does) (choices q.does) u.words w.words p.words q.words;
      }

  pub leave : {a : Action} {s u : St} {j : ℕ} {q : State} (b : Action) (r n : ℕ) → Run a s j (onto q) u → n ≡ toll r + j
      → Run (at r (then a b)) s n (onto q) u
  unfolding cost choices ReadsDefined
  leave b r n p e = record { said = p.said; does = d_leave p.does; sure = p.sure; sum = p.sum; pays = omega (arith, p.pays); words = p.words }

  pub again : {e : Exp} {a : Action} {s u : St} {j : ℕ} {o : Next} (r : ℕ) → test x e s.store ≡ Holds
      → Run (at none (then a (at r (while e a)))) s j o u → Run (at r (while e a)) s (toll r + j) o u
  unfolding cost choices ReadsDefined
  again r h p = record { said = p.said; does = d_again h p.does; sure = p.sure; sum = p.sum; pays = omega (arith, p.pays); words = p.words }

  -- with other units, whatever the state has left
  priced : {a : Action} {s u : St} {o : Next} {j : ℕ} (n k : ℕ) → Run a s j o u → j ≡ k → Run a (made s.store s.words n s.label) k o u
  priced n k p e = record { said = p.said; does = p.does; sure = p.sure; sum = p.sum; pays = omega (arith, p.pays); words = p.words }

  pub charged : (r : ℕ) (a : Act) (s : St) (k : St → Res) → ((u : St) → Moves (Run (at r a) u (toll r + u.left)) (k u))
      → Moves (Run (at r a) s s.left) (charge r s k)
  charged r a s k h =
      charge-rule (Moves (Run (at r a) s s.left)) r s k (λ e. weaken (λ o u p. priced s.left s.left p (omega (arith, toll-none r e))) (h s))
      (λ f e. stops) (λ f l. weaken (λ o u p. priced s.left s.left p (omega (arith, toll-some r f))) (h (paid s)))

  -- ---- actions that hold none: what each does to the state
  data Put (is : List Gets) (m : List ℤ) (s : St) : Next → St → Type 0 where
    put : {zs : List ℤ} → Evals x s.store is zs → Put is m s ended (stored (update m (getters is) zs) s)

  one-put : {i : Gets} {is : List Gets} {m : List ℤ} {z : ℤ} {s u : St} {o : Next} → eval x i.e s.store ≡ Some z → Put is (store m i.v z) s o u
      → Put (i ∷ is) m s o u
  unfolding update
  one-put e (put es) = put (one_more e es)

  storing-puts : (is : List Gets) (r : ℕ) (m : List ℤ) (s : St) → Moves (Put is m s) (storing x is r m s)
  unfolding storing update
  storing-puts [] r m s = ends (put none_left)
  storing-puts (i ∷ is) r m s =
      valued-rule (Moves (Put (i ∷ is) m s)) (eval x i.e s.store) r s _
      (λ z e. weaken (λ o u p. one-put e p) (storing-puts is r (store m i.v z) s)) (λ e. stops)

  put-run : {is : List Gets} {s u : St} {o : Next} (q : ℕ) → Put is s.store s o u → Run (at q (assign is)) s (toll q + s.left) o u
  unfolding cost choices ReadsDefined
  put-run {s = s} q (put es) = record { said = ε; does = d_assign es; sure = tt; sum = sum-none s.label; pays = refl; words = refl }

  -- an assignment at row q, its refusals at row r
  pub assigned : (is : List Gets) (q r : ℕ) (s : St) → Moves (Run (at q (assign is)) s (toll q + s.left)) (assigning x is r s)
  assigned is q r s = weaken (λ o u p. put-run q p) (storing-puts is r s.store s)

  pub data Chose (is : List OfType) (e : Exp) (s : St) : Next → St → Type 0 where
    chose : {zs : List ℤ} (j : ℕ) → Chosen x is zs → test x e (update s.store (choosers is) zs) ≡ Holds → Reads script s.words zs j
        → Chose is e s ended (made (update s.store (choosers is) zs) j s.left s.label)

  one-chosen : {i : OfType} {is : List OfType} {e : Exp} {z : ℤ} {s u : St} {o : Next} → OfThe x i.t z → s.words < length script / 4
      → word_at script s.words ≡ z → Chose is e (stored (store s.store i.v z) (heard s)) o u → Chose (i ∷ is) e s o u
  unfolding update
  one-chosen t l w (chose j c h p) = chose j (one_more t c) h (l, w, p)

  pub choosing-chose : (is : List OfType) (e : Exp) (r : ℕ) (s : St) → Moves (Chose is e s) (choosing x is e script r s)
  unfolding choosing update
  choosing-chose [] e r s =
      tested-rule (Moves (Chose [] e s)) (test x e s.store) r s _ _ (λ h. ends (chose s.words none_left h refl))
      (λ h. stops) (λ h. stops)
  choosing-chose (i ∷ is) e r s =
      reading_of-rule (Moves (Chose (i ∷ is) e s)) x i.t script r s _
      (λ l t. weaken (λ o u p. one-chosen t l refl p) (choosing-chose is e r _)) (λ l t. stops) (λ l. stops)

  pub chose-run : {is : List OfType} {e : Exp} {s u : St} {o : Next} (r : ℕ) → Chose is e s o u → Run (at r (choose is e)) s (toll r + s.left) o u
  unfolding cost choices ReadsDefined
  chose-run {s = s} r (chose j c h p) = record { said = ε; does = d_choose c h; sure = tt; sum = sum-none s.label; pays = refl; words = p }

  pub data Spoke (g : Gate) (os : List Offer) (vs : List ℤ) (s : St) : Next → St → Type 0 where
    spoke : {zs n : List ℤ} (j : ℕ) → Accepts x os zs s.store n → Reads script s.words (received os zs) j
        → Spoke g os vs s ended (made n j s.left (on g (vs ++ zs)))

  one-emitted : {g : Gate} {e : Exp} {os : List Offer} {vs : List ℤ} {s u : St} {o : Next} {z : ℤ} → eval x e s.store ≡ Some z
      → Spoke g os (vs ++ (z ∷ [])) s o u → Spoke g (emit e ∷ os) vs s o u
  unfolding received
  one-emitted {e = e} {vs = vs} {s = s} {z = z} h (spoke {zs} j a p) =
      rw (append_assoc vs (z ∷ []) zs) (spoke j (runs tt (emits x e z s.store h) a) p)

  one-received : {g : Gate} {p : Pat} {os : List Offer} {vs m : List ℤ} {s u : St} {o : Next} {z : ℤ} → OfThe x (type_of_pat x p) z
      → s.words < length script / 4 → word_at script s.words ≡ z → match x p z s.store ≡ matched m
      → Spoke g os (vs ++ (z ∷ [])) (stored m (heard s)) o u → Spoke g (receive p ∷ os) vs s o u
  unfolding received accept
  one-received {p = p} {vs = vs} {m = m} {s = s} {z = z} t l w h (spoke {zs} j a q) =
      rw (append_assoc vs (z ∷ []) zs) (spoke j (runs t (match-found x p z s.store m h) a) (l, w, q))

  pub offering-spoke : (g : Gate) (os : List Offer) (vs : List ℤ) (r : ℕ) (s : St) → Moves (Spoke g os vs s) (offering x g os vs script r s)
  unfolding offering received
  offering-spoke g [] vs r s =
      ends (subst (λ (l : List ℤ). Spoke g [] vs s ended (made s.store s.words s.left (on g l))) (append-nil vs) (spoke s.words all_run refl))
  offering-spoke g (emit e ∷ os) vs r s =
      valued-rule (Moves (Spoke g (emit e ∷ os) vs s)) (eval x e s.store) r s _
      (λ z h. weaken (λ o u p. one-emitted h p) (offering-spoke g os _ r s)) (λ h. stops)
  offering-spoke g (receive p ∷ os) vs r s =
      let K = Moves (Spoke g (receive p ∷ os) vs s) in
      reading_of-rule K x (type_of_pat x p) script r s _
      (λ l t. match-rule K (match x p (word_at script s.words) s.store) _ _ _
      (λ m h. weaken (λ o u q. one-received t l refl h q) (offering-spoke g os _ r (stored m (heard s))))
      (λ h. stops) (λ h. stops)) (λ l t. stops) (λ l. stops)

  pub spoke-run : {g : Gate} {os : List Offer} {s u : St} {o : Next} (r : ℕ) → spoken s.label ≡ false → Spoke g os [] s o u
      → Run (at r (communicate g os)) s (toll r + s.left) o u
  unfolding cost choices ReadsDefined
  spoke-run {s = s} r e (spoke j a p) = record { said = on _ _; does = d_communicate a; sure = tt; sum = sum_first s.label _ e; pays = refl; words = p }
