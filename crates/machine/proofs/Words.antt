-- No run reads more than eight words for each unit that it spends: vectors and offers are of eight rows at most, a select reads
-- one word. Assumes nothing.
use mathlib.Core.Logic.{◌⊎◌, inl, inr}
use mathlib.Core.{Path.◌≡◌, Path.refl, Path.sym, Path.subst, Bool.true, List.List, List.[], List.◌∷◌, List.◌++◌}
use Prim.Native.Nat.{ℕ, zero, suc, ◌+◌, ◌-◌, ◌*◌, ◌≤◌, ◌<◌}
use native.Mathlib.Omega.{arith}
use lib.{IntN.ℤ, IntN.pos, IntN.negsuc, ListN.length, ListN.length-map}
use Rattle.model.specs.declared.{Gate.Gate}
use Rattle.model.specs.Bytes.{word_at}
use Rattle.model.specs.Image.{Tables, none, tables_of, fields_of}
use Rattle.model.specs.Rows.{Kind, offer, action, branch, arm, another, ActionRow, is_null, is_assign, is_choose, is_reset, is_communicate, is_to, is_then, is_select, is_case, is_while, is_for, an_action, means_at, is_kind, list_up_to}
use Rattle.model.specs.Trees.{Exp, Offer, emit, receive, Gets, OfType, some_branch, Action, at, Act, null, assign, choose, reset, communicate, to, then, select, case, while, for, Branches, no_branch, branch as a_branch, Arms, no_arm, arm as an_arm}
use Rattle.model.specs.Decode.{list_at, branches_of, arms_of, grow_action, action_at}
use Rattle.model.specs.Typing.{type_of_pat}
use Rattle.model.specs.Run.{store, eval, test, match, spoken, St, Res, stored, charge, and_then, storing, choosing, offering, communicating, looping, to_low, at_most_high, onward, exec, exec_act, exec_branch, exec_arms}
use Rattle.model.proofs.Rows.{Named, Formed, row_is, is-kind}
use Rattle.model.proofs.Codes.{known_in}
use Rattle.model.proofs.Decode.{action_at-is, Listed, no_more, one-row, list_at-none, list_at-listed}
use Rattle.model.proofs.Run.{paid, heard, if-rule, match-rule, charge-rule, then_rule, reading-rule, reading_of-rule, valued-rule, tested-rule, looping-rule, exec-left}
use Rattle.demands.proofs.Whole.{Whole}
use Rattle.demands.proofs.GoodRows.{short-list}
use Rattle.image.proofs.Laid.{laid, rows-count}
use Rattle.expressions.proofs.Ways.{located, all}
use Rattle.actions.specs.declared.{Run.Run, Ran.Ran}
use Rattle.actions.specs.State.{state_of, result_of}
use Rattle.machine.specs.Running.{Running}

-- every action is a row's, and reads eight words at most of its own
unfoldable mutual
  pub Reads : Action → Type 0
  Reads (at r a) = (r < none) × ReadsAct a

  pub ReadsAct : Act → Type 0
  ReadsAct null = Unit
  ReadsAct (assign is) = Unit
  ReadsAct (choose is e) = length is ≤ 8
  ReadsAct (reset vs) = Unit
  ReadsAct (communicate g os) = length os ≤ 8
  ReadsAct (to q) = Unit
  ReadsAct (then a b) = Reads a × Reads b
  ReadsAct (select bs) = ReadsBranches bs
  ReadsAct (case e arms) = ReadsArms arms
  ReadsAct (while e a) = Reads a
  ReadsAct (for v low high a) = Reads a

  pub ReadsBranches : Branches → Type 0
  ReadsBranches no_branch = Unit
  ReadsBranches (a_branch a bs) = Reads a × ReadsBranches bs

  pub ReadsArms : Arms → Type 0
  ReadsArms no_arm = Unit
  ReadsArms (an_arm p a rest) = Reads a × ReadsArms rest

-- ---- the words read and eight for each unit left never grow
abbrev sum : St → ℕ
sum s = s.words + 8 * s.left

module _ (n : ℕ) (x : Tables) (script : List ℕ) where
  abbrev Most : Res → Type 0
  Most q = sum q.st ≤ n

  then-most : (q : Res) (k : St → Res) → Most q → ((u : St) → sum u ≤ n → Most (k u)) → Most (and_then q k)
  then-most q k h l = then_rule Most q k (λ _. l q.st h) (λ _ _. h) (λ _ _. h)

  charge-most : (r : ℕ) (s : St) (k : St → Res) → sum s ≤ n → ((u : St) → sum u ≤ n → Most (k u)) → Most (charge r s k)
  charge-most r s k h l = charge-rule Most r s k (λ _. l s h) (λ _ _. h) (λ _ _. l (paid s) (omega arith))

  storing-most : (items : List Gets) (r : ℕ) (m : List ℤ) (s : St) → sum s ≤ n → Most (storing x items r m s)
  unfolding storing
  storing-most [] r m s h = h
  storing-most (i ∷ items) r m s h = valued-rule Most _ r s _ (λ z _. storing-most items r (store m i.v z) s h) (λ _. h)

  choosing-most : (items : List OfType) (e : Exp) (r : ℕ) (s : St) → sum s + length items ≤ n → Most (choosing x items e script r s)
  unfolding choosing
  choosing-most [] e r s h = tested-rule Most (test x e s.store) r s _ _ (λ _. omega arith) (λ _. omega arith) (λ _. omega arith)
  choosing-most (i ∷ items) e r s h =
      reading_of-rule Most x i.t script r s _ (λ _ _. choosing-most items e r (stored (store s.store i.v (word_at script s.words)) (heard s)) (omega arith))
      (λ _ _. omega arith) (λ _. omega arith)

  offering-most : (g : Gate) (os : List Offer) (vs : List ℤ) (r : ℕ) (s : St) → sum s + length os ≤ n → Most (offering x g os vs script r s)
  unfolding offering
  offering-most g [] vs r s h = omega arith
  offering-most g (emit e ∷ os) vs r s h =
      valued-rule Most (eval x e s.store) r s _ (λ z _. offering-most g os (vs ++ (z ∷ [])) r s (omega arith)) (λ _. omega arith)
  offering-most g (receive p ∷ os) vs r s h =
      reading_of-rule Most x (type_of_pat x p) script r s _ (λ _ _.
      match-rule Most (match x p (word_at script s.words) s.store) _ _ _
      (λ m _. offering-most g os (vs ++ (word_at script s.words ∷ [])) r (stored m (heard s)) (omega arith))
      (λ _. omega arith) (λ _. omega arith)) (λ _ _. omega arith) (λ _. omega arith)

  looping-most : (e : Exp) (body : St → Res) (r : ℕ) → ((u : St) → sum u ≤ n → Most (body u)) → (k : ℕ) (s : St) → sum s ≤ n
      → Most (looping k x e body r s)
  looping-most e body r b =
      looping-rule x e body r (λ u. sum u ≤ n) Most (λ u h. h) (λ k i s h.
      tested-rule Most (test x e s.store) r s _ _ (λ _. then-most (body s) _ (b s h) (λ u l. charge-most r u k l i)) (λ _. h) (λ _. h))

  -- an action pays a unit, so that eight words are free in what it does
  mutual
    unfolding exec communicating Reads

    most : (a : Action) (s : St) → Reads a → sum s ≤ n → Most (exec x a script s)
    most (at r a) s g h =
        let b = g.0 in
        charge-rule Most r s _ (λ e. absurd (omega arith)) (λ _ _. h) (λ _ l. most-act a r (paid s) g.1 (omega arith))

    most-act : (a : Act) (r : ℕ) (s : St) → ReadsAct a → sum s + 8 ≤ n → Most (exec_act x a script r s)
    most-act null r s g h = omega arith
    most-act (assign items) r s g h = storing-most items r s.store s (omega arith)
    most-act (choose items e) r s g h = choosing-most items e r s (omega arith)
    most-act (reset vs) r s g h = omega arith
    most-act (communicate c os) r s g h =
        if-rule Most (spoken s.label) _ _ (λ _. omega arith) (λ _. offering-most c os [] r s (omega arith))
    most-act (to q) r s g h = omega arith
    most-act (then a b) r s g h = then-most _ _ (most a s g.0 (omega arith)) (λ u l. most b u g.1 l)
    most-act (select bs) r s g h =
        if-rule Most (some_branch bs) _ _ (λ _.
        reading-rule Most script r s _ (λ _. most-branch bs (word_at script s.words) r (heard s) g (omega arith)) (λ _. omega arith)) (λ _. omega arith)
    most-act (case e arms) r s g h =
        valued-rule Most (eval x e s.store) r s _ (λ z _. most-arms arms z r s g (omega arith)) (λ _. omega arith)
    most-act (while e a) r s g h = looping-most e _ r (λ u l. most a u g l) (suc s.left) s (omega arith)
    most-act (for v low high a) r s g h =
        then-most _ _ (storing-most (to_low v low) r s.store s (omega arith)) (λ u.
        looping-most (at_most_high v high) _ r (λ t l. then-most _ _ (most a t g l) (λ w. storing-most (onward v) r w.store w)) (suc u.left) u)

    most-branch : (bs : Branches) (z : ℤ) (r : ℕ) (s : St) → ReadsBranches bs → sum s ≤ n → Most (exec_branch x bs z script r s)
    most-branch no_branch z r s g h = h
    most-branch (a_branch a bs) (pos zero) r s g h = most a s g.0 h
    most-branch (a_branch a bs) (pos (suc k)) r s g h = most-branch bs (pos k) r s g.1 h
    most-branch (a_branch a bs) (negsuc k) r s g h = h

    most-arms : (arms : Arms) (z : ℤ) (r : ℕ) (s : St) → ReadsArms arms → sum s ≤ n → Most (exec_arms x arms z script r s)
    most-arms no_arm z r s g h = h
    most-arms (an_arm p a rest) z r s g h =
        match-rule Most (match x p z s.store) _ _ _ (λ m _. most a (stored m s) g.0 h) (λ _. most-arms rest z r s g.1 h) (λ _. h)

pub exec-words : (x : Tables) (a : Action) (script : List ℕ) (s : St) → Reads a
    → (exec x a script s).st.words ≤ s.words + 8 * (s.left - (exec x a script s).st.left)
exec-words x a script s g =
    omega (arith, most (sum s) x script a s g (omega arith), exec-left x a script s)

-- ---- the actions of an image's rows read so
module _ (x : Tables) (w : Whole x) (few : length x.rows < none) where
  ok : Formed x
  ok = w.free.formed

  list-few : (m n : ℕ) (k : Kind) → (n ≡ none) ⊎ (Named x m k n × (length (list_up_to 9 x n) ≤ 8)) → length (list_at x n) ≤ 8
  list-few m n k (inl e) = rw (e, list_at-none x ok) (omega arith)
  list-few m n k (inr p) = short-list x w 8 n p.1

  listed : {m most n : ℕ} {k : Kind} → (n ≡ none) ⊎ (Named x m k n × (length (list_up_to (suc most) x n) ≤ most)) → Listed x ok m k (list_at x n)
  listed {m} {n = n} {k = k} (inl e) = list_at-listed x ok n m k (inl e)
  listed {m} {n = n} {k = k} (inr p) = list_at-listed x ok n m k (inr p.0)

  module _ (r : ℕ) (ih : (i : ℕ) → i < r → is_kind x action i ≡ true → Reads (action_at x i)) where
    reads-branches : (l : List ℕ) → Listed x ok r branch l → ReadsBranches (branches_of x (action_at x) l)
    unfolding Reads branches_of
    reads-branches [] no_more = tt
    reads-branches (i ∷ l) (one-row p q) =
        let a = (row_is x ok i (another branch) (is-kind x branch i p.kind)).a in
        let b = p.below in
        let c = a.below in
        (ih (fields_of x i).a (omega arith) a.kind, reads-branches l q)

    reads-arms : (l : List ℕ) → Listed x ok r arm l → ReadsArms (arms_of x (action_at x) l)
    unfolding Reads arms_of
    reads-arms [] no_more = tt
    reads-arms (i ∷ l) (one-row p q) =
        let a = (row_is x ok i (another arm) (is-kind x arm i p.kind)).b in
        let b = p.below in
        let c = a.below in
        (ih (fields_of x i).b (omega arith) a.kind, reads-arms l q)

    reads-act : (m : ActionRow) → means_at x r ≡ an_action m → ReadsAct (grow_action x (action_at x) (fields_of x r) (an_action m))
    unfolding Reads grow_action
    reads-act is_null e = tt
    reads-act is_assign e = tt
    reads-act is_choose e = rw length-map (short-list x w 8 (fields_of x r).a (row_is x ok r _ e).a.1)
    reads-act is_reset e = tt
    reads-act is_communicate e = rw length-map (list-few r (fields_of x r).b offer (row_is x ok r _ e).b)
    reads-act is_to e = tt
    reads-act is_then e = let q = row_is x ok r _ e in (ih _ q.a.below q.a.kind, ih _ q.b.below q.b.kind)
    reads-act is_select e = reads-branches _ (listed (row_is x ok r _ e).a)
    reads-act is_case e = reads-arms _ (listed (row_is x ok r _ e).b)
    reads-act is_while e = let q = row_is x ok r _ e in ih _ q.b.below q.b.kind
    reads-act is_for e = let q = row_is x ok r _ e in ih _ q.b.below q.b.kind

  reads-by : (n r : ℕ) → r < n → is_kind x action r ≡ true → Reads (action_at x r)
  unfolding Reads
  reads-by zero r h k = absurd (omega arith)
  reads-by (suc n) r h k =
      let m = is-kind x action r k in
      subst Reads (sym (action_at-is x ok r _ m.1))
      (omega (arith, known_in x action r refl k), reads-act r (λ i b j. reads-by n i (omega arith) j) m.0 m.1)

  pub reads-action : (r : ℕ) → is_kind x action r ≡ true → Reads (action_at x r)
  reads-action r k = reads-by (suc r) r (omega arith) k

-- what the run of a row's action has read
pub words_of : {s : List ℕ} {rows : ℕ} {r : ℕ} {m values : List ℤ} → Running action s rows r m values → (script : List ℕ) (run : Run) (q : Ran) (n vs : List ℤ)
    → result_of q n vs ≡ exec (tables_of s) (action_at (tables_of s) r) script (state_of run m values) → q.run.words ≤ run.words + 8 * (run.left - q.run.left)
words_of {s} {r = r} {m = m} {values = values} h script run q n vs e =
    let x = tables_of s in
    let few : length x.rows < none = omega (arith, rows-count (located h.ready), (laid (located h.ready)).rows_most) in
    subst (λ (p : Res). p.st.words ≤ run.words + 8 * (run.left - p.st.left)) (sym e)
    (exec-words x (action_at x r) script (state_of run m values) (reads-action x (all h.ready) few r h.kind))
