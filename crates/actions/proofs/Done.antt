-- An action's row and what its fields name; any's condition. Assumes nothing.
use mathlib.Core.Logic.{◌⊎◌, inl, inr, ⊎_elim}
use mathlib.Core.{Path.◌≡◌, Path.refl, Path.sym, Path.ap, Path.◌∙◌, Path.subst, Bool.Bool, Bool.true, Bool.false, Bool.cond, List.List, List.[], List.◌∷◌, List.map}
use Prim.Native.Nat.{ℕ}
use lib.IntN.{ℤ}
use borrow.Author.Tests.{ne_eqb, eq-eqb}
use Rattle.model.specs.declared.{Image.Image, Fields.Fields, Tested.Tested, Tested.TheVariants.Holds, Tested.TheVariants.Fails, Tested.TheVariants.Unsure, Refusal.Refusal, Refusal.TheVariants.Blocked, Refusal.TheVariants.BlockedSpoken, Refusal.TheVariants.Undefined, Outcome.Outcome, Outcome.TheVariants.Ends, Outcome.TheVariants.Jumps, Outcome.TheVariants.Stops}
use Rattle.model.specs.Answers.{row}
use Rattle.model.specs.Masks.{bit}
use Rattle.model.specs.Values.{half16}
use Rattle.model.specs.Image.{Tables, none, trailer_of, tables_of, size_of}
use Rattle.model.specs.Rows.{Kind, expression, gets, ActionRow, is_assign, is_choose, an_action, codes, lookup, shape_of, means_at, is_kind}
use Rattle.model.specs.Trees.{Exp, OfType, at}
use Rattle.model.specs.Decode.{grow_action, action_at, expression_at, condition_at, always, gets_at, of_types_at}
use Rattle.model.specs.Binding.{bound_act, distinct}
use Rattle.model.specs.Run.{test, eval, store, spoken, St, Res, stored, blocked_at, and_then, assigning, choosing}
use Rattle.model.proofs.Rows.{Named, Row, row_is}
use Rattle.model.proofs.Codes.{means}
use Rattle.model.proofs.Decode.{action_at-is}
use Rattle.model.proofs.Run.{tested-holds, tested-fails, tested-unsure}
use native.Mathlib.Omega.{arith}
use types.Run.{OneOf}
use borrow.Enum.Refused.{Among, opened}
use denote.Enum.Declared.{tag_of}
use Rattle.model.specs.contracts.Outcome.{the_type}
use Rattle.image.proofs.Laid.{half_is}
use Rattle.demands.proofs.All.{All, nil, cons}
use Rattle.demands.proofs.Good.{GoodOfType, Good, GoodAct}
use Rattle.demands.proofs.GoodRows.{good-action}
use Rattle.demands.proofs.Whole.{Whole}
use Rattle.demands.proofs.Hoare.{Shown, word_of, shown-ends}
use Rattle.demands.proofs.Kept.{Kept}
use Rattle.demands.proofs.Typed.{OfType as IsOf, store-typed}
use Rattle.demands.specs.Stores.{TypedStore}
use Rattle.expressions.proofs.Ways.{all, forms}
use Rattle.actions.specs.declared.{Run.Run, Ran.Ran, Word.Word, Word.TheVariants.Read, Word.TheVariants.Ended, Word.TheVariants.OutOfRange}
use Rattle.actions.specs.Doing.{Doing, trying}
use Rattle.actions.specs.Items.{Items, Assigned, assigns}
use Rattle.actions.specs.State.{label_of, state_of, result_of, Silent}
use Rattle.actions.specs.Words.{word_of as judged_word, drawing, Drawn}
use Rattle.actions.proofs.Assigning.{kept-where-false}
use Rattle.actions.proofs.Storing.{by_assigned, assigning-by}
use Rattle.actions.proofs.Reading.{onward, read_as, reading_of-by}

module _ {n : ℕ} {s : List ℕ} {i : Image} {r : ℕ} {w : Fields} {m : List ℤ} (h : Doing n s i r w m) where
  means-as : means_at (tables_of s) r ≡ (shape_of n).means
  means-as = means (tables_of s) r n (ap (λ (f : Fields). f.code) (sym h.fields) ∙ h.code)

  start_is : i.rows ≡ (trailer_of s).rows
  start_is = ap (λ (j : Image). j.rows) h.trailer

  row_as : (d : ActionRow) → means_at (tables_of s) r ≡ an_action d → Row (tables_of s) r w (an_action d)
  row_as d q = rw h.fields (row_is (tables_of s) (forms h.ready) r (an_action d) q)

  pub act-as : (d : ActionRow) → means_at (tables_of s) r ≡ an_action d → action_at (tables_of s) r ≡ at r (grow_action (tables_of s) (action_at (tables_of s)) w (an_action d))
  act-as d q = rw h.fields (action_at-is (tables_of s) (forms h.ready) r (an_action d) q)

  good-as : (d : ActionRow) → means_at (tables_of s) r ≡ an_action d → GoodAct (tables_of s) (grow_action (tables_of s) (action_at (tables_of s)) w (an_action d))
  unfolding Good
  good-as d q = subst (Good (tables_of s)) (act-as d q) (good-action (tables_of s) (all h.ready) r h.kind)

  items_of : {k : Kind} {f : ℕ} → Named (tables_of s) r k f → Items k s i.rows f m
  items_of p = record { ready = h.ready; start = start_is; here = inr p.kind }

-- 49
module _ {s : List ℕ} {i : Image} {r : ℕ} {w : Fields} {m : List ℤ} (h : Doing 49 s i r w m) where
  pub is-assign : means_at (tables_of s) r ≡ an_action is_assign
  unfolding shape_of lookup codes
  is-assign = means-as h

  pub assign-items : Items gets s i.rows w.a m
  assign-items = items_of h (row_as h is_assign is-assign).a.0

  pub assign-apart : distinct (map (λ j. bit j.v.0) (gets_at (tables_of s) w.a)) ≡ true
  unfolding GoodAct grow_action bound_act
  assign-apart = (good-as h is_assign is-assign).0

-- 50
module _ {s : List ℕ} {i : Image} {r : ℕ} {w : Fields} {m : List ℤ} (h : Doing 50 s i r w m) where
  pub is-choose : means_at (tables_of s) r ≡ an_action is_choose
  unfolding shape_of lookup codes
  is-choose = means-as h

  pub choose-items : Drawn s i w.a m
  choose-items = record { items = items_of h (row_as h is_choose is-choose).a.0; trailer = h.trailer }

  choose-types : All (GoodOfType (tables_of s)) (of_types_at (tables_of s) w.a)
  unfolding GoodAct grow_action
  choose-types = (good-as h is_choose is-choose).1

  condition-here : (w.b ≡ none) ⊎ (is_kind (tables_of s) expression w.b ≡ true)
  condition-here = ⊎_elim (λ e. inl e) (λ p. inr p.kind) (row_as h is_choose is-choose).b

-- the store stays typed while any's words are stored
drawing-kept : (x : Tables) → Whole x → (items : List OfType) (script : List ℕ) (r : ℕ) (s : St) → All (GoodOfType x) items → TypedStore x s.store
    → Shown (Kept x) (drawing x items script r s)
unfolding drawing
drawing-kept x w [] script r s nil t = record { says = t }
drawing-kept x w (j ∷ items) script r s (cons g gs) t =
    word_of x j.t script r s _ tt (λ u l. tt)
    (λ z u o l. drawing-kept x w items script r (stored (store u.store j.v z) u) gs
    (store-typed x u.store j.v z g.inside (subst (TypedStore x) (sym l.store) t) (subst (λ (n : ℕ). IsOf x n z) (sym g.typed) o)))

-- R12 in two parts
by_word : (x : Tables) (j : OfType) (items : List OfType) (e : ℕ) (script : List ℕ) (r : ℕ) (s : St) (y : Word)
    → ((u : St) → choosing x items (condition_at x e) script r u ≡ and_then (drawing x items script r u) (trying x e r))
    → read_as y r s (λ z u. choosing x items (condition_at x e) script r (stored (store u.store j.v z) u))
    ≡ and_then (read_as y r s (λ z u. drawing x items script r (stored (store u.store j.v z) u))) (trying x e r)
unfolding and_then
by_word x j items e script r s (Read z) h = h (stored (store s.store j.v z) (onward s))
by_word x j items e script r s Ended h = refl
by_word x j items e script r s OutOfRange h = refl

pub choosing-drawn : (x : Tables) (items : List OfType) (e : ℕ) (script : List ℕ) (r : ℕ) (s : St) → x.half ≡ half16
    → choosing x items (condition_at x e) script r s ≡ and_then (drawing x items script r s) (trying x e r)
unfolding choosing drawing and_then
choosing-drawn x [] e script r s q = refl
choosing-drawn x (j ∷ items) e script r s q =
    let y = judged_word (size_of x j.t) script s.words in
    reading_of-by x j.t script r s _ q
    ∙ by_word x j items e script r s y (λ u. choosing-drawn x items e script r u q)
    ∙ ap (λ (p : Res). and_then p (trying x e r)) (sym (reading_of-by x j.t script r s _ q))

-- any's condition
test-always : (x : Tables) (m : List ℤ) → test x always m ≡ Holds
unfolding test eval
test-always x m = refl

pub try-none : (x : Tables) (c : ℕ) (r : ℕ) (run : Run) (m : List ℤ) → c ≡ none → Silent (record { out = Ends; run = run }) run m m (trying x c r)
unfolding condition_at
try-none x c r run m e =
    record { does = λ values. sym (tested-holds _ r (state_of run m values) _ _ (ap (λ (d : Exp). test x d m) (ap (λ (b : Bool). elim b [ true ↦ always | false ↦ expression_at x c ]) (eq-eqb c none e)) ∙ test-always x m)) }

as-spoken : (run : Run) (values : List ℤ) (b : Bool) → run.spoken ≡ b → spoken (label_of run values) ≡ b
as-spoken run values true e = rw e
as-spoken run values false e = rw e

-- blocked before or after communicating
pub blocked-is : (r : ℕ) (run : Run) (values : List ℤ) → cond run.spoken (BlockedSpoken (row r)) (Blocked (row r)) ≡ blocked_at r (label_of run values)
unfolding blocked_at
blocked-is r run values = ap (λ (b : Bool). cond b (BlockedSpoken (row r)) (Blocked (row r))) (sym (as-spoken run values run.spoken refl))

module _ (x : Tables) (c : ℕ) (r : ℕ) (run : Run) (m : List ℤ) (f : c ≡ none → ⊥) {t : Tested} (q : t ≡ test x (expression_at x c) m) where
  condition-is : test x (condition_at x c) m ≡ t
  unfolding condition_at
  condition-is = ap (λ (d : Exp). test x d m) (ap (λ (b : Bool). elim b [ true ↦ always | false ↦ expression_at x c ]) (ne_eqb c none f)) ∙ sym q

  pub try_holds : t ≡ Holds → Silent (record { out = Ends; run = run }) run m m (trying x c r)
  try_holds k = record { does = λ values. sym (tested-holds _ r (state_of run m values) _ _ (condition-is ∙ k)) }

  pub try-fails : {y : Refusal} → t ≡ Fails → y ≡ cond run.spoken (BlockedSpoken (row r)) (Blocked (row r)) → Silent (record { out = Stops y; run = run }) run m m (trying x c r)
  try-fails {y} k g = record { does = λ values. rw (g ∙ blocked-is r run values) (sym (tested-fails _ r (state_of run m values) _ _ (condition-is ∙ k))) }

  pub try-unsure : t ≡ Unsure → Silent (record { out = Stops (Undefined (row r)); run = run }) run m m (trying x c r)
  try-unsure k = record { does = λ values. sym (tested-unsure _ r (state_of run m values) _ _ (condition-is ∙ k)) }

-- 49: what assign gives
module _ {s : List ℕ} {i : Image} {r : ℕ} {w : Fields} {m : List ℤ} (h : Doing 49 s i r w m) (run : Run) {d : Bool} {n : List ℤ}
    (q : ◌≡◌ {A = Assigned} (record { done = d; store = n }) (assigns (tables_of s) (gets_at (tables_of s) w.a) m)) where
  assign-gives : (u : St) → u.store ≡ m → assigning (tables_of s) (gets_at (tables_of s) w.a) r u ≡ by_assigned (record { done = d; store = n }) r u
  assign-gives u e =
      assigning-by (tables_of s) (gets_at (tables_of s) w.a) r u (assign-apart h)
      ∙ ap (λ (p : Assigned). by_assigned p r u) (ap (assigns (tables_of s) (gets_at (tables_of s) w.a)) e ∙ sym q)

  pub assign-ends : d ≡ true → Silent (record { out = Ends; run = run }) run m n (assigning (tables_of s) (gets_at (tables_of s) w.a) r)
  assign-ends k = record { does = λ values. sym (assign-gives (state_of run m values) refl ∙ rw k) }

  pub assign-fails : d ≡ false → Silent (record { out = Stops (Undefined (row r)); run = run }) run m n (assigning (tables_of s) (gets_at (tables_of s) w.a) r)
  assign-fails k =
      let same = kept-where-false (tables_of s) m (gets_at (tables_of s) w.a) q k in
      record { does = λ values. rw same (sym (assign-gives (state_of run m values) refl ∙ rw k)) }

-- 50: what draw gives
module _ {s : List ℕ} {i : Image} {r : ℕ} {w : Fields} {m n : List ℤ} (h : Doing 50 s i r w m) (script : List ℕ) (run : Run) {p : Ran}
    (d : Silent p run m n (drawing (tables_of s) (of_types_at (tables_of s) w.a) script r)) where
  choose-by : (values : List ℤ) → choosing (tables_of s) (of_types_at (tables_of s) w.a) (condition_at (tables_of s) w.b) script r (state_of run m values)
      ≡ and_then (result_of p n values) (trying (tables_of s) w.b r)
  choose-by values =
      choosing-drawn (tables_of s) (of_types_at (tables_of s) w.a) w.b script r (state_of run m values) (half_is s)
      ∙ ap (λ (q : Res). and_then q (trying (tables_of s) w.b r)) (sym (d.does values))

  pub drawn-typed : p.out ≡ Ends → Items expression s i.rows w.b n
  drawn-typed e =
      let k = drawing-kept (tables_of s) (all h.ready) (of_types_at (tables_of s) w.a) script r (state_of run m []) (choose-types h) h.ready.store in
      let t : TypedStore (tables_of s) n = shown-ends e (subst (Shown (Kept (tables_of s))) (sym (d.does [])) k) in
      record { ready = record { bytes = h.ready.bytes; passed = h.ready.passed; store = t }; start = start_is h; here = condition-here h }

  pub choose-tried : {q : Ran} → p.out ≡ Ends → Silent q p.run n n (trying (tables_of s) w.b r)
      → Silent q run m n (choosing (tables_of s) (of_types_at (tables_of s) w.a) (condition_at (tables_of s) w.b) script r)
  unfolding and_then
  choose-tried e t = record { does = λ values. t.does values ∙ sym (choose-by values ∙ rw e) }

  pub choose-stopped : (p.out ≡ Ends → ⊥) → Silent p run m n (choosing (tables_of s) (of_types_at (tables_of s) w.a) (condition_at (tables_of s) w.b) script r)
  unfolding and_then
  choose-stopped f = record { does = λ values. sym (choose-by values ∙ go p.out refl values) }
    where
      go : (o : Outcome) → p.out ≡ o → (values : List ℤ) → and_then (result_of p n values) (trying (tables_of s) w.b r) ≡ result_of p n values
      go Ends e values = absurd (f e)
      go (Jumps q) e values = rw e
      go (Stops y) e values = rw e

-- an outcome other than the first
pub other-out : {o : Outcome} → Among (1 ∷ 2 ∷ []) (tag_of the_type o) → o ≡ Ends → ⊥
other-out {o} k e = ⊎_elim (λ q. omega arith) (λ q. omega arith) (subst (λ (p : Outcome). OneOf (1 ∷ 2 ∷ []) (tag_of the_type p)) e (opened k))
