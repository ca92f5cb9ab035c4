-- What a simple action's row says, by its code. Assumes nothing.
use mathlib.Core.Logic.{◌⊎◌, inl, inr}
use mathlib.Core.{Path.◌≡◌, Path.refl, Path.sym, Path.ap, Path.◌∙◌, Bool.Bool, Bool.true, Bool.false, List.List}
use Prim.Native.Nat.{ℕ, ◌<◌}
use native.Mathlib.Omega.{arith}
use lib.{IntN.ℤ}
use Rattle.model.specs.declared.{Image.Image, Fields.Fields, Outcome.Outcome, Outcome.TheVariants.Ends, Outcome.TheVariants.Jumps, Outcome.TheVariants.Stops, Refusal.TheVariants.Undefined}
use Rattle.model.specs.Answers.{state, row, gate}
use Rattle.model.specs.Image.{trailer_of, tables_of, fields_of}
use Rattle.model.specs.Rows.{gets, item, action, ActionRow, is_null, is_assign, is_choose, is_reset, is_communicate, is_to, is_then, is_select, is_case, is_while, is_for, an_action, codes, lookup, shape_of, means_at}
use Rattle.model.specs.Decode.{grow_action, action_at, act_of, gets_at, of_types_at, variables_at, offers_at, condition_at}
use Rattle.model.specs.Run.{St, Res, assigning, choosing, resetting, communicating, exec_act}
use Rattle.model.proofs.Rows.{Row, is-kind, row_is}
use Rattle.model.proofs.Codes.{code_of, code-of, means}
use Rattle.model.proofs.Decode.{action_at-is}
use Rattle.expressions.specs.Ready.{Runs}
use Rattle.expressions.proofs.Ways.{forms}
use Rattle.actions.specs.declared.{Run.Run, Ran.Ran}
use Rattle.actions.specs.Doing.{Doing}
use Rattle.actions.specs.Items.{Items, Assigned as Stored, assigns}
use Rattle.actions.specs.State.{state_of, result_of, Silent}
use Rattle.actions.proofs.Done.{assign-items, assign-ends, assign-fails}
use Rattle.told.proofs.Coded.{tells-ends, told-by}
use Rattle.told.specs.Told.{outcome_of, ran_of, Tells}
use Rattle.simple.specs.Simple.{Simple, Worded, Assigning, Assigned}

module _ {s : List ℕ} {rows r : ℕ} {m : List ℤ} (h : Runs action s rows r m) {w : Fields} (e : w ≡ fields_of (tables_of s) r) where
  pub doing : (n : ℕ) → w.code ≡ n → Doing n s (trailer_of s) r w m
  doing n c = record { ready = h.ready; trailer = refl; kind = h.kind; fields = e; code = c }

  means-as : (n : ℕ) → w.code ≡ n → means_at (tables_of s) r ≡ (shape_of n).means
  means-as n c = means (tables_of s) r n (ap (λ (f : Fields). f.code) (sym e) ∙ c)

  act-as : (d : ActionRow) → means_at (tables_of s) r ≡ an_action d → act_of (action_at (tables_of s) r) ≡ grow_action (tables_of s) (action_at (tables_of s)) w (an_action d)
  act-as d q = rw e (ap act_of (action_at-is (tables_of s) (forms h.ready) r (an_action d) q))

  -- 49, 50: silent actions
  assign-is : w.code ≡ 49 → means_at (tables_of s) r ≡ an_action is_assign
  unfolding shape_of lookup codes
  assign-is c = means-as 49 c

  pub assign-way : {q : Ran} {run : Run} {n : List ℤ} (values : List ℤ) (script : List ℕ) → w.code ≡ 49 → Silent q run m n (assigning (tables_of s) (gets_at (tables_of s) w.a) r)
      → result_of q n values ≡ exec_act (tables_of s) (act_of (action_at (tables_of s) r)) script r (state_of run m values)
  unfolding exec_act grow_action
  assign-way values script c d = rw (act-as is_assign (assign-is c)) (d.does values)

  choose-is : w.code ≡ 50 → means_at (tables_of s) r ≡ an_action is_choose
  unfolding shape_of lookup codes
  choose-is c = means-as 50 c

  pub choose-way : {q : Ran} {run : Run} {n : List ℤ} (values : List ℤ) (script : List ℕ) → w.code ≡ 50
      → Silent q run m n (choosing (tables_of s) (of_types_at (tables_of s) w.a) (condition_at (tables_of s) w.b) script r)
      → result_of q n values ≡ exec_act (tables_of s) (act_of (action_at (tables_of s) r)) script r (state_of run m values)
  unfolding exec_act grow_action
  choose-way values script c d = rw (act-as is_choose (choose-is c)) (d.does values)

  -- 51
  reset-is : w.code ≡ 51 → means_at (tables_of s) r ≡ an_action is_reset
  unfolding shape_of lookup codes
  reset-is c = means-as 51 c

  pub reset-items : w.code ≡ 51 → Items item s rows w.a m
  reset-items c =
      let q : Row (tables_of s) r w (an_action is_reset) = rw e (row_is (tables_of s) (forms h.ready) r (an_action is_reset) (reset-is c)) in
      record { ready = h.ready; start = h.start; here = inr q.a.0.kind }

  pub reset-way : (run : Run) {n : List ℤ} (values : List ℤ) (script : List ℕ) → w.code ≡ 51 → n ≡ resetting (tables_of s) (variables_at (tables_of s) w.a) m
      → result_of (record { out = Ends; run = run }) n values ≡ exec_act (tables_of s) (act_of (action_at (tables_of s) r)) script r (state_of run m values)
  unfolding exec_act grow_action
  reset-way run values script c d = rw (act-as is_reset (reset-is c), d)

  -- 52
  communicate-is : w.code ≡ 52 → means_at (tables_of s) r ≡ an_action is_communicate
  unfolding shape_of lookup codes
  communicate-is c = means-as 52 c

  pub communicate-way : {q : Res} (u : St) (script : List ℕ) → w.code ≡ 52 → q ≡ communicating (tables_of s) (gate w.a) (offers_at (tables_of s) w.b) script r u
      → q ≡ exec_act (tables_of s) (act_of (action_at (tables_of s) r)) script r u
  unfolding exec_act grow_action
  communicate-way u script c d = rw (act-as is_communicate (communicate-is c)) d

  -- 53
  to_is : w.code ≡ 53 → means_at (tables_of s) r ≡ an_action is_to
  unfolding shape_of lookup codes
  to_is c = means-as 53 c

  pub to-way : (run : Run) (values : List ℤ) (script : List ℕ) → w.code ≡ 53
      → result_of (record { out = Jumps (state w.a); run = run }) m values ≡ exec_act (tables_of s) (act_of (action_at (tables_of s) r)) script r (state_of run m values)
  unfolding exec_act grow_action
  to-way run values script c = rw (act-as is_to (to_is c))

  -- 48
  null-row : (d : ActionRow) → code_of (an_action d) ≡ w.code → (w.code ≡ 49 → ⊥) → (w.code ≡ 50 → ⊥) → (w.code ≡ 51 → ⊥) → (w.code ≡ 52 → ⊥) → (w.code ≡ 53 → ⊥)
      → w.code < 54 → d ≡ is_null
  null-row is_null c f g k l n b = refl
  null-row is_assign c f g k l n b = absurd (f (sym c))
  null-row is_choose c f g k l n b = absurd (g (sym c))
  null-row is_reset c f g k l n b = absurd (k (sym c))
  null-row is_communicate c f g k l n b = absurd (l (sym c))
  null-row is_to c f g k l n b = absurd (n (sym c))
  null-row is_then c f g k l n b = absurd (omega arith)
  null-row is_select c f g k l n b = absurd (omega arith)
  null-row is_case c f g k l n b = absurd (omega arith)
  null-row is_while c f g k l n b = absurd (omega arith)
  null-row is_for c f g k l n b = absurd (omega arith)

  pub null-way : (run : Run) (values : List ℤ) (script : List ℕ) → w.code < 54 → (w.code ≡ 49 → ⊥) → (w.code ≡ 50 → ⊥) → (w.code ≡ 51 → ⊥) → (w.code ≡ 52 → ⊥) → (w.code ≡ 53 → ⊥)
      → result_of (record { out = Ends; run = run }) m values ≡ exec_act (tables_of s) (act_of (action_at (tables_of s) r)) script r (state_of run m values)
  unfolding exec_act grow_action
  null-way run values script b f g k l n =
      let d = is-kind (tables_of s) action r h.kind in
      let c : code_of (an_action d.0) ≡ w.code =
      ap code_of (sym d.1) ∙ code-of (tables_of s) action r refl h.kind ∙ ap (λ (y : Fields). y.code) (sym e) in
      rw (act-as is_null (d.1 ∙ ap an_action (null-row d.0 c f g k l n b)))

-- ---- a row's requirements
pub simple-runs : {s : List ℕ} {rows r : ℕ} {m values : List ℤ} → Simple s rows r m values → Runs action s rows r m
simple-runs h = record { ready = h.ready; start = h.start; kind = h.kind }

pub worded-runs : {s : List ℕ} {i : Image} {r : ℕ} {m values : List ℤ} → Worded s i r m values → Runs action s i.rows r m
worded-runs h = record { ready = h.ready; start = ap (λ (j : Image). j.rows) h.trailer; kind = h.kind }

pub assign-doing : {s : List ℕ} {rows r f : ℕ} {m : List ℤ} → Assigning s rows r f m → Doing 49 s (trailer_of s) r (fields_of (tables_of s) r) m
assign-doing h = record { ready = h.ready; trailer = refl; kind = h.kind; fields = refl; code = h.code }

pub to-worded : {s : List ℕ} {rows r : ℕ} {m values : List ℤ} → Simple s rows r m values → ((fields_of (tables_of s) r).code ≡ 50) ⊎ ((fields_of (tables_of s) r).code ≡ 52) → Worded s (trailer_of s) r m values
to-worded h c = record { ready = h.ready; trailer = refl; kind = h.kind; code = c; room = h.room }

module _ {s : List ℕ} {rows r : ℕ} {m values : List ℤ} (h : Simple s rows r m values) {w : Fields} (e : w ≡ fields_of (tables_of s) r) where
  pub to-assigning : w.code ≡ 49 → Assigning s rows r w.a m
  to-assigning c = record {
    ready = h.ready;
    start = h.start;
    kind = h.kind;
    code = ap (λ (y : Fields). y.code) (sym e) ∙ c;
    first = ap (λ (y : Fields). y.a) e;
  }

  pub code_below : w.code < 54
  code_below = rw e h.code

-- a communication, where it is no any
pub is-communicate : {s : List ℕ} {i : Image} {r : ℕ} {m values : List ℤ} → Worded s i r m values → {w : Fields} → w ≡ fields_of (tables_of s) r → (w.code ≡ 50 → ⊥) → w.code ≡ 52
is-communicate {s} {r = r} h {w} e f = ap (λ (y : Fields). y.code) e ∙ go h.code
  where
    go : ((fields_of (tables_of s) r).code ≡ 50) ⊎ ((fields_of (tables_of s) r).code ≡ 52) → (fields_of (tables_of s) r).code ≡ 52
    go (inl c) = absurd (f (ap (λ (y : Fields). y.code) e ∙ c))
    go (inr c) = c

-- ---- what is left in the slices
assigned-as : (n : ℕ) {m j : List ℤ} {f : St → Res} {o : Outcome} → Tells n o → ((run : Run) → Silent (record { out = o; run = run }) run m j f) → Assigned n m j f
assigned-as n {j = j} e d = record {
  told = told-by e;
  does = λ run. record { does = λ values. ap (λ (u : Outcome). result_of (record { out = u; run = run }) j values) e.outcome ∙ (d run).does values };
}

pub result_as : (n : ℕ) {o : Outcome} (run : Run) (j v : List ℤ) {q : Res} → outcome_of n ≡ o → result_of (record { out = o; run = run }) j v ≡ q → result_of (ran_of n run) j v ≡ q
result_as n run j v e d = ap (λ (u : Outcome). result_of (record { out = u; run = run }) j v) e ∙ d

-- its outcome told
pub worded-told : (s : List ℕ) (r : ℕ) (script : List ℕ) (q : Ran) (n : ℕ) (run : Run) (m j v u : List ℤ) → outcome_of n ≡ q.out
    → result_of q j u ≡ exec_act (tables_of s) (act_of (action_at (tables_of s) r)) script r (state_of run m v)
    → result_of (ran_of n q.run) j u ≡ exec_act (tables_of s) (act_of (action_at (tables_of s) r)) script r (state_of run m v)
worded-told s r script q n run m j v u e h =
    ap (λ (o : Outcome). result_of (record { out = o; run = q.run }) j u) e ∙ h

-- ---- 49
module _ {s : List ℕ} {rows r f : ℕ} {m : List ℤ} (h : Assigning s rows r f m) where
  pub items_at : Items gets s rows f m
  items_at = rw (h.first, h.start) (assign-items (assign-doing h))

  module _ {d : Bool} {j : List ℤ} (q : ◌≡◌ {A = Stored} (record { done = d; store = j }) (assigns (tables_of s) (gets_at (tables_of s) f) m)) where
    from_row : ◌≡◌ {A = Stored} (record { done = d; store = j }) (assigns (tables_of s) (gets_at (tables_of s) (fields_of (tables_of s) r).a) m)
    from_row = rw h.first at q

    pub assigned-ends : d ≡ true → Assigned 0 m j (assigning (tables_of s) (gets_at (tables_of s) f) r)
    assigned-ends k = rw h.first (assigned-as 0 tells-ends (λ run. assign-ends (assign-doing h) run from_row k))

    pub assigned-fails : {n : ℕ} → d ≡ false → Tells n (Stops (Undefined (row r))) → Assigned n m j (assigning (tables_of s) (gets_at (tables_of s) f) r)
    assigned-fails {n} k e = rw h.first (assigned-as n e (λ run. assign-fails (assign-doing h) run from_row k))
