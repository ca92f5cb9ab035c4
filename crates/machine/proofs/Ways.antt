-- The ways of an action's run, of two actions, of a select and of its branches. Assumes nothing.
use mathlib.Core.Logic.{inl, inr}
use mathlib.Core.{Path.◌≡◌, Path.refl, Path.sym, Path.ap, Path.◌∙◌, Path.subst, Bool.Bool, Bool.true, Bool.false, Bool.cond, List.List, List.[], List.◌∷◌}
use Prim.Native.Nat.{ℕ, suc, ◌+◌, ◌-◌, ◌/◌, ◌%◌, ◌≤◌, ◌<◌}
use native.Mathlib.Omega.{arith}
use lib.{IntN.ℤ, IntN.pos, IntN.negsuc, ListN.length, Signed.mag, Signed.lt_z}
use borrow.Author.Tests.{ltb-true}
use types.Run.{OneOf}
use borrow.Enum.Refused.{Among, opened}
use denote.Enum.Declared.{tag_of}
use Rattle.model.specs.contracts.Outcome.{the_type}
use Rattle.model.specs.declared.{Fields.Fields, Gate.Gate, Refusal.TheVariants.Blocked, Refusal.TheVariants.BlockedSpoken, Refusal.TheVariants.BudgetSpent, Refusal.TheVariants.ScriptEnded, Refusal.TheVariants.WordOutOfRange, Outcome.Outcome, Outcome.TheVariants.Ends, Outcome.TheVariants.Stops}
use Rattle.model.specs.Answers.{row, gate}
use Rattle.model.specs.Bytes.{word_at}
use Rattle.model.specs.Image.{Tables, none, tables_of, fields_of}
use Rattle.model.specs.Rows.{ActionRow, is_then, is_select, is_case, is_while, is_for, action, branch, another, an_action, means_at, next_of}
use Rattle.model.specs.Trees.{Action, at, Act, select, case, Branches, no_branch, branch as a_branch}
use Rattle.model.specs.Decode.{expression_at, list_at, branches_of, arms_of, for_of, grow_action, action_at, act_of}
use Rattle.model.specs.Run.{ε, on, St, Res, gives, charge, and_then, reading, blocked_at, blocked, looping, exec, exec_act, exec_branch}
use Rattle.model.proofs.Rows.{Row, row_is, is-kind}
use Rattle.model.proofs.Codes.{next-is}
use Rattle.model.proofs.Decode.{action_at-step, list_at-none, list_at-step}
use Rattle.model.proofs.Run.{charge-spent, charge-some, then-ends, then_rule, reading-word, reading-ended, exec-left}
use Rattle.demands.specs.Stores.{TypedStore}
use Rattle.demands.proofs.Hoare.{Shown, shown-ends}
use Rattle.demands.proofs.Kept.{Kept, kept}
use Rattle.demands.proofs.GoodRows.{good-action}
use Rattle.expressions.proofs.Ways.{all, forms}
use Rattle.actions.specs.declared.{Run.Run, Ran.Ran}
use Rattle.actions.specs.State.{state_of, result_of}
use Rattle.machine.specs.Running.{Running, RunningList}
use Rattle.machine.proofs.Parts.{row_small, first_runs, rest-list, tree-as, is-then, is-select, is-case, is-while, is-for}

abbrev pub ran : Outcome → Run → Ran
ran o run = record { out = o; run = run }

-- what a helper answers
pub answered : {q : Ran} (o : Outcome) (run : Run) (m values : List ℤ) → q ≡ ran o run → result_of q m values ≡ gives o (state_of run m values)
answered o run m values e = ap (λ (p : Ran). result_of p m values) e

pub answered-same : {q : Ran} (o : Outcome) (run : Run) {m n values vs : List ℤ} → q ≡ ran o run → n ≡ m → vs ≡ values
    → result_of q n vs ≡ gives o (state_of run m values)
answered-same o run e f g = answered o run _ _ e ∙ (λ j. gives o (state_of run (f j) (g j)))

blocked-out : (r : ℕ) (g : Gate) (vs : List ℤ) (b : Bool) → cond b (BlockedSpoken (row r)) (Blocked (row r)) ≡ blocked_at r (cond b (on g vs) ε)
unfolding blocked_at
blocked-out r g vs true = refl
blocked-out r g vs false = refl

pub answers-blocked : {q : Ran} (r : ℕ) (run : Run) (m values : List ℤ)
    → q ≡ ran (Stops (cond run.spoken (BlockedSpoken (row r)) (Blocked (row r)))) run → result_of q m values ≡ blocked r (state_of run m values)
answers-blocked r run m values e =
    answered _ run m values e ∙ ap (λ y. gives (Stops y) (state_of run m values)) (blocked-out r (gate run.gate) _ run.spoken)

-- the units left after a charge, after a word
pub paid-left : {p run : Run} → p ≡ record { words = run.words; left = run.left - 1; spoken = run.spoken; gate = run.gate; count = run.count }
    → (run.left ≡ 0 → ⊥) → p.left < run.left
paid-left e f = let l = ap (λ (u : Run). u.left) e in omega arith

pub heard-left : {p : Run} (run : Run) → p ≡ record { words = run.words + 1; left = run.left; spoken = run.spoken; gate = run.gate; count = run.count }
    → p.left ≡ run.left
heard-left run e = ap (λ (u : Run). u.left) e

-- how a run went that didn't end
pub not-ends : (o : Outcome) → Among (1 ∷ 2 ∷ []) (tag_of the_type o) → o ≡ Ends → ⊥
not-ends o k e = go (tag_of the_type o) (ap (tag_of the_type) e) (opened k)
  where
    go : (n : ℕ) → n ≡ 0 → OneOf (1 ∷ 2 ∷ []) n → ⊥
    go n z (inl u) = omega arith
    go n z (inr u) = omega arith

pub then-over : (q : Res) (k : St → Res) → (q.out ≡ Ends → ⊥) → and_then q k ≡ q
then-over q k f = then_rule (λ p. p ≡ q) q k (λ e. absurd (f e)) (λ t e. refl) (λ y e. refl)

-- ---- an action
entered : (x : Tables) (script : List ℕ) (u : St) (r : ℕ) (a : Action) (b : Act) → a ≡ at r b → exec x a script u ≡ charge r u (λ t. exec_act x (act_of a) script r t)
unfolding exec
entered x script u r a b e = rw e refl

module _ {s : List ℕ} {rows : ℕ} {r : ℕ} {m values : List ℤ} (h : Running action s rows r m values) (script : List ℕ) (run : Run) where
  enters : exec (tables_of s) (action_at (tables_of s) r) script (state_of run m values)
      ≡ charge r (state_of run m values) (λ t. exec_act (tables_of s) (act_of (action_at (tables_of s) r)) script r t)
  enters = entered (tables_of s) script (state_of run m values) r (action_at (tables_of s) r) _ (action_at-step (tables_of s) (forms h.ready) r)

  named : r ≡ none → ⊥
  named e = omega (arith, row_small h refl)

  pub spent-way : {q : Ran} → run.left ≡ 0 → q ≡ ran (Stops (BudgetSpent (row r))) run
      → result_of q m values ≡ exec (tables_of s) (action_at (tables_of s) r) script (state_of run m values)
  spent-way z e = answered _ run m values e ∙ sym (enters ∙ charge-spent r (state_of run m values) _ named z)

  module _ (some : run.left ≡ 0 → ⊥) {paid : Run} (p : paid ≡ record { words = run.words; left = run.left - 1; spoken = run.spoken; gate = run.gate; count = run.count }) {q : Res} where
    pub simple-way : q ≡ exec_act (tables_of s) (act_of (action_at (tables_of s) r)) script r (state_of paid m values)
        → q ≡ exec (tables_of s) (action_at (tables_of s) r) script (state_of run m values)
    simple-way e =
        e ∙ ap (λ (u : Run). exec_act (tables_of s) (act_of (action_at (tables_of s) r)) script r (state_of u m values)) p
        ∙ sym (enters ∙ charge-some r (state_of run m values) _ named (omega arith))

    module _ {w : Fields} (f : w ≡ fields_of (tables_of s) r) where
      way_as : (d : ActionRow) → means_at (tables_of s) r ≡ an_action d
          → q ≡ exec_act (tables_of s) (grow_action (tables_of s) (action_at (tables_of s)) w (an_action d)) script r (state_of paid m values)
          → q ≡ exec (tables_of s) (action_at (tables_of s) r) script (state_of run m values)
      way_as d c e = simple-way (e ∙ ap (λ (a : Act). exec_act (tables_of s) a script r (state_of paid m values)) (sym (tree-as h f d c)))

      pub both-way : w.code ≡ 54
          → q ≡ and_then (exec (tables_of s) (action_at (tables_of s) w.a) script (state_of paid m values)) (exec (tables_of s) (action_at (tables_of s) w.b) script)
          → q ≡ exec (tables_of s) (action_at (tables_of s) r) script (state_of run m values)
      unfolding exec grow_action
      both-way c e = way_as is_then (is-then h f c) e

      pub select-way : w.code ≡ 55
          → q ≡ exec_act (tables_of s) (select (branches_of (tables_of s) (action_at (tables_of s)) (list_at (tables_of s) w.a))) script r (state_of paid m values)
          → q ≡ exec (tables_of s) (action_at (tables_of s) r) script (state_of run m values)
      unfolding grow_action
      select-way c e = way_as is_select (is-select h f c) e

      pub case-way : w.code ≡ 56
          → q ≡ exec_act (tables_of s) (case (expression_at (tables_of s) w.a) (arms_of (tables_of s) (action_at (tables_of s)) (list_at (tables_of s) w.b))) script r (state_of paid m values)
          → q ≡ exec (tables_of s) (action_at (tables_of s) r) script (state_of run m values)
      unfolding grow_action
      case-way c e = way_as is_case (is-case h f c) e

      pub while-way : w.code ≡ 59
          → q ≡ looping (suc paid.left) (tables_of s) (expression_at (tables_of s) w.a) (exec (tables_of s) (action_at (tables_of s) w.b) script) r (state_of paid m values)
          → q ≡ exec (tables_of s) (action_at (tables_of s) r) script (state_of run m values)
      unfolding exec grow_action
      while-way c e = way_as is_while (is-while h f c) e

      pub for-way : w.code ≡ 60
          → q ≡ exec_act (tables_of s) (for_of (fields_of (tables_of s) w.a) (action_at (tables_of s) w.b)) script r (state_of paid m values)
          → q ≡ exec (tables_of s) (action_at (tables_of s) r) script (state_of run m values)
      unfolding grow_action
      for-way c e = way_as is_for (is-for h f c) e

  -- what its run leaves
  module _ (q : Ran) (n vs : List ℤ) (e : result_of q n vs ≡ exec (tables_of s) (action_at (tables_of s) r) script (state_of run m values)) where
    pub left-of : q.run.left ≤ run.left
    left-of =
        subst (λ (p : Res). p.st.left ≤ run.left) (sym e)
        (exec-left (tables_of s) (action_at (tables_of s) r) script (state_of run m values))

    pub ends-typed : q.out ≡ Ends → TypedStore (tables_of s) n
    ends-typed o =
        shown-ends {c = Kept (tables_of s)} o
        (subst (Shown (Kept (tables_of s))) (sym e) (kept (tables_of s) (all h.ready) (action_at (tables_of s) r) script (state_of run m values)
        (good-action (tables_of s) (all h.ready) r h.kind) h.ready.store))

-- ---- two actions
pub both_ends : {p f q : Res} (k : St → Res) → p ≡ f → p.out ≡ Ends → q ≡ k p.st → q ≡ and_then f k
both_ends {p} k e o l = l ∙ sym (then-ends p k o) ∙ ap (λ (u : Res). and_then u k) e

pub both-stops : {p f : Res} (k : St → Res) → p ≡ f → (p.out ≡ Ends → ⊥) → p ≡ and_then f k
both-stops {p} k e o = sym (then-over p k o) ∙ ap (λ (u : Res). and_then u k) e

-- ---- a select
module _ (x : Tables) (f : ℕ → Action) (script : List ℕ) (r : ℕ) where
  no-branches : (l : List ℕ) (u : St) → l ≡ [] → exec_act x (select (branches_of x f l)) script r u ≡ blocked r u
  unfolding exec branches_of
  no-branches l u e = rw e refl

  some-branches : (l : List ℕ) (u : St) (j : ℕ) (t : List ℕ) → l ≡ j ∷ t
      → exec_act x (select (branches_of x f l)) script r u ≡ reading script r u (λ z v. exec_branch x (branches_of x f l) z script r v)
  unfolding exec branches_of
  some-branches l u j t e = rw e refl

  negative : (bs : Branches) (z : ℤ) (u : St) → lt_z z (pos 0) ≡ true → exec_branch x bs z script r u ≡ gives (Stops (WordOutOfRange (row r))) u
  unfolding exec
  negative no_branch z u e = refl
  negative (a_branch a bs) (pos n) u e = absurd (omega (arith, ltb-true n 0 e))
  negative (a_branch a bs) (negsuc n) u e = refl

pub positive : (z : ℤ) → lt_z z (pos 0) ≡ false → z ≡ pos (mag z)
positive (pos n) e = refl
positive (negsuc n) e = let k : ◌≡◌ {A = ℕ} 0 1 = cc in absurd (omega arith)

module _ {s : List ℕ} {rows : ℕ} {a : ℕ} {m values : List ℤ} (h : RunningList branch s rows a m values) (script : List ℕ) (r : ℕ) (run : Run) where
  abbrev selected : Res
  selected = exec_act (tables_of s) (select (branches_of (tables_of s) (action_at (tables_of s)) (list_at (tables_of s) a))) script r (state_of run m values)

  pub select-none : {q : Ran} → a ≡ none → q ≡ ran (Stops (cond run.spoken (BlockedSpoken (row r)) (Blocked (row r)))) run → result_of q m values ≡ selected
  select-none z e =
      answers-blocked r run m values e
      ∙ sym (no-branches (tables_of s) (action_at (tables_of s)) script r _ _ (ap (list_at (tables_of s)) z ∙ list_at-none (tables_of s) (forms h.ready)))

  module _ (f : a ≡ none → ⊥) where
    reads : selected ≡ reading script r (state_of run m values) (λ z u. exec_branch (tables_of s) (branches_of (tables_of s) (action_at (tables_of s)) (list_at (tables_of s) a)) z script r u)
    reads = some-branches (tables_of s) (action_at (tables_of s)) script r _ _ a _ (list_at-step (tables_of s) (forms h.ready) a f)

    pub select-ended : {q : Ran} → length script / 4 ≤ run.words → q ≡ ran (Stops (ScriptEnded (row r))) run → result_of q m values ≡ selected
    select-ended l e = answered _ run m values e ∙ sym (reads ∙ reading-ended script r (state_of run m values) _ l)

    module _ (l : run.words < length script / 4) {z : ℤ} (g : z ≡ word_at script run.words) {next : Run}
        (p : next ≡ record { words = run.words + 1; left = run.left; spoken = run.spoken; gate = run.gate; count = run.count }) where
      branches : selected ≡ exec_branch (tables_of s) (branches_of (tables_of s) (action_at (tables_of s)) (list_at (tables_of s) a)) z script r (state_of next m values)
      branches =
          reads ∙ reading-word script r (state_of run m values) _ l
          ∙ (λ j. exec_branch (tables_of s) (branches_of (tables_of s) (action_at (tables_of s)) (list_at (tables_of s) a)) (sym g j) script r (state_of (sym p j) m values))

      pub select-negative : {q : Ran} → lt_z z (pos 0) ≡ true → q ≡ ran (Stops (WordOutOfRange (row r))) next → result_of q m values ≡ selected
      select-negative b e = answered _ next m values e ∙ sym (branches ∙ negative (tables_of s) (action_at (tables_of s)) script r _ z _ b)

      pub select-branch : {q : Res} {n : ℕ} → lt_z z (pos 0) ≡ false → n ≡ mag z
          → q ≡ exec_branch (tables_of s) (branches_of (tables_of s) (action_at (tables_of s)) (list_at (tables_of s) a)) (pos n) script r (state_of next m values) → q ≡ selected
      select-branch b k e =
          e ∙ ap (λ (y : ℤ). exec_branch (tables_of s) (branches_of (tables_of s) (action_at (tables_of s)) (list_at (tables_of s) a)) y script r (state_of next m values))
          (ap pos k ∙ sym (positive z b)) ∙ sym branches

-- the same state, its parts the same
pub state-same : (x : Tables) (a : Action) (script : List ℕ) (run : Run) {m n values vs : List ℤ} → n ≡ m → vs ≡ values
    → exec x a script (state_of run n vs) ≡ exec x a script (state_of run m values)
state-same x a script run e f = λ j. exec x a script (state_of run (e j) (f j))

-- ---- its branches
module _ {s : List ℕ} {rows : ℕ} {a : ℕ} {m values : List ℤ} (h : RunningList branch s rows a m values) (f : a ≡ none → ⊥) {w : Fields} (e : w ≡ fields_of (tables_of s) a) where
  means-branch : means_at (tables_of s) a ≡ another branch
  means-branch = is-kind (tables_of s) branch a (first_runs h f).kind

  next_here : w.b ≡ next_of (tables_of s) a
  next_here = rw e (sym (next-is (tables_of s) a (another branch) means-branch))

  step : branches_of (tables_of s) (action_at (tables_of s)) (list_at (tables_of s) a)
      ≡ a_branch (action_at (tables_of s) w.a) (branches_of (tables_of s) (action_at (tables_of s)) (list_at (tables_of s) w.b))
  unfolding branches_of
  step = rw (list_at-step (tables_of s) (forms h.ready) a f, ← next_here, e)

  pub branch-action : Running action s rows w.a m values
  branch-action =
      let facts : Row (tables_of s) a w (another branch) = rw e (row_is (tables_of s) (forms h.ready) a (another branch) means-branch) in
      record { ready = h.ready; start = h.start; kind = facts.a.kind; room = h.room }

  pub branch-rest : ((w.b + 1) % 65536 < (a + 1) % 65536) × RunningList branch s rows w.b m values
  branch-rest = rest-list h refl f next_here

module _ {s : List ℕ} {rows : ℕ} {a : ℕ} {m values : List ℤ} (h : RunningList branch s rows a m values) (script : List ℕ) (r : ℕ) (u : St) where
  abbrev numbered : ℕ → ℕ → Res
  numbered j n = exec_branch (tables_of s) (branches_of (tables_of s) (action_at (tables_of s)) (list_at (tables_of s) j)) (pos n) script r u

  at_none : (l : List ℕ) (n : ℕ) → l ≡ [] → gives (Stops (WordOutOfRange (row r))) u ≡ exec_branch (tables_of s) (branches_of (tables_of s) (action_at (tables_of s)) l) (pos n) script r u
  unfolding exec branches_of
  at_none l n e = rw e refl

  pub branch-over : (n : ℕ) → a ≡ none → {q : Res} → q ≡ gives (Stops (WordOutOfRange (row r))) u → q ≡ numbered a n
  branch-over n z e = e ∙ at_none _ n (ap (list_at (tables_of s)) z ∙ list_at-none (tables_of s) (forms h.ready))

  module _ (f : a ≡ none → ⊥) {w : Fields} (e : w ≡ fields_of (tables_of s) a) where
    pub branch-first : {n : ℕ} {q : Res} → n ≡ 0 → q ≡ exec (tables_of s) (action_at (tables_of s) w.a) script u → q ≡ numbered a n
    unfolding exec
    branch-first z g = g ∙ sym (rw (step h f e, z) refl)

    pub branch-next : (n : ℕ) → (n ≡ 0 → ⊥) → numbered w.b (n - 1) ≡ numbered a n
    unfolding exec
    branch-next n g =
        sym (rw (step h f e) (ap (λ (k : ℕ). exec_branch (tables_of s) (a_branch (action_at (tables_of s) w.a) (branches_of (tables_of s) (action_at (tables_of s)) (list_at (tables_of s) w.b))) (pos k) script r u) (one_up n g)))
      where
        one_up : (n : ℕ) → (n ≡ 0 → ⊥) → n ≡ suc (n - 1)
        one_up n g = omega arith
