-- The ways of a case, and of its arms by what the search for one gives. Assumes nothing.
use Rattle.std.specs.Prelude.{Option, Some, None}
use mathlib.Core.{Path.◌≡◌, Path.refl, Path.sym, Path.ap, Path.◌∙◌, Path.subst, Bool.cond, List.List}
use Prim.Native.Nat.{ℕ, ◌<◌}
use native.Mathlib.Omega.{arith}
use lib.IntN.{ℤ}
use Rattle.model.specs.declared.{Refusal.TheVariants.Blocked, Refusal.TheVariants.BlockedSpoken, Refusal.TheVariants.Undefined, Outcome.TheVariants.Stops}
use Rattle.model.specs.Answers.{row}
use Rattle.model.specs.Image.{tables_of}
use Rattle.model.specs.Rows.{action}
use Rattle.model.specs.Trees.{case}
use Rattle.model.specs.Decode.{expression_at, list_at, arms_of, action_at}
use Rattle.model.specs.Run.{Res, eval, exec, exec_act, exec_arms}
use Rattle.model.proofs.Run.{valued-is, valued-unknown}
use Rattle.values.proofs.Held.{held, held-is}
use Rattle.demands.proofs.GoodRows.{good-exp}
use Rattle.demands.proofs.Typed.{eval-typed}
use Rattle.expressions.specs.Ready.{Runs}
use Rattle.expressions.proofs.Ways.{all, local-is, value-small}
use Rattle.patterns.specs.declared.{Found.Found, Found.TheVariants.Arm, Found.TheVariants.NoArm, Found.TheVariants.Unsure}
use Rattle.patterns.specs.Finding.{Finds, finding, find_arm}
use Rattle.patterns.proofs.Cases.{exec-arm, exec-none, exec-unsure}
use Rattle.patterns.proofs.Given.{Left, found_left}
use Rattle.actions.specs.declared.{Run.Run, Ran.Ran}
use Rattle.actions.specs.State.{state_of, result_of}
use Rattle.machine.specs.Running.{Running, RunningCase, RunningArms}
use Rattle.machine.proofs.Parts.{runs}
use Rattle.machine.proofs.Ways.{ran, answered-same, answers-blocked}

-- ---- a case
module _ {s : List ℕ} {rows : ℕ} {a b : ℕ} {m values : List ℤ} (h : RunningCase s rows a b m values) where
  pub case-arms : {v : Option ℤ} {z : ℤ} → v ≡ eval (tables_of s) (expression_at (tables_of s) a) m → v ≡ Some z → RunningArms s rows b (held z) m values
  case-arms {v} {z} e f =
      let x = tables_of s in
      let w = all h.subject.ready in
      record {
        finds = record {
          ready = h.list.ready;
          start = h.list.start;
          list = h.list.here;
          type = _;
          typed = h.arms;
          value =
              rw (local-is (runs h.subject) e f) (eval-typed x w (expression_at x a) m z (good-exp x w a h.subject.kind) h.subject.ready.store (sym e ∙ f));
        };
        start = h.list.start;
        room = h.list.room;
      }

  module _ (script : List ℕ) (r : ℕ) (run : Run) {v : Option ℤ} (e : v ≡ eval (tables_of s) (expression_at (tables_of s) a) m) where
    pub case-is : {z : ℤ} {q : Res} → v ≡ Some z
        → q ≡ exec_arms (tables_of s) (arms_of (tables_of s) (action_at (tables_of s)) (list_at (tables_of s) b)) (held z) script r (state_of run m values)
        → q ≡ exec_act (tables_of s) (case (expression_at (tables_of s) a) (arms_of (tables_of s) (action_at (tables_of s)) (list_at (tables_of s) b))) script r (state_of run m values)
    unfolding exec
    case-is {z} f g =
        g ∙ ap (λ (y : ℤ). exec_arms (tables_of s) (arms_of (tables_of s) (action_at (tables_of s)) (list_at (tables_of s) b)) y script r (state_of run m values)) (local-is (runs h.subject) e f)
        ∙ sym (valued-is _ r (state_of run m values) _ z (sym e ∙ f))

    pub case-unknown : {q : Ran} → v ≡ None → q ≡ ran (Stops (Undefined (row r))) run
        → result_of q m values ≡ exec_act (tables_of s) (case (expression_at (tables_of s) a) (arms_of (tables_of s) (action_at (tables_of s)) (list_at (tables_of s) b))) script r (state_of run m values)
    unfolding exec
    case-unknown f g = answered-same _ run g refl refl ∙ sym (valued-unknown _ r (state_of run m values) _ (sym e ∙ f))

-- ---- its arms, by what the search gives
module _ {s : List ℕ} {rows : ℕ} {a : ℕ} {z : ℤ} {m values : List ℤ} (h : RunningArms s rows a z m values) where
  -- the value is read from a local
  arm_held : held z ≡ z
  arm_held = held-is z (let k = value-small (all h.finds.ready) h.finds.type z h.finds.value in omega arith)

  pub arm-finds : Finds s rows a (held z) m
  arm-finds = rw arm_held h.finds

  module _ {f : Found} {n : List ℤ} (held-e : finding f n ≡ find_arm (tables_of s) (list_at (tables_of s) a) (held z) m) where
    e : finding f n ≡ find_arm (tables_of s) (list_at (tables_of s) a) z m
    e = held-e ∙ ap (λ (y : ℤ). find_arm (tables_of s) (list_at (tables_of s) a) y m) arm_held

    pub arm-action : {b : ℕ} → f ≡ Arm b → Running action s rows b n values
    arm-action {b} g =
        let k : (b < a) × Runs action s rows b n = subst (λ (y : Found). Left s rows a m y n) g (found_left h.finds e) in
        record { ready = k.1.ready; start = h.start; kind = k.1.kind; room = h.room }

    module _ (script : List ℕ) (r : ℕ) (run : Run) where
      abbrev tried : Res
      tried = exec_arms (tables_of s) (arms_of (tables_of s) (action_at (tables_of s)) (list_at (tables_of s) a)) z script r (state_of run m values)

      pub arm-found : {b : ℕ} {q : Res} → f ≡ Arm b → q ≡ exec (tables_of s) (action_at (tables_of s) b) script (state_of run n values) → q ≡ tried
      arm-found {b} g k = k ∙ sym (exec-arm (tables_of s) z script r (state_of run m values) (list_at (tables_of s) a) e b g)

      pub arm-none : {q : Ran} → f ≡ NoArm → q ≡ ran (Stops (cond run.spoken (BlockedSpoken (row r)) (Blocked (row r)))) run → result_of q n values ≡ tried
      arm-none {q} g k =
          let w : n ≡ m = subst (λ (y : Found). Left s rows a m y n) g (found_left h.finds e) in
          ap (λ (l : List ℤ). result_of q l values) w ∙ answers-blocked r run m values k
          ∙ sym (exec-none (tables_of s) z script r (state_of run m values) (list_at (tables_of s) a) e g)

      pub arm-unsure : {q : Ran} → f ≡ Unsure → q ≡ ran (Stops (Undefined (row r))) run → result_of q n values ≡ tried
      arm-unsure g k =
          let w : n ≡ m = subst (λ (y : Found). Left s rows a m y n) g (found_left h.finds e) in
          answered-same _ run k w refl ∙ sym (exec-unsure (tables_of s) z script r (state_of run m values) (list_at (tables_of s) a) e g)
