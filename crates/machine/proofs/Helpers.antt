-- The ways of the loops' helpers: a unit for a further test, V := V + 1, V <= high. Assumes nothing.
use Rattle.std.specs.Prelude.{Option, Some, None}
use mathlib.Core.{Path.◌≡◌, Path.sym, Path.ap, Path.◌∙◌, Path.subst, Bool.Bool, Bool.true, Bool.false, Bool.cond, List.List}
use Prim.Native.Nat.{ℕ, ◌-◌, ◌^◌, ◌≤◌, ◌<◌}
use native.Mathlib.Omega.{arith}
use lib.{IntN.ℤ, IntN.pos, ListN.get_or, ListN.set, Signed.mag, Signed.le_z}
use Rattle.model.specs.declared.{Fields.Fields, Refusal.Refusal, Refusal.TheVariants.Blocked, Refusal.TheVariants.BlockedSpoken, Refusal.TheVariants.Undefined, Refusal.TheVariants.BudgetSpent, Tested.TheVariants.Holds, Tested.TheVariants.Fails, Tested.TheVariants.Unsure, Outcome.Outcome, Outcome.TheVariants.Ends, Outcome.TheVariants.Stops}
use Rattle.model.specs.Answers.{row, variable, number}
use Rattle.model.specs.Values.{half16, mark, is_zero, of_bool, plus}
use Rattle.model.specs.Image.{Tables, int, tables_of, fields_of}
use Rattle.model.specs.Decode.{action_at, act_of}
use Rattle.model.specs.Rows.{action, Binary, arithmetic, Plus, comparison, AtMost as is_at_most}
use Rattle.model.specs.Trees.{var, const, binary, Action}
use Rattle.model.specs.Run.{slot, store, defined, apply_binary, eval, test, gives, storing, exec, exec_act}
use Rattle.model.proofs.Run.{charge-spent, charge-some, then-ends, valued-is, valued-unknown}
use Rattle.values.specs.Range.{BothInRange}
use Rattle.values.proofs.Held.{held, held-is}
use Rattle.expressions.specs.Operators.{value_of}
use Rattle.actions.specs.declared.{Run.Run, Ran.Ran}
use Rattle.actions.specs.State.{state_of, result_of}
use Rattle.expressions.specs.Ready.{Runs}
use Rattle.told.specs.Told.{ran_of}
use Rattle.told.proofs.Coded.{out-ends}
use Rattle.simple.proofs.Acts.{null-way, result_as}
use Rattle.machine.specs.Running.{Turned, SlotOf, Onward, AtMost}
use Rattle.machine.proofs.Ways.{ran, answered, answered-same, then-over}

-- ---- blocked is a refusal of the run
pub blocked-late : (b : Bool) (r : ℕ) {y : Refusal} → y ≡ cond b (BlockedSpoken (row r)) (Blocked (row r)) → 21 ≤ number y
blocked-late b r e = subst (λ (y : Refusal). 21 ≤ number y) (sym e) (go b)
  where
    go : (b : Bool) → 21 ≤ number (cond b (BlockedSpoken (row r)) (Blocked (row r)))
    go true = omega arith
    go false = omega arith

-- ---- a unit for a further test
module _ (r : ℕ) {q p : Ran} where
  pub again-spent : q.out ≡ Ends → q.run.left ≡ 0 → p ≡ ran (Stops (BudgetSpent (row r))) q.run → Turned r q p
  again-spent o z e = record {
    does = λ f m values. answered _ q.run m values e ∙ sym (then-ends (result_of q m values) _ o ∙ charge-spent r (state_of q.run m values) _ f z);
  }

  pub again-paid : {c : Run} → q.out ≡ Ends → (q.run.left ≡ 0 → ⊥)
      → c ≡ record { words = q.run.words; left = q.run.left - 1; spoken = q.run.spoken; gate = q.run.gate; count = q.run.count }
      → p ≡ ran Ends c → Turned r q p
  again-paid o z k e = record {
    does = λ f m values.
        answered Ends _ m values e ∙ ap (λ (c : Run). gives Ends (state_of c m values)) k
        ∙ sym (then-ends (result_of q m values) _ o ∙ charge-some r (state_of q.run m values) _ f (omega arith));
  }

pub again-over : (r : ℕ) {q : Ran} → (q.out ≡ Ends → ⊥) → Turned r q q
again-over r {q} f = record { does = λ g m values. sym (then-over (result_of q m values) _ f) }

-- ---- V's value
module _ (x : Tables) (h : x.half ≡ half16) (m : List ℤ) (v : ℕ) {y : Option ℤ} (e : y ≡ value_of (get_or m v (mark half16))) where
  var-is : eval x (var (variable v)) m ≡ y
  unfolding eval defined slot value_of
  var-is = rw h (sym e)

  both_is : (o : Binary) (k z : ℤ) → y ≡ Some z → eval x (binary o (var (variable v)) (const int k)) m ≡ Some (apply_binary half16 o z k)
  unfolding eval
  both_is o k z f =
      ap (λ (u : Option ℤ). elim u [ Some a ↦ Some (apply_binary x.half o a k) | None ↦ None ]) (var-is ∙ f)
      ∙ ap (λ (n : ℕ). Some (apply_binary n o z k)) h

  both-unknown : (o : Binary) (k : ℤ) → y ≡ None → eval x (binary o (var (variable v)) (const int k)) m ≡ None
  unfolding eval
  both-unknown o k f = ap (λ (u : Option ℤ). elim u [ Some a ↦ Some (apply_binary x.half o a k) | None ↦ None ]) (var-is ∙ f)

-- ---- V := V + 1
module _ {o : Outcome} {v : ℕ} {m : List ℤ} (s : SlotOf o v m) (f : o ≡ Ends) {y : Option ℤ} {z : ℤ} (e : y ≡ value_of (get_or m v (mark half16))) (g : y ≡ Some z) where
  value-int : mag z < 32768
  value-int = s.int f z (sym e ∙ g)

  pub value-held : held z ≡ z
  value-held = held-is z (let k = value-int in omega arith)

  pub plus-range : BothInRange 32768 (held z) (pos 1)
  plus-range = record { half = record { some = omega arith; small = omega arith }; left = rw value-held value-int; right = omega arith }

pub onward-over : (r v : ℕ) {o : Outcome} {m : List ℤ} → (o ≡ Ends → ⊥) → Onward r v o m o m
onward-over r v {o} {m} f = record { does = λ x h run values. sym (then-over (result_of (ran o run) m values) _ f) }

module _ (r v : ℕ) {o : Outcome} {m : List ℤ} (f : o ≡ Ends) {y : Option ℤ} (e : y ≡ value_of (get_or m v (mark half16))) where
  pub onward-unknown : {p : Outcome} → y ≡ None → p ≡ Stops (Undefined (row r)) → Onward r v o m p m
  unfolding storing
  onward-unknown g k = record {
    does = λ x h run values.
        ap (λ (u : Outcome). gives u (state_of run m values)) k
        ∙ sym (then-ends (result_of (ran o run) m values) _ f ∙ valued-unknown _ r (state_of run m values) _ (both-unknown x h m v e (arithmetic Plus) (pos 1) g));
  }

  pub onward-is : {p : Outcome} {z k : ℤ} → p ≡ Ends → y ≡ Some z → k ≡ plus half16 z (pos 1) → Onward r v o m p (set m v k)
  unfolding storing store apply_binary
  onward-is {p} {z} {k} q g l = record {
    does = λ x h run values.
        (λ j. gives (q j) (state_of run (set m v (l j)) values))
        ∙ sym (then-ends (result_of (ran o run) m values) _ f ∙ valued-is _ r (state_of run m values) _ _ (both_is x h m v e (arithmetic Plus) (pos 1) z g));
  }

-- ---- V <= high
module _ (v : ℕ) (high : ℤ) {m : List ℤ} {y : Option ℤ} (e : y ≡ value_of (get_or m v (mark half16))) where
  pub most-unsure : y ≡ None → AtMost v high m Unsure
  unfolding test
  most-unsure f = record {
    is = λ x h.
        sym (ap (λ (u : Option ℤ). elim u [ Some a ↦ elim (is_zero a) [ true ↦ Fails | false ↦ Holds ] | None ↦ Unsure ]) (both-unknown x h m v e (comparison is_at_most) high f));
  }

  module _ {z : ℤ} (f : y ≡ Some z) where
    most-as : (b : Bool) → le_z z high ≡ b → AtMost v high m (elim (is_zero (of_bool b)) [ true ↦ Fails | false ↦ Holds ])
    unfolding test apply_binary
    most-as b g = record {
      is = λ x h.
          sym (ap (λ (u : Option ℤ). elim u [ Some a ↦ elim (is_zero a) [ true ↦ Fails | false ↦ Holds ] | None ↦ Unsure ]) (both_is x h m v e (comparison is_at_most) high z f)
          ∙ ap (λ (c : Bool). elim (is_zero (of_bool c)) [ true ↦ Fails | false ↦ Holds ]) g);
    }

    pub most-holds : le_z z high ≡ true → AtMost v high m Holds
    most-holds g = most-as true g

    pub most-fails : le_z z high ≡ false → AtMost v high m Fails
    most-fails g = most-as false g

-- what is held in two locals
pub held-most : (z high : ℤ) {b : Bool} → mag z < 2 ^ 31 → mag high < 2 ^ 31 → le_z (held z) (held high) ≡ b → le_z z high ≡ b
held-most z high k l e = sym (λ j. le_z (held-is z k j) (held-is high l j)) ∙ e

-- ---- null
pub null-told : {s : List ℕ} {rows r : ℕ} {m : List ℤ} → Runs action s rows r m → {w : Fields} → w ≡ fields_of (tables_of s) r → (run : Run) (values : List ℤ) (script : List ℕ)
    → w.code ≡ 48 → result_of (ran_of 0 run) m values ≡ exec_act (tables_of s) (act_of (action_at (tables_of s) r)) script r (state_of run m values)
null-told {m = m} h e run values script c =
    result_as 0 run m values out-ends
    (null-way h e run values script (omega arith) (λ k. omega arith) (λ k. omega arith) (λ k. omega arith) (λ k. omega arith) (λ k. omega arith))

-- ---- an outcome told
pub told-as : {o p : Outcome} (run : Run) → o ≡ p → ran o run ≡ ran p run
told-as run e = ap (λ (u : Outcome). ran u run) e

-- the same state, its parts the same
pub run-same : {o p : Outcome} {run now : Run} {m n values vs : List ℤ} → ran o now ≡ ran p now → n ≡ m → vs ≡ values → now ≡ run
    → result_of (ran o now) n vs ≡ gives p (state_of run m values)
run-same {p = p} {m = m} {values = values} e f g h = answered-same p _ e f g ∙ ap (λ (u : Run). gives p (state_of u m values)) h

pub from-same : (x : Tables) (a : Action) (script : List ℕ) {run now : Run} {m n values vs : List ℤ} → n ≡ m → vs ≡ values → now ≡ run
    → exec x a script (state_of now n vs) ≡ exec x a script (state_of run m values)
from-same x a script f g h = λ j. exec x a script (state_of (h j) (f j) (g j))
