-- Outcomes and refusals as numbers. Assumes nothing.
use mathlib.Core.{Path.◌≡◌, Path.refl, Path.sym, Path.ap, Path.◌∙◌, Bool.Bool, Bool.true, Bool.false}
use Prim.Native.Nat.{ℕ, ◌+◌, ◌-◌, ◌*◌, ◌/◌, ◌%◌, ◌≤◌, ◌<◌}
use native.Mathlib.Omega.{arith}
use lib.Dec.{eqb, ltb}
use borrow.Author.Tests.{eqb-true, ne_eqb, lt-ltb, le-ltb}
use Rattle.model.specs.declared.{State.State, Row.Row, Refusal.Refusal, Refusal.TheVariants.ImageLength, Refusal.TheVariants.MarkOrLength, Refusal.TheVariants.Starts, Refusal.TheVariants.Entries, Refusal.TheVariants.Malformed, Refusal.TheVariants.NoAction, Refusal.TheVariants.NoCondition, Refusal.TheVariants.NotNamedOnce, Refusal.TheVariants.Typing, Refusal.TheVariants.Binding, Refusal.TheVariants.SetsShort, Refusal.TheVariants.Initialisation, Refusal.TheVariants.Speech, Refusal.TheVariants.StoreLength, Refusal.TheVariants.ParameterCount, Refusal.TheVariants.ParameterValue, Refusal.TheVariants.ConditionFalse, Refusal.TheVariants.NoState, Refusal.TheVariants.SlotValue, Refusal.TheVariants.LabelShort, Refusal.TheVariants.BudgetOver, Refusal.TheVariants.Blocked, Refusal.TheVariants.Undefined, Refusal.TheVariants.ScriptEnded, Refusal.TheVariants.WordOutOfRange, Refusal.TheVariants.BudgetSpent, Refusal.TheVariants.BlockedSpoken, Refusal.TheVariants.SecondCommunication, Outcome.Outcome, Outcome.TheVariants.Ends, Outcome.TheVariants.Jumps, Outcome.TheVariants.Stops}
use Rattle.model.specs.Answers.{state, row, number, place}
use Rattle.told.specs.Told.{refusal_of, outcome_of, told_of, Tells, Told}

-- ---- refusals
pub as-21 : (n : ℕ) (r : Row) → n ≡ 21 → Blocked r ≡ refusal_of n r
unfolding refusal_of
as-21 n r e = rw e refl

pub as-22 : (n : ℕ) (r : Row) → n ≡ 22 → Undefined r ≡ refusal_of n r
unfolding refusal_of
as-22 n r e = rw e refl

pub as-23 : (n : ℕ) (r : Row) → n ≡ 23 → ScriptEnded r ≡ refusal_of n r
unfolding refusal_of
as-23 n r e = rw e refl

pub as-24 : (n : ℕ) (r : Row) → n ≡ 24 → WordOutOfRange r ≡ refusal_of n r
unfolding refusal_of
as-24 n r e = rw e refl

pub as-25 : (n : ℕ) (r : Row) → n ≡ 25 → BudgetSpent r ≡ refusal_of n r
unfolding refusal_of
as-25 n r e = rw e refl

pub as-26 : (n : ℕ) (r : Row) → n ≡ 26 → BlockedSpoken r ≡ refusal_of n r
unfolding refusal_of
as-26 n r e = rw e refl

pub as-27 : (n : ℕ) (r : Row) → (n ≡ 21 → ⊥) → (n ≡ 22 → ⊥) → (n ≡ 23 → ⊥) → (n ≡ 24 → ⊥) → (n ≡ 25 → ⊥) → (n ≡ 26 → ⊥) → SecondCommunication r ≡ refusal_of n r
unfolding refusal_of
as-27 n r a b c d e f = rw (ne_eqb n 21 a, ne_eqb n 22 b, ne_eqb n 23 c, ne_eqb n 24 d, ne_eqb n 25 e, ne_eqb n 26 f) refl

-- a refusal of the run is its number and its row
refusal_is : (y : Refusal) → 21 ≤ number y → refusal_of (number y) (row (place y)) ≡ y
unfolding refusal_of
refusal_is ImageLength h = absurd (omega arith)
refusal_is MarkOrLength h = absurd (omega arith)
refusal_is Starts h = absurd (omega arith)
refusal_is Entries h = absurd (omega arith)
refusal_is (Malformed r) h = absurd (omega arith)
refusal_is (NoAction s) h = absurd (omega arith)
refusal_is (NoCondition n) h = absurd (omega arith)
refusal_is (NotNamedOnce r) h = absurd (omega arith)
refusal_is (Typing r) h = absurd (omega arith)
refusal_is (Binding r) h = absurd (omega arith)
refusal_is SetsShort h = absurd (omega arith)
refusal_is (Initialisation s) h = absurd (omega arith)
refusal_is (Speech s) h = absurd (omega arith)
refusal_is StoreLength h = absurd (omega arith)
refusal_is ParameterCount h = absurd (omega arith)
refusal_is (ParameterValue v) h = absurd (omega arith)
refusal_is ConditionFalse h = absurd (omega arith)
refusal_is NoState h = absurd (omega arith)
refusal_is (SlotValue v) h = absurd (omega arith)
refusal_is LabelShort h = absurd (omega arith)
refusal_is BudgetOver h = absurd (omega arith)
refusal_is (Blocked r) h = refl
refusal_is (Undefined r) h = refl
refusal_is (ScriptEnded r) h = refl
refusal_is (WordOutOfRange r) h = refl
refusal_is (BudgetSpent r) h = refl
refusal_is (BlockedSpoken r) h = refl
refusal_is (SecondCommunication r) h = refl

pub number-most : (y : Refusal) → number y ≤ 27
number-most ImageLength = omega arith
number-most MarkOrLength = omega arith
number-most Starts = omega arith
number-most Entries = omega arith
number-most (Malformed r) = omega arith
number-most (NoAction s) = omega arith
number-most (NoCondition n) = omega arith
number-most (NotNamedOnce r) = omega arith
number-most (Typing r) = omega arith
number-most (Binding r) = omega arith
number-most SetsShort = omega arith
number-most (Initialisation s) = omega arith
number-most (Speech s) = omega arith
number-most StoreLength = omega arith
number-most ParameterCount = omega arith
number-most (ParameterValue v) = omega arith
number-most ConditionFalse = omega arith
number-most NoState = omega arith
number-most (SlotValue v) = omega arith
number-most LabelShort = omega arith
number-most BudgetOver = omega arith
number-most (Blocked r) = omega arith
number-most (Undefined r) = omega arith
number-most (ScriptEnded r) = omega arith
number-most (WordOutOfRange r) = omega arith
number-most (BudgetSpent r) = omega arith
number-most (BlockedSpoken r) = omega arith
number-most (SecondCommunication r) = omega arith

-- ---- outcomes
pub out-ends : outcome_of 0 ≡ Ends
unfolding outcome_of
out-ends = refl

abbrev ends? : Outcome → ℕ
ends? Ends = 1
ends? (Jumps q) = 0
ends? (Stops y) = 0

pub out-over : (n : ℕ) → (n ≡ 0 → ⊥) → outcome_of n ≡ Ends → ⊥
unfolding outcome_of
out-over n f e = go (eqb n 0) refl (ltb n 131072) refl
  where
    go : (b : Bool) → eqb n 0 ≡ b → (c : Bool) → ltb n 131072 ≡ c → ⊥
    go true p c q = f (eqb-true n 0 p)
    go false p true q = let z : ◌≡◌ {A = ℕ} 0 1 = ap ends? (rw (p, q) at e) in omega arith
    go false p false q = let z : ◌≡◌ {A = ℕ} 0 1 = ap ends? (rw (p, q) at e) in omega arith

pub ends_at : (n : ℕ) → n ≡ 0 → Ends ≡ outcome_of n
unfolding outcome_of
ends_at n e = rw e refl

pub jumps_at : (n : ℕ) → (n ≡ 0 → ⊥) → n < 131072 → Jumps (state ((n - 1) % 65536)) ≡ outcome_of n
unfolding outcome_of
jumps_at n f l = rw (ne_eqb n 0 f, lt-ltb n 131072 l) refl

pub stops_at : (n : ℕ) {y : Refusal} → 131072 ≤ n → y ≡ refusal_of (n / 131072) (row (n % 65536)) → Stops y ≡ outcome_of n
unfolding outcome_of
stops_at n {y} l e = rw (ne_eqb n 0 (λ z. omega arith), le-ltb n 131072 l) (ap Stops e)

jump-told : (q : State) → q.0 < 65536 → outcome_of (1 + q.0) ≡ Jumps q
jump-told q h =
    let m : (1 + q.0 - 1) % 65536 ≡ q.0 = omega arith in
    sym (jumps_at (1 + q.0) (λ z. omega arith) (omega arith)) ∙ ap (λ (k : ℕ). Jumps (state k)) m

stop-told : (y : Refusal) {n p : ℕ} → 21 ≤ number y → n ≡ number y → p ≡ place y → p < 65536 → outcome_of (n * 131072 + p) ≡ Stops y
stop-told y {n} {p} h e f s =
    let k : (n * 131072 + p) / 131072 ≡ n = omega arith in
    let m : (n * 131072 + p) % 65536 ≡ p = omega arith in
    sym (stops_at (n * 131072 + p) (omega arith) (sym (rw (k, m, e, f) (refusal_is y h))))

-- ---- their numbers
pub tells_as : {n : ℕ} {o u : Outcome} → Tells n o → o ≡ u → Tells n u
tells_as {n} t e = rw e at t

pub tells-ends : Tells 0 Ends
unfolding told_of
tells-ends = record { told = refl; outcome = out-ends }

pub tells-jump : (q : State) → q.0 < 65536 → Tells (1 + q.0) (Jumps q)
unfolding told_of
tells-jump q h = record { told = refl; outcome = jump-told q h }

pub tells-stop : (y : Refusal) {n p : ℕ} → 21 ≤ number y → n ≡ number y → p ≡ place y → p < 65536 → Tells (n * 131072 + p) (Stops y)
unfolding told_of
tells-stop y {n} {p} h e f s = record { told = rw (e, f) refl; outcome = stop-told y h e f s }

pub told-by : {n : ℕ} {o : Outcome} → Tells n o → Told n
told-by t = t.told ∙ ap told_of (sym t.outcome)

pub told-ends : Told 0
told-ends = told-by tells-ends
