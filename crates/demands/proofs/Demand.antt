-- Demand 3: what a step may give at every state and store reached. Assumes nothing.
use Rattle.std.specs.Prelude.{Ok}
use mathlib.Core.{Logic.⊎_elim, Path.◌≡◌, Path.refl, Path.sym, Path.◌∙◌, Path.subst, Bool.Bool, Bool.true, Bool.false, List.List, List.[], List.◌∷◌}
use Prim.Native.Nat.{ℕ, zero, suc, ◌+◌, ◌-◌, ◌≤◌}
use native.Mathlib.{Omega.arith, Nat.eq-or-lt_of_le}
use lib.{Dec.eqb, Dec.leb, Dec.ltb, IntN.ℤ, ListN.length, ListN.get_or}
use borrow.Author.Tests.{eq-eqb, lt-ltb}
use Rattle.model.specs.declared.{State.State, Refusal.Refusal, Refusal.TheVariants.NoState, Refusal.TheVariants.StoreLength, Refusal.TheVariants.SlotValue, Refusal.TheVariants.LabelShort, Refusal.TheVariants.BudgetOver, Outcome.Outcome, Outcome.TheVariants.Ends, Outcome.TheVariants.Jumps, Outcome.TheVariants.Stops}
use Rattle.model.specs.Limits.{limits}
use Rattle.model.specs.Answers.{variable, number, after, unless, each}
use Rattle.model.specs.Image.{none, tables_of}
use Rattle.model.specs.Decode.{act}
use Rattle.model.specs.Run.{ε, spoken, St, gives, blocked_at}
use Rattle.model.specs.Calls.{image_verdict, check, slot_of_type, slot_fits, step_verdict, attempt, StepDone, moved_as, stepped_as, step}
use Rattle.model.proofs.Order.{after-accepted, each-accepts}
use Rattle.demands.specs.Common.{AreBytes}
use Rattle.demands.specs.Statements.{one_of, MayGive, MayEnd, Safe, DemandThree}
use Rattle.demands.proofs.GoodRows.{good-state}
use Rattle.demands.proofs.Hoare.{shown-ends, shown-stop}
use Rattle.demands.proofs.Typed.{slot-typed}
use Rattle.demands.proofs.LargestSets.{sets-are-largest}
use Rattle.demands.proofs.Init.{sound}
use Rattle.demands.proofs.Heard.{Stopped, well-heard}
use Rattle.demands.proofs.Config.{checks, Config, config, x-whole, fine-at}

pick : (k : ℕ) → k ≤ 4 → (k ≡ 1 → ⊥) → one_of (21 + k) (19 ∷ 20 ∷ 21 ∷ 23 ∷ 24 ∷ 25 ∷ []) ≡ true
unfolding one_of
pick zero h f = refl
pick (suc zero) h f = absurd (f refl)
pick (suc (suc zero)) h f = refl
pick (suc (suc (suc zero))) h f = refl
pick (suc (suc (suc (suc zero)))) h f = refl
pick (suc (suc (suc (suc (suc k))))) h f = absurd (omega arith)

may-stop : (n : ℕ) → 21 ≤ n → n ≤ 25 → (n ≡ 22 → ⊥) → one_of n (19 ∷ 20 ∷ 21 ∷ 23 ∷ 24 ∷ 25 ∷ []) ≡ true
may-stop n l h f =
    let e : 21 + (n - 21) ≡ n = omega arith in
    subst (λ (m : ℕ). one_of m (19 ∷ 20 ∷ 21 ∷ 23 ∷ 24 ∷ 25 ∷ []) ≡ true) e (pick (n - 21) (omega arith) (λ q. f (omega arith)))

pick-spoken : (k : ℕ) → k ≤ 2 → one_of (23 + k) (23 ∷ 24 ∷ 25 ∷ []) ≡ true
unfolding one_of
pick-spoken zero h = refl
pick-spoken (suc zero) h = refl
pick-spoken (suc (suc zero)) h = refl
pick-spoken (suc (suc (suc k))) h = absurd (omega arith)

may-stop-spoken : (n : ℕ) → 22 ≤ n → n ≤ 25 → (n ≡ 22 → ⊥) → one_of n (23 ∷ 24 ∷ 25 ∷ []) ≡ true
may-stop-spoken n l h f =
    let g : 23 ≤ n = over n l f in
    let e : 23 + (n - 23) ≡ n = omega arith in
    subst (λ (m : ℕ). one_of m (23 ∷ 24 ∷ 25 ∷ []) ≡ true) e (pick-spoken (n - 23) (omega arith))
  where
    over : (m : ℕ) → 22 ≤ m → (m ≡ 22 → ⊥) → 23 ≤ m
    over m a b = ⊎_elim (λ q. absurd (b (sym q))) (λ q. q) (eq-or-lt_of_le {n = 22} {m = m} a)

-- the run of a state's action: what it says of init and of speech together
pub record Attempted (o : Outcome) (s : St) : Type 0 where
  pub ends : o ≡ Ends → spoken s.label ≡ false
  pub stops : (y : Refusal) → o ≡ Stops y → Stopped (number y) (spoken s.label) × (number y ≡ 22 → ⊥)

module _ (image sets : List ℕ) (bytes : AreBytes image) (ok : (check image sets).answer ≡ Ok tt) where
  attempted : (q : State) (store : List ℤ) (script : List ℕ) (budget : ℕ) → Config image q store
      → Attempted (attempt (tables_of image) q.0 store script budget).out (attempt (tables_of image) q.0 store script budget).st
  unfolding attempt
  attempted q store script budget g =
      let x = tables_of image in
      let w = x-whole image sets bytes ok in
      let a = act x q.0 in
      let s : St = record { store = store; words = 0; left = budget; label = ε } in
      let h = good-state x w q.0 g.inside in
      let i = sound x w a _ script s h (fine-at image sets bytes ok q.0 g.inside g.reached) g.held in
      let k = well-heard x w a script s h ((checks image sets ok).spoken q.0 g.inside) refl g.held.0 in
      record { ends = λ e. (shown-ends e k).1; stops = λ y e. (shown-stop y e k, shown-stop y e i) }

  -- what remains of step's verdict
  verdict-left : (q : State) (store : List ℤ) (budget : ℕ) (label : List ℤ) → Config image q store
      → step_verdict image q store budget label ≡ after (unless (leb limits.label (length label)) LabelShort) (unless (leb budget limits.budget) BudgetOver)
  unfolding step_verdict
  verdict-left q store budget label g =
      let x = tables_of image in
      after-accepted (image_verdict image) _ (checks image sets ok).image
      ∙ after-accepted (unless (ltb q.0 (length x.states)) NoState) _ (rw (lt-ltb q.0 (length x.states) g.inside))
      ∙ after-accepted (unless (eqb (length store) (length x.variables)) StoreLength) _ (rw (eq-eqb (length store) (length x.variables) g.held.0.size))
      ∙ after-accepted (each (slot_fits x store) (length x.variables) (λ v. SlotValue (variable v))) _
      (each-accepts (slot_fits x store) (length x.variables) (λ v. SlotValue (variable v)) g.held.0.each)

  gives-by : (o : Outcome) (s : St) (at budget : ℕ) (store label : List ℤ) → Attempted o s → MayGive (moved_as (gives o s) at budget store label).answer
  unfolding moved_as blocked_at one_of
  gives-by Ends s at budget store label h = rw (h.ends refl) refl
  gives-by (Jumps q) s at budget store label h = tt
  gives-by (Stops y) s at budget store label h =
      let p = h.stops y refl in may-stop (number y) p.0.low p.0.high p.1

  step_by : (a b : Bool) (d : StepDone) (store label : List ℤ) → MayGive d.answer
      → MayGive (stepped_as (after (unless a LabelShort) (unless b BudgetOver)) d store label).answer
  unfolding after one_of
  step_by true true d store label h = h
  step_by true false d store label h = refl
  step_by false b d store label h = refl

  ends_by : (o : Outcome) (s : St) → Attempted o s → spoken s.label ≡ true → MayEnd o
  ends_by Ends s h e = let z : ◌≡◌ {A = Bool} true false = sym e ∙ h.ends refl in let k : ◌≡◌ {A = ℕ} 0 1 = cc in omega arith
  ends_by (Jumps q) s h e = tt
  ends_by (Stops y) s h e = let p = h.stops y refl in may-stop-spoken (number y) (p.0.said e) p.0.high p.1

  safe : (q : State) (store : List ℤ) → Config image q store → Safe image sets q store
  unfolding step slot_of_type
  safe q store g =
      let x = tables_of image in
      record {
        listed = λ v h. g.held.1.all v (rw (← (sets-are-largest image bytes (checks image sets ok).image).given sets ok q.0 g.inside) h);
        typed = λ v h d. slot-typed x store v h g.held.0 d;
        gives = λ script budget label.
            rw (verdict-left q store budget label g)
            (step_by (leb limits.label (length label)) (leb budget limits.budget) _ store label
            (gives-by (attempt x q.0 store script budget).out (attempt x q.0 store script budget).st (get_or x.states q.0 none) budget store label
            (attempted q store script budget g)));
        spoken = λ script budget h.
            ends_by (attempt x q.0 store script budget).out (attempt x q.0 store script budget).st (attempted q store script budget g) h;
      }

pub demand-three : DemandThree
demand-three image sets bytes ok q store r = safe image sets bytes ok q store (config image sets bytes ok q store r)
