-- A step that runs: what its refusals leave, and what is written back. Assumes nothing.
use Rattle.std.specs.Prelude.{Ok, Err}
use mathlib.Core.{Path.◌≡◌, Path.refl, Path.sym, Path.ap, Path.◌∙◌, Bool.true, List.List}
use Prim.Native.Nat.{ℕ, ◌^◌, ◌≤◌, ◌<◌}
use native.Mathlib.Omega.{arith}
use lib.{Dec.eqb, Dec.leb, Dec.ltb, IntN.ℤ, ListN.length, ListN.get_or}
use borrow.Author.Tests.{ltb-true, leb-true, eqb-true}
use Rattle.model.specs.declared.{Image.Image, State.State, Refusal.Refusal, Refusal.TheVariants.NoState, Refusal.TheVariants.StoreLength, Refusal.TheVariants.LabelShort, Refusal.TheVariants.BudgetOver}
use Rattle.model.specs.Answers.{after, unless, Verdict}
use Rattle.model.specs.Image.{none, tables_of}
use Rattle.model.specs.Rows.{action, is_kind}
use Rattle.model.specs.Decode.{act}
use Rattle.model.specs.Run.{ε, Res, exec}
use Rattle.model.specs.Calls.{image_verdict, slot_fits, step_verdict, attempt, StepDone, stayed, moved_as, stepped_as, step}
use Rattle.model.proofs.Order.{after-accepted, after-refused, after_both, unless-true, each_all}
use Rattle.model.proofs.Run.{exec-left}
use Rattle.image.proofs.Laid.{laid, rows-count, variables-count}
use Rattle.demands.specs.Stores.{TypedStore}
use Rattle.demands.proofs.Whole.{whole}
use Rattle.machine.proofs.Words.{exec-words, reads-action}
use Rattle.actions.specs.declared.{Ran.Ran}
use Rattle.actions.specs.State.{result_of}
use Rattle.stepping.specs.Stepping.{slots_verdict, room_verdict, run_verdict, ran, Trying, Steps, Runs}
use Rattle.stages.specs.Judging.{Cleared}
use Rattle.stages.proofs.Cleared.{located}
use Rattle.stepping.proofs.Trying.{root}

-- what 17 to 20 leave
pub record Left (s : List ℕ) (q : State) (m : List ℤ) (budget : ℕ) (label : List ℤ) : Type 0 where
  pub state : q.0 < length (tables_of s).states
  pub store : TypedStore (tables_of s) m
  pub room : 10 ≤ length label
  pub few : budget ≤ 1000000

pub left_over : (s : List ℕ) (q : State) (m : List ℤ) (n : ℕ) (label : List ℤ) → run_verdict (tables_of s) q m n label ≡ Ok tt → Left s q m n label
left_over s q m n label e =
    let x = tables_of s in
    let a = after_both (unless (ltb q.0 (length x.states)) NoState) _ e in
    let b = after_both (unless (eqb (length m) (length x.variables)) StoreLength) _ a.1 in
    let c = after_both (slots_verdict x m) (room_verdict n label) b.1 in
    let d = after_both (unless (leb 10 (length label)) LabelShort) _ c.1 in
    record {
      state = ltb-true q.0 _ (unless-true _ NoState a.0);
      store = record { size = eqb-true (length m) _ (unless-true _ StoreLength b.0); each = each_all (slot_fits x m) (length x.variables) _ c.0 };
      room = leb-true 10 _ (unless-true _ LabelShort d.0);
      few = leb-true n 1000000 (unless-true _ BudgetOver d.1);
    }

module _ {s : List ℕ} {i : Image} {q : State} {m label work values : List ℤ} {budget : ℕ} (h : Steps s i q m budget label work values) where
  leaves : Left s q m budget label
  leaves = left_over s q m budget label h.passed

  pub to-try : (n : List ℤ) (vs : List ℤ) → n ≡ m → length vs ≡ 8 → Trying s i q.0 n vs budget
  to-try n vs e l =
      record {
        cleared = h.cleared;
        ready = record { bytes = h.cleared.bytes; passed = h.cleared.passed; store = rw e leaves.store };
        state = leaves.state;
        room = l;
        few = leaves.few;
      }

  -- the numbers that are told fit
  module _ (script : List ℕ) (n : List ℤ) (e : n ≡ m) (p : Ran) (k vs : List ℤ) (f : result_of p k vs ≡ attempt (tables_of s) q.0 n script budget) where
    kind : is_kind (tables_of s) action (get_or (tables_of s).states q.0 none) ≡ true
    kind = root (to-try n values e h.room)

    pub units-fit : p.run.left ≤ budget
    unfolding attempt
    units-fit = rw (ap (λ (r : Res). r.st.left) f) (exec-left (tables_of s) _ script _)

    few-rows : length (tables_of s).rows ≤ 2048
    few-rows = let l = located h.cleared in omega (arith, rows-count l, (laid l).rows_most)

    pub words-fit : p.run.words < 2 ^ 32
    unfolding attempt
    words-fit =
        let w = exec-words (tables_of s) (act (tables_of s) q.0) script (record { store = n; words = 0; left = budget; label = ε }) (reads-action (tables_of s) (whole s h.cleared.bytes h.cleared.passed) (omega (arith, few-rows)) _ kind) in
        let g : p.run.words ≡ (exec (tables_of s) (act (tables_of s) q.0) script (record { store = n; words = 0; left = budget; label = ε })).st.words = ap (λ (r : Res). r.st.words) f in
        omega (arith, w, g, leaves.few)

  pub label-there : 10 ≤ length label
  label-there = leaves.room

  -- what the run gives is what step gives
  pub ran-is : (script : List ℕ) {d : StepDone} (n k vs : List ℤ) (p : Ran) {r : ℕ} → n ≡ m → result_of p k vs ≡ attempt (tables_of s) q.0 n script budget
      → r ≡ get_or (tables_of s).states q.0 none → d ≡ moved_as (result_of p k vs) r budget m label → d ≡ ran (tables_of s) q m script budget label
  ran-is script n k vs p e f g c = c ∙ rw (f, g, e)

-- step by its verdicts
module _ (s : List ℕ) (q : State) (store : List ℤ) (script : List ℕ) (budget : ℕ) (label : List ℤ) where
  verdict-is : step_verdict s q store budget label ≡ after (image_verdict s) (run_verdict (tables_of s) q store budget label)
  unfolding step_verdict
  verdict-is = refl

  by-verdict : (v : Verdict) → step_verdict s q store budget label ≡ v → step s q store script budget label ≡ stepped_as v (ran (tables_of s) q store script budget label) store label
  unfolding step
  by-verdict v e = ap (λ (u : Verdict). stepped_as u (ran (tables_of s) q store script budget label) store label) e

  pub image-refuses : {v : Verdict} (y : Refusal) → v ≡ image_verdict s → v ≡ Err y → stayed y store label ≡ step s q store script budget label
  image-refuses y f e = sym (by-verdict (Err y) (verdict-is ∙ after-refused (image_verdict s) _ y (sym f ∙ e)))

  module _ {v : Verdict} (f : v ≡ image_verdict s) (e : v ≡ Ok tt) where
    pub run-refuses : {w : Verdict} (y : Refusal) → w ≡ run_verdict (tables_of s) q store budget label → w ≡ Err y → stayed y store label ≡ step s q store script budget label
    run-refuses y g k = sym (by-verdict (Err y) (verdict-is ∙ after-accepted (image_verdict s) _ (sym f ∙ e) ∙ sym g ∙ k))

    pub step-runs : {d : StepDone} → run_verdict (tables_of s) q store budget label ≡ Ok tt → d ≡ ran (tables_of s) q store script budget label → d ≡ step s q store script budget label
    step-runs g k = k ∙ sym (by-verdict (Ok tt) (verdict-is ∙ after-accepted (image_verdict s) _ (sym f ∙ e) ∙ g))

-- what is lent and made
pub to-runs : {s : List ℕ} {i : Image} {q : State} {m label : List ℤ} {budget : ℕ} {w : Verdict} → Cleared s i → w ≡ run_verdict (tables_of s) q m budget label → w ≡ Ok tt
    → Runs s i q m budget label
to-runs h f e = record { cleared = h; passed = sym f ∙ e }

pub store-few : {s : List ℕ} {i : Image} {q : State} {m label : List ℤ} {budget : ℕ} → Runs s i q m budget label → length m ≤ 64
store-few {s} {i} {q} {m} {label} {budget} h =
    let l = located h.cleared in
    omega (arith, (left_over s q m budget label h.passed).store.size, variables-count l, (laid l).variables_most)

pub to-steps : {s : List ℕ} {i : Image} {q : State} {m label : List ℤ} {budget : ℕ} (work values : List ℤ) → Runs s i q m budget label → length work ≡ length m → length values ≡ 8
    → Steps s i q m budget label work values
to-steps work values h c r = record { cleared = h.cleared; passed = h.passed; copy = c; room = r }
