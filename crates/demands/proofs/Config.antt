-- What holds at every state and store reached: the state is one of the image's and is reached, the store is typed, and what is
-- listed is defined. Assumes nothing.
use Rattle.std.specs.Prelude.{Ok, Err}
use mathlib.Core.{Path.◌≡◌, Path.refl, Path.sym, Path.ap, Path.◌∙◌, Logic.⊎_elim}
use mathlib.Core.{Bool.Bool, Bool.true, Bool.false, Bool.not, List.List}
use Prim.Native.Nat.{ℕ, ◌<◌}
use native.Mathlib.Omega.{arith}
use lib.{Dec.leb, IntN.ℤ, ListN.length, ListN.get_or}
use borrow.Author.Tests.{not-true}
use Rattle.model.specs.declared.{State.State, Move.Move, Refusal.TheVariants.SetsShort, Refusal.TheVariants.Initialisation, Outcome.Outcome, Outcome.TheVariants.Ends, Outcome.TheVariants.Jumps, Outcome.TheVariants.Stops}
use Rattle.model.specs.Answers.{state, unless, each, Verdict}
use Rattle.model.specs.Image.{Tables, none, tables_of}
use Rattle.model.specs.Decode.{act}
use Rattle.model.specs.Masks.{has}
use Rattle.model.specs.Binding.{parameters_of}
use Rattle.model.specs.Sets.{fine}
use Rattle.model.specs.Largest.{top_of, Sub, Reached, first, next, reached_of, sets_of, initialised}
use Rattle.model.specs.Speech.{well_spoken}
use Rattle.model.specs.Run.{St, gives, ε}
use Rattle.model.specs.Calls.{image_verdict, flow_verdict, check_verdict, checked_as, check, started, step_verdict, attempt, StepDone, moved_as, stepped_as, step}
use Rattle.model.proofs.Rows.{one-true}
use Rattle.model.proofs.Order.{after_both, each_all}
use Rattle.model.proofs.Masks.{digit-has}
use Rattle.demands.specs.Common.{AreBytes}
use Rattle.demands.specs.Statements.{Runs, begun, moved, Sets}
use Rattle.demands.proofs.Whole.{Whole, whole}
use Rattle.demands.proofs.GoodRows.{good-state}
use Rattle.demands.proofs.Hoare.{shown-jump}
use Rattle.demands.proofs.Begun.{start-verdict, start-store, values-typed, begun-typed, begun-defined}
use Rattle.demands.proofs.Greatest.{Leads, reached-in}
use Rattle.demands.proofs.LargestSets.{leads-of, sets-are-largest}
use Rattle.demands.proofs.Leads.{leads}
use Rattle.demands.proofs.Covers.{Held, held-sub}
use Rattle.demands.proofs.Init.{sound}

-- what check accepts
pub record Checks (s : List ℕ) : Type 0 where
  pub image : image_verdict s ≡ Ok tt
  pub fine : (q : ℕ) → q < length (tables_of s).states → initialised (tables_of s) (reached_of (tables_of s)) (sets_of (tables_of s)) q ≡ true
  pub spoken : (q : ℕ) → q < length (tables_of s).states → well_spoken (tables_of s) (act (tables_of s) q) ≡ true

checked-accepted : (y : Verdict) (masks sets : List ℕ) → (checked_as y masks sets).answer ≡ Ok tt → y ≡ Ok tt
checked-accepted (Ok _) masks sets e = refl
checked-accepted (Err y) masks sets e = e

pub checks : (s sets : List ℕ) → (check s sets).answer ≡ Ok tt → Checks s
unfolding check check_verdict flow_verdict
checks s sets e =
    let x = tables_of s in
    let a = after_both (image_verdict s) _ (checked-accepted (check_verdict s (length sets)) (sets_of x) sets e) in
    let b = after_both (unless (leb (length x.states) (length sets)) SetsShort) (flow_verdict x) a.1 in
    let c = after_both (each (initialised x (reached_of x) (sets_of x)) (length x.states) (λ q. Initialisation (state q))) _ b.1 in
    record {
      image = a.0;
      fine = each_all (initialised x (reached_of x) (sets_of x)) (length x.states) _ c.0;
      spoken = each_all (λ q. well_spoken x (act x q)) (length x.states) _ c.1;
    }

-- what a step that moves comes from
moved_by : (o : Outcome) (s : St) (at budget : ℕ) (store label : List ℤ) (m : Move) → (moved_as (gives o s) at budget store label).answer ≡ Ok m
    → (o ≡ Jumps m.next) × ((moved_as (gives o s) at budget store label).store ≡ s.store)
unfolding moved_as
moved_by Ends s at budget store label m e = let k : ◌≡◌ {A = ℕ} 0 1 = cc in absurd (omega arith)
moved_by (Jumps q) s at budget store label m e = (cc, refl)
moved_by (Stops y) s at budget store label m e = let k : ◌≡◌ {A = ℕ} 0 1 = cc in absurd (omega arith)

pub record Jumped (image : List ℕ) (q : State) (store : List ℤ) (script : List ℕ) (budget : ℕ) (label : List ℤ) (m : Move) : Type 0 where
  pub verdict : step_verdict image q store budget label ≡ Ok tt
  pub out : (attempt (tables_of image) q.0 store script budget).out ≡ Jumps m.next
  pub leaves : (step image q store script budget label).store ≡ (attempt (tables_of image) q.0 store script budget).st.store

step_by : (y : Verdict) (d : StepDone) (store label : List ℤ) (m : Move) → (stepped_as y d store label).answer ≡ Ok m
    → (y ≡ Ok tt) × (stepped_as y d store label ≡ d)
step_by (Ok _) d store label m e = (refl, refl)
step_by (Err y) d store label m e = let k : ◌≡◌ {A = ℕ} 0 1 = cc in absurd (omega arith)

pub jumped : (image : List ℕ) (q : State) (store : List ℤ) (script : List ℕ) (budget : ℕ) (label : List ℤ) (m : Move)
    → (step image q store script budget label).answer ≡ Ok m → Jumped image q store script budget label m
unfolding step
jumped image q store script budget label m e =
    let x = tables_of image in
    let r = attempt x q.0 store script budget in
    let a = get_or x.states q.0 none in
    let p = step_by (step_verdict image q store budget label) (moved_as r a budget store label) store label m e in
    let g : (moved_as r a budget store label).answer ≡ Ok m = ap (λ (d : StepDone). d.answer) (sym p.1) ∙ e in
    let h = moved_by r.out r.st a budget store label m g in
    record { verdict = p.0; out = h.0; leaves = ap (λ (d : StepDone). d.store) p.1 ∙ h.1 }

-- a state and a store that a run has reached
pub record Config (image : List ℕ) (q : State) (store : List ℤ) : Type 0 where
  pub inside : q.0 < length (tables_of image).states
  pub reached : Reached (tables_of image) q.0
  pub held : Held (tables_of image) (get_or (sets_of (tables_of image)) q.0 (top_of (tables_of image))) store

module _ (image sets : List ℕ) (bytes : AreBytes image) (ok : (check image sets).answer ≡ Ok tt) where
  x : Tables
  x = tables_of image

  c : Checks image
  c = checks image sets ok

  pub x-whole : Whole (tables_of image)
  x-whole = whole image bytes c.image

  l : Leads (tables_of image)
  l = leads-of image bytes c.image

  largest : Sets image
  largest = sets-are-largest image bytes c.image

  set_at : ℕ → ℕ
  set_at s = get_or (sets_of (tables_of image)) s (top_of (tables_of image))

  -- a reached state's action is judged with its set
  pub fine-at : (s : ℕ) → s < length (tables_of image).states → Reached (tables_of image) s
      → fine (top_of (tables_of image)) (get_or (sets_of (tables_of image)) s (top_of (tables_of image))) (act (tables_of image) s) ≡ true
  unfolding initialised
  fine-at s h r =
      let y = tables_of image in
      let t = digit-has (reached_of y) s (largest.reaches s r) in
      ⊎_elim
      (λ n. let z : ◌≡◌ {A = Bool} true false = sym t ∙ not-true (has (reached_of y) s) n in let k : ◌≡◌ {A = ℕ} 0 1 = cc in absurd (omega arith))
      (λ f. f)
      (one-true (not (has (reached_of y) s)) _ (c.fine s h))

  sets-held : (s : ℕ) (t : ℕ) (store : List ℤ) → Sub (set_at s) t → Held (tables_of image) t store → Held (tables_of image) (set_at s) store
  sets-held s t store h k = held-sub (set_at s) t h k

  pub config : (q : State) (store : List ℤ) → Runs image q store → Config image q store
  unfolding set_at attempt
  config q store (begun params old e) =
      let y = tables_of image in
      let v = values-typed image params old (start-verdict image params old e) in
      let h : Held y (parameters_of y.variables) (started y params) =
      (begun-typed y x-whole params v, record { all = begun-defined y x-whole params v }) in
      record {
        inside = reached-in y l 0 first;
        reached = first;
        held = rw (start-store image params old e) (sets-held 0 (parameters_of y.variables) (started y params) largest.largest.fits.begins h);
      }
  config q store (moved {q = p} {store = before} script budget label m r e) =
      let y = tables_of image in
      let g = config p before r in
      let j = jumped image p before script budget label m e in
      let a = act y p.0 in
      let s : St = record { store = before; words = 0; left = budget; label = ε } in
      let t = shown-jump m.next j.out (leads y a script s) in
      let k = shown-jump m.next j.out
      (sound y x-whole a (set_at p.0) script s (good-state y x-whole p.0 g.inside) (fine-at p.0 g.inside g.reached) g.held) in
      let n = next g.reached t in
      record {
        inside = reached-in y l m.next.0 n;
        reached = n;
        held = rw j.leaves (sets-held m.next.0 _ _ (largest.largest.fits.along p.0 m.next.0 g.reached) k);
      }
