-- The statements of specs/Refusals: step refuses as the rules do, a run goes one way, and which answers are final. Assumes nothing.
use Rattle.std.specs.Prelude.{Ok, Err}
use mathlib.Core.{Path.◌≡◌, Path.refl, Path.sym, Path.ap, Path.◌∙◌, Path.subst, Bool.Bool, List.List, List.[], List.◌++◌}
use Prim.Native.Nat.{ℕ, ◌+◌, ◌-◌, ◌/◌, ◌≤◌}
use native.Mathlib.Omega.{arith}
use lib.{Dec.ltb, Dec.leb, Dec.eqb, IntN.ℤ, ListN.length, ListN.get_or, ListN.drop}
use borrow.Author.Tests.{ltb-true, le-leb}
use Rattle.model.specs.declared.{State.State, Row.Row, Refusal.Refusal, Refusal.TheVariants.NoState, Refusal.TheVariants.StoreLength, Refusal.TheVariants.SlotValue, Refusal.TheVariants.LabelShort, Refusal.TheVariants.BudgetOver, Refusal.TheVariants.ScriptEnded, Refusal.TheVariants.BudgetSpent, Outcome.Outcome, Outcome.TheVariants.Ends, Outcome.TheVariants.Jumps, Outcome.TheVariants.Stops}
use Rattle.model.specs.Limits.{limits}
use Rattle.model.specs.Answers.{variable, after, unless, each, Verdict}
use Rattle.model.specs.Image.{Tables, none, tables_of}
use Rattle.model.specs.Decode.{act}
use Rattle.model.specs.Trees.{Action}
use Rattle.model.specs.Run.{ε, label_words, St, Res, gives, blocked_at, exec}
use Rattle.model.specs.Calls.{image_verdict, slot_fits, step_verdict, attempt, StepDone, stayed, moved_as, stepped_as, step}
use Rattle.model.specs.Figure2.{Next, onto, ended, choices}
use Rattle.model.proofs.Order.{after_both, unless-true}
use Rattle.demands.specs.Common.{AreBytes}
use Rattle.demands.specs.Halts.{Conf, Went, Blocks, entering, Halts, words_from, stands}
use Rattle.demands.specs.Refusals.{begins, Refuses, halts, no_jump, RefusalsAreRules, Fate, moves, ends, stops, told, OneFate, AnswersKeep}
use Rattle.demands.proofs.Hoare.{shown-ends, shown-jump, shown-stop}
use Rattle.demands.proofs.Whole.{whole}
use Rattle.demands.proofs.Figure.{made}
use Rattle.demands.proofs.Fit.{Fit, fit-image}
use Rattle.demands.proofs.Moves.{Run}
use Rattle.demands.proofs.Sound.{sound}
use Rattle.demands.proofs.Derived.{goes, derived}
use Rattle.demands.proofs.Rest.{reads_on, from_on, none-on}
use Rattle.demands.proofs.Stopped.{blocks, run-went, stopped}
use Rattle.demands.proofs.Halted.{blocks-as, lands, halted}
use Rattle.demands.proofs.Further.{halts-on}

-- ---- of the run of an action
module _ (x : Tables) (script : List ℕ) (a : Action) (f : Fit a) (s : St) where
  abbrev done : Res
  done = exec x a script s

  ended_so : done.out ≡ Ends → Went x a (stands script s) ended (stands script done.st)
  ended_so e = run-went x script (shown-ends e (sound x script a s).shown)

  jumped-so : (q : State) → done.out ≡ Jumps q → Went x a (stands script s) (onto q) (stands script done.st)
  jumped-so q e = run-went x script (shown-jump q e (sound x script a s).shown)

  pub stopped-so : (y : Refusal) → done.out ≡ Stops y → Halts x (entering a) (stands script s) y
  stopped-so y e = shown-stop y e (stopped x script a f s).shown

  pub halts-so : (y : Refusal) → Halts x (entering a) (stands script s) y → done.out ≡ Stops y
  halts-so y h = halted x script h f s.words refl

  fate-so : (o : Outcome) → done.out ≡ o → Fate x a (stands script s)
  fate-so Ends e = ends (ended_so e)
  fate-so (Jumps q) e = moves (jumped-so q e)
  fate-so (Stops y) e = stops (stopped-so y e)

  told-so : (g : Fate x a (stands script s)) → done.out ≡ told g
  told-so (moves w) = ap (λ (q : Res). q.out) (lands x script w f s.words refl).run
  told-so (ends w) = ap (λ (q : Res). q.out) (lands x script w f s.words refl).run
  told-so (stops {y} h) = halts-so y h

  same_next : (o p : Next) → goes o ≡ goes p → o ≡ p
  same_next ended ended e = refl
  same_next ended (onto q) e = let c : ◌≡◌ {A = ℕ} 0 1 = cc in absurd (omega arith)
  same_next (onto q) ended e = let c : ◌≡◌ {A = ℕ} 0 1 = cc in absurd (omega arith)
  same_next (onto q) (onto t) e = let k : q ≡ t = cc in ap onto k

  once-so : (o p : Next) (t u : Conf) → Went x a (stands script s) o t → Went x a (stands script s) p u → (o ≡ p) × (t ≡ u)
  once-so o p t u v w =
      let d = lands x script v f s.words refl in
      let e = lands x script w f s.words refl in
      let k = sym d.run ∙ e.run in
      let m = ap (λ (r : Res). r.st.store) k in
      let j = ap (λ (r : Res). r.st.words) k in
      let n = ap (λ (r : Res). r.st.left) k in
      let l = ap (λ (r : Res). r.st.label) k in
      let z : t.script ≡ u.script = sym d.rest ∙ ap (words_from script) j ∙ e.rest in
      (same_next o p (ap (λ (r : Res). r.out) k), rw (m, z, n, l) refl)

-- the same with more bytes and more units
module _ (x : Tables) (script bytes : List ℕ) (a : Action) (f : Fit a) (store : List ℤ) (budget more : ℕ) where
  abbrev now : Res
  now = exec x a script (made store 0 budget ε)

  abbrev then-on : Res
  then-on = exec x a (script ++ bytes) (made store 0 (budget + more) ε)

  -- what ended or jumped
  went-same : (o : Next) → Run x script a (made store 0 budget ε) budget o now.st
      → then-on ≡ gives (goes o) (made now.st.store now.st.words (now.st.left + more) now.st.label)
  went-same o p =
      let u = now.st in
      ap (λ (c : ℕ). exec x a (script ++ bytes) (made store 0 c ε)) (omega (arith, p.pays))
      ∙ derived x p.does f p.sure (script ++ bytes) 0 u.words (u.left + more) ε u.label (reads_on script bytes 0 (choices p.does) u.words p.words) p.sum

  -- what stopped
  stop-same : (y : Refusal) → now.out ≡ Stops y → ((r : Row) → y ≡ ScriptEnded r → bytes ≡ []) → ((r : Row) → y ≡ BudgetSpent r → more ≡ 0)
      → then-on.out ≡ Stops y
  stop-same y e g h =
      let h' = stopped-so x script a f (made store 0 budget ε) y e in
      let words = words_from (script ++ bytes) (length script / 4) in
      halted x (script ++ bytes) (halts-on x words more (record { words = λ r k. none-on script bytes (g r k); units = h }) h') f 0 (from_on script bytes)

-- ---- of step
module _ (image : List ℕ) (q : State) (store : List ℤ) (budget : ℕ) (label : List ℤ) where
  fit : AreBytes image → step_verdict image q store budget label ≡ Ok tt → Fit (act (tables_of image) q.0)
  unfolding step_verdict
  fit b v =
      let p = after_both (image_verdict image) _ v in
      let n = length (tables_of image).states in
      let i = after_both (unless (ltb q.0 n) NoState) _ p.1 in
      fit-image image (whole image b p.0) p.0 q.0 (ltb-true q.0 n (unless-true (ltb q.0 n) NoState i.0))

-- a run's refusal, and how it's answered
module _ (x : Tables) (q : ℕ) (s : Conf) (budget : ℕ) (store label : List ℤ) where
  abbrev home : ℕ
  home = get_or x.states q none

  refused-at : (o : Outcome) (u : St) (y : Refusal) → (o ≡ Ends → (t : Conf) × ((t.label ≡ u.label) × Went x (act x q) s ended t))
      → ((z : Refusal) → o ≡ Stops z → Halts x (entering (act x q)) s z)
      → (moved_as (gives o u) home budget store label).answer ≡ Err y → Refuses x q s y
  unfolding moved_as
  refused-at Ends u y g h e =
      let w = g refl in
      let k : blocked_at home u.label ≡ y = cc in
      no_jump w.1.1 (subst (Blocks home w.0.label) (ap (blocked_at home) w.1.0 ∙ k) (blocks home w.0.label))
  refused-at (Jumps t) u y g h e = let c : ◌≡◌ {A = ℕ} 0 1 = cc in absurd (omega arith)
  refused-at (Stops z) u y g h e = let k : z ≡ y = cc in halts (subst (Halts x (entering (act x q)) s) k (h z refl))

stays_by : (r : Res) (home budget : ℕ) (store label : List ℤ) (y : Refusal) → r.out ≡ Stops y → moved_as r home budget store label ≡ stayed y store label
unfolding moved_as
stays_by r home budget store label y e = rw (e, moved_as)

pub refusals-are-rules : RefusalsAreRules
unfolding step attempt
refusals-are-rules =
    record {
      refused = λ image b q store script budget label y v e.
          let x = tables_of image in
          let f = fit image q store budget label b v in
          let s = made store 0 budget ε in
          let a = act x q.0 in
          let g : (moved_as (exec x a script s) (get_or x.states q.0 none) budget store label).answer ≡ Err y =
          ap (λ (w : Verdict). (stepped_as w (moved_as (exec x a script s) (get_or x.states q.0 none) budget store label) store label).answer) (sym v) ∙ e in
          refused-at x q.0 (begins store script budget) budget store label (exec x a script s).out (exec x a script s).st y
          (λ o. (stands script (exec x a script s).st, (refl, ended_so x script a f s o))) (λ z o. stopped-so x script a f s z o) g;
      refuses = λ image b q store script budget label y v h.
          let x = tables_of image in
          let r = attempt x q.0 store script budget in
          ap (λ (w : Verdict). stepped_as w (moved_as r (get_or x.states q.0 none) budget store label) store label) v
          ∙ refuses-by x q.0 script budget store label (fit image q store budget label b v) y h;
    }
  where
    refuses-by : (x : Tables) (q : ℕ) (script : List ℕ) (budget : ℕ) (store label : List ℤ) → Fit (act x q) → (y : Refusal)
        → Refuses x q (begins store script budget) y
        → moved_as (exec x (act x q) script (made store 0 budget ε)) (get_or x.states q none) budget store label ≡ stayed y store label
    refuses-by x q script budget store label f y (halts h) =
        stays_by _ _ budget store label y (halts-so x script (act x q) f (made store 0 budget ε) y h)
    refuses-by x q script budget store label f y (no_jump {t} w b) =
        let d = lands x script w f 0 refl in
        ap (λ (r : Res). moved_as r (get_or x.states q none) budget store label) d.run ∙ unfold moved_as in ap (λ (z : Refusal). stayed z store label) (blocks-as b)

pub one-fate : OneFate
one-fate =
    record {
      fate = λ image b q store script budget label v.
          let x = tables_of image in
          fate-so x script (act x q.0) (fit image q store budget label b v) (made store 0 budget ε) _ refl;
      only = λ image b q store script budget label v f g.
          let x = tables_of image in
          let k = fit image q store budget label b v in
          sym (told-so x script (act x q.0) k (made store 0 budget ε) f) ∙ told-so x script (act x q.0) k (made store 0 budget ε) g;
      once = λ image b q store script budget label v.
          once-so (tables_of image) script (act (tables_of image) q.0) (fit image q store budget label b v) (made store 0 budget ε);
    }

-- ---- a longer script, a larger budget
moved_out : (r : Res) (o : Outcome) (home budget : ℕ) (store label : List ℤ) → r.out ≡ o
    → moved_as (gives o r.st) home budget store label ≡ moved_as r home budget store label
moved_out r o home budget store label e = ap (λ (p : Outcome). moved_as (gives p r.st) home budget store label) (sym e)

-- more units given and more left are as many used
moved_more : (o : Next) (u : St) (home budget more : ℕ) (store label : List ℤ)
    → moved_as (gives (goes o) (made u.store u.words (u.left + more) u.label)) home (budget + more) store label
    ≡ moved_as (gives (goes o) u) home budget store label
unfolding moved_as
moved_more ended u home budget more store label = refl
moved_more (onto t) u home budget more store label =
    let k : budget + more - (u.left + more) ≡ budget - u.left = omega arith in
    ap (λ (n : ℕ). record { answer = Ok (record { next = t; words = u.words; units = n }); store = u.store; label = label_words u.label ++ drop 10 label }) k

module _ (x : Tables) (script bytes : List ℕ) (a : Action) (f : Fit a) (store label : List ℤ) (home budget more : ℕ) where
  abbrev first : Res
  first = exec x a script (made store 0 budget ε)

  abbrev second : Res
  second = exec x a (script ++ bytes) (made store 0 (budget + more) ε)

  went-keeps : (o : Next) → first.out ≡ goes o → Run x script a (made store 0 budget ε) budget o first.st
      → moved_as second home (budget + more) store label ≡ moved_as first home budget store label
  went-keeps o e p =
      ap (λ (r : Res). moved_as r home (budget + more) store label) (went-same x script bytes a f store budget more o p)
      ∙ moved_more o first.st home budget more store label ∙ moved_out first (goes o) home budget store label e

  moved_same : (o : Outcome) → first.out ≡ o
      → ((y : Refusal) → first.out ≡ Stops y → (r : Row) → y ≡ ScriptEnded r → bytes ≡ [])
      → ((y : Refusal) → first.out ≡ Stops y → (r : Row) → y ≡ BudgetSpent r → more ≡ 0)
      → moved_as second home (budget + more) store label ≡ moved_as first home budget store label
  moved_same Ends e g h = went-keeps ended e (shown-ends e (sound x script a (made store 0 budget ε)).shown)
  moved_same (Jumps t) e g h = went-keeps (onto t) e (shown-jump t e (sound x script a (made store 0 budget ε)).shown)
  moved_same (Stops y) e g h =
      stays_by second home (budget + more) store label y (stop-same x script bytes a f store budget more y e (g y e) (h y e))
      ∙ sym (stays_by first home budget store label y e)

-- the budgets are within the limit, so nothing before the run tells them apart
verdict-same : (image : List ℕ) (q : State) (store : List ℤ) (budget more : ℕ) (label : List ℤ) → budget + more ≤ 1000000
    → step_verdict image q store (budget + more) label ≡ step_verdict image q store budget label
unfolding step_verdict
verdict-same image q store budget more label l =
    let x = tables_of image in
    ap (λ (t : Bool).
    after (image_verdict image)
    (after (unless (ltb q.0 (length x.states)) NoState)
    (after (unless (eqb (length store) (length x.variables)) StoreLength)
    (after (each (slot_fits x store) (length x.variables) (λ v. SlotValue (variable v)))
    (after (unless (leb limits.label (length label)) LabelShort)
    (unless t BudgetOver))))))
    (le-leb (budget + more) 1000000 l ∙ sym (le-leb budget 1000000 (omega arith)))

pub answers-keep : AnswersKeep
unfolding step attempt
answers-keep image b q store script bytes budget more label l g h =
    let x = tables_of image in
    let a = act x q.0 in
    let home = get_or x.states q.0 none in
    let one = exec x a script (made store 0 budget ε) in
    let two = exec x a (script ++ bytes) (made store 0 (budget + more) ε) in
    ap (λ (v : Verdict). stepped_as v (moved_as two home (budget + more) store label) store label) (verdict-same image q store budget more label l)
    ∙ keep-by (step_verdict image q store budget label) _ _ store label (λ v.
    moved_same x script bytes a (fit image q store budget label b v) store label home budget more one.out refl
    (λ y e r k. g r (answer-by (step_verdict image q store budget label) one home budget store label y v e ∙ ap Err k))
    (λ y e r k. h r (answer-by (step_verdict image q store budget label) one home budget store label y v e ∙ ap Err k)))
  where
    keep-by : (v : Verdict) (d c : StepDone) (store label : List ℤ) → (v ≡ Ok tt → d ≡ c) → stepped_as v d store label ≡ stepped_as v c store label
    keep-by (Ok _) d c store label h = h refl
    keep-by (Err y) d c store label h = refl

    answer-by : (v : Verdict) (r : Res) (home budget : ℕ) (store label : List ℤ) (y : Refusal) → v ≡ Ok tt → r.out ≡ Stops y
        → (stepped_as v (moved_as r home budget store label) store label).answer ≡ Err y
    answer-by v r home budget store label y e k =
        ap (λ (w : Verdict). (stepped_as w (moved_as r home budget store label) store label).answer) e
        ∙ ap (λ (d : StepDone). d.answer) (stays_by r home budget store label y k)
