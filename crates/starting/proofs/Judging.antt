-- 13 to 16 in their order. Assumes nothing.
use Rattle.std.specs.Prelude.{Ok, Err}
use mathlib.Core.{Path.◌≡◌, Path.sym, Path.ap, Path.◌∙◌, Bool.Bool, Bool.true, Bool.false, List.List}
use Prim.Native.Nat.{ℕ, ◌^◌, ◌<◌}
use lib.{Dec.ltb, IntN.ℤ, IntN.pos, Signed.mag, ListN.length, ListN.get_or}
use borrow.Author.Tests.{eq-eqb, ne_eqb}
use Rattle.values.proofs.Held.{held, held-is}
use Rattle.model.specs.declared.{Image.Image, Refusal.Refusal, Refusal.TheVariants.StoreLength, Refusal.TheVariants.ParameterCount, Refusal.TheVariants.ConditionFalse, Tested.Tested, Tested.TheVariants.Holds, Tested.TheVariants.Fails, Tested.TheVariants.Unsure}
use Rattle.model.specs.Answers.{variable, after, unless, Verdict}
use Rattle.model.specs.Values.{of_size}
use Rattle.model.specs.Image.{Tables, tables_of, entry_of, type_of, size_of}
use Rattle.model.specs.Rows.{expression, is_root}
use Rattle.model.specs.Decode.{initial, expression_at}
use Rattle.model.specs.Run.{slot, test}
use Rattle.model.specs.Calls.{image_verdict, parameter_count, started, slot_of_type, start_verdict, Started, start}
use Rattle.model.proofs.Rows.{both_true}
use Rattle.model.proofs.Order.{after-accepted, after-refused, each_all}
use Rattle.image.proofs.Laid.{condition-is}
use Rattle.expressions.specs.Ready.{Runs}
use Rattle.expressions.proofs.Operated.{get_d_any}
use Rattle.demands.proofs.Begun.{begun-typed}
use Rattle.stages.specs.Judging.{Cleared}
use Rattle.stages.proofs.Cleared.{located}
use Rattle.starting.specs.Starting.{right_at, parameters_verdict, condition_verdict, values_verdict, counts_verdict, begun, counted, Filling, Typed, Filled, Begins}
use Rattle.starting.proofs.Clearing.{all}

-- one variable
module _ (x : Tables) (m : List ℤ) (v : ℕ) {p : ℕ} (e : p ≡ (entry_of x (variable v)).parameter) where
  pub right-plain : (p ≡ 1 → ⊥) → true ≡ right_at x m v
  unfolding right_at
  right-plain n = sym (rw (ne_eqb (entry_of x (variable v)).parameter 1 (λ q. n (e ∙ q))))

  pub right-typed : {t n : ℕ} {b : Bool} → x.half ≡ 32768 → p ≡ 1 → t ≡ type_of x (variable v) → n ≡ size_of x t → v < length m → mag (get_or m v (pos 0)) < 2 ^ 31
      → b ≡ of_size 32768 n (held (get_or m v (pos 0))) → b ≡ right_at x m v
  unfolding right_at slot_of_type slot
  right-typed hf one ty si h f g =
      g ∙ sym (rw (eq-eqb (entry_of x (variable v)).parameter 1 (sym e ∙ one), hf, ← ty, ← si, held-is (get_or m v (pos 0)) f) (ap (of_size 32768 _) (get_d_any m v _ (pos 0) h)))

-- 16
pub runs : {s : List ℕ} {i : Image} {m : List ℤ} → Typed s i m → Runs expression s i.rows i.condition m
unfolding is_root
runs {s} {i} {m} t =
    let c = t.cleared in
    record {
      ready = record { bytes = c.bytes; passed = c.passed; store = t.store };
      start = ap (λ (j : Image). j.rows) c.trailer;
      kind = rw (← condition-is (located c)) (both_true (ltb (tables_of s).condition (length (tables_of s).rows)) _ (all c).free.condition).1;
    }

abbrev told : Tested → Verdict
told w = unless (elim w [ Holds ↦ true | Fails ↦ false | Unsure ↦ false ]) ConditionFalse

module _ {s : List ℕ} {i : Image} {m : List ℤ} (t : Typed s i m) {v : Tested} (e : v ≡ test (tables_of s) (expression_at (tables_of s) i.condition) m) where
  initial-is : v ≡ test (tables_of s) (initial (tables_of s)) m
  initial-is = e ∙ ap (λ (r : ℕ). test (tables_of s) (expression_at (tables_of s) r) m) (sym (condition-is (located t.cleared)))

  pub condition-told : (w : Tested) → v ≡ w → told w ≡ condition_verdict (tables_of s) m
  unfolding condition_verdict
  condition-told w g = ap told (sym g ∙ initial-is)

-- 15 and 16
module _ (x : Tables) (m : List ℤ) {v : Verdict} (f : v ≡ parameters_verdict x m) where
  pub values-stays : (y : Refusal) → v ≡ Err y → v ≡ values_verdict x m
  unfolding values_verdict
  values-stays y e = e ∙ sym (after-refused (parameters_verdict x m) _ y (sym f ∙ e))

  pub values-condition : {r : Verdict} → v ≡ Ok tt → r ≡ condition_verdict x m → r ≡ values_verdict x m
  unfolding values_verdict
  values-condition e g = g ∙ sym (after-accepted (parameters_verdict x m) _ (sym f ∙ e))

pub typed-of : {s : List ℕ} {i : Image} {m : List ℤ} {v : Verdict} → Filled s i m → v ≡ parameters_verdict (tables_of s) m → v ≡ Ok tt → Typed s i m
unfolding parameters_verdict right_at
typed-of {s} {i} {m} p f e =
    let x = tables_of s in
    let ok = each_all (right_at x (started x p.params)) (length x.variables) _ (rw p.holds at (sym f ∙ e)) in
    record { cleared = p.slotted.cleared; store = rw p.holds (begun-typed x (all p.slotted.cleared) p.params ok) }

pub filled_of : {s : List ℕ} {i : Image} {params was m : List ℤ} → Filling s i params was → length m ≡ length was → m ≡ started (tables_of s) params
    → Filled s i m
filled_of {params = params} h k e =
    record { slotted = record { cleared = h.slotted.cleared; slots = k ∙ h.slotted.slots }; params = params; holds = e }

-- the values, then the copy
module _ (x : Tables) (params store : List ℤ) {m : List ℤ} {v : Verdict} (e : m ≡ started x params) (f : v ≡ values_verdict x m) where
  pub begun-refused : (y : Refusal) → v ≡ Err y → ◌≡◌ {A = Started} (record { answer = v; store = store }) (begun x params store)
  unfolding begun
  begun-refused y g = rw (← e, ← f, g)

  pub begun-accepted : {to : List ℤ} → v ≡ Ok tt → to ≡ m → ◌≡◌ {A = Started} (record { answer = v; store = to }) (begun x params store)
  unfolding begun
  begun-accepted g c = rw (← e, ← f, g, c)

pub begins-of : {s : List ℕ} {i : Image} {params store work : List ℤ} → Filling s i params store → length work ≡ length store → Begins s i params store work
begins-of h e =
    record { filling = record { slotted = record { cleared = h.slotted.cleared; slots = e ∙ h.slotted.slots }; values = h.values }; room = sym e }

-- 13 and 14
module _ (x : Tables) (params store : List ℤ) where
  pub counted-store : (length store ≡ length x.variables → ⊥) → ◌≡◌ {A = Started} (record { answer = Err StoreLength; store = store }) (counted x params store)
  unfolding counted counts_verdict after
  counted-store n = sym (rw (ne_eqb (length store) (length x.variables) n))

  pub counted-params : length store ≡ length x.variables → (length params ≡ parameter_count x.variables → ⊥)
      → ◌≡◌ {A = Started} (record { answer = Err ParameterCount; store = store }) (counted x params store)
  unfolding counted counts_verdict after
  counted-params e n = sym (rw (eq-eqb (length store) (length x.variables) e, ne_eqb (length params) (parameter_count x.variables) n))

  pub counted-begun : {r : Started} → length store ≡ length x.variables → length params ≡ parameter_count x.variables → r ≡ begun x params store
      → r ≡ counted x params store
  unfolding counted counts_verdict begun after
  counted-begun e f g = g ∙ sym (rw (eq-eqb (length store) (length x.variables) e, eq-eqb (length params) (parameter_count x.variables) f))

pub to-begin : {s : List ℕ} {i : Image} {params store : List ℤ} {n : ℕ} → Cleared s i → length store ≡ length (tables_of s).variables → n ≡ parameter_count (tables_of s).variables
    → length params ≡ n → Filling s i params store
to-begin h e f g = record { slotted = record { cleared = h; slots = e }; values = g ∙ f }

-- 1 to 9
module _ (s : List ℕ) (params store : List ℤ) {v : Verdict} (f : v ≡ image_verdict s) where
  pub start_is : start_verdict s params store ≡ after v (counts_verdict (tables_of s) params store)
  unfolding start_verdict counts_verdict values_verdict parameters_verdict condition_verdict right_at
  start_is = rw f

  pub start-refused : (y : Refusal) → v ≡ Err y → ◌≡◌ {A = Started} (record { answer = v; store = store }) (start s params store)
  unfolding start
  start-refused y e = sym (rw (start_is, after-refused v _ y e, e))

  pub start-counted : {r : Started} → v ≡ Ok tt → r ≡ counted (tables_of s) params store → r ≡ start s params store
  unfolding start counted
  start-counted e g = g ∙ sym (rw (start_is, after-accepted v _ e))
