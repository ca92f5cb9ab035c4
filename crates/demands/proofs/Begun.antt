-- The store that an unrefused start gives: typed, and the parameters defined. Assumes nothing.
use Rattle.std.specs.Prelude.{Ok, Err}
use mathlib.Core.{Path.◌≡◌, Path.refl, Path.sym, Path.ap, Path.◌∙◌, Logic.⊎_elim}
use mathlib.Core.{Bool.Bool, Bool.true, Bool.false, Bool.not, Bool.◌||◌, List.List, List.[], List.◌∷◌}
use Prim.Native.Nat.{ℕ, zero, suc, ◌+◌, ◌*◌, ◌/◌, ◌≤◌, ◌<◌}
use native.Mathlib.Omega.{arith}
use lib.{Dec.eqb, Dec.ltb, IntN.ℤ, ListN.length, ListN.get_or, ListN.get_or-eq_default}
use borrow.Author.Tests.{eq-eqb, ltb-true, ltb-false, not-true}
use Rattle.model.specs.declared.{Variable.Variable, Refusal.TheVariants.StoreLength, Refusal.TheVariants.ParameterCount, Refusal.TheVariants.ParameterValue, Refusal.TheVariants.ConditionFalse}
use Rattle.model.specs.Answers.{variable, unless, each, Verdict}
use Rattle.model.specs.Values.{mark, same}
use Rattle.model.specs.Masks.{digit, Has}
use Rattle.model.specs.Image.{Tables, Entry, tables_of, type_of}
use Rattle.model.specs.Binding.{parameters_of}
use Rattle.model.specs.Run.{slot, defined}
use Rattle.model.specs.Calls.{image_verdict, parameter_count, start_store, started, slot_of_type, is_parameter, holds, start_verdict, started_as, start, slot_fits}
use Rattle.model.proofs.Rows.{one-true}
use Rattle.model.proofs.Order.{after_both, each_all}
use Rattle.model.proofs.Values.{same_refl}
use Rattle.demands.proofs.Whole.{Whole, entry-of}
use Rattle.demands.specs.Stores.{TypedStore}
use Rattle.demands.proofs.Typed.{value-defined}

abbrev no_entry : Entry
no_entry = record { type = 0; parameter = 0 }

pick-size : (n : ℕ) (k l : List ℤ) (b : Bool) → length k ≡ n → length l ≡ n → length {A = ℤ} (elim b [ true ↦ k | false ↦ l ]) ≡ n
pick-size n k l true p q = p
pick-size n k l false p q = q

start-size : (h : ℕ) (es : List Entry) (zs : List ℤ) → length (start_store h es zs) ≡ length es
unfolding start_store
start-size h [] zs = refl
start-size h (e ∷ es) [] = ap suc (start-size h es [])
start-size h (e ∷ es) (z ∷ zs) =
    pick-size (suc (length es)) (z ∷ start_store h es zs) (mark h ∷ start_store h es (z ∷ zs)) (eqb e.parameter 1) (ap suc (start-size h es zs))
    (ap suc (start-size h es (z ∷ zs)))

pick_at : (v : ℕ) (d : ℤ) (k l : List ℤ) (b : Bool) → (b ≡ true → get_or k v d ≡ d) → get_or l v d ≡ d → get_or {A = ℤ} (elim b [ true ↦ k | false ↦ l ]) v d ≡ d
pick_at v d k l true p q = p refl
pick_at v d k l false p q = q

-- a variable that is no parameter is undefined
start_plain : (h : ℕ) (es : List Entry) (zs : List ℤ) (v : ℕ) → eqb (get_or es v no_entry).parameter 1 ≡ false → get_or (start_store h es zs) v (mark h) ≡ mark h
unfolding start_store
start_plain h [] zs v e = refl
start_plain h (y ∷ es) [] zero e = refl
start_plain h (y ∷ es) [] (suc v) e = start_plain h es [] v e
start_plain h (y ∷ es) (z ∷ zs) zero e =
    pick_at 0 (mark h) (z ∷ start_store h es zs) (mark h ∷ start_store h es (z ∷ zs)) (eqb y.parameter 1)
    (λ q. let k : ◌≡◌ {A = Bool} true false = sym q ∙ e in let n : ◌≡◌ {A = ℕ} 0 1 = cc in absurd (omega arith)) refl
start_plain h (y ∷ es) (z ∷ zs) (suc v) e =
    pick_at (suc v) (mark h) (z ∷ start_store h es zs) (mark h ∷ start_store h es (z ∷ zs)) (eqb y.parameter 1) (λ q. start_plain h es zs v e)
    (start_plain h es (z ∷ zs) v e)

-- the mask of the parameters by digit
pub parameter-digit : (es : List Entry) → ((v : ℕ) → (get_or es v no_entry).parameter ≤ 1) → (v : ℕ) → digit (parameters_of es) v ≡ (get_or es v no_entry).parameter
unfolding parameters_of digit
parameter-digit [] h zero = refl
parameter-digit [] h (suc v) = parameter-digit [] h v
parameter-digit (e ∷ es) h zero = omega (arith, h 0)
parameter-digit (e ∷ es) h (suc v) =
    let q : (e.parameter + 2 * parameters_of es) / 2 ≡ parameters_of es = omega (arith, h 0) in
    rw q (parameter-digit es (λ u. h (suc u)) v)

started_as-accepted : (y : Verdict) (m store : List ℤ) → (started_as y m store).answer ≡ Ok tt → y ≡ Ok tt
started_as-accepted (Ok _) m store e = refl
started_as-accepted (Err y) m store e = e

pub start-verdict : (s : List ℕ) (params store : List ℤ) → (start s params store).answer ≡ Ok tt → start_verdict s params store ≡ Ok tt
unfolding start
start-verdict s params store e = started_as-accepted (start_verdict s params store) (started (tables_of s) params) store e

pub start-store : (s : List ℕ) (params store : List ℤ) → (start s params store).answer ≡ Ok tt → (start s params store).store ≡ started (tables_of s) params
unfolding start
start-store s params store e =
    ap (λ (y : Verdict). (started_as y (started (tables_of s) params) store).store) (start-verdict s params store e)

module _ (s : List ℕ) (params store : List ℤ) (ok : start_verdict s params store ≡ Ok tt) where
  pub values-typed : (v : ℕ) → v < length (tables_of s).variables
      → (not (is_parameter (tables_of s) v) || slot_of_type (tables_of s) (started (tables_of s) params) v) ≡ true
  unfolding start_verdict
  values-typed =
      let x = tables_of s in
      let m = started x params in
      let a = after_both (image_verdict s) _ ok in
      let b = after_both (unless (eqb (length store) (length x.variables)) StoreLength) _ a.1 in
      let c = after_both (unless (eqb (length params) (parameter_count x.variables)) ParameterCount) _ b.1 in
      let f = after_both (each (λ v. not (is_parameter x v) || slot_of_type x m v) (length x.variables) (λ v. ParameterValue (variable v)))
      (unless (holds x m) ConditionFalse) c.1 in
      each_all (λ v. not (is_parameter x v) || slot_of_type x m v) (length x.variables) _ f.0

module _ (x : Tables) (w : Whole x) (params : List ℤ)
    (ok : (v : ℕ) → v < length x.variables → (not (is_parameter x v) || slot_of_type x (started x params) v) ≡ true) where
  parameter-typed : (v : ℕ) → v < length x.variables → is_parameter x v ≡ true → slot_of_type x (started x params) v ≡ true
  parameter-typed v h e =
      ⊎_elim (λ n. let z : ◌≡◌ {A = Bool} true false = sym e ∙ not-true (is_parameter x v) n in let k : ◌≡◌ {A = ℕ} 0 1 = cc in absurd (omega arith))
      (λ t. t) (one-true (not (is_parameter x v)) _ (ok v h))

  slot-or : (v : ℕ) → v < length x.variables → (b : Bool) → is_parameter x v ≡ b → slot_fits x (started x params) v ≡ true
  unfolding slot_fits slot
  slot-or v h true e = or_right (same (get_or (started x params) v (mark x.half)) (mark x.half)) _ (parameter-typed v h e)
    where
      or_right : (a b : Bool) → b ≡ true → (a || b) ≡ true
      or_right true b q = refl
      or_right false b q = q
  slot-or v h false e = rw (start_plain x.half x.variables params v e, same_refl (mark x.half))

  pub begun-typed : TypedStore x (started x params)
  begun-typed = record { size = start-size x.half x.variables params; each = λ v h. slot-or v h (is_parameter x v) refl }

  few : (v : ℕ) → (get_or x.variables v no_entry).parameter ≤ 1
  few v = go (ltb v (length x.variables)) refl
    where
      go : (b : Bool) → ltb v (length x.variables) ≡ b → (get_or x.variables v no_entry).parameter ≤ 1
      go true e = (entry-of x w.free v (ltb-true v _ e)).parameter
      go false e = rw (get_or-eq_default x.variables no_entry {n = v} (ltb-false v _ e)) (omega arith)

  pub begun-defined : (v : Variable) → Has (parameters_of x.variables) v.0 → defined x (started x params) v ≡ true
  unfolding defined slot slot_of_type
  begun-defined v h =
      let d = parameter-digit x.variables few v.0 in
      let e : (get_or x.variables v.0 no_entry).parameter ≡ 1 = sym d ∙ h in
      rw (value-defined x w (type_of x v) (get_or (started x params) v.0 (mark x.half))
      (parameter-typed v.0 (inside v.0 e (ltb v.0 (length x.variables)) refl) (eq-eqb _ 1 e)))
    where
      inside : (u : ℕ) → (get_or x.variables u no_entry).parameter ≡ 1 → (b : Bool) → ltb u (length x.variables) ≡ b → u < length x.variables
      inside u e true q = ltb-true u _ q
      inside u e false q =
          let n : get_or x.variables u no_entry ≡ no_entry = get_or-eq_default x.variables no_entry {n = u} (ltb-false u _ q) in
          let z : ◌≡◌ {A = ℕ} 0 1 = sym (ap (λ (y : Entry). y.parameter) n) ∙ e in absurd (omega arith)
