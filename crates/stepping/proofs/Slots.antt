-- 18, slot by slot. Assumes nothing.
use Rattle.std.specs.Prelude.{Ok, Err}
use mathlib.Core.{Path.◌≡◌, Path.sym, Path.ap, Path.◌∙◌, Bool.Bool, Bool.true, Bool.false, Bool.◌||◌, List.List}
use Prim.Native.Nat.{ℕ, ◌^◌, ◌≤◌, ◌<◌}
use native.Mathlib.Omega.{arith}
use lib.{Dec.eqb, Dec.leb, Dec.ltb, IntN.ℤ, IntN.pos, ListN.length, ListN.get_or, Signed.mag}
use mir.{Syntax.w32, Val.to_z, Val.of_z}
use borrow.Author.Tests.{lt-ltb, le-ltb, lt-leb, le-leb, eq-eqb, ne_eqb}
use Rattle.model.specs.declared.{Image.Image, State.State, Refusal.Refusal, Refusal.TheVariants.NoState, Refusal.TheVariants.StoreLength, Refusal.TheVariants.LabelShort, Refusal.TheVariants.BudgetOver}
use Rattle.model.specs.Answers.{variable, after, unless, Verdict}
use Rattle.model.proofs.Order.{after-accepted, after-refused}
use Rattle.model.specs.Values.{half16, mark, same, of_size}
use Rattle.model.specs.Image.{tables_of, size_of, entry_of}
use Rattle.model.specs.Run.{slot}
use Rattle.model.specs.Calls.{slot_of_type, slot_fits}
use Rattle.model.proofs.Values.{same_refl, same-ne}
use Rattle.model.proofs.Passed.{passed}
use Rattle.image.specs.Located.{VariableOf, TypeOf}
use Rattle.image.proofs.Laid.{types-count, variables-count}
use Rattle.demands.proofs.Whole.{entry-of}
use Rattle.values.proofs.Held.{held, held-is}
use Rattle.expressions.proofs.Operated.{get_d_any}
use Rattle.stages.specs.Judging.{Cleared}
use Rattle.stages.proofs.Cleared.{located}
use Rattle.stepping.specs.Stepping.{Slotted, SlotIn, slots_verdict, room_verdict, run_verdict}

module _ {s : List ℕ} {i : Image} {m : List ℤ} {v : ℕ} (h : SlotIn s i m v) where
  inside : v < length (tables_of s).variables
  inside = omega (arith, h.inside, h.slotted.size)

  pub variable-there : VariableOf s i v
  variable-there =
      let l = located h.slotted.cleared in
      record { located = l; inside = omega (arith, inside, variables-count l) }

  pub type-there : {t : ℕ} → t ≡ (entry_of (tables_of s) (variable v)).type → TypeOf s i t
  type-there e =
      let l = located h.slotted.cleared in
      let f = entry-of (tables_of s) (passed s h.slotted.cleared.passed).free v inside in
      record { located = l; inside = omega (arith, e, f.type, types-count l) }

  held-slot : {z : ℤ} → z ≡ get_or m v (pos 0) → slot (tables_of s) m (variable v) ≡ z
  unfolding slot
  held-slot e = get_d_any m v _ (pos 0) h.inside ∙ sym e

  pub slot-undefined : {z : ℤ} → z ≡ get_or m v (pos 0) → mag z < 2 ^ 31 → of_z w32 z ≡ 65536 → true ≡ slot_fits (tables_of s) m v
  unfolding slot_fits tables_of
  slot-undefined {z} e b f =
      let k : z ≡ mark half16 = sym (held-is z b) ∙ ap (to_z w32) f in
      let q : same (slot (tables_of s) m (variable v)) (mark half16) ≡ true = rw (held-slot e, k) (same_refl (mark half16)) in
      sym (ap (λ (y : Bool). y || slot_of_type (tables_of s) m v) q)

  pub slot-judged : {z : ℤ} {n t : ℕ} {r : Bool} → z ≡ get_or m v (pos 0) → mag z < 2 ^ 31 → (of_z w32 z ≡ 65536 → ⊥) → t ≡ (entry_of (tables_of s) (variable v)).type
      → n ≡ size_of (tables_of s) t → r ≡ of_size 32768 n (held z) → r ≡ slot_fits (tables_of s) m v
  unfolding slot_fits slot_of_type tables_of
  slot-judged {z} {n} {t} e b f g k l =
      let d : same z (mark half16) ≡ false = same-ne z (pos 65536) (λ q. f (ap (of_z w32) q)) in
      let q : same (slot (tables_of s) m (variable v)) (mark half16) ≡ false = rw (held-slot e) d in
      l ∙ rw (held-is z b, k, g, ← held-slot e) (sym (ap (λ (y : Bool). y || slot_of_type (tables_of s) m v) q))

-- 17 to 20
module _ {s : List ℕ} {i : Image} (h : Cleared s i) (q : State) (m : List ℤ) (budget : ℕ) (label : List ℤ) where
  pub no-state : length (tables_of s).states ≤ q.0 → Err NoState ≡ run_verdict (tables_of s) q m budget label
  no-state l =
      sym (after-refused _ _ NoState (ap (λ (b : Bool). unless b NoState) (le-ltb q.0 (length (tables_of s).states) l)))

  module _ (l : q.0 < length (tables_of s).states) where
    state-passed : unless (ltb q.0 (length (tables_of s).states)) NoState ≡ Ok tt
    state-passed = ap (λ (b : Bool). unless b NoState) (lt-ltb q.0 (length (tables_of s).states) l)

    pub store-wrong : (length m ≡ length (tables_of s).variables → ⊥) → Err StoreLength ≡ run_verdict (tables_of s) q m budget label
    store-wrong f =
        let e = ne_eqb (length m) (length (tables_of s).variables) f in
        sym (after-accepted _ _ state-passed ∙ after-refused _ _ StoreLength (ap (λ (b : Bool). unless b StoreLength) e))

    module _ (e : length m ≡ length (tables_of s).variables) where
      pub slotted : Slotted s i m
      slotted = record { cleared = h; size = e }

      store-passed : unless (eqb (length m) (length (tables_of s).variables)) StoreLength ≡ Ok tt
      store-passed = ap (λ (b : Bool). unless b StoreLength) (eq-eqb (length m) (length (tables_of s).variables) e)

      to_slots : run_verdict (tables_of s) q m budget label ≡ after (slots_verdict (tables_of s) m) (room_verdict budget label)
      to_slots = after-accepted _ _ state-passed ∙ after-accepted _ _ store-passed

      pub slot-wrong : {v : Verdict} (y : Refusal) → v ≡ slots_verdict (tables_of s) m → v ≡ Err y → v ≡ run_verdict (tables_of s) q m budget label
      slot-wrong y f g = g ∙ sym (to_slots ∙ after-refused _ _ y (sym f ∙ g))

      module _ {v : Verdict} (f : v ≡ slots_verdict (tables_of s) m) (g : v ≡ Ok tt) where
        to_room : run_verdict (tables_of s) q m budget label ≡ room_verdict budget label
        to_room = to_slots ∙ after-accepted _ _ (sym f ∙ g)

        pub label-short : length label < 10 → Err LabelShort ≡ run_verdict (tables_of s) q m budget label
        label-short k = sym (to_room ∙ after-refused _ _ LabelShort (ap (λ (b : Bool). unless b LabelShort) (lt-leb 10 (length label) k)))

        label-passed : 10 ≤ length label → unless (leb 10 (length label)) LabelShort ≡ Ok tt
        label-passed k = ap (λ (b : Bool). unless b LabelShort) (le-leb 10 (length label) k)

        pub budget-over : 10 ≤ length label → 1000000 < budget → Err BudgetOver ≡ run_verdict (tables_of s) q m budget label
        budget-over k b = sym (to_room ∙ after-accepted _ _ (label-passed k) ∙ ap (λ (t : Bool). unless t BudgetOver) (lt-leb budget 1000000 b))

        pub nothing-wrong : 10 ≤ length label → budget ≤ 1000000 → Ok tt ≡ run_verdict (tables_of s) q m budget label
        nothing-wrong k b = sym (to_room ∙ after-accepted _ _ (label-passed k) ∙ ap (λ (t : Bool). unless t BudgetOver) (le-leb budget 1000000 b))
