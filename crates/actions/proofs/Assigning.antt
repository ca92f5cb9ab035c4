-- The ways of an assignment, and that the order of storing can't be seen. Assumes nothing.
use Rattle.std.specs.Prelude.{Option, Some, None}
use mathlib.Core.{Path.◌≡◌, Path.refl, Path.sym, Path.ap, Path.◌∙◌, Bool.Bool, Bool.true, Bool.false, List.List, List.[], List.◌∷◌}
use Prim.Native.Nat.{ℕ, ◌+◌, ◌%◌, ◌<◌}
use native.Mathlib.Omega.{arith}
use lib.{IntN.ℤ, ListN.length, ListN.set}
use borrow.Author.Tests.{ltb-true}
use Rattle.model.specs.declared.{Fields.Fields}
use Rattle.model.specs.Answers.{variable}
use Rattle.model.specs.Image.{Tables, none, tables_of, fields_of}
use Rattle.model.specs.Rows.{expression, gets, another, next_of}
use Rattle.model.specs.Trees.{Gets}
use Rattle.model.specs.Decode.{expression_at, gets_at}
use Rattle.model.specs.Run.{store, eval}
use Rattle.model.proofs.Rows.{Row, row_is, is-kind}
use Rattle.model.proofs.Codes.{next-is}
use Rattle.model.proofs.Decode.{list_at-none, list_at-step}
use Rattle.values.proofs.Held.{held}
use Rattle.expressions.specs.Ready.{Runs}
use Rattle.expressions.proofs.Ways.{forms}
use Rattle.actions.specs.Items.{Items, Assigned, assigns}
use Rattle.actions.proofs.Listed.{next-items}

abbrev pub made : Bool → List ℤ → Assigned
made d m = record { done = d; store = m }

-- one item
module _ (x : Tables) (m : List ℤ) (i : Gets) (items : List Gets) where
  rest_of : ℤ → Assigned → Assigned
  rest_of z q = elim q.done [ true ↦ made true (store q.store i.v z) | false ↦ made false m ]

  item-unknown : eval x i.e m ≡ None → assigns x (i ∷ items) m ≡ made false m
  unfolding assigns rest_of
  item-unknown e = ap (λ (y : Option ℤ). elim y [ Some z ↦ rest_of z (assigns x items m) | None ↦ made false m ]) e

  item-known : (z : ℤ) (q : Assigned) → eval x i.e m ≡ Some z → q ≡ assigns x items m → assigns x (i ∷ items) m ≡ rest_of z q
  unfolding assigns rest_of
  item-known z q e f =
      ap (λ (y : Option ℤ). elim y [ Some u ↦ rest_of u (assigns x items m) | None ↦ made false m ]) e ∙ ap (rest_of z) (sym f)

  rest-true : (z : ℤ) (q : Assigned) → q.done ≡ true → rest_of z q ≡ made true (store q.store i.v z)
  unfolding rest_of
  rest-true z q e = rw e

  rest-false : (z : ℤ) (q : Assigned) → q.done ≡ false → rest_of z q ≡ made false m
  unfolding rest_of
  rest-false z q e = rw e

-- none is left
pub assign-none : {s : List ℕ} {rows r : ℕ} {m : List ℤ} → Items gets s rows r m → r ≡ none → made true m ≡ assigns (tables_of s) (gets_at (tables_of s) r) m
unfolding assigns
assign-none {s} h e = rw (e, list_at-none (tables_of s) (forms h.ready))

-- an item's row
module _ {s : List ℕ} {rows r : ℕ} {m : List ℤ} (h : Runs gets s rows r m) (f : r ≡ none → ⊥) {w : Fields} (e : w ≡ fields_of (tables_of s) r) where
  facts : Row (tables_of s) r w (another gets)
  facts = rw e (row_is (tables_of s) (forms h.ready) r (another gets) (is-kind (tables_of s) gets r h.kind))

  next_here : w.c ≡ next_of (tables_of s) r
  next_here = rw e (sym (next-is (tables_of s) r (another gets) (is-kind (tables_of s) gets r h.kind)))

  gets_step : gets_at (tables_of s) r ≡ record { v = variable w.a; e = expression_at (tables_of s) w.b } ∷ gets_at (tables_of s) w.c
  gets_step = rw (list_at-step (tables_of s) (forms h.ready) r f, ← next_here, e)

  pub item-inside : w.a < length m
  item-inside = omega (arith, ltb-true w.a _ facts.a, h.ready.store.size)

  pub item-value : Runs expression s rows w.b m
  item-value = record { ready = h.ready; start = h.start; kind = facts.b.kind }

  pub item-next : ((w.c + 1) % 65536 < (r + 1) % 65536) × Items gets s rows w.c m
  item-next = next-items refl h next_here

  module _ {v : Option ℤ} (k : v ≡ eval (tables_of s) (expression_at (tables_of s) w.b) m) where
    pub assign-unknown : v ≡ None → made false m ≡ assigns (tables_of s) (gets_at (tables_of s) r) m
    assign-unknown u = sym (rw gets_step (item-unknown (tables_of s) m _ _ (sym k ∙ u)))

    module _ {z : ℤ} (u : v ≡ Some z) {d : Bool} {n : List ℤ} (q : made d n ≡ assigns (tables_of s) (gets_at (tables_of s) w.c) m) where
      pub assign-stops : d ≡ false → n ≡ m → made d n ≡ assigns (tables_of s) (gets_at (tables_of s) r) m
      assign-stops a b = rw (a, b) (sym (rw gets_step (item-known (tables_of s) m _ _ z _ (sym k ∙ u) q ∙ rest-false (tables_of s) m _ _ z (made d n) a)))

      pub assign-stores : d ≡ true → held z ≡ z → made d (set n w.a (held z)) ≡ assigns (tables_of s) (gets_at (tables_of s) r) m
      unfolding store
      assign-stores a l = rw (a, l) (sym (rw gets_step (item-known (tables_of s) m _ _ z _ (sym k ∙ u) q ∙ rest-true (tables_of s) m _ _ z (made d n) a)))

-- where not every value is known nothing is stored
rest-keeps : (x : Tables) (m : List ℤ) (i : Gets) (items : List Gets) (z : ℤ) (q : Assigned) → (rest_of x m i items z q).done ≡ false → (rest_of x m i items z q).store ≡ m
rest-keeps x m i items z q e = go q.done refl
  where
    go : (b : Bool) → q.done ≡ b → (rest_of x m i items z q).store ≡ m
    go true f =
        let g : true ≡ false = sym (ap (λ (p : Assigned). p.done) (rest-true x m i items z q f)) ∙ e in
        let k : ◌≡◌ {A = ℕ} 0 1 = cc in absurd (omega arith)
    go false f = ap (λ (p : Assigned). p.store) (rest-false x m i items z q f)

false-keeps : (x : Tables) (m : List ℤ) (items : List Gets) → (assigns x items m).done ≡ false → (assigns x items m).store ≡ m
unfolding assigns
false-keeps x m [] e = let k : ◌≡◌ {A = ℕ} 0 1 = cc in absurd (omega arith)
false-keeps x m (i ∷ items) e = go (eval x i.e m) refl
  where
    go : (y : Option ℤ) → eval x i.e m ≡ y → (assigns x (i ∷ items) m).store ≡ m
    go (Some z) f =
        let q = item-known x m i items z (assigns x items m) f refl in
        ap (λ (p : Assigned). p.store) q ∙ rest-keeps x m i items z (assigns x items m) (ap (λ (p : Assigned). p.done) (sym q) ∙ e)
    go None f = ap (λ (p : Assigned). p.store) (item-unknown x m i items f)

pub kept-where-false : (x : Tables) (m : List ℤ) (items : List Gets) {d : Bool} {n : List ℤ} → made d n ≡ assigns x items m → d ≡ false → n ≡ m
kept-where-false x m items {d} {n} q a =
    ap (λ (p : Assigned). p.store) q ∙ false-keeps x m items (ap (λ (p : Assigned). p.done) (sym q) ∙ a)
