-- The ways of a reset. Assumes nothing.
use mathlib.Core.{Path.◌≡◌, Path.refl, Path.sym, Path.ap, List.List, List.◌∷◌}
use Prim.Native.Nat.{ℕ, ◌+◌, ◌%◌, ◌<◌}
use native.Mathlib.Omega.{arith}
use lib.{IntN.ℤ, IntN.pos, ListN.length, ListN.set}
use borrow.Author.Tests.{ltb-true}
use Rattle.model.specs.declared.{Fields.Fields}
use Rattle.model.specs.Answers.{variable}
use Rattle.model.specs.Image.{none, tables_of, fields_of}
use Rattle.model.specs.Rows.{item, another, next_of}
use Rattle.model.specs.Decode.{variables_at}
use Rattle.model.specs.Run.{store, resetting}
use Rattle.model.proofs.Rows.{Row, row_is, is-kind}
use Rattle.model.proofs.Codes.{next-is}
use Rattle.model.proofs.Decode.{list_at-none, list_at-step}
use Rattle.expressions.specs.Ready.{Runs}
use Rattle.expressions.proofs.Ways.{forms}
use Rattle.actions.specs.Items.{Items}
use Rattle.actions.proofs.Listed.{next-items}

-- none is left
pub reset-none : {s : List ℕ} {rows r : ℕ} {m : List ℤ} → Items item s rows r m → r ≡ none → (n : List ℤ) → n ≡ resetting (tables_of s) (variables_at (tables_of s) r) n
unfolding resetting
reset-none {s} h e n = rw (e, list_at-none (tables_of s) (forms h.ready))

-- an item's row
module _ {s : List ℕ} {rows r : ℕ} {m : List ℤ} (h : Runs item s rows r m) (f : r ≡ none → ⊥) {w : Fields} (e : w ≡ fields_of (tables_of s) r) where
  facts : Row (tables_of s) r w (another item)
  facts = rw e (row_is (tables_of s) (forms h.ready) r (another item) (is-kind (tables_of s) item r h.kind))

  next_here : w.b ≡ next_of (tables_of s) r
  next_here = rw e (sym (next-is (tables_of s) r (another item) (is-kind (tables_of s) item r h.kind)))

  variables-step : variables_at (tables_of s) r ≡ variable w.a ∷ variables_at (tables_of s) w.b
  variables-step = rw (list_at-step (tables_of s) (forms h.ready) r f, ← next_here, e)

  pub variable-inside : w.a < length m
  variable-inside = omega (arith, ltb-true w.a _ facts.a, h.ready.store.size)

  pub reset-next : ((w.b + 1) % 65536 < (r + 1) % 65536) × Items item s rows w.b m
  reset-next = next-items refl h next_here

  pub reset-step : (n : List ℤ) → resetting (tables_of s) (variables_at (tables_of s) w.b) (set n w.a (pos 65536)) ≡ resetting (tables_of s) (variables_at (tables_of s) r) n
  unfolding resetting store tables_of
  reset-step n = sym (ap (λ l. resetting (tables_of s) l n) variables-step)
