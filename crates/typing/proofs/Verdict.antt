-- The rule of a row with the trailer's. Assumes nothing.
use mathlib.Core.{Path.◌≡◌, Path.refl, Path.sym, Path.◌∙◌}
use mathlib.Core.{Bool.true, Bool.false, Bool.not, Bool.◌&&◌, Bool.◌||◌, List.List}
use Prim.Native.Nat.{ℕ}
use lib.{Dec.eqb, Dec.ltb, ListN.length}
use borrow.Author.Tests.{eq-eqb, ne_eqb}
use Rattle.model.specs.declared.{Image.Image}
use Rattle.model.specs.Image.{Tables, bool, tables_of}
use Rattle.model.specs.Rows.{expression, is_kind, is_root}
use Rattle.model.specs.Typing.{typed}
use Rattle.model.proofs.Rows.{both_true, and-true, and-false}
use Rattle.image.proofs.Laid.{condition-is}
use Rattle.typing.specs.Rules.{row_typed, expression_type, OfKind, RootedRow}

-- the initial condition is an expression
root-kind : (x : Tables) (r : ℕ) → is_root x expression r ≡ true → is_kind x expression r ≡ true
unfolding is_root
root-kind x r e = (both_true (ltb r (length x.rows)) (is_kind x expression r) e).1

typed-by : (x : Tables) (r : ℕ) → typed x r ≡ (row_typed x r && (not (eqb r x.condition) || eqb (expression_type x r) bool))
unfolding typed row_typed
typed-by x r = refl

module _ {s : List ℕ} {i : Image} {r : ℕ} (f : RootedRow s i r) where
  is-condition : r ≡ i.condition → r ≡ (tables_of s).condition
  is-condition e = e ∙ sym (condition-is f.rooted.formed.located)

  pub condition-kind : r ≡ i.condition → OfKind s i expression r
  condition-kind e =
      let x = tables_of s in
      record { formed = f.rooted.formed; kind = root-kind x r (rw (is-condition e) f.rooted.condition) }

  -- the condition isn't bool; it is; the row isn't the condition's
  pub condition-fails : {t : ℕ} → r ≡ i.condition → t ≡ expression_type (tables_of s) r → (t ≡ 0 → ⊥) → false ≡ typed (tables_of s) r
  condition-fails e p n =
      let x = tables_of s in
      sym (typed-by x r ∙ rw (eq-eqb r x.condition (is-condition e), ne_eqb (expression_type x r) bool (λ q. n (p ∙ q))) (and-false (row_typed x r)))

  pub condition-passes : {t : ℕ} → r ≡ i.condition → t ≡ expression_type (tables_of s) r → t ≡ 0 → row_typed (tables_of s) r ≡ typed (tables_of s) r
  condition-passes e p q =
      let x = tables_of s in
      sym (typed-by x r ∙ rw (eq-eqb r x.condition (is-condition e), eq-eqb (expression_type x r) bool (sym p ∙ q)) (and-true (row_typed x r)))

  pub no-condition : (r ≡ i.condition → ⊥) → row_typed (tables_of s) r ≡ typed (tables_of s) r
  no-condition n =
      let x = tables_of s in
      sym (typed-by x r
      ∙ rw (ne_eqb r x.condition (λ e. n (e ∙ condition-is f.rooted.formed.located))) (and-true (row_typed x r)))
