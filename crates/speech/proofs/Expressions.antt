-- An expression's row: its type, and whether it is the constant true. Assumes nothing.
use mathlib.Core.{Path.◌≡◌, Path.refl, Path.sym, Path.ap, Path.◌∙◌}
use mathlib.Core.{Bool.Bool, Bool.true, Bool.false, Bool.◌&&◌, List.List, List.[], List.◌∷◌}
use Prim.Native.Nat.{ℕ, zero, suc, ◌<◌}
use native.Mathlib.Omega.{arith}
use lib.{Dec.eqb, Dec.leb, Dec.ltb, IntN.pos, ListN.length, ListN.get_or}
use borrow.Author.Tests.{ltb-true, eqb-true, eqb-false, ne_eqb}
use Rattle.model.specs.declared.{Image.Image, Fields.Fields}
use Rattle.model.specs.Image.{Tables, Entry, none, bool, tables_of, type_count, sizes_fit, entries_fit, entries_right, fields_of}
use Rattle.model.specs.Rows.{expression, Not, Negate, logic, arithmetic, comparison, ExpressionRow, is_variable, is_constant, is_unary, is_binary, an_expression, codes, lookup, shape_of, means_at}
use Rattle.model.specs.Trees.{Exp}
use Rattle.model.specs.Decode.{constant_of, grow_expression, expression_at, condition_at}
use Rattle.model.specs.Typing.{type_of_exp}
use Rattle.model.specs.Values.{same}
use Rattle.model.specs.Speech.{is_always}
use Rattle.model.proofs.Rows.{both_true, Formed, row_is, is-kind}
use Rattle.model.proofs.Decode.{expression_at-is}
use Rattle.image.proofs.Laid.{laid, types-count}
use Rattle.typing.specs.Rules.{OfKind}
use Rattle.model.proofs.Codes.{code_of, means, code-of}
use Rattle.speech.proofs.Places.{rows-formed}

entry_in : (n : ℕ) (es : List Entry) → entries_fit n es ≡ true → (v : ℕ) (d : Entry) → v < length es → (get_or es v d).type < n
unfolding entries_fit
entry_in n [] e v d h = absurd (omega arith)
entry_in n (y ∷ es) e zero d h = ltb-true y.type n (both_true (ltb y.type n) _ e).0
entry_in n (y ∷ es) e (suc v) d h = entry_in n es (both_true (leb y.parameter 1) _ (both_true (ltb y.type n) _ e).1).1 v d (omega arith)

-- a constant is true if it is 1 of type bool
constant-true : (x : Tables) (w : Fields) → (eqb w.a bool && same (constant_of x w) (pos 1)) ≡ (eqb w.a 0 && eqb w.b 1)
constant-true x w = go (eqb w.a 0) refl
  where
    go : (b : Bool) → eqb w.a 0 ≡ b → (b && same (constant_of x w) (pos 1)) ≡ (b && eqb w.b 1)
    go true e = rw (eqb-true w.a 0 e)
    go false e = refl

condition-row : (x : Tables) (r : ℕ) → (r ≡ none → ⊥) → condition_at x r ≡ expression_at x r
unfolding condition_at
condition-row x r n = rw (ne_eqb r none n, condition_at)

pub condition-none : (x : Tables) (r : ℕ) → r ≡ none → true ≡ is_always (condition_at x r)
unfolding condition_at
condition-none x r e = rw e

-- no other row is
not_constant : (x : Tables) (f : ℕ → Exp) (w : Fields) (e : ExpressionRow) → (code_of (an_expression e) ≡ 2 → ⊥)
    → is_always (grow_expression x f w (an_expression e)) ≡ false
unfolding grow_expression
not_constant x f w is_variable n = refl
not_constant x f w is_constant n = absurd (n refl)
not_constant x f w (is_unary o) n = refl
not_constant x f w (is_binary o) n = refl

module _ {s : List ℕ} {i : Image} {r : ℕ} (h : OfKind s i expression r) where
  abbrev x : Tables
  x = tables_of s

  ok : Formed x
  ok = rows-formed h.formed

  abbrev e : ExpressionRow
  e = (is-kind x expression r h.kind).0

  is-e : means_at x r ≡ an_expression e
  is-e = (is-kind x expression r h.kind).1

  code-e : code_of (an_expression e) ≡ (fields_of x r).code
  code-e = ap code_of (sym is-e) ∙ code-of x expression r refl h.kind

  always-by : (b : Bool) → eqb (fields_of x r).code 2 ≡ b
      → ((b && eqb (fields_of x r).a 0) && eqb (fields_of x r).b 1) ≡ is_always (expression_at x r)
  unfolding shape_of lookup codes grow_expression
  always-by true q =
      sym (constant-true x (fields_of x r))
      ∙ sym (ap is_always (expression_at-is x ok r (an_expression is_constant) (means x r 2 (eqb-true _ 2 q))))
  always-by false q =
      sym (ap is_always (expression_at-is x ok r (an_expression e) is-e)
      ∙ not_constant x (expression_at x) (fields_of x r) e (λ p. eqb-false _ 2 q (sym code-e ∙ p)))

  pub always-row : {w : Fields} → w ≡ fields_of (tables_of s) r → (r ≡ none → ⊥)
      → ((eqb w.code 2 && eqb w.a 0) && eqb w.b 1) ≡ is_always (condition_at (tables_of s) r)
  always-row is n = rw is (always-by (eqb (fields_of x r).code 2) refl ∙ sym (ap is_always (condition-row x r n)))

  -- its type is one of the image's
  type-by : (m : ExpressionRow) → means_at x r ≡ an_expression m → type_of_exp x (expression_at x r) < type_count i
  unfolding grow_expression type_of_exp entries_right
  type-by is_variable m =
      let v = ltb-true _ _ (row_is x ok r (an_expression is_variable) m).a in
      let p = entry_in _ _ (both_true (sizes_fit x.sizes) _ h.formed.entries).1 (fields_of x r).a (record { type = 0; parameter = 0 }) v in
      rw (expression_at-is x ok r (an_expression is_variable) m) (omega (arith, p, types-count h.formed.located))
  type-by is_constant m =
      rw (expression_at-is x ok r (an_expression is_constant) m)
      (omega (arith, ltb-true (fields_of x r).a (length x.sizes) (row_is x ok r (an_expression is_constant) m).a, types-count h.formed.located))
  type-by (is_unary Not) m = rw (expression_at-is x ok r (an_expression (is_unary Not)) m) (omega (arith, (laid h.formed.located).types_least))
  type-by (is_unary Negate) m = rw (expression_at-is x ok r (an_expression (is_unary Negate)) m) (omega (arith, (laid h.formed.located).types_least))
  type-by (is_binary (logic o)) m = rw (expression_at-is x ok r (an_expression (is_binary (logic o))) m) (omega (arith, (laid h.formed.located).types_least))
  type-by (is_binary (arithmetic o)) m = rw (expression_at-is x ok r (an_expression (is_binary (arithmetic o))) m) (omega (arith, (laid h.formed.located).types_least))
  type-by (is_binary (comparison o)) m = rw (expression_at-is x ok r (an_expression (is_binary (comparison o))) m) (omega (arith, (laid h.formed.located).types_least))

  pub type-in : type_of_exp (tables_of s) (expression_at (tables_of s) r) < type_count i
  type-in = type-by e is-e
