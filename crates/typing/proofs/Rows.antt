-- A row that was read in an image free of 1 to 5: where it lies, its meaning, the rows and variables that it names, its tree
-- one level down. Assumes nothing.
use mathlib.Core.{Path.◌≡◌, Path.sym, Path.ap, Path.◌∙◌, Path.subst, Bool.true, List.List, List.◌∷◌}
use Prim.Native.Nat.{ℕ}
use native.Mathlib.Omega.{arith}
use lib.{Dec.ltb, ListN.length}
use borrow.Author.Tests.{ltb-true}
use Rattle.model.specs.declared.{Image.Image, Fields.Fields}
use Rattle.model.specs.Image.{none, tables_of, fields_of}
use Rattle.model.specs.Rows.{Kind, unknown, Field, Means, shape_of, means_at, number_of_kind, pick_next, next_of}
use Rattle.model.specs.Trees.{at}
use Rattle.model.specs.Decode.{grow_expression, expression_at, grow_pattern, pattern_at, list_at, grow_action, action_at}
use Rattle.model.proofs.Rows as model-rows
use Rattle.model.proofs.Rows.{Named, Row, fields_for, lined, row_is, kind-in}
use Rattle.model.proofs.Decode.{expression_at-is, pattern_at-is, list_at-step, action_at-is}
use Rattle.image.specs.Located.{RowOf, VariableOf, Formed}
use Rattle.image.proofs.Laid.{rows-count, variables-count}
use Rattle.typing.specs.Rules.{OfKind}

pub all-formed : {s : List ℕ} {i : Image} → Formed s i → model-rows.Formed (tables_of s)
all-formed f = record { each = f.rows }

-- where a row lies
pub known-row : {s : List ℕ} {i : Image} {k : Kind} {r : ℕ} → ltb (number_of_kind k) 10 ≡ true → OfKind s i k r → RowOf s i r
known-row {s} {i} {k} {r} t f =
    let l = f.formed.located in
    let low = ltb-true (number_of_kind k) 10 t in
    let known : k ≡ unknown → ⊥ = λ e. let ten : number_of_kind k ≡ 10 = ap number_of_kind e in omega arith in
    record { located = l; inside = rw (rows-count l) at (kind-in (tables_of s) k r known f.kind) }

-- row r was read, with the fields w
pub record Here (s : List ℕ) (i : Image) (r : ℕ) (w : Fields) : Type 0 where
  pub formed : Formed s i
  pub fields : w ≡ fields_of (tables_of s) r

module _ {s : List ℕ} {i : Image} {r : ℕ} {w : Fields} (h : Here s i r w) where
  -- its meaning, by its code
  pub means-of : (n : ℕ) → w.code ≡ n → means_at (tables_of s) r ≡ (shape_of n).means
  means-of n e = ap (λ (v : Fields). (shape_of v.code).means) (sym h.fields) ∙ ap (λ c. (shape_of c).means) e

  pub means-here : (m : Means) → (shape_of w.code).means ≡ m → means_at (tables_of s) r ≡ m
  means-here m e = ap (λ (v : Fields). (shape_of v.code).means) (sym h.fields) ∙ e

  pub means-back : (m : Means) → means_at (tables_of s) r ≡ m → (shape_of w.code).means ≡ m
  means-back m e = ap (λ (v : Fields). (shape_of v.code).means) h.fields ∙ e

  -- what its fields say
  pub facts-of : (m : Means) → means_at (tables_of s) r ≡ m → Row (tables_of s) r w m
  facts-of m e = subst (λ (v : Fields). Row (tables_of s) r v m) (sym h.fields) (row_is (tables_of s) (all-formed h.formed) r m e)

  pub child : {k : Kind} {n : ℕ} → Named (tables_of s) r k n → OfKind s i k n
  child p = record { formed = h.formed; kind = p.kind }

  pub variable-in : (n : ℕ) → ltb n (length (tables_of s).variables) ≡ true → VariableOf s i n
  variable-in n e =
      let l = h.formed.located in
      record { located = l; inside = rw (variables-count l) at (ltb-true n _ e) }

  -- its tree
  pub expression-is : (m : Means) → means_at (tables_of s) r ≡ m
      → expression_at (tables_of s) r ≡ grow_expression (tables_of s) (expression_at (tables_of s)) w m
  expression-is m e =
      let x = tables_of s in
      expression_at-is x (all-formed h.formed) r m e ∙ ap (λ (v : Fields). grow_expression x (expression_at x) v m) (sym h.fields)

  pub pattern-is : (m : Means) → means_at (tables_of s) r ≡ m
      → pattern_at (tables_of s) r ≡ grow_pattern (tables_of s) (pattern_at (tables_of s)) w m
  pattern-is m e =
      let x = tables_of s in
      pattern_at-is x (all-formed h.formed) r m e ∙ ap (λ (v : Fields). grow_pattern x (pattern_at x) v m) (sym h.fields)

  pub action-is : (m : Means) → means_at (tables_of s) r ≡ m
      → action_at (tables_of s) r ≡ at r (grow_action (tables_of s) (action_at (tables_of s)) w m)
  action-is m e =
      let x = tables_of s in
      action_at-is x (all-formed h.formed) r m e ∙ ap (λ (v : Fields). at r (grow_action x (action_at x) v m)) (sym h.fields)

  -- the list from it on
  pub list-is : (m : Means) → means_at (tables_of s) r ≡ m → (r ≡ none → ⊥)
      → list_at (tables_of s) r ≡ r ∷ list_at (tables_of s) (pick_next (fields_for m).b w.b (pick_next (fields_for m).c w.c none))
  unfolding next_of
  list-is m e n =
      let x = tables_of s in
      let l = lined w.code in
      let next : next_of x r ≡ pick_next (shape_of w.code).b w.b (pick_next (shape_of w.code).c w.c none) =
      ap (λ (v : Fields). pick_next (shape_of v.code).b v.b (pick_next (shape_of v.code).c v.c none)) (sym h.fields) in
      list_at-step x (all-formed h.formed) r n
      ∙ ap (λ k. r ∷ list_at x k)
      (next
      ∙ ap (λ (f : Field). pick_next f w.b (pick_next (shape_of w.code).c w.c none)) l.b
      ∙ ap (λ (f : Field). pick_next (fields_for (shape_of w.code).means).b w.b (pick_next f w.c none)) l.c
      ∙ ap (λ (k : Means). pick_next (fields_for k).b w.b (pick_next (fields_for k).c w.c none)) (means-back m e))
