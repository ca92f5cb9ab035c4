-- A pattern by its row's code: what is bound, and what it gives. Assumes nothing.
use mathlib.Core.{Path.◌≡◌, Path.refl, Path.sym, Path.ap, Path.◌∙◌, List.List}
use Prim.Native.Nat.{ℕ, ◌<◌}
use native.Mathlib.Omega.{arith}
use lib.{IntN.ℤ, ListN.length, ListN.set}
use borrow.Author.Tests.{ltb-true}
use Rattle.model.specs.declared.{Fields.Fields, Tested.Tested}
use Rattle.model.specs.Image.{tables_of, fields_of}
use Rattle.model.specs.Rows.{expression, pattern, PatternRow, is_any, is_bind, is_value, is_where, a_pattern, codes, lookup, shape_of, means_at}
use Rattle.model.specs.Trees.{Pat}
use Rattle.model.specs.Decode.{grow_pattern, expression_at, pattern_at}
use Rattle.model.specs.Run.{store, test}
use Rattle.model.proofs.Rows.{Row, row_is, is-kind}
use Rattle.model.proofs.Codes.{code_of, means, code-of}
use Rattle.model.proofs.Decode.{pattern_at-is}
use Rattle.expressions.specs.{Operators.constant_by, Ready.Runs}
use Rattle.expressions.proofs.Ways.{forms}
use Rattle.patterns.specs.Bound.{bound, inner, judged, base_of}
use Rattle.patterns.proofs.Judged.{inner-inner}

module _ {s : List ℕ} {rows r : ℕ} {m : List ℤ} (h : Runs pattern s rows r m) {w : Fields} (e : w ≡ fields_of (tables_of s) r) where
  tree-as : (d : PatternRow) → means_at (tables_of s) r ≡ a_pattern d → pattern_at (tables_of s) r ≡ grow_pattern (tables_of s) (pattern_at (tables_of s)) w (a_pattern d)
  tree-as d q = rw e (pattern_at-is (tables_of s) (forms h.ready) r (a_pattern d) q)

  row_as : (d : PatternRow) → means_at (tables_of s) r ≡ a_pattern d → Row (tables_of s) r w (a_pattern d)
  row_as d q = rw e (row_is (tables_of s) (forms h.ready) r (a_pattern d) q)

  means-as : (n : ℕ) → w.code ≡ n → means_at (tables_of s) r ≡ (shape_of n).means
  means-as n c = means (tables_of s) r n (ap (λ (f : Fields). f.code) (sym e) ∙ c)

  -- the row's meaning, and that its code is the meaning's
  of-kind : (d : PatternRow) × (means_at (tables_of s) r ≡ a_pattern d) × (code_of (a_pattern d) ≡ w.code)
  of-kind =
      let d = is-kind (tables_of s) pattern r h.kind in
      (d.0, d.1, ap code_of (sym d.1) ∙ code-of (tables_of s) pattern r refl h.kind ∙ ap (λ (n : Fields). n.code) (sym e))

  -- a pattern with a condition
  module _ (c : w.code ≡ 35) where
    is-where : means_at (tables_of s) r ≡ a_pattern is_where
    unfolding shape_of lookup codes
    is-where = means-as 35 c

    pub inner-row : (w.a < r) × Runs pattern s rows w.a m
    inner-row = let p = (row_as is_where is-where).a in (p.below, record { ready = h.ready; start = h.start; kind = p.kind })

    pub condition-row : Runs expression s rows w.b m
    condition-row = record { ready = h.ready; start = h.start; kind = (row_as is_where is-where).b.kind }

    pub bound-inner : (z : ℤ) (k : List ℤ) → bound (tables_of s) (pattern_at (tables_of s) w.a) z k ≡ bound (tables_of s) (pattern_at (tables_of s) r) z k
    unfolding bound grow_pattern
    bound-inner z k = sym (ap (λ (p : Pat). bound (tables_of s) p z k) (tree-as is_where is-where))

    pub judged-inner : (z : ℤ) (k : List ℤ) {t b : Tested} (a : Tested) → t ≡ test (tables_of s) (expression_at (tables_of s) w.b) k → b ≡ inner t a
        → inner (judged (tables_of s) (pattern_at (tables_of s) w.a) z k) b ≡ inner (judged (tables_of s) (pattern_at (tables_of s) r) z k) a
    unfolding judged grow_pattern
    judged-inner z k {t} {b} a f g =
        let y = judged (tables_of s) (pattern_at (tables_of s) w.a) z k in
        ap (inner y) (g ∙ ap (λ (u : Tested). inner u a) f)
        ∙ sym (inner-inner y (test (tables_of s) (expression_at (tables_of s) w.b) k) a)
        ∙ sym (ap (λ (p : Pat). inner (judged (tables_of s) p z k) a) (tree-as is_where is-where))

  -- a variable
  module _ (c : w.code ≡ 33) where
    is-bind : means_at (tables_of s) r ≡ a_pattern is_bind
    unfolding shape_of lookup codes
    is-bind = means-as 33 c

    pub slot-inside : w.a < length m
    slot-inside = omega (arith, ltb-true w.a _ (row_as is_bind is-bind).a, h.ready.store.size)

    pub bound-variable : (z : ℤ) (k : List ℤ) → set k w.a z ≡ bound (tables_of s) (pattern_at (tables_of s) r) z k
    unfolding bound grow_pattern store
    bound-variable z k = sym (ap (λ (p : Pat). bound (tables_of s) p z k) (tree-as is_bind is-bind))

  -- a pattern without a variable or a condition
  pub bound-other : (w.code ≡ 33 → ⊥) → (w.code ≡ 35 → ⊥) → (z : ℤ) (k : List ℤ) → k ≡ bound (tables_of s) (pattern_at (tables_of s) r) z k
  unfolding bound grow_pattern
  bound-other f g z k = let d = of-kind in go d.0 d.2 ∙ sym (ap (λ (p : Pat). bound (tables_of s) p z k) (tree-as d.0 d.1))
    where
      go : (d : PatternRow) → code_of (a_pattern d) ≡ w.code → k ≡ bound (tables_of s) (grow_pattern (tables_of s) (pattern_at (tables_of s)) w (a_pattern d)) z k
      go is_any q = refl
      go is_bind q = absurd (f (sym q))
      go is_value q = refl
      go is_where q = absurd (g (sym q))

  -- a pattern without a condition
  pub judged-base : (w.code ≡ 35 → ⊥) → (z : ℤ) (k : List ℤ) → base_of w z ≡ judged (tables_of s) (pattern_at (tables_of s) r) z k
  unfolding judged grow_pattern base_of constant_by tables_of
  judged-base g z k = let d = of-kind in go d.0 d.2 ∙ sym (ap (λ (p : Pat). judged (tables_of s) p z k) (tree-as d.0 d.1))
    where
      go : (d : PatternRow) → code_of (a_pattern d) ≡ w.code → base_of w z ≡ judged (tables_of s) (grow_pattern (tables_of s) (pattern_at (tables_of s)) w (a_pattern d)) z k
      go is_any q = rw (sym q)
      go is_bind q = rw (sym q)
      go is_value q = rw (sym q)
      go is_where q = absurd (g (sym q))
