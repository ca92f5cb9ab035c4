-- The ways of an expression's evaluation, by its row's code. Assumes nothing.
use Rattle.std.specs.Prelude.{Option, Some, None}
use mathlib.Core.Logic.{inl, inr}
use mathlib.Core.{Path.◌≡◌, Path.refl, Path.sym, Path.ap, Path.◌∙◌, Path.subst, Bool.Bool, Bool.true, Bool.false, Bool.cond, Bool.◌&&◌, List.List, List.[], List.◌∷◌}
use Prim.Native.Nat.{ℕ, ◌<◌}
use native.Mathlib.Omega.{arith}
use lib.{Dec.eqb, Dec.ltb, IntN.ℤ, ListN.length, ListN.get_or, Signed.mag, Signed.non_neg}
use borrow.Author.Tests.{ltb-true}
use types.Run.{OneOf}
use mir.{Syntax.w32, Val.of_z}
use Rattle.values.proofs.{Held.held, Held.held-is, Computed.zero-divisor, Computed.other-divisor}
use Rattle.model.specs.declared.{Fields.Fields, Tested.TheVariants.Holds, Tested.TheVariants.Fails, Tested.TheVariants.Unsure}
use Rattle.model.specs.Values.{half16, mark, is_zero, of_size}
use Rattle.model.specs.Image.{Tables, trailer_of, tables_of, fields_of, size_of}
use Rattle.model.specs.Rows.{Kind, expression, Unary, Binary, ExpressionRow, is_variable, is_constant, is_unary, is_binary, Not, Negate, an_expression, codes, lookup, shape_of, means_at}
use Rattle.model.specs.Trees.{Exp, unary, binary}
use Rattle.model.specs.Decode.{grow_expression, expression_at}
use Rattle.model.specs.Typing.{type_of_exp}
use Rattle.model.specs.Run.{slot, defined, apply_unary, apply_binary, eval, test}
use Rattle.model.proofs.Rows.{both_true, Named, Row, Formed, row_is, is-kind}
use Rattle.model.proofs.Codes.{code_of, means, is_known, known_in, code-of}
use Rattle.model.proofs.Decode.{expression_at-is}
use Rattle.model.proofs.Passed.{passed}
use Rattle.image.specs.Located.{Located}
use Rattle.image.proofs.Laid.{rows-count}
use Rattle.demands.proofs.Whole.{Whole, whole, sizes-of}
use Rattle.demands.proofs.GoodRows.{good-exp}
use Rattle.demands.proofs.Typed.{eval-typed}
use Rattle.expressions.specs.Operators.{unary_of, binary_of, value_of, constant_by}
use Rattle.expressions.specs.Ready.{Ready, RowFrom, Runs}
use Rattle.expressions.proofs.Operated.{binary-of}

-- an image free of 1 to 9
module _ {s : List ℕ} {m : List ℤ} (h : Ready s m) where
  pub located : Located s (trailer_of s)
  located = let p = passed s h.passed in record { trailer = refl; long = p.long; marked = p.marked; starts = p.starts }

  pub all : Whole (tables_of s)
  all = whole s h.bytes h.passed

  pub forms : Formed (tables_of s)
  forms = all.free.formed

pub row_from : {k : Kind} {s : List ℕ} {rows r : ℕ} {m : List ℤ} → is_known k ≡ true → Runs k s rows r m → RowFrom s rows r
row_from {k} {s} {rows} {r} t h =
    record {
      located = located h.ready;
      start = h.start;
      inside = omega (arith, known_in (tables_of s) k r t h.kind, rows-count (located h.ready));
    }

-- every value of a type is an int
pub value-small : {x : Tables} → Whole x → (t : ℕ) (z : ℤ) → of_size x.half (size_of x t) z ≡ true → mag z < 32768
unfolding of_size
value-small {x} w t z e = go (eqb (size_of x t) 0) refl e
  where
    go : (b : Bool) → eqb (size_of x t) 0 ≡ b → cond b (ltb (mag z) x.half) (non_neg z && ltb (mag z) (size_of x t)) ≡ true → mag z < 32768
    go true q f = let l = ltb-true (mag z) x.half f in omega (arith, w.half)
    go false q f =
        let l = ltb-true (mag z) (size_of x t) (both_true (non_neg z) _ f).1 in
        omega (arith, (sizes-of x w.free).few t)

module _ {s : List ℕ} {rows r : ℕ} {m : List ℤ} (h : Runs expression s rows r m) where
  -- what an expression gives is small
  pub eval-small : (z : ℤ) → eval (tables_of s) (expression_at (tables_of s) r) m ≡ Some z → mag z < 32768
  eval-small z e =
      let w = all h.ready in
      value-small w (type_of_exp (tables_of s) (expression_at (tables_of s) r)) z
      (eval-typed (tables_of s) w (expression_at (tables_of s) r) m z (good-exp (tables_of s) w r h.kind) h.ready.store e)

-- one level of an evaluation
module _ (x : Tables) (m : List ℤ) where
  one-is : (o : Unary) (e : Exp) (a : ℤ) → eval x e m ≡ Some a → eval x (unary o e) m ≡ Some (apply_unary x.half o a)
  unfolding eval
  one-is o e a q = ap (λ (y : Option ℤ). elim y [ Some b ↦ Some (apply_unary x.half o b) | None ↦ None ]) q

  one-unknown : (o : Unary) (e : Exp) → eval x e m ≡ None → eval x (unary o e) m ≡ None
  unfolding eval
  one-unknown o e q = ap (λ (y : Option ℤ). elim y [ Some b ↦ Some (apply_unary x.half o b) | None ↦ None ]) q

  both_of : Binary → Option ℤ → Option ℤ → Option ℤ
  both_of o u v = elim u [ Some a ↦ elim v [ Some b ↦ Some (apply_binary x.half o a b) | None ↦ None ] | None ↦ None ]

  two-are : (o : Binary) (d e : Exp) (u v : Option ℤ) → eval x d m ≡ u → eval x e m ≡ v → eval x (binary o d e) m ≡ both_of o u v
  unfolding eval both_of
  two-are o d e u v p q = ap (λ (y : Option ℤ). both_of o y (eval x e m)) p ∙ ap (both_of o u) q

  left-none : (o : Binary) (d e : Exp) → eval x d m ≡ None → eval x (binary o d e) m ≡ None
  unfolding eval both_of
  left-none o d e p = ap (λ (y : Option ℤ). both_of o y (eval x e m)) p

-- the operators' rows by their codes
unary-row : (c : ℕ) → OneOf (16 ∷ 19 ∷ []) c → (shape_of c).means ≡ an_expression (is_unary (unary_of c))
unfolding shape_of lookup codes unary_of
unary-row c (inl e) = subst (λ (k : ℕ). (shape_of k).means ≡ an_expression (is_unary (unary_of k))) (sym e) refl
unary-row c (inr e) = subst (λ (k : ℕ). (shape_of k).means ≡ an_expression (is_unary (unary_of k))) (sym e) refl

one-unary : (o : Unary) (c : ℕ) → code_of (an_expression (is_unary o)) ≡ c → OneOf (16 ∷ 19 ∷ []) c
one-unary Not c e = inl (sym e)
one-unary Negate c e = inr (sym e)

binary-row : (c : ℕ) (d : ExpressionRow) → code_of (an_expression d) ≡ c → (c ≡ 1 → ⊥) → (c ≡ 2 → ⊥) → (OneOf (16 ∷ 19 ∷ []) c → ⊥)
    → an_expression d ≡ an_expression (is_binary (binary_of c))
binary-row c is_variable e f g h = absurd (f (sym e))
binary-row c is_constant e f g h = absurd (g (sym e))
binary-row c (is_unary o) e f g h = absurd (h (one-unary o c e))
binary-row c (is_binary o) e f g h = ap (λ (p : Binary). an_expression (is_binary p)) (sym (binary-of o) ∙ ap binary_of e)

module _ {s : List ℕ} {rows r : ℕ} {m : List ℤ} (h : Runs expression s rows r m) {w : Fields} (e : w ≡ fields_of (tables_of s) r) where
  means-as : (n : ℕ) → w.code ≡ n → means_at (tables_of s) r ≡ (shape_of n).means
  means-as n c = means (tables_of s) r n (ap (λ (f : Fields). f.code) (sym e) ∙ c)

  tree-as : (d : ExpressionRow) → means_at (tables_of s) r ≡ an_expression d → expression_at (tables_of s) r ≡ grow_expression (tables_of s) (expression_at (tables_of s)) w (an_expression d)
  tree-as d q = rw e (expression_at-is (tables_of s) (forms h.ready) r (an_expression d) q)

  row_as : (d : ExpressionRow) → means_at (tables_of s) r ≡ an_expression d → Row (tables_of s) r w (an_expression d)
  row_as d q = rw e (row_is (tables_of s) (forms h.ready) r (an_expression d) q)

  child : {n : ℕ} → Named (tables_of s) r expression n → Runs expression s rows n m
  child p = record { ready = h.ready; start = h.start; kind = p.kind }

  -- a variable
  is-variable : w.code ≡ 1 → means_at (tables_of s) r ≡ an_expression is_variable
  unfolding shape_of lookup codes
  is-variable c = means-as 1 c

  pub variable-inside : w.code ≡ 1 → w.a < length m
  variable-inside c = omega (arith, ltb-true w.a _ (row_as is_variable (is-variable c)).a, h.ready.store.size)

  pub variable-way : w.code ≡ 1 → value_of (get_or m w.a (mark half16)) ≡ eval (tables_of s) (expression_at (tables_of s) r) m
  unfolding value_of eval defined slot grow_expression tables_of
  variable-way c = rw (tree-as is_variable (is-variable c)) refl

  -- a constant
  is-constant : w.code ≡ 2 → means_at (tables_of s) r ≡ an_expression is_constant
  unfolding shape_of lookup codes
  is-constant c = means-as 2 c

  pub constant-way : {z : ℤ} → w.code ≡ 2 → z ≡ constant_by w.a w.b → Some z ≡ eval (tables_of s) (expression_at (tables_of s) r) m
  unfolding constant_by eval grow_expression tables_of
  constant-way c f = rw (tree-as is_constant (is-constant c)) (ap Some f)

  -- one operand
  is-unary : OneOf (16 ∷ 19 ∷ []) w.code → means_at (tables_of s) r ≡ an_expression (is_unary (unary_of w.code))
  is-unary o = means-as w.code refl ∙ unary-row w.code o

  pub operand : OneOf (16 ∷ 19 ∷ []) w.code → (w.a < r) × Runs expression s rows w.a m
  operand o = let p = (row_as _ (is-unary o)).a in (p.below, child p)

  unary-tree : OneOf (16 ∷ 19 ∷ []) w.code → expression_at (tables_of s) r ≡ unary (unary_of w.code) (expression_at (tables_of s) w.a)
  unfolding grow_expression
  unary-tree o = tree-as _ (is-unary o)

  pub unary-way : {v : Option ℤ} {a z : ℤ} → OneOf (16 ∷ 19 ∷ []) w.code → v ≡ eval (tables_of s) (expression_at (tables_of s) w.a) m → v ≡ Some a
      → z ≡ apply_unary half16 (unary_of w.code) a → Some z ≡ eval (tables_of s) (expression_at (tables_of s) r) m
  unfolding tables_of
  unary-way {a = a} o f g k = ap Some k ∙ sym (rw (unary-tree o) (one-is (tables_of s) m (unary_of w.code) _ a (sym f ∙ g)))

  pub unary-unknown : {v : Option ℤ} → OneOf (16 ∷ 19 ∷ []) w.code → v ≡ eval (tables_of s) (expression_at (tables_of s) w.a) m → v ≡ None
      → None ≡ eval (tables_of s) (expression_at (tables_of s) r) m
  unary-unknown o f g = sym (rw (unary-tree o) (one-unknown (tables_of s) m (unary_of w.code) _ (sym f ∙ g)))

  -- two operands
  module _ (f : w.code ≡ 1 → ⊥) (g : w.code ≡ 2 → ⊥) (k : OneOf (16 ∷ 19 ∷ []) w.code → ⊥) where
    is-binary : means_at (tables_of s) r ≡ an_expression (is_binary (binary_of w.code))
    is-binary =
        let d = is-kind (tables_of s) expression r h.kind in
        let c : code_of (an_expression d.0) ≡ w.code =
        ap code_of (sym d.1) ∙ code-of (tables_of s) expression r refl h.kind ∙ ap (λ (n : Fields). n.code) (sym e) in
        d.1 ∙ binary-row w.code d.0 c f g k

    pub operands : ((w.a < r) × Runs expression s rows w.a m) × ((w.b < r) × Runs expression s rows w.b m)
    operands = let q = row_as _ is-binary in ((q.a.below, child q.a), (q.b.below, child q.b))

    binary-tree : expression_at (tables_of s) r ≡ binary (binary_of w.code) (expression_at (tables_of s) w.a) (expression_at (tables_of s) w.b)
    unfolding grow_expression
    binary-tree = tree-as _ is-binary

    pub binary-way : {u v : Option ℤ} {a b z : ℤ} → u ≡ eval (tables_of s) (expression_at (tables_of s) w.a) m → u ≡ Some a
        → v ≡ eval (tables_of s) (expression_at (tables_of s) w.b) m → v ≡ Some b → z ≡ apply_binary half16 (binary_of w.code) a b
        → Some z ≡ eval (tables_of s) (expression_at (tables_of s) r) m
    unfolding both_of tables_of
    binary-way {a = a} {b = b} p q i j l = ap Some l ∙ sym (rw binary-tree (two-are (tables_of s) m (binary_of w.code) _ _ (Some a) (Some b) (sym p ∙ q) (sym i ∙ j)))

    pub left-unknown : {u : Option ℤ} → u ≡ eval (tables_of s) (expression_at (tables_of s) w.a) m → u ≡ None
        → None ≡ eval (tables_of s) (expression_at (tables_of s) r) m
    left-unknown p q = sym (rw binary-tree (left-none (tables_of s) m (binary_of w.code) _ _ (sym p ∙ q)))

    pub right-unknown : {u v : Option ℤ} {a : ℤ} → u ≡ eval (tables_of s) (expression_at (tables_of s) w.a) m → u ≡ Some a
        → v ≡ eval (tables_of s) (expression_at (tables_of s) w.b) m → v ≡ None → None ≡ eval (tables_of s) (expression_at (tables_of s) r) m
    unfolding both_of
    right-unknown {a = a} p q i j = sym (rw binary-tree (two-are (tables_of s) m (binary_of w.code) _ _ (Some a) None (sym p ∙ q) (sym i ∙ j)))

-- what a call gave, in a local
module _ {s : List ℕ} {rows r : ℕ} {m : List ℤ} (h : Runs expression s rows r m) {v : Option ℤ} {z : ℤ} (e : v ≡ eval (tables_of s) (expression_at (tables_of s) r) m) (f : v ≡ Some z) where
  pub local-is : held z ≡ z
  local-is = held-is z (let k = eval-small h z (sym e ∙ f) in omega arith)

  pub local-small : mag (held z) < 32768
  local-small = rw local-is (eval-small h z (sym e ∙ f))

  -- a condition's value
  pub test-fails : of_z w32 z ≡ 0 → Fails ≡ test (tables_of s) (expression_at (tables_of s) r) m
  unfolding test
  test-fails k =
      let n : is_zero z ≡ true = zero-divisor z (let b = eval-small h z (sym e ∙ f) in omega arith) k in
      sym (ap (λ (y : Option ℤ). elim y [ Some a ↦ elim (is_zero a) [ true ↦ Fails | false ↦ Holds ] | None ↦ Unsure ]) (sym e ∙ f) ∙ ap (λ (b : Bool). elim b [ true ↦ Fails | false ↦ Holds ]) n)

  pub test-holds : (of_z w32 z ≡ 0 → ⊥) → Holds ≡ test (tables_of s) (expression_at (tables_of s) r) m
  unfolding test
  test-holds k =
      sym (ap (λ (y : Option ℤ). elim y [ Some a ↦ elim (is_zero a) [ true ↦ Fails | false ↦ Holds ] | None ↦ Unsure ]) (sym e ∙ f) ∙ ap (λ (b : Bool). elim b [ true ↦ Fails | false ↦ Holds ]) (other-divisor z k))

pub test-unsure : (x : Tables) (d : Exp) (m : List ℤ) {v : Option ℤ} → v ≡ eval x d m → v ≡ None → Unsure ≡ test x d m
unfolding test
test-unsure x d m e f = sym (ap (λ (y : Option ℤ). elim y [ Some a ↦ elim (is_zero a) [ true ↦ Fails | false ↦ Holds ] | None ↦ Unsure ]) (sym e ∙ f))
