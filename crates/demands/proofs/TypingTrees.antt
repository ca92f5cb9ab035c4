-- Typing's tests and judgements on trees: a type is the type that the tests compare; where the parts have types, the test of a
-- node is its rule. Assumes nothing.
use mathlib.Core.{Path.◌≡◌, Path.refl, Path.sym, Path.◌∙◌, Path.subst, Bool.Bool, Bool.true, Bool.false, Bool.not, List.List, List.[], List.◌∷◌}
use Prim.Native.Nat.{ℕ}
use native.Mathlib.Omega.{arith}
use lib.Dec.{eqb}
use borrow.Author.Tests.{eqb-true, eq-eqb, ne_eqb, not-true}
use Rattle.model.specs.declared.Gate.{Gate}
use Rattle.model.specs.Lists.{all}
use Rattle.model.specs.Image.{Tables, bool, int, type_of}
use Rattle.model.specs.Rows.{Unary, Not, Negate, Equal, Less, AtMost, Binary, logic, arithmetic, comparison}
use Rattle.model.specs.Trees.{Exp, unary, binary, Pat, Offer, Act, communicate, Arms}
use Rattle.model.specs.Typing.{type_of_unary, takes, type_of_binary, type_of_exp, type_of_pat, typed_exp, typed_pat, arms_of_type, may_offer, typed_act}
use Rattle.model.proofs.Rows.{both_true}
use Rattle.demands.specs.Common.{Every}
use Rattle.demands.specs.Judgements.{Takes1, p_not, p_negate, Takes2, p_logic, p_arithmetic, p_equal, p_less, p_at_most, HasType, t_var, t_const, t_unary, t_binary, PatType, t_any, t_bind, t_equals, t_guarded, OfferTyped, TypedAct, t_null, t_reset, t_to, t_assign, t_choose, t_quiet, t_communicate, t_then, t_select, t_case, t_while, t_for, TypedArms, t_no_arm, t_arm}
use Rattle.demands.proofs.Everys.{and_both, every-all}

not_eqb : (m n : ℕ) → (m ≡ n → ⊥) → not (eqb m n) ≡ true
not_eqb m n f = rw (ne_eqb m n f)

module _ (x : Tables) where
  unary-is : {o : Unary} {s t : ℕ} → Takes1 o s t → type_of_unary o ≡ t
  unary-is p_not = refl
  unary-is p_negate = refl

  unary-takes : {o : Unary} {s t : ℕ} → Takes1 o s t → s ≡ type_of_unary o
  unary-takes p_not = refl
  unary-takes p_negate = refl

  binary-is : {o : Binary} {s u t : ℕ} → Takes2 o s u t → type_of_binary o ≡ t
  binary-is p_logic = refl
  binary-is p_arithmetic = refl
  binary-is p_equal = refl
  binary-is p_less = refl
  binary-is p_at_most = refl

  binary-takes : {o : Binary} {s u t : ℕ} → Takes2 o s u t → takes o s u ≡ true
  binary-takes p_logic = refl
  binary-takes p_arithmetic = refl
  binary-takes (p_equal {t}) = eq-eqb t t refl
  binary-takes p_less = refl
  binary-takes p_at_most = refl

  pub type-is : {e : Exp} {t : ℕ} → HasType x e t → type_of_exp x e ≡ t
  unfolding type_of_exp
  type-is t_var = refl
  type-is t_const = refl
  type-is (t_unary p h) = unary-is p
  type-is (t_binary p a b) = binary-is p

  pub pattern-is : {p : Pat} {t : ℕ} → PatType x p t → type_of_pat x p ≡ t
  unfolding type_of_pat
  pattern-is t_any = refl
  pattern-is t_bind = refl
  pattern-is t_equals = refl
  pattern-is (t_guarded p h) = pattern-is p

  -- ---- a judged node passes its test
  pub exp-passes : {e : Exp} {t : ℕ} → HasType x e t → typed_exp x e ≡ true
  unfolding typed_exp
  exp-passes t_var = refl
  exp-passes t_const = refl
  exp-passes (t_unary {o} {e = e} p h) = eq-eqb (type_of_exp x e) (type_of_unary o) (type-is h ∙ unary-takes p)
  exp-passes (t_binary {o} {a = a} {b = b} p h k) = rw (type-is h, type-is k) (binary-takes p)

  pub pat-passes : {p : Pat} {t : ℕ} → PatType x p t → typed_pat x p ≡ true
  unfolding typed_pat
  pat-passes t_any = refl
  pat-passes t_bind = refl
  pat-passes t_equals = refl
  pat-passes (t_guarded {e = e} p h) = eq-eqb (type_of_exp x e) bool (type-is h)

  arms-pass : {t : ℕ} {arms : Arms} → TypedArms x t arms → arms_of_type x t arms ≡ true
  unfolding arms_of_type
  arms-pass t_no_arm = refl
  arms-pass (t_arm {t} {p} {rest = rest} h a hs) =
      and_both (eqb (type_of_pat x p) t) (arms_of_type x t rest) (eq-eqb (type_of_pat x p) t (pattern-is h)) (arms-pass hs)

  pub act-passes : {a : Act} → TypedAct x a → typed_act x a ≡ true
  unfolding typed_act
  act-passes t_null = refl
  act-passes t_reset = refl
  act-passes t_to = refl
  act-passes (t_assign h) = every-all _ (λ i t. eq-eqb (type_of_exp x i.e) (type_of x i.v) (type-is t)) h
  act-passes (t_choose {is} {e} h g) =
      and_both (all (λ i. eqb (type_of x i.v) i.t) is) (eqb (type_of_exp x e) bool) (every-all _ (λ i t. eq-eqb (type_of x i.v) i.t t) g)
      (eq-eqb (type_of_exp x e) bool (type-is h))
  act-passes t_quiet = refl
  act-passes (t_communicate {g} f h) = not_eqb g.0 0 f
  act-passes (t_then h k) = refl
  act-passes (t_select h) = refl
  act-passes (t_case {e} {t} {arms} h g) = rw (type-is h) (arms-pass g)
  act-passes (t_while {e} h k) = eq-eqb (type_of_exp x e) bool (type-is h)
  act-passes (t_for {v} h k) = eq-eqb (type_of x v) int h

  -- ---- a node whose parts have types and whose test passes is judged well
  pub as-type : {e : Exp} {s : ℕ} (t : ℕ) → HasType x e s → type_of_exp x e ≡ t → HasType x e t
  as-type {e} t h p = subst (HasType x e) (sym (type-is h) ∙ p) h

  pub as-pattern : {p : Pat} {s : ℕ} (t : ℕ) → PatType x p s → type_of_pat x p ≡ t → PatType x p t
  as-pattern {p} t h q = subst (PatType x p) (sym (pattern-is h) ∙ q) h

  pub unary-up : (o : Unary) {e : Exp} {s : ℕ} → HasType x e s → typed_exp x (unary o e) ≡ true → HasType x (unary o e) (type_of_unary o)
  unfolding typed_exp
  unary-up Not h q = t_unary p_not (as-type bool h (eqb-true _ _ q))
  unary-up Negate h q = t_unary p_negate (as-type int h (eqb-true _ _ q))

  pub binary-up : (o : Binary) {a b : Exp} {s u : ℕ} → HasType x a s → HasType x b u → typed_exp x (binary o a b) ≡ true
      → HasType x (binary o a b) (type_of_binary o)
  unfolding typed_exp
  binary-up (logic o) {a} {b} h k q =
      let p = both_true (eqb (type_of_exp x a) bool) _ q in
      t_binary p_logic (as-type bool h (eqb-true _ _ p.0)) (as-type bool k (eqb-true _ _ p.1))
  binary-up (arithmetic o) {a} {b} h k q =
      let p = both_true (eqb (type_of_exp x a) int) _ q in
      t_binary p_arithmetic (as-type int h (eqb-true _ _ p.0)) (as-type int k (eqb-true _ _ p.1))
  binary-up (comparison Equal) {a} {b} h k q =
      t_binary p_equal h (as-type _ k (sym (eqb-true (type_of_exp x a) (type_of_exp x b) q) ∙ type-is h))
  binary-up (comparison Less) {a} {b} h k q =
      let p = both_true (eqb (type_of_exp x a) int) _ q in
      t_binary p_less (as-type int h (eqb-true _ _ p.0)) (as-type int k (eqb-true _ _ p.1))
  binary-up (comparison AtMost) {a} {b} h k q =
      let p = both_true (eqb (type_of_exp x a) int) _ q in
      t_binary p_at_most (as-type int h (eqb-true _ _ p.0)) (as-type int k (eqb-true _ _ p.1))

  pub offers-up : (g : Gate) (os : List Offer) → Every (OfferTyped x) os → may_offer g os ≡ true → TypedAct x (communicate g os)
  offers-up g [] h q = t_quiet
  offers-up g (o ∷ os) h q = t_communicate (λ e. let z : ◌≡◌ {A = Bool} true false = sym (eq-eqb g.0 0 e) ∙ not-true (eqb g.0 0) q in let k : ◌≡◌ {A = ℕ} 0 1 = cc in omega arith) h
