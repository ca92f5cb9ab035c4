-- Values stay in their types: stores that pass 13 and 18 are evaluated to values of the expressions' types and stay such.
-- Assumes nothing.
use Rattle.std.specs.Prelude.{Option, Some, None}
use mathlib.Core.{Path.◌≡◌, Path.refl, Path.sym, Path.◌∙◌, Path.subst, Logic.⊎_elim}
use mathlib.Core.{Bool.Bool, Bool.true, Bool.false, Bool.not, Bool.◌&&◌, Bool.◌||◌, List.List}
use Prim.Native.Nat.{ℕ, ◌<◌}
use native.Mathlib.{Omega.arith, Decide.ℕ_discrete}
use lib.{Dec.eqb, IntN.ℤ, ListN.length, ListN.get_or, ListN.set, ListN.length-set, Seq.get_or-set_same, Seq.get_or-set_other, Signed.mag, Signed.lt_z, Signed.le_z}
use borrow.Author.Tests.{ltb-true, lt-ltb, eqb-true, not-true}
use Rattle.model.specs.declared.{Variable.Variable, Tested.TheVariants.Holds, Tested.TheVariants.Fails, Tested.TheVariants.Unsure, Tested.Tested}
use Rattle.model.specs.Answers.{variable}
use Rattle.model.specs.Values.{mark, is_zero, same, of_bool, of_size}
use Rattle.model.specs.Image.{Tables, bool, int, size_of, type_of}
use Rattle.model.specs.Rows.{Unary, Not, Negate, And, Or, Plus, Minus, Times, Quotient, Remainder, Equal, Less, AtMost, Binary, logic, arithmetic, comparison}
use Rattle.model.specs.Trees.{Exp, var, const, unary, binary, Pat, any, bind, equals, guarded}
use Rattle.model.specs.Typing.{type_of_unary, takes, type_of_binary, type_of_exp, type_of_pat, typed_exp}
use Rattle.model.specs.Run.{slot, store, defined, apply_unary, apply_binary, eval, test, Match, matched, failed, unsure, match}
use Rattle.model.specs.Calls.{slot_of_type, slot_fits}
use Rattle.model.proofs.Rows.{both_true, one-true}
use Rattle.model.proofs.Values.{same_refl, of_size-int, of_size-not-mark, of_bool-of-bool, negate-in, plus-in, minus-in, times-in, quotient-in, remainder-in}
use Rattle.demands.specs.Stores.{TypedStore}
use Rattle.demands.proofs.Whole.{Whole, sizes-of}
use Rattle.demands.proofs.Good.{Inside, GoodConstant, GoodExp, GoodPat}

-- a value of type t
abbrev pub OfType : Tables → ℕ → ℤ → Type 0
OfType x t z = of_size x.half (size_of x t) z ≡ true

or_right : (a b : Bool) → b ≡ true → (a || b) ≡ true
or_right true b e = refl
or_right false b e = e

or_left : (a b : Bool) → a ≡ true → (a || b) ≡ true
or_left true b e = refl
or_left false b e = let z : ◌≡◌ {A = ℕ} 0 1 = cc in absurd (omega arith)

-- what a slot may hold
abbrev Fits : Tables → ℕ → ℤ → Type 0
Fits x v z = (same z (mark x.half) || of_size x.half (size_of x (type_of x (variable v))) z) ≡ true

fits-slot : (x : Tables) (m : List ℤ) (v : ℕ) → Fits x v (get_or m v (mark x.half)) → slot_fits x m v ≡ true
unfolding slot_fits slot_of_type slot
fits-slot x m v h = h

slot-fits : (x : Tables) (m : List ℤ) (v : ℕ) → slot_fits x m v ≡ true → Fits x v (get_or m v (mark x.half))
unfolding slot_fits slot_of_type slot
slot-fits x m v h = h

module _ (x : Tables) where
  store-fits : (m : List ℤ) (v : Variable) (z : ℤ) → Inside x v → TypedStore x m → Fits x v.0 z → TypedStore x (store m v z)
  unfolding store
  store-fits m v z i w h = record { size = simp length-set w.size; each = λ u l. fits-slot x (set m v.0 z) u (go u l (ℕ_discrete u v.0)) }
    where
      go : (u : ℕ) → u < length x.variables → Dec (u ≡ v.0) → Fits x u (get_or (set m v.0 z) u (mark x.half))
      go u l (yes e) =
          subst (λ (k : ℕ). Fits x k (get_or (set m v.0 z) k (mark x.half))) (sym e)
          (rw (get_or-set_same m v.0 z (mark x.half) (omega (arith, w.size))) h)
      go u l (no f) = rw (get_or-set_other m v.0 u z (mark x.half) f) (slot-fits x m u (w.each u l))

  -- a value of the variable's type is stored, or the variable is reset
  pub store-typed : (m : List ℤ) (v : Variable) (z : ℤ) → Inside x v → TypedStore x m → OfType x (type_of x v) z → TypedStore x (store m v z)
  store-typed m v z i w h = store-fits m v z i w (or_right (same z (mark x.half)) _ h)

  pub reset-typed : (m : List ℤ) (v : Variable) → Inside x v → TypedStore x m → TypedStore x (store m v (mark x.half))
  reset-typed m v i w = store-fits m v (mark x.half) i w (or_left _ _ (same_refl (mark x.half)))

  -- a slot that is defined holds a value of its variable's type
  pub slot-typed : (m : List ℤ) (v : Variable) → Inside x v → TypedStore x m → defined x m v ≡ true → OfType x (type_of x v) (slot x m v)
  unfolding defined slot
  slot-typed m v i w d =
      let n = not-true (same (get_or m v.0 (mark x.half)) (mark x.half)) d in
      ⊎_elim (λ e. let z : ◌≡◌ {A = Bool} true false = sym e ∙ n in let k : ◌≡◌ {A = ℕ} 0 1 = cc in absurd (omega arith)) (λ e. e)
      (one-true _ _ (slot-fits x m v.0 (w.each v.0 i)))

  -- what an evaluation that gives a value comes from
  pub eval-var : (m : List ℤ) (v : Variable) (z : ℤ) → eval x (var v) m ≡ Some z → (defined x m v ≡ true) × (slot x m v ≡ z)
  unfolding eval
  eval-var m v z e = go (defined x m v) refl e
    where
      go : (b : Bool) → defined x m v ≡ b → elim b [ true ↦ Some (slot x m v) | false ↦ None ] ≡ Some z → (b ≡ true) × (slot x m v ≡ z)
      go true d q = (refl, cc)
      go false d q = let k : ◌≡◌ {A = ℕ} 0 1 = cc in absurd (omega arith)

  pub eval-unary : (m : List ℤ) (o : Unary) (e : Exp) (z : ℤ) → eval x (unary o e) m ≡ Some z → (a : ℤ) × (eval x e m ≡ Some a) × (z ≡ apply_unary x.half o a)
  unfolding eval
  eval-unary m o e z q = go (eval x e m) refl q
    where
      go : (y : Option ℤ) → eval x e m ≡ y → elim y [ Some a ↦ Some (apply_unary x.half o a) | None ↦ None ] ≡ Some z
          → (a : ℤ) × (eval x e m ≡ Some a) × (z ≡ apply_unary x.half o a)
      go (Some a) d h = (a, d, cc)
      go None d h = let k : ◌≡◌ {A = ℕ} 0 1 = cc in absurd (omega arith)

  pub eval-binary : (m : List ℤ) (o : Binary) (d e : Exp) (z : ℤ) → eval x (binary o d e) m ≡ Some z
      → (a b : ℤ) × (eval x d m ≡ Some a) × (eval x e m ≡ Some b) × (z ≡ apply_binary x.half o a b)
  unfolding eval
  eval-binary m o d e z q = go (eval x d m) (eval x e m) refl refl q
    where
      go : (y u : Option ℤ) → eval x d m ≡ y → eval x e m ≡ u
          → elim y [ Some a ↦ elim u [ Some b ↦ Some (apply_binary x.half o a b) | None ↦ None ] | None ↦ None ] ≡ Some z
          → (a b : ℤ) × (eval x d m ≡ Some a) × (eval x e m ≡ Some b) × (z ≡ apply_binary x.half o a b)
      go (Some a) (Some b) f g h = (a, b, f, g, cc)
      go (Some a) None f g h = let k : ◌≡◌ {A = ℕ} 0 1 = cc in absurd (omega arith)
      go None u f g h = let k : ◌≡◌ {A = ℕ} 0 1 = cc in absurd (omega arith)

module _ (x : Tables) (w : Whole x) where
  wide : 0 < x.half
  wide = omega (arith, w.half)

  pub int-type : (z : ℤ) → mag z < x.half → OfType x int z
  int-type z h = rw ((sizes-of x w.free).ints, of_size-int x.half z) (lt-ltb (mag z) x.half h)

  pub type-int : (z : ℤ) → OfType x int z → mag z < x.half
  type-int z h =
      ltb-true (mag z) x.half (sym (of_size-int x.half z) ∙ subst (λ (n : ℕ). of_size x.half n z ≡ true) (sizes-of x w.free).ints h)

  pub int-constant : (z : ℤ) → mag z < x.half → GoodConstant x int z
  int-constant z h = record { type = omega (arith, (sizes-of x w.free).two); value = int-type z h }

  bool-type : (b : Bool) → OfType x bool (of_bool b)
  bool-type b = rw (sizes-of x w.free).bools (of_bool-of-bool x.half b)

  unary_type : (o : Unary) (a : ℤ) → OfType x (type_of_unary o) (apply_unary x.half o a)
  unfolding apply_unary
  unary_type Not a = bool-type (is_zero a)
  unary_type Negate a = int-type _ (negate-in x.half wide a)

  binary-type : (o : Binary) (s t : ℕ) (a b : ℤ) → takes o s t ≡ true → OfType x s a → OfType x (type_of_binary o) (apply_binary x.half o a b)
  unfolding apply_binary
  binary-type (logic And) s t a b e h = bool-type (not (is_zero a) && not (is_zero b))
  binary-type (logic Or) s t a b e h = bool-type (not (is_zero a) || not (is_zero b))
  binary-type (arithmetic Plus) s t a b e h = int-type _ (plus-in x.half wide a b)
  binary-type (arithmetic Minus) s t a b e h = int-type _ (minus-in x.half wide a b)
  binary-type (arithmetic Times) s t a b e h = int-type _ (times-in x.half wide a b)
  binary-type (arithmetic Quotient) s t a b e h = int-type _ (quotient-in x.half wide a b)
  binary-type (arithmetic Remainder) s t a b e h =
      int-type _ (remainder-in x.half a b (type-int a (subst (λ (k : ℕ). OfType x k a) (eqb-true s int (both_true (eqb s int) _ e).0) h)))
  binary-type (comparison Equal) s t a b e h = bool-type (same a b)
  binary-type (comparison Less) s t a b e h = bool-type (lt_z a b)
  binary-type (comparison AtMost) s t a b e h = bool-type (le_z a b)

  is-const : (s : ℕ) (k : ℤ) (m : List ℤ) (z : ℤ) → eval x (const s k) m ≡ Some z → k ≡ z
  unfolding eval
  is-const s k m z q = cc

  takes_of : (o : Binary) (d e : Exp) → typed_exp x (binary o d e) ≡ true → takes o (type_of_exp x d) (type_of_exp x e) ≡ true
  unfolding typed_exp
  takes_of o d e h = h

  -- an expression's value is of its type
  pub eval-typed : (e : Exp) (m : List ℤ) (z : ℤ) → GoodExp x e → TypedStore x m → eval x e m ≡ Some z → OfType x (type_of_exp x e) z
  unfolding GoodExp type_of_exp
  eval-typed (var v) m z g t q = let p = eval-var x m v z q in subst (OfType x (type_of x v)) p.1 (slot-typed x m v g t p.0)
  eval-typed (const s k) m z g t q = subst (OfType x s) (is-const s k m z q) g.value
  eval-typed (unary o e) m z g t q = let p = eval-unary x m o e z q in rw p.2 (unary_type o p.0)
  eval-typed (binary o d e) m z g t q =
      let p = eval-binary x m o d e z q in
      rw p.4 (binary-type o (type_of_exp x d) (type_of_exp x e) p.0 p.1 (takes_of o d e g.0) (eval-typed d m p.0 g.1 t p.2))

  -- a value of a type is not the mark
  pub value-defined : (t : ℕ) (z : ℤ) → OfType x t z → same z (mark x.half) ≡ false
  value-defined t z h = of_size-not-mark x.half (size_of x t) z (omega (arith, w.half, (sizes-of x w.free).few t)) h

  -- a store stays typed where a pattern matches
  pub match-typed : (p : Pat) (z : ℤ) (m n : List ℤ) → GoodPat x p → OfType x (type_of_pat x p) z → TypedStore x m → match x p z m ≡ matched n → TypedStore x n
  unfolding GoodPat type_of_pat match
  match-typed (any t) z m n g h s q = let e : m ≡ n = cc in subst (TypedStore x) e s
  match-typed (bind v) z m n g h s q = let e : store m v z ≡ n = cc in subst (TypedStore x) e (store-typed x m v z g s h)
  match-typed (equals t k) z m n g h s q = go (same z k) q
    where
      go : (b : Bool) → elim b [ true ↦ matched m | false ↦ failed ] ≡ matched n → TypedStore x n
      go true e = let f : m ≡ n = cc in subst (TypedStore x) f s
      go false e = let k : ◌≡◌ {A = ℕ} 0 1 = cc in absurd (omega arith)
  match-typed (guarded p e) z m n g h s q = go (match x p z m) (λ k. match-typed p z m k g.1 h s) q
    where
      pick : (k : List ℤ) (y : Tested) → TypedStore x k → elim y [ Holds ↦ matched k | Fails ↦ failed | Unsure ↦ unsure ] ≡ matched n → TypedStore x n
      pick k Holds t f = let f' : k ≡ n = cc in subst (TypedStore x) f' t
      pick k Fails t f = let k : ◌≡◌ {A = ℕ} 0 1 = cc in absurd (omega arith)
      pick k Unsure t f = let k : ◌≡◌ {A = ℕ} 0 1 = cc in absurd (omega arith)

      go : (y : Match) → ((k : List ℤ) → y ≡ matched k → TypedStore x k)
          → elim y [ matched k ↦ elim (test x e k) [ Holds ↦ matched k | Fails ↦ failed | Unsure ↦ unsure ] | failed ↦ failed | unsure ↦ unsure ] ≡ matched n
          → TypedStore x n
      go (matched k) ih f = pick k (test x e k) (ih k refl) f
      go failed ih f = let k : ◌≡◌ {A = ℕ} 0 1 = cc in absurd (omega arith)
      go unsure ih f = let k : ◌≡◌ {A = ℕ} 0 1 = cc in absurd (omega arith)
