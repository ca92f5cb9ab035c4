-- Stores in which a set of variables is defined: nothing that reads only these reads an undefined one. Assumes nothing.
use Rattle.std.specs.Prelude.{Option, Some, None}
use mathlib.Core.{Path.◌≡◌, Path.refl, Path.subst, Bool.Bool, Bool.true, Bool.false, List.List, List.[], List.◌∷◌, List.map}
use Prim.Native.Nat.{ℕ, ◌<◌}
use native.Mathlib.{Omega.arith, Decide.ℕ_discrete}
use lib.{IntN.ℤ, ListN.length, Seq.get_or-set_same, Seq.get_or-set_other}
use Rattle.model.specs.declared.{Variable.Variable, Tested.Tested, Tested.TheVariants.Holds, Tested.TheVariants.Fails, Tested.TheVariants.Unsure}
use Rattle.model.specs.Values.{mark, is_zero, same}
use Rattle.model.specs.Image.{Tables, type_of}
use Rattle.model.specs.Masks.{Has, bit, join, without, union}
use Rattle.model.specs.Largest.{Sub}
use Rattle.model.specs.Trees.{Exp, var, const, unary, binary, Pat, any, bind, equals, guarded}
use Rattle.model.specs.Typing.{type_of_pat}
use Rattle.model.specs.Binding.{use_of_exp, def_of_pat, use_of_pat}
use Rattle.model.specs.Run.{slot, store, defined, apply_unary, apply_binary, eval, test, Match, matched, failed, unsure, match, resetting, Res}
use Rattle.model.proofs.Masks.{digit-le, digit-join, digit-without, digit-bit-here, digit-bit-there}
use Rattle.demands.proofs.All.{All, nil, cons}
use Rattle.demands.proofs.Whole.{Whole}
use Rattle.demands.proofs.Good.{Inside, GoodPat}
use Rattle.demands.specs.Stores.{TypedStore}
use Rattle.demands.proofs.Typed.{OfType, store-typed, reset-typed, value-defined}
use Rattle.demands.proofs.Subsets.{sub-has, join-zero, sub-left, sub-right, bit_in, less_none, less-next}

-- each variable of b is defined
pub record Covers (x : Tables) (b : ℕ) (m : List ℤ) : Type 0 where
  pub all : (v : Variable) → Has b v.0 → defined x m v ≡ true

-- and the store is typed
abbrev pub Held : Tables → ℕ → List ℤ → Type 0
Held x b m = TypedStore x m × Covers x b m

pub covers-sub : {x : Tables} {m : List ℤ} (a b : ℕ) → Sub a b → Covers x b m → Covers x a m
covers-sub a b s c = record { all = λ v h. c.all v (sub-has a b v.0 s h) }

pub held-sub : {x : Tables} {m : List ℤ} (a b : ℕ) → Sub a b → Held x b m → Held x a m
held-sub a b s h = (h.0, covers-sub a b s h.1)

-- ---- stores
module _ (x : Tables) (b : ℕ) (m : List ℤ) (v : Variable) where
  other : (w : Variable) (z : ℤ) → (w.0 ≡ v.0 → ⊥) → Covers x b m → Has b w.0 → defined x (store m v z) w ≡ true
  unfolding defined slot store
  other w z f c h = rw (get_or-set_other m v.0 w.0 z (mark x.half) f) (c.all w h)

  here : (w : Variable) (z : ℤ) → w.0 ≡ v.0 → v.0 < length m → same z (mark x.half) ≡ false → defined x (store m v z) w ≡ true
  unfolding defined slot store
  here w z e l n = rw (e, get_or-set_same m v.0 z (mark x.half) l, n)

  covers-store : (z : ℤ) → v.0 < length m → same z (mark x.half) ≡ false → Covers x b m → Covers x (join b (bit v.0)) (store m v z)
  covers-store z l n c = record { all = λ w h. go w h (ℕ_discrete w.0 v.0) }
    where
      go : (w : Variable) → Has (join b (bit v.0)) w.0 → Dec (w.0 ≡ v.0) → defined x (store m v z) w ≡ true
      go w h (yes e) = here w z e l n
      go w h (no f) = other w z f c (omega (arith, digit-join b (bit v.0) w.0, digit-bit-there v.0 w.0 f))

  covers-reset : (z : ℤ) → Covers x b m → Covers x (without b (bit v.0)) (store m v z)
  covers-reset z c = record { all = λ w h. go w h (ℕ_discrete w.0 v.0) }
    where
      go : (w : Variable) → Has (without b (bit v.0)) w.0 → Dec (w.0 ≡ v.0) → defined x (store m v z) w ≡ true
      go w h (yes e) =
          let h' : Has (without b (bit v.0)) v.0 = subst (λ (k : ℕ). Has (without b (bit v.0)) k) e h in
          absurd (omega (arith, digit-without b (bit v.0) v.0, digit-bit-here v.0, digit-le b v.0))
      go w h (no f) = other w z f c (omega (arith, digit-without b (bit v.0) w.0, digit-bit-there v.0 w.0 f))

  -- a value of the variable's type is stored, or the variable is reset
  pub held-store : Whole x → (z : ℤ) → Inside x v → OfType x (type_of x v) z → Held x b m → Held x (join b (bit v.0)) (store m v z)
  held-store w z i o h =
      (store-typed x m v z i h.0 o, covers-store z (omega (arith, h.0.size)) (value-defined x w (type_of x v) z o) h.1)

  pub held-reset : Inside x v → Held x b m → Held x (without b (bit v.0)) (store m v (mark x.half))
  held-reset i h = (reset-typed x m v i h.0, covers-reset (mark x.half) h.1)

module _ (x : Tables) where
  pub resetting-held : (d b : ℕ) (vs : List Variable) (m : List ℤ) → All (Inside x) vs → Held x b m
      → Sub d (without b (union (map (λ v. bit v.0) vs))) → Held x d (resetting x vs m)
  unfolding resetting
  resetting-held d b [] m nil h t = held-sub d b (less_none d b t) h
  resetting-held d b (v ∷ vs) m (cons i is) h t =
      resetting-held d (without b (bit v.0)) vs (store m v (mark x.half)) is (held-reset x b m v i h)
      (less-next d b (bit v.0) (map (λ k. bit k.0) vs) t)

  -- ---- what reads only variables of b is known
  pub eval-known : (e : Exp) (b : ℕ) (m : List ℤ) → Sub (use_of_exp e) b → Covers x b m → (z : ℤ) × (eval x e m ≡ Some z)
  unfolding eval use_of_exp
  eval-known (var v) b m s c = (slot x m v, rw (c.all v (bit_in v.0 b s), eval))
  eval-known (const t z) b m s c = (z, refl)
  eval-known (unary o e) b m s c = let p = eval-known e b m s c in (apply_unary x.half o p.0, rw (p.1, eval))
  eval-known (binary o d e) b m s c =
      let p = eval-known d b m (sub-left (use_of_exp d) (use_of_exp e) b s) c in
      let q = eval-known e b m (sub-right (use_of_exp d) (use_of_exp e) b s) c in
      (apply_binary x.half o p.0 q.0, rw (p.1, q.1, eval))

  pub eval-sure : (e : Exp) (b : ℕ) (m : List ℤ) → Sub (use_of_exp e) b → Covers x b m → eval x e m ≡ None → ⊥
  eval-sure e b m s c q = let p = eval-known e b m s c in let d = p.1 in let k : ◌≡◌ {A = ℕ} 0 1 = cc in omega arith

  pub test-sure : (e : Exp) (b : ℕ) (m : List ℤ) → Sub (use_of_exp e) b → Covers x b m → test x e m ≡ Unsure → ⊥
  unfolding test
  test-sure e b m s c q = go (eval x e m) (eval-sure e b m s c) q
    where
      pick : (t : Bool) → elim t as (λ (k : Bool). Tested) [ true ↦ Fails | false ↦ Holds ] ≡ Unsure → ⊥
      pick true d = let k : ◌≡◌ {A = ℕ} 0 1 = cc in omega arith
      pick false d = let k : ◌≡◌ {A = ℕ} 0 1 = cc in omega arith

      go : (y : Option ℤ) → (y ≡ None → ⊥) → elim y [ Some a ↦ elim (is_zero a) [ true ↦ Fails | false ↦ Holds ] | None ↦ Unsure ] ≡ Unsure → ⊥
      go (Some a) f d = pick (is_zero a) d
      go None f d = f refl

-- ---- a match is known, and covers what the pattern defines
abbrev pub Suits : Tables → ℕ → Match → Type 0
Suits x d (matched n) = Held x d n
Suits x d failed = Unit
Suits x d unsure = ⊥

pub suits-rule : (P : Res → Type 0) (x : Tables) (d : ℕ) (y : Match) (k : List ℤ → Res) (a b : Res) → Suits x d y
    → ((m : List ℤ) → Held x d m → P (k m)) → P a → P (elim y [ matched m ↦ k m | failed ↦ a | unsure ↦ b ])
suits-rule P x d (matched m) k a b s h g = h m s
suits-rule P x d failed k a b s h g = g
suits-rule P x d unsure k a b s h g = absurd s

module _ (x : Tables) (w : Whole x) where
  pub match-suits : (p : Pat) (z : ℤ) (b : ℕ) (m : List ℤ) → GoodPat x p → OfType x (type_of_pat x p) z → Sub (use_of_pat p) b → Held x b m
      → Suits x (join b (def_of_pat p)) (match x p z m)
  unfolding GoodPat type_of_pat use_of_pat def_of_pat match
  match-suits (any t) z b m g o s h = held-sub (join b 0) b (join-zero b) h
  match-suits (bind v) z b m g o s h = held-store x b m v w z g o h
  match-suits (equals t k) z b m g o s h = go (same z k)
    where
      go : (t : Bool) → Suits x (join b 0) (elim t [ true ↦ matched m | false ↦ failed ])
      go true = held-sub (join b 0) b (join-zero b) h
      go false = tt
  match-suits (guarded p e) z b m g o s h =
      let u = without (use_of_exp e) (def_of_pat p) in
      go (sub-left u (use_of_pat p) b s) (match x p z m) (match-suits p z b m g.1 o (sub-right u (use_of_pat p) b s) h)
    where
      d : ℕ
      d = join b (def_of_pat p)

      pick : (n : List ℤ) (y : Tested) → Held x d n → (y ≡ Unsure → ⊥) → Suits x d (elim y [ Holds ↦ matched n | Fails ↦ failed | Unsure ↦ unsure ])
      pick n Holds k f = k
      pick n Fails k f = tt
      pick n Unsure k f = f refl

      go : Sub (without (use_of_exp e) (def_of_pat p)) b → (y : Match) → Suits x d y
          → Suits x d (elim y [ matched n ↦ elim (test x e n) [ Holds ↦ matched n | Fails ↦ failed | Unsure ↦ unsure ] | failed ↦ failed | unsure ↦ unsure ])
      go i (matched n) k =
          pick n (test x e n) k (test-sure x e d n
          (λ v. omega (arith, i v, digit-without (use_of_exp e) (def_of_pat p) v, digit-join b (def_of_pat p) v, digit-le (use_of_exp e) v)) k.1)
      go i failed k = tt
      go i unsure k = k
