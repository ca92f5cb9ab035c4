-- A value of its type is caught by an arm of an exhaustive case, and an arm that fails leaves it to the rest. Assumes nothing.
use mathlib.Core.{Path.◌≡◌, Path.refl, Path.subst, Logic.⊎_elim}
use mathlib.Core.{Bool.Bool, Bool.true, Bool.false, Bool.not, Bool.cond, Bool.◌&&◌, Bool.◌||◌, Bool.false≢true, List.List}
use Prim.Native.Nat.{ℕ, zero, suc, ◌<◌}
use native.Mathlib.{Omega.arith, Decide.ℕ_discrete}
use lib.{Dec.eqb, Dec.ltb, IntN.ℤ, IntN.pos, IntN.negsuc, ListN.length, Signed.mag, Signed.non_neg}
use borrow.Author.Tests.{ltb-true, eqb-false, ne_eqb, not-true}
use Rattle.model.specs.Values.{same, of_size}
use Rattle.model.specs.Image.{Tables, int, size_of}
use Rattle.model.specs.Rows.{Not, Negate, logic, arithmetic, comparison}
use Rattle.model.specs.Trees.{Exp, var, const, unary, binary, Pat, any, bind, equals, guarded, Action, Arms, arm}
use Rattle.model.specs.Typing.{type_of_exp}
use Rattle.model.specs.Speech.{catches_all, catches, some_catches_all, some_catches, each_caught, exhaustive}
use Rattle.model.specs.Run.{matched, failed, match}
use Rattle.model.proofs.Rows.{both_true, one-true}
use Rattle.demands.proofs.Whole.{Whole, sizes-of, entry-of}
use Rattle.demands.proofs.Good.{GoodExp}
use Rattle.demands.proofs.Typed.{OfType}
use Rattle.demands.proofs.Ways.{or_right}

-- some arm catches the value: by an unguarded any or variable pattern, or as an unguarded constant
abbrev pub caught : ℤ → Arms → Bool
caught z arms = some_catches_all arms || some_catches z arms

-- ---- an exhaustive case
each-caught : (n : ℕ) (arms : Arms) (k : ℕ) → k < n → each_caught n arms ≡ true → some_catches (pos k) arms ≡ true
unfolding each_caught
each-caught zero arms k l e = absurd (omega arith)
each-caught (suc n) arms k l e =
    let p = both_true (some_catches (pos n) arms) _ e in
    elim (ℕ_discrete k n) [ yes q ↦ rw q p.0 | no f ↦ each-caught n arms k (omega arith) p.1 ]

value-caught : (h n : ℕ) (z : ℤ) (arms : Arms) → (n ≡ 0 → ⊥) → of_size h n z ≡ true → each_caught n arms ≡ true → some_catches z arms ≡ true
unfolding of_size
value-caught h n z arms f o e =
    go z (both_true (non_neg z) _ (subst (λ b. cond b (ltb (mag z) h) (non_neg z && ltb (mag z) n) ≡ true) (ne_eqb n 0 f) o))
  where
    go : (z : ℤ) → (non_neg z ≡ true) × (ltb (mag z) n ≡ true) → some_catches z arms ≡ true
    go (pos k) p = each-caught n arms k (ltb-true k n p.1) e
    go (negsuc k) p = absurd (false≢true p.0)

module _ (x : Tables) (w : Whole x) where
  -- a good expression's type is one of the image's
  type-in : (e : Exp) → GoodExp x e → type_of_exp x e < length x.sizes
  unfolding GoodExp type_of_exp
  type-in (var v) g = (entry-of x w.free v.0 g).type
  type-in (const t z) g = g.type
  type-in (unary Not e) g = omega (arith, (sizes-of x w.free).two)
  type-in (unary Negate e) g = omega (arith, (sizes-of x w.free).two)
  type-in (binary (logic o) a b) g = omega (arith, (sizes-of x w.free).two)
  type-in (binary (arithmetic o) a b) g = omega (arith, (sizes-of x w.free).two)
  type-in (binary (comparison o) a b) g = omega (arith, (sizes-of x w.free).two)

  pub exhaustive-caught : (e : Exp) (arms : Arms) (z : ℤ) → GoodExp x e → OfType x (type_of_exp x e) z → exhaustive x (type_of_exp x e) arms ≡ true
      → caught z arms ≡ true
  unfolding exhaustive
  exhaustive-caught e arms z g o h =
      ⊎_elim (λ (a : some_catches_all arms ≡ true). rw a) (λ b.
      let p = both_true (not (eqb (type_of_exp x e) int)) _ b in
      let f = eqb-false _ int (not-true _ p.0) in
      or_right (some_catches_all arms) _ (value-caught x.half (size_of x (type_of_exp x e)) z arms (λ q. f ((sizes-of x w.free).only _ (type-in e g) q)) o p.1))
      (one-true (some_catches_all arms) _ h)

-- ---- an arm that fails
fails-neither : (x : Tables) (p : Pat) (z : ℤ) (m : List ℤ) → match x p z m ≡ failed → (catches_all p ≡ false) × (catches z p ≡ false)
unfolding match
fails-neither x (any t) z m e = absurd (let k : ◌≡◌ {A = ℕ} 0 1 = cc in omega arith)
fails-neither x (bind v) z m e = absurd (let k : ◌≡◌ {A = ℕ} 0 1 = cc in omega arith)
fails-neither x (equals t k) z m e = (refl, go (same z k) e)
  where
    go : (b : Bool) → elim b [ true ↦ matched m | false ↦ failed ] ≡ failed → b ≡ false
    go true q = cc
    go false q = refl
fails-neither x (guarded p e) z m q = (refl, refl)

pub rest-caught : (x : Tables) (p : Pat) (a : Action) (rest : Arms) (z : ℤ) (m : List ℤ) → match x p z m ≡ failed → caught z (arm p a rest) ≡ true
    → caught z rest ≡ true
unfolding some_catches_all some_catches
rest-caught x p a rest z m e h = let f = fails-neither x p z m e in rw (f.0, f.1) at h
