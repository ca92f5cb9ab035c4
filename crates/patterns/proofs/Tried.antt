-- What a match gives, its variable bound and its conditions judged. Assumes nothing.
use Rattle.std.specs.Prelude.{Option, Some}
use mathlib.Core.{Path.◌≡◌, Path.sym, Path.ap, Path.◌∙◌, Path.subst, Bool.Bool, Bool.true, Bool.false, List.List}
use Prim.Native.Nat.{ℕ, ◌^◌, ◌<◌}
use lib.{Dec.eqb, IntN.ℤ, ListN.length, ListN.set, Signed.mag}
use borrow.Author.Tests.{eq-eqb, ne_eqb}
use Rattle.model.specs.declared.{Fields.Fields, Tested.Tested, Tested.TheVariants.Holds, Tested.TheVariants.Fails, Tested.TheVariants.Unsure}
use Rattle.model.specs.Values.{same}
use Rattle.model.specs.Image.{Tables, tables_of}
use Rattle.model.specs.Rows.{pattern}
use Rattle.model.specs.Trees.{Pat}
use Rattle.model.specs.Decode.{pattern_at}
use Rattle.model.specs.Run.{match}
use Rattle.expressions.specs.{Operators.constant_by, Ready.Runs}
use Rattle.expressions.proofs.{Operated.same-is, Ways.all}
use Rattle.demands.proofs.GoodRows.{good-pat}
use mir.{Syntax.w32, Val.of_z}
use Rattle.values.proofs.Held.{held, held-is}
use Rattle.patterns.specs.Bound.{bound, inner, judged, base_of, undone, SlotIn, Bound}
use Rattle.patterns.specs.Matching.{Tries, matching, matching_of, matches}
use Rattle.patterns.proofs.Judged.{match_by, match_is, bound-typed}
use Rattle.model.specs.Run as run

-- a slot given back
pub was-in : (k : ℕ) {o : Option (ℕ × ℤ)} {v : ℕ} {z : ℤ} → SlotIn o k → o ≡ Some (v, z) → (v < k) × (mag z < 2 ^ 31)
was-in k h e = subst (λ (o : Option (ℕ × ℤ)). SlotIn o k) e h

pub was-back : (n : List ℤ) (o : Option (ℕ × ℤ)) {v : ℕ} {z : ℤ} → SlotIn o (length n) → o ≡ Some (v, z) → set n v (held z) ≡ undone o n
was-back n o {v} {z} h e = rw (held-is z (was-in (length n) h e).1) (sym (ap (λ (u : Option (ℕ × ℤ)). undone u n) e))

-- a pattern without a condition, by its code and its constant
by_code : Tested → Bool → Bool → Tested
by_code kept a b = inner (elim a [ true ↦ elim b [ true ↦ Holds | false ↦ Fails ] | false ↦ Holds ]) kept

module _ (w : Fields) (z : ℤ) (kept : Tested) where
  pub base-other : (w.code ≡ 34 → ⊥) → kept ≡ inner (base_of w z) kept
  unfolding base_of by_code
  base-other f = sym (ap (λ (a : Bool). by_code kept a (same z (constant_by w.a w.b))) (ne_eqb w.code 34 f))

  module _ {k : ℤ} (c : w.code ≡ 34) (h : mag z < 2 ^ 31) (l : mag k < 2 ^ 31) (e : k ≡ constant_by w.a w.b) where
    base-by : (b : Bool) → eqb (of_z w32 z) (of_z w32 k) ≡ b → by_code kept true b ≡ inner (base_of w z) kept
    unfolding base_of by_code
    base-by b q =
        ap (by_code kept true) (sym q ∙ same-is z k h l ∙ ap (same z) e)
        ∙ sym (ap (λ (a : Bool). by_code kept a (same z (constant_by w.a w.b))) (eq-eqb w.code 34 c))

    pub base_same : of_z w32 k ≡ of_z w32 z → kept ≡ inner (base_of w z) kept
    unfolding by_code
    base_same q = base-by true (eq-eqb (of_z w32 z) (of_z w32 k) (sym q))

    pub base-differs : (of_z w32 k ≡ of_z w32 z → ⊥) → Fails ≡ inner (base_of w z) kept
    unfolding by_code
    base-differs f = base-by false (ne_eqb (of_z w32 z) (of_z w32 k) (λ q. f (sym q)))

pub bound-still : {x : Tables} {p : Pat} {z : ℤ} {m : List ℤ} {o : Option (ℕ × ℤ)} {n k : List ℤ} → Bound x p z m o n → k ≡ n → Bound x p z m o k
bound-still {x} {p} {z} {m} {o} b e = subst (Bound x p z m o) (sym e) b

-- a match, its variable bound for y, which is z
module _ {s : List ℕ} {rows p : ℕ} {y z : ℤ} {m : List ℤ} (h : Tries s rows p z m) (q : y ≡ z) {o : Option (ℕ × ℤ)} {n : List ℤ} (b : Bound (tables_of s) (pattern_at (tables_of s) p) y m o n) where
  pub bound-as : n ≡ bound (tables_of s) (pattern_at (tables_of s) p) z m
  bound-as = b.after ∙ ap (λ (a : ℤ). bound (tables_of s) (pattern_at (tables_of s) p) a m) q

  pub bound-runs : Runs pattern s rows p n
  bound-runs =
      let r = h.runs in
      let w = all r.ready in
      let t = bound-typed (tables_of s) z (pattern_at (tables_of s) p) m w (good-pat (tables_of s) w p r.kind) h.typed r.ready.store in
      record {
        ready = record { bytes = r.ready.bytes; passed = r.ready.passed; store = rw bound-as t };
        start = r.start;
        kind = r.kind;
      }

  module _ {t : Tested} (e : t ≡ judged (tables_of s) (pattern_at (tables_of s) p) y n) where
    pub match-as : (a : Tested) → t ≡ a → match_by a n ≡ match (tables_of s) (pattern_at (tables_of s) p) z m
    match-as a f =
        let x = tables_of s in
        let d = pattern_at (tables_of s) p in
        ap (λ (b : Tested). match_by b n) (sym f ∙ e ∙ ap (λ (a : ℤ). judged x d a n) q)
        ∙ ap (λ (k : List ℤ). match_by (judged x d z k) k) bound-as
        ∙ sym (match_is x z d m)

    pub gives-matched : t ≡ Holds → matching Holds n ≡ matches (tables_of s) (pattern_at (tables_of s) p) z m
    gives-matched f = ap (λ (y : run.Match). matching_of y m) (match-as Holds f)

    pub gives-failed : {k : List ℤ} → t ≡ Fails → k ≡ undone o n → matching Fails k ≡ matches (tables_of s) (pattern_at (tables_of s) p) z m
    gives-failed f g = ap (matching Fails) (g ∙ b.back) ∙ ap (λ (y : run.Match). matching_of y m) (match-as Fails f)

    pub gives-unsure : {k : List ℤ} → t ≡ Unsure → k ≡ undone o n → matching Unsure k ≡ matches (tables_of s) (pattern_at (tables_of s) p) z m
    gives-unsure f g = ap (matching Unsure) (g ∙ b.back) ∙ ap (λ (y : run.Match). matching_of y m) (match-as Unsure f)
