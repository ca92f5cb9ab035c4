-- The two walks from a pattern to the one inside all its conditions. Assumes nothing.
use Rattle.std.specs.Prelude.{Some, None}
use mathlib.Core.{Path.◌≡◌, Path.refl, Path.ap, Path.◌∙◌, List.List, List.[], List.◌∷◌}
use Prim.Native.Nat.{ℕ, zero, suc, ◌^◌, ◌<◌}
use native.Mathlib.Omega.{arith}
use lib.{IntN.ℤ, IntN.pos, ListN.length, ListN.get_or, ListN.set, ListN.length-set, Signed.mag}
use Rattle.model.specs.declared.{Fields.Fields, Tested.Tested, Tested.TheVariants.Holds}
use Rattle.model.specs.Image.{tables_of, fields_of}
use Rattle.model.specs.Rows.{expression, pattern}
use Rattle.model.specs.Decode.{expression_at, pattern_at}
use Rattle.model.specs.Run.{test}
use Rattle.expressions.specs.{Ready.Runs}
use Rattle.values.proofs.Held.{held, held-is}
use Rattle.patterns.specs.Bound.{bound, inner, judged, base_of, Bound}
use Rattle.patterns.proofs.Judged.{inner-holds}
use Rattle.patterns.proofs.Rows.{inner-row, condition-row, bound-inner, judged-inner, slot-inside, bound-variable, bound-other, judged-base}

pub set_back : (m : List ℤ) (i : ℕ) (z : ℤ) → i < length m → set (set m i z) i (get_or m i (pos 0)) ≡ m
set_back [] i z h = absurd (omega arith)
set_back (y ∷ m) zero z h = refl
set_back (y ∷ m) (suc i) z h = ap (λ (l : List ℤ). y ∷ l) (set_back m i z (omega arith))

-- the walk down a pattern to bind its variable
pub record Down (s : List ℕ) (rows p : ℕ) (m : List ℤ) (here : ℕ) : Type 0 where
  pub runs : Runs pattern s rows here m
  pub same : (z : ℤ) → bound (tables_of s) (pattern_at (tables_of s) here) z m ≡ bound (tables_of s) (pattern_at (tables_of s) p) z m

module _ {s : List ℕ} {rows p : ℕ} {m : List ℤ} where
  pub down-first : Runs pattern s rows p m → Down s rows p m p
  down-first h = record { runs = h; same = λ z. refl }

  module _ {here : ℕ} (d : Down s rows p m here) {w : Fields} (e : w ≡ fields_of (tables_of s) here) where
    pub down-less : w.code ≡ 35 → w.a < here
    down-less c = (inner-row d.runs e c).0

    pub down_step : w.code ≡ 35 → Down s rows p m w.a
    down_step c = record { runs = (inner-row d.runs e c).1; same = λ z. bound-inner d.runs e c z m ∙ d.same z }

    pub slot-in : {k : List ℤ} → k ≡ m → w.code ≡ 33 → w.a < length k
    slot-in q c = omega (arith, slot-inside d.runs e c, ap length q)

    pub bound-there : (z : ℤ) (k : List ℤ) → k ≡ m → w.code ≡ 33 → mag z < 2 ^ 31 → mag (get_or k w.a (pos 0)) < 2 ^ 31
        → Bound (tables_of s) (pattern_at (tables_of s) p) z m (Some (w.a, held (get_or k w.a (pos 0)))) (set k w.a (held z))
    bound-there z k q c f g =
        let i = slot-in q c in
        rw (held-is z f, held-is (get_or k w.a (pos 0)) g)
        (record {
          after = rw q (bound-variable d.runs e c z m ∙ d.same z);
          back = rw q (set_back m w.a z (omega (arith, ap length q)));
          inside = (simp length-set i, g);
        })

    pub bound-none : (z : ℤ) (k : List ℤ) → k ≡ m → (w.code ≡ 33 → ⊥) → (w.code ≡ 35 → ⊥) → Bound (tables_of s) (pattern_at (tables_of s) p) z m None k
    bound-none z k q f g = record { after = q ∙ bound-other d.runs e f g z m ∙ d.same z; back = q; inside = tt }

-- the walk down a pattern to judge its conditions
pub record Along (s : List ℕ) (rows p : ℕ) (n : List ℤ) (here : ℕ) (kept : Tested) : Type 0 where
  pub runs : Runs pattern s rows here n
  pub same : (z : ℤ) → inner (judged (tables_of s) (pattern_at (tables_of s) here) z n) kept ≡ judged (tables_of s) (pattern_at (tables_of s) p) z n

module _ {s : List ℕ} {rows p : ℕ} {n : List ℤ} where
  pub along-first : Runs pattern s rows p n → Along s rows p n p Holds
  along-first h = record { runs = h; same = λ z. inner-holds (judged (tables_of s) (pattern_at (tables_of s) p) z n) }

  module _ {here : ℕ} {kept : Tested} (d : Along s rows p n here kept) {w : Fields} (e : w ≡ fields_of (tables_of s) here) where
    pub along-less : w.code ≡ 35 → w.a < here
    along-less c = (inner-row d.runs e c).0

    pub along-condition : w.code ≡ 35 → Runs expression s rows w.b n
    along-condition c = condition-row d.runs e c

    pub along-step : {t b : Tested} → w.code ≡ 35 → t ≡ test (tables_of s) (expression_at (tables_of s) w.b) n → b ≡ inner t kept → Along s rows p n w.a b
    along-step c f g = record { runs = (inner-row d.runs e c).1; same = λ z. judged-inner d.runs e c z n kept f g ∙ d.same z }

    pub along-base : {t : Tested} {y z : ℤ} → y ≡ z → (w.code ≡ 35 → ⊥) → t ≡ inner (base_of w y) kept → t ≡ judged (tables_of s) (pattern_at (tables_of s) p) z n
    along-base {z = z} q f g = g ∙ ap (λ (a : ℤ). inner (base_of w a) kept) q ∙ ap (λ (a : Tested). inner a kept) (judged-base d.runs e f z n) ∙ d.same z
