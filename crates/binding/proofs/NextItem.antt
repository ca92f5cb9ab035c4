-- The next field of an item: only code 46 has it in field b. Assumes nothing.
use mathlib.Core.{Path.◌≡◌, Path.refl, Path.sym, Path.ap, Path.◌∙◌, Logic.◌⊎◌, Logic.inl, Logic.inr, Logic.⊎_elim, Bool.Bool, Bool.true, Bool.false, Bool.not, Bool.◌||◌, List.List, List.[], List.◌∷◌}
use Prim.Native.Nat.{ℕ}
use native.Mathlib.Omega.{arith}
use lib.Dec.{eqb}
use borrow.Author.Tests.{eqb-true}
use Rattle.model.specs.declared.Fields.{Fields}
use Rattle.model.specs.Lists.{all}
use Rattle.model.specs.Image.{none}
use Rattle.model.specs.Rows.{expression, pattern, offer, gets, of_type, item, range, action, branch, arm, unknown, unused, Means, an_expression, a_pattern, an_offer, an_action, another, kind_of, Shape, line, codes, lookup, shape_of, same_kind, pick_next}
use Rattle.model.proofs.Rows.{both_true, lined}
use Rattle.binding.specs.Bound.{Item, next_in}

-- t is the line of code c in a table whose lines pass p, or that of an unknown code
abbrev Found : (Shape → Bool) → ℕ → Shape → Type 0
Found p c t = (t ≡ line c (another unknown) unused unused unused) ⊎ ((t.code ≡ c) × (p t ≡ true))

found : (p : Shape → Bool) (l : List Shape) (c : ℕ) → all p l ≡ true → Found p c (lookup l c)
unfolding all lookup
found p [] c t = inl refl
found p (s ∷ l) c t = go (eqb c s.code) refl (found p l c (both_true (p s) _ t).1)
  where
    go : (b : Bool) → eqb c s.code ≡ b → Found p c (lookup l c) → Found p c (elim b [ true ↦ s | false ↦ lookup l c ])
    go true e q = inr (sym (eqb-true c s.code e), (both_true (p s) _ t).0)
    go false e q = q

item-line : Shape → Bool
item-line s = not (same_kind (kind_of s.means) item) || eqb s.code 46

item-lines : all item-line codes ≡ true
unfolding all codes item-line
item-lines = refl

item-code : (c : ℕ) → (shape_of c).means ≡ another item → c ≡ 46
unfolding shape_of item-line
item-code c e =
    ⊎_elim
    (λ (q : lookup codes c ≡ line c (another unknown) unused unused unused).
    let z : another unknown ≡ another item = sym (ap (λ (s : Shape). s.means) q) ∙ e in
    let y : ◌≡◌ {A = ℕ} 0 1 = cc in
    absurd (omega arith))
    (λ q. sym q.0 ∙ eqb-true (shape_of c).code 46 (rw e at q.1))
    (found item-line codes c item-lines)

pub next-b : (w : Fields) → w.code ≡ 46 → w.b ≡ next_in w
unfolding shape_of lookup codes
next-b w e = sym (ap (λ (c : ℕ). pick_next (shape_of c).b w.b (pick_next (shape_of c).c w.c none)) e)

pub next-c : (w : Fields) → Item (kind_of (shape_of w.code).means) → (w.code ≡ 46 → ⊥) → w.c ≡ next_in w
next-c w t f = go (shape_of w.code).means refl t
  where
    go : (m : Means) → (shape_of w.code).means ≡ m → Item (kind_of m) → w.c ≡ next_in w
    go (an_expression e) q p = absurd p
    go (a_pattern e) q p = absurd p
    go (an_offer e) q p = absurd p
    go (an_action e) q p = absurd p
    go (another expression) q p = absurd p
    go (another pattern) q p = absurd p
    go (another offer) q p = absurd p
    go (another gets) q p = rw ((lined w.code).b, (lined w.code).c, q)
    go (another of_type) q p = rw ((lined w.code).b, (lined w.code).c, q)
    go (another item) q p = absurd (f (item-code w.code q))
    go (another range) q p = absurd p
    go (another action) q p = absurd p
    go (another branch) q p = absurd p
    go (another arm) q p = absurd p
    go (another unknown) q p = absurd p
