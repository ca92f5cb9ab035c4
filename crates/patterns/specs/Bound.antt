-- A match in two parts: the store with the pattern's variable bound, and what the pattern gives on it (report, section 3.4; 01,
-- "The step"). Assumes nothing.
use mathlib.Core.{Path.◌≡◌, Bool.true, Bool.false, List.List}
use Rattle.std.specs.Prelude.{ℕ, ◌^◌, ◌<◌, Option, Some, None, ℤ}
use lib.{Dec.eqb, IntN.ℤ, ListN.length, ListN.set, Signed.mag}
use Rattle.model.specs.declared.{Fields.Fields, Tested.Tested, Tested.TheVariants.Holds, Tested.TheVariants.Fails, Tested.TheVariants.Unsure}
use Rattle.model.specs.Values.{same}
use Rattle.model.specs.Image.{Tables}
use Rattle.model.specs.Trees.{Pat, any, bind, equals, guarded}
use Rattle.model.specs.Run.{store, test}
use Rattle.expressions.specs.Operators.{constant_by}

-- the store with the pattern's variable, if it has one, bound
unfoldable pub bound : Tables → Pat → ℤ → List ℤ → List ℤ
bound x (any t) z m = m
bound x (bind v) z m = store m v z
bound x (equals t k) z m = m
bound x (guarded p e) z m = bound x p z m

-- "a guard is evaluated only if its pattern matched, inner before outer"
abbrev pub inner : Tested → Tested → Tested
inner Holds t = t
inner Fails t = Fails
inner Unsure t = Unsure

-- what a pattern gives on the store with its variable bound
unfoldable pub judged : Tables → Pat → ℤ → List ℤ → Tested
judged x (any t) z n = Holds
judged x (bind v) z n = Holds
judged x (equals t k) z n = elim (same z k) [ true ↦ Holds | false ↦ Fails ]
judged x (guarded p e) z n = inner (judged x p z n) (test x e n)

-- 32, 33 hold; 34 by its constant
unfoldable pub base_of : Fields → ℤ → Tested
base_of w z = elim (eqb w.code 34) [ true ↦ elim (same z (constant_by w.a w.b)) [ true ↦ Holds | false ↦ Fails ] | false ↦ Holds ]

-- the store with a slot as it was
abbrev pub undone : Option (ℕ × ℤ) → List ℤ → List ℤ
undone None n = n
undone (Some (v, z)) n = set n v z

-- the slot is one of the store's
abbrev pub SlotIn : Option (ℕ × ℤ) → ℕ → Type 0
SlotIn None k = Unit
SlotIn (Some (v, z)) k = (v < k) × (mag z < 2 ^ 31)

-- n is the store m with the pattern's variable bound, and o gives m back
pub record Bound (x : Tables) (p : Pat) (z : ℤ) (m : List ℤ) (o : Option (ℕ × ℤ)) (n : List ℤ) : Type 0 where
  pub after : n ≡ bound x p z m
  pub back : undone o n ≡ m
  pub inside : SlotIn o (length n)
