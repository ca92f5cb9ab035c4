-- A match is its two parts: the variable bound, and what the pattern gives then. Assumes nothing.
use mathlib.Core.{Path.◌≡◌, Path.refl, Path.ap, Path.◌∙◌, Bool.Bool, Bool.true, Bool.false, List.List}
use lib.IntN.{ℤ}
use Rattle.model.specs.declared.{Tested.Tested, Tested.TheVariants.Holds, Tested.TheVariants.Fails, Tested.TheVariants.Unsure}
use Rattle.model.specs.Values.{same}
use Rattle.model.specs.Image.{Tables}
use Rattle.model.specs.Trees.{Exp, Pat, any, bind, equals, guarded}
use Rattle.model.specs.Typing.{type_of_pat}
use Rattle.model.specs.Run.{test, Match, matched, failed, unsure, match}
use Rattle.demands.specs.Stores.{TypedStore}
use Rattle.demands.proofs.{Good.GoodPat, Whole.Whole, Typed.OfType, Typed.store-typed}
use Rattle.patterns.specs.Bound.{bound, inner, judged}

pub inner-inner : (a b c : Tested) → inner (inner a b) c ≡ inner a (inner b c)
inner-inner Holds b c = refl
inner-inner Fails b c = refl
inner-inner Unsure b c = refl

pub inner-holds : (a : Tested) → inner a Holds ≡ a
inner-holds Holds = refl
inner-holds Fails = refl
inner-holds Unsure = refl

-- the match that a pattern's result makes
abbrev pub match_by : Tested → List ℤ → Match
match_by Holds n = matched n
match_by Fails n = failed
match_by Unsure n = unsure

module _ (x : Tables) (z : ℤ) where
  on-constant : (b : Bool) (m : List ℤ) → elim b [ true ↦ matched m | false ↦ failed ] ≡ match_by (elim b [ true ↦ Holds | false ↦ Fails ]) m
  on-constant true m = refl
  on-constant false m = refl

  on-guard : (e : Exp) (a : Tested) (n : List ℤ)
      → elim (match_by a n) [ matched k ↦ elim (test x e k) [ Holds ↦ matched k | Fails ↦ failed | Unsure ↦ unsure ] | failed ↦ failed | unsure ↦ unsure ] ≡ match_by (inner a (test x e n)) n
  on-guard e Holds n = go (test x e n)
    where
      go : (t : Tested) → elim t [ Holds ↦ matched n | Fails ↦ failed | Unsure ↦ unsure ] ≡ match_by t n
      go Holds = refl
      go Fails = refl
      go Unsure = refl
  on-guard e Fails n = refl
  on-guard e Unsure n = refl

  pub match_is : (p : Pat) (m : List ℤ) → match x p z m ≡ match_by (judged x p z (bound x p z m)) (bound x p z m)
  unfolding match bound judged
  match_is (any t) m = refl
  match_is (bind v) m = refl
  match_is (equals t k) m = on-constant (same z k) m
  match_is (guarded p e) m =
      ap (λ (y : Match). elim y [ matched k ↦ elim (test x e k) [ Holds ↦ matched k | Fails ↦ failed | Unsure ↦ unsure ] | failed ↦ failed | unsure ↦ unsure ]) (match_is p m)
      ∙ on-guard e (judged x p z (bound x p z m)) (bound x p z m)

  -- a value of the pattern's type keeps the store typed
  pub bound-typed : (p : Pat) (m : List ℤ) → Whole x → GoodPat x p → OfType x (type_of_pat x p) z → TypedStore x m → TypedStore x (bound x p z m)
  unfolding GoodPat type_of_pat bound
  bound-typed (any t) m w g h s = s
  bound-typed (bind v) m w g h s = store-typed x m v z g s h
  bound-typed (equals t k) m w g h s = s
  bound-typed (guarded p e) m w g h s = bound-typed p m w g.1 h s
