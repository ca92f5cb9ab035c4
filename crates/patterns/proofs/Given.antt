-- What a match and a search give their callers. Assumes nothing.
use Rattle.std.specs.Prelude.{Option, Some}
use mathlib.Core.{Path.◌≡◌, Path.refl, Path.sym, Path.ap, Path.◌∙◌, Path.subst, Logic.inl, Logic.inr, Logic.⊎_elim}
use mathlib.Core.{Bool.true, List.List, List.[], List.◌∷◌}
use Prim.Native.Nat.{ℕ, suc, ◌≤◌, ◌<◌}
use native.Mathlib.Omega.{arith}
use lib.{Dec.eqb, IntN.ℤ}
use borrow.Author.Tests.{eqb-true, eq-eqb}
use Rattle.model.specs.declared.{Fields.Fields, Tested.Tested, Tested.TheVariants.Holds, Tested.TheVariants.Fails, Tested.TheVariants.Unsure}
use Rattle.model.specs.Image.{Tables, tables_of, fields_of}
use Rattle.model.specs.Rows.{expression, action, arm as arm_kind, is_case, an_action, another, codes, lookup, shape_of, means_at, is_kind}
use Rattle.model.specs.Trees.{Pat, Arms, no_arm, arm}
use Rattle.model.specs.Decode.{expression_at, pattern_at, list_at, arms_of, grow_action, action_at}
use Rattle.model.specs.Typing.{type_of_exp, type_of_pat, arms_of_type}
use Rattle.model.specs.Run.{matched, failed, unsure, match, eval}
use Rattle.model.specs.Run as run
use Rattle.model.proofs.Rows.{both_true, row_is, is-kind}
use Rattle.model.proofs.Codes.{means}
use Rattle.model.proofs.Decode.{action_at-is, Listed, no_more, one-row, list_at-listed}
use Rattle.demands.specs.Stores.{TypedStore}
use Rattle.demands.proofs.{Good.Good, Good.GoodAct, Good.GoodArms, GoodRows.good-exp, GoodRows.good-pat, GoodRows.good-action, Typed.OfType, Typed.eval-typed, Typed.match-typed}
use Rattle.expressions.specs.Ready.{Ready, Runs}
use Rattle.expressions.proofs.Ways.{all, forms, local-is}
use Rattle.values.proofs.Held.{held}
use Rattle.patterns.specs.declared.{Found.Found, Found.TheVariants.Arm, Found.TheVariants.NoArm}
use Rattle.patterns.specs.declared.Found.TheVariants as finds
use Rattle.patterns.specs.Matching.{Tries, Matching, matching, matching_of, matches}
use Rattle.patterns.specs.Finding.{Finds, Finding, finding, find_arm}
use Rattle.patterns.proofs.Cases.{by-match}

-- what the answer r and the store n after it say of a match
abbrev pub Said : Tested → List ℤ → List ℤ → run.Match → Type 0
Said Holds n m y = y ≡ matched n
Said Fails n m y = (y ≡ failed) × (n ≡ m)
Said Unsure n m y = (y ≡ unsure) × (n ≡ m)

said_of : (y : run.Match) (m : List ℤ) → Said (matching_of y m).said (matching_of y m).store m y
said_of (matched n) m = refl
said_of failed m = (refl, refl)
said_of unsure m = (refl, refl)

pub said : {r : Tested} {n : List ℤ} (x : Tables) (p : Pat) (z : ℤ) (m : List ℤ) → matching r n ≡ matches x p z m → Said r n m (match x p z m)
said x p z m e = subst (λ (g : Matching). Said g.said g.store m (match x p z m)) (sym e) (said_of (match x p z m) m)

ready_on : {s : List ℕ} {m n : List ℤ} → Ready s m → TypedStore (tables_of s) n → Ready s n
ready_on h t = record { bytes = h.bytes; passed = h.passed; store = t }

-- a store that a match leaves is one to run on
pub matched-ready : {s : List ℕ} {rows p : ℕ} {z : ℤ} {m n : List ℤ} → Tries s rows p z m → match (tables_of s) (pattern_at (tables_of s) p) z m ≡ matched n → Ready s n
matched-ready {s} {p = p} {z = z} {m = m} {n = n} h e =
    let r = h.runs in
    let w = all r.ready in
    ready_on r.ready (match-typed (tables_of s) w (pattern_at (tables_of s) p) z m n (good-pat (tables_of s) w p r.kind) h.typed r.ready.store e)

-- what is found is an action below the first arm, to run on the store after the match; else the store is as it was
abbrev pub Left : List ℕ → ℕ → ℕ → List ℤ → Found → List ℤ → Type 0
Left s rows first m (Arm a) n = (a < first) × Runs action s rows a n
Left s rows first m NoArm n = n ≡ m
Left s rows first m finds.Unsure n = n ≡ m

module _ {s : List ℕ} {rows first : ℕ} {z : ℤ} {m : List ℤ} (h : Finds s rows first z m) where
  ended : (i : ℕ) → i ≤ first → is_kind (tables_of s) arm_kind i ≡ true → OfType (tables_of s) (type_of_pat (tables_of s) (pattern_at (tables_of s) (fields_of (tables_of s) i).a)) z
      → (rest : Finding) → Left s rows first m rest.found rest.store
      → (y : run.Match) → match (tables_of s) (pattern_at (tables_of s) (fields_of (tables_of s) i).a) z m ≡ y
      → Left s rows first m (by-match (fields_of (tables_of s) i).b rest m y).found (by-match (fields_of (tables_of s) i).b rest m y).store
  unfolding by-match
  ended i b k t rest q (matched n) e =
      let x = tables_of s in
      let w = all h.ready in
      let r = row_is x (forms h.ready) i (another arm_kind) (is-kind x arm_kind i k) in
      let l = r.b.below in (
        omega arith,
        record {
          ready = ready_on h.ready (match-typed x w (pattern_at x (fields_of x i).a) z m n (good-pat x w (fields_of x i).a r.a.kind) t h.ready.store e);
          start = h.start;
          kind = r.b.kind;
        },
      )
  ended i b k t rest q failed e = q
  ended i b k t rest q unsure e = refl

  left-of : (l : List ℕ) → Listed (tables_of s) (forms h.ready) (suc first) arm_kind l
      → arms_of_type (tables_of s) h.type (arms_of (tables_of s) (action_at (tables_of s)) l) ≡ true
      → Left s rows first m (find_arm (tables_of s) l z m).found (find_arm (tables_of s) l z m).store
  unfolding arms_of_type arms_of find_arm by-match
  left-of [] no_more e = refl
  left-of (i ∷ l) (one-row p q) e =
      let x = tables_of s in
      let d = both_true (eqb (type_of_pat x (pattern_at x (fields_of x i).a)) h.type) _ e in
      let b = p.below in
      ended i (omega arith) p.kind (subst (λ (t : ℕ). OfType x t z) (sym (eqb-true _ _ d.0)) h.value) (find_arm x l z m) (left-of l q d.1) (match x (pattern_at x (fields_of x i).a) z m) refl

  pub found_left : {f : Found} {n : List ℤ} → finding f n ≡ find_arm (tables_of s) (list_at (tables_of s) first) z m → Left s rows first m f n
  found_left e =
      let x = tables_of s in
      let k = forms h.ready in
      subst (λ (g : Finding). Left s rows first m g.found g.store) (sym e)
      (left-of (list_at x first)
      (list_at-listed x k first (suc first) arm_kind (⊎_elim (λ q. inl q) (λ q. inr (record { below = omega arith; kind = q })) h.list)) h.typed)

arms-typed : (x : Tables) (t : ℕ) (arms : Arms) → GoodArms x t arms → arms_of_type x t arms ≡ true
unfolding GoodArms arms_of_type
arms-typed x t no_arm g = refl
arms-typed x t (arm p a rest) g = rw (eq-eqb (type_of_pat x p) t g.0) (arms-typed x t rest g.3)

-- a case asks what its arms' search asks
module _ {s : List ℕ} {rows r : ℕ} {m : List ℤ} (h : Runs action s rows r m) {w : Fields} (e : w ≡ fields_of (tables_of s) r) (c : w.code ≡ 56) where
  is-case : means_at (tables_of s) r ≡ an_action is_case
  unfolding shape_of lookup codes
  is-case = means (tables_of s) r 56 (ap (λ (f : Fields). f.code) (sym e) ∙ c)

  case-good : GoodArms (tables_of s) (type_of_exp (tables_of s) (expression_at (tables_of s) w.a)) (arms_of (tables_of s) (action_at (tables_of s)) (list_at (tables_of s) w.b))
  unfolding Good GoodAct grow_action
  case-good =
      let x = tables_of s in
      let g : Good x (action_at x r) = good-action x (all h.ready) r h.kind in
      rw e (subst (Good x) (action_at-is x (forms h.ready) r (an_action is_case) is-case) g).1

  pub case-subject : Runs expression s rows w.a m
  case-subject =
      record { ready = h.ready; start = h.start; kind = rw e (row_is (tables_of s) (forms h.ready) r (an_action is_case) is-case).a.kind }

  module _ {v : Option ℤ} {z : ℤ} (f : v ≡ eval (tables_of s) (expression_at (tables_of s) w.a) m) (g : v ≡ Some z) where
    pub case-finds : Finds s rows w.b z m
    case-finds =
        let x = tables_of s in
        let k = all h.ready in
        record {
          ready = h.ready;
          start = h.start;
          list = rw e (⊎_elim (λ p. inl p) (λ p. inr p.0.kind) (row_is x (forms h.ready) r (an_action is_case) is-case).b);
          type = type_of_exp x (expression_at x w.a);
          typed = arms-typed x _ _ case-good;
          value = eval-typed x k (expression_at x w.a) m z (good-exp x k w.a case-subject.kind) h.ready.store (sym f ∙ g);
        }

    -- the value is read from a local
    pub case-held : Finds s rows w.b (held z) m
    case-held = rw (local-is case-subject f g) case-finds
