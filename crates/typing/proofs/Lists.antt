-- The lists of items and arms: the walk along one whose rows are put to a test, and the tests of each. Assumes nothing.
use mathlib.Core.{Path.◌≡◌, Path.refl, Path.sym, Path.ap, Path.◌∙◌, Logic.◌⊎◌, Logic.inl, Logic.inr, Logic.⊎_elim}
use mathlib.Core.{Bool.Bool, Bool.true, Bool.false, Bool.◌&&◌, List.List, List.[], List.◌∷◌, List.map}
use Prim.Native.Nat.{ℕ, suc, ◌+◌, ◌%◌, ◌<◌}
use native.Mathlib.Omega.{arith}
use lib.Dec.{eqb}
use Rattle.std.specs.Prelude.{All}
use Rattle.std.proofs.lemmas.List.Elements.{All-nil, All-cons, All-head, All-tail, All-same}
use Rattle.model.specs.declared.{Image.Image, Fields.Fields}
use Rattle.model.specs.Answers.{variable}
use Rattle.model.specs.Lists.{all}
use Rattle.model.specs.Image.{Tables, none, tables_of, type_of, fields_of}
use Rattle.model.specs.Rows.{Kind, gets, of_type, arm, expression, pattern, another, kind_of, means_at, next_of}
use Rattle.model.specs.Decode.{expression_at, list_at, arms_of, action_at}
use Rattle.model.specs.Trees.{Gets, OfType, Action}
use Rattle.model.specs.Typing.{type_of_exp, arms_of_type}
use Rattle.model.proofs.Rows.{Named, Row, is-kind, next-named}
use Rattle.model.proofs.Decode.{list_at-none, list_at-step, Listed, no_more, one-row, list_at-listed}
use Rattle.image.specs.Located.{RowOf, VariableOf, Formed}
use Rattle.image.proofs.Laid.{laid}
use Rattle.model.proofs.Codes.{next-is}
use Rattle.typing.specs.Rules.{expression_type, pattern_type, gets_typed, of_types_typed, arms_typed, TestedRow, TestedList, AllPass, OfKind, OrNone}
use Rattle.typing.proofs.Rows.{Here, all-formed, known-row, facts-of, child, variable-in}

-- the walk along the list that starts at row first has come to row at: what the rest passes, the list passes
pub record Along (s : List ℕ) (i : Image) (callable : Fields → Type 0) (answers : Fields → Bool → Type 0) (first at : ℕ) : Type 0 where
  pub list : TestedList s i callable at
  pub rest : (b : Bool) → AllPass answers (tables_of s) (list_at (tables_of s) at) b → AllPass answers (tables_of s) (list_at (tables_of s) first) b

pub begin : {s : List ℕ} {i : Image} {callable : Fields → Type 0} {answers : Fields → Bool → Type 0} {first : ℕ} → TestedList s i callable first → Along s i callable answers first first
begin l = record { list = l; rest = λ b h. h }

module _ {s : List ℕ} {i : Image} {callable : Fields → Type 0} {answers : Fields → Bool → Type 0} {first at : ℕ} (a : Along s i callable answers first at) where
  abbrev x : Tables
  x = tables_of s

  abbrev Answered : (ℕ → Bool) → ℕ → Type 0
  Answered p r = (t : Bool) → answers (fields_of x r) t → t ≡ p r

  -- the list is over
  pub over : at ≡ none → AllPass answers (tables_of s) (list_at (tables_of s) first) true
  unfolding all
  over e = a.rest true (λ p h. sym (ap (all p) (ap (list_at x) e ∙ list_at-none x (all-formed a.list.formed))))

  module _ (n : at ≡ none → ⊥) where
    abbrev step : list_at x at ≡ at ∷ list_at x (next_of x at)
    step = list_at-step x (all-formed a.list.formed) at n

    abbrev rows : All (TestedRow s i callable) (at ∷ list_at x (next_of x at))
    rows = All-same (TestedRow s i callable) _ _ (sym step) a.list.rows

    -- the row that it has come to
    abbrev pub row-there : TestedRow s i callable at
    row-there = All-head (TestedRow s i callable) at (list_at x (next_of x at)) rows

    pub place-there : RowOf s i at
    place-there = record { located = a.list.formed.located; inside = row-there.inside }

    module _ {w : Fields} (is : w ≡ fields_of (tables_of s) at) where
      pub may-there : callable w
      may-there = rw is row-there.may

      next-there : next_of x at ≡ w.c
      next-there = row-there.next ∙ sym (ap (λ (v : Fields). v.c) is)

      -- the next row is lower, or none, which counts 0
      pub less : (w.c + 1) % 65536 < (at + 1) % 65536
      less = lower (next-named x (all-formed a.list.formed) at)
        where
          lower : (next_of x at ≡ none) ⊎ Named x at (kind_of (means_at x at)) (next_of x at) → (w.c + 1) % 65536 < (at + 1) % 65536
          lower (inl e) = let l = laid a.list.formed.located in let p = row-there.inside in omega (arith, l.rows_most, p, next-there, e)
          lower (inr q) = let l = laid a.list.formed.located in let p = row-there.inside in let b = q.below in omega (arith, l.rows_most, p, next-there, b)

      -- the row fails; it passes, and the rest decides
      pub fails : answers w false → AllPass answers (tables_of s) (list_at (tables_of s) first) false
      unfolding all
      fails f =
          a.rest false (λ p h.
          let q = All-head (Answered p) at (list_at x (next_of x at)) (All-same (Answered p) _ _ (sym step) h) in
          ap (λ t. t && all p (list_at x (next_of x at))) (q false (rw (← is) f)) ∙ sym (ap (all p) step))

      pub goes_on : answers w true → Along s i callable answers first w.c
      unfolding all
      goes_on f = rw (← next-there) (record {
        list = record { formed = a.list.formed; rows = All-tail (TestedRow s i callable) at (list_at x (next_of x at)) rows };
        rest = λ b r. a.rest b (λ p h.
            let l = All-same (Answered p) _ _ (sym step) h in
            r p (All-tail (Answered p) at (list_at x (next_of x at)) l)
            ∙ ap (λ t. t && all p (list_at x (next_of x at))) (All-head (Answered p) at (list_at x (next_of x at)) l true (rw (← is) f))
            ∙ sym (ap (all p) step));
      })

-- the rows of a list of a kind are of that kind
module _ {s : List ℕ} {i : Image} {k : Kind} where
  kinds-listed : (f : Formed s i) {m : ℕ} (l : List ℕ) → Listed (tables_of s) (all-formed f) m k l → All (OfKind s i k) l
  kinds-listed f [] no_more = All-nil (OfKind s i k)
  kinds-listed f (r ∷ l) (one-row p q) = All-cons (OfKind s i k) r l (record { formed = f; kind = p.kind }) (kinds-listed f l q)

  pub kinds : {r : ℕ} → OrNone s i k r → All (OfKind s i k) (list_at (tables_of s) r)
  kinds {r} o =
      kinds-listed o.formed (list_at (tables_of s) r)
      (list_at-listed (tables_of s) (all-formed o.formed) r (suc r) k (⊎_elim (λ e. inl e) (λ q. inr (record { below = omega arith; kind = q })) o.named))

  -- a list whose rows may all be put to a test
  pub tested : {callable : Fields → Type 0} {r : ℕ} → OrNone s i k r → ((r : ℕ) → OfKind s i k r → TestedRow s i callable r) → TestedList s i callable r
  tested o h = record { formed = o.formed; rows = λ n d l. h _ (kinds o n d l) }

all-map : {A B : Type 0} (p : B → Bool) (f : A → B) (l : List A) → all p (map f l) ≡ all (λ a. p (f a)) l
unfolding all
all-map p f [] = refl
all-map p f (a ∷ l) = ap (λ t. p (f a) && t) (all-map p f l)

module _ {s : List ℕ} {i : Image} where
  -- a row of a kind, with its fields
  here : {k : Kind} {r : ℕ} → OfKind s i k r → Here s i r (fields_of (tables_of s) r)
  here f = record { formed = f.formed; fields = refl }

  -- 44: items that get a value
  module _ {r : ℕ} (f : OfKind s i gets r) where
    gets-row : Row (tables_of s) r (fields_of (tables_of s) r) (another gets)
    gets-row = facts-of (here f) (another gets) (is-kind (tables_of s) gets r f.kind)

    pub gets-variable : VariableOf s i (fields_of (tables_of s) r).a
    gets-variable = variable-in (here f) _ gets-row.a

    pub gets-expression : OfKind s i expression (fields_of (tables_of s) r).b
    gets-expression = child (here f) gets-row.b

    pub gets-tested : {callable : Fields → Type 0} → callable (fields_of (tables_of s) r) → TestedRow s i callable r
    gets-tested c = record { inside = (known-row refl f).inside; next = next-is (tables_of s) r (another gets) (is-kind (tables_of s) gets r f.kind); may = c }

  -- 45: items of a type
  module _ {r : ℕ} (f : OfKind s i of_type r) where
    of_type-row : Row (tables_of s) r (fields_of (tables_of s) r) (another of_type)
    of_type-row = facts-of (here f) (another of_type) (is-kind (tables_of s) of_type r f.kind)

    pub of_type-variable : VariableOf s i (fields_of (tables_of s) r).a
    of_type-variable = variable-in (here f) _ of_type-row.a

    pub of_type-tested : {callable : Fields → Type 0} → callable (fields_of (tables_of s) r) → TestedRow s i callable r
    of_type-tested c = record { inside = (known-row refl f).inside; next = next-is (tables_of s) r (another of_type) (is-kind (tables_of s) of_type r f.kind); may = c }

  -- 58: arms, whose patterns are of the type t
  module _ {r : ℕ} (f : OfKind s i arm r) where
    arm-row : Row (tables_of s) r (fields_of (tables_of s) r) (another arm)
    arm-row = facts-of (here f) (another arm) (is-kind (tables_of s) arm r f.kind)

    pub arm-pattern : OfKind s i pattern (fields_of (tables_of s) r).a
    arm-pattern = child (here f) arm-row.a

    pub arm-tested : {callable : Fields → Type 0} → callable (fields_of (tables_of s) r) → TestedRow s i callable r
    arm-tested c = record { inside = (known-row refl f).inside; next = next-is (tables_of s) r (another arm) (is-kind (tables_of s) arm r f.kind); may = c }

-- each test, and what it says of a list
module _ (x : Tables) where
  abbrev pub gets_pass : ℕ → Bool
  gets_pass r = eqb (expression_type x (fields_of x r).b) (type_of x (variable (fields_of x r).a))

  pub gets-all : (r : ℕ) → all gets_pass (list_at x r) ≡ gets_typed x r
  gets-all r = sym (all-map (λ (g : Gets). eqb (type_of_exp x g.e) (type_of x g.v)) (λ j. record { v = variable (fields_of x j).a; e = expression_at x (fields_of x j).b }) (list_at x r))

  abbrev pub of_type_passes : ℕ → Bool
  of_type_passes r = eqb (type_of x (variable (fields_of x r).a)) (fields_of x r).b

  pub of_types-all : (r : ℕ) → all of_type_passes (list_at x r) ≡ of_types_typed x r
  of_types-all r = sym (all-map (λ (o : OfType). eqb (type_of x o.v) o.t) (λ j. record { v = variable (fields_of x j).a; t = (fields_of x j).b }) (list_at x r))

  abbrev pub arm_passes : ℕ → ℕ → Bool
  arm_passes t r = eqb (pattern_type x (fields_of x r).a) t

  arms-of-type : (t : ℕ) (g : ℕ → Action) (l : List ℕ) → all (arm_passes t) l ≡ arms_of_type x t (arms_of x g l)
  unfolding all arms_of arms_of_type
  arms-of-type t g [] = refl
  arms-of-type t g (r ∷ l) = ap (λ b. arm_passes t r && b) (arms-of-type t g l)

  pub arms-all : (t r : ℕ) → all (arm_passes t) (list_at x r) ≡ arms_typed x t r
  arms-all t r = arms-of-type t (action_at x) (list_at x r)
