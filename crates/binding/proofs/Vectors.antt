-- The items of a vector, row by row: each variable's bit is apart from what the rest of the list defines. Assumes nothing.
use mathlib.Core.{Path.◌≡◌, Path.sym, Path.ap, Path.◌∙◌, Path.subst, Logic.◌⊎◌, Logic.inl, Logic.inr, Logic.⊎_elim, Bool.Bool, Bool.true, Bool.false, Bool.◌&&◌, List.List, List.map, List.map-map}
use Prim.Native.Nat.{ℕ, ◌+◌, ◌%◌, ◌≤◌, ◌<◌}
use native.Mathlib.Omega.{arith}
use lib.ListN.{length}
use Rattle.model.specs.declared.{Fields.Fields, Image.Image, Variable.Variable}
use Rattle.model.specs.Answers.{variable}
use Rattle.model.specs.Masks.{bit, union, apart}
use Rattle.model.specs.Image.{Tables, none, tables_of, fields_of, row_count}
use Rattle.model.specs.Rows.{Kind, expression, pattern, offer, gets, of_type, item, range, action, branch, arm, unknown, Means, kind_of, shape_of, means_at, is_kind, next_of}
use Rattle.model.specs.Trees.{Gets, OfType}
use Rattle.model.specs.Decode.{expression_at, list_at, gets_at, of_types_at, variables_at}
use Rattle.model.specs.Binding.{distinct}
use Rattle.model.proofs.Rows.{Formed, Named, Meaning, kind-of, is-kind, kind-in, next-named}
use Rattle.model.proofs.Decode.{list_at-none, list_at-step}
use Rattle.image.specs.Located.{RowOf}
use Rattle.masks.specs.declared.Masks.{Masks}
use Rattle.masks.specs.Masks.{def_at, masks_in}
use Rattle.masks.specs.Rows.{Small}
use Rattle.masks.proofs.ByKind.{def-gets, def-of-types, def-items}
use Rattle.binding.specs.Bound.{bits_at, Item, Vector, next_in}
use Rattle.binding.proofs.Readings.{ok, short, in_rows, few, small_at, read-def}

-- ---- the bits of a vector's variables, by its items
pub gets-bits : (x : Tables) (r : ℕ) → map (λ i. bit i.v.0) (gets_at x r) ≡ bits_at x r
gets-bits x r = map-map (λ (i : Gets). bit i.v.0) (λ i. record { v = variable (fields_of x i).a; e = expression_at x (fields_of x i).b }) (list_at x r)

pub of-types-bits : (x : Tables) (r : ℕ) → map (λ i. bit i.v.0) (of_types_at x r) ≡ bits_at x r
of-types-bits x r = map-map (λ (i : OfType). bit i.v.0) (λ i. record { v = variable (fields_of x i).a; t = (fields_of x i).b }) (list_at x r)

pub variables-bits : (x : Tables) (r : ℕ) → map (λ v. bit v.0) (variables_at x r) ≡ bits_at x r
variables-bits x r = map-map (λ (v : Variable). bit v.0) (λ i. variable (fields_of x i).a) (list_at x r)

-- ---- kinds of items
known : (k : Kind) → Item k → k ≡ unknown → ⊥
known k p e = subst Item e p

bit-small : (k : Kind) (m : Means) (n : ℕ) → Item k → Meaning k m → Small m n → n < 64
bit-small expression m n p e h = absurd p
bit-small pattern m n p e h = absurd p
bit-small offer m n p e h = absurd p
bit-small gets m n p e h = rw e at h
bit-small of_type m n p e h = rw e at h
bit-small item m n p e h = rw e at h
bit-small range m n p e h = absurd p
bit-small action m n p e h = absurd p
bit-small branch m n p e h = absurd p
bit-small arm m n p e h = absurd p
bit-small unknown m n p e h = absurd p

module _ (x : Tables) (good : Formed x) (size : length x.rows ≤ none) where
  def-bits : (k : Kind) → Item k → (r n : ℕ) → (n ≡ none) ⊎ Named x r k n → def_at x n ≡ union (bits_at x n)
  def-bits expression p r n q = absurd p
  def-bits pattern p r n q = absurd p
  def-bits offer p r n q = absurd p
  def-bits gets p r n q = def-gets x good size r n q ∙ ap union (gets-bits x n)
  def-bits of_type p r n q = def-of-types x good size r n q ∙ ap union (of-types-bits x n)
  def-bits item p r n q = def-items x good size r n q ∙ ap union (variables-bits x n)
  def-bits range p r n q = absurd p
  def-bits action p r n q = absurd p
  def-bits branch p r n q = absurd p
  def-bits arm p r n q = absurd p
  def-bits unknown p r n q = absurd p

  turn : (k : Kind) → Item k → (r : ℕ) → (r ≡ none → ⊥) → (next_of x r ≡ none) ⊎ Named x r k (next_of x r)
      → distinct (bits_at x r) ≡ (apart (bit (fields_of x r).a) (def_at x (next_of x r)) && distinct (bits_at x (next_of x r)))
  unfolding distinct
  turn k p r some q = rw (list_at-step x good r some, def-bits k p r (next_of x r) q)

-- ---- row r of the list
module _ {s : List ℕ} {i : Image} {r : ℕ} {ms : List Masks} (v : Vector s i r ms) where
  pub vector-over : r ≡ none → true ≡ distinct (bits_at (tables_of s) r)
  unfolding distinct
  vector-over e = rw (e, list_at-none (tables_of s) (ok v.rooted))

  module _ (here : r ≡ none → ⊥) where
    vector-kind : is_kind (tables_of s) v.kind r ≡ true
    vector-kind = ⊎_elim (λ e. absurd (here e)) (λ k. k) v.starts

    vector-inside : r < row_count i
    vector-inside = in_rows v.rooted r (kind-in (tables_of s) v.kind r (known v.kind v.item) vector-kind)

    pub vector_row : RowOf s i r
    vector_row = record { located = v.rooted.formed.located; inside = vector-inside }

    vector-named : (next_of (tables_of s) r ≡ none) ⊎ Named (tables_of s) r v.kind (next_of (tables_of s) r)
    vector-named =
        subst (λ (k : Kind). (next_of (tables_of s) r ≡ none) ⊎ Named (tables_of s) r k (next_of (tables_of s) r))
        (kind-of (tables_of s) v.kind r vector-kind) (next-named (tables_of s) (ok v.rooted) r)

    module _ (w : Fields) (e : w ≡ fields_of (tables_of s) r) where
      pub vector-item : Item (kind_of (shape_of w.code).means)
      vector-item = rw (e, kind-of (tables_of s) v.kind r vector-kind) v.item

      pub vector-bit : w.a < 64
      vector-bit =
          rw e (bit-small v.kind (means_at (tables_of s) r) (fields_of (tables_of s) r).a v.item
          (is-kind (tables_of s) v.kind r vector-kind) (small_at v.rooted r))

      module _ (n : ℕ) (g : n ≡ next_in w) where
        next-eq : n ≡ next_of (tables_of s) r
        unfolding next_of
        next-eq = g ∙ ap next_in e

        next-at : (n ≡ none) ⊎ Named (tables_of s) r v.kind n
        next-at = rw next-eq vector-named

        pub vector-next : Vector s i n ms
        vector-next = record {
          rooted = v.rooted;
          exact = v.exact;
          kind = v.kind;
          item = v.item;
          starts = ⊎_elim (λ q. inl q) (λ q. inr q.kind) next-at;
        }

        pub vector-less : (n + 1) % 65536 < (r + 1) % 65536
        vector-less = go next-at
          where
            go : (n ≡ none) ⊎ Named (tables_of s) r v.kind n → (n + 1) % 65536 < (r + 1) % 65536
            go (inl q) = omega (arith, vector-inside, few v.rooted)
            go (inr q) = omega (arith, q.below, vector-inside, few v.rooted)

        module _ (b : ℕ) (d : Masks) (a : Bool) (f : b ≡ bit w.a) (h : d ≡ masks_in ms n) (t : a ≡ apart b d.defs) where
          vector-turn : distinct (bits_at (tables_of s) r) ≡ (a && distinct (bits_at (tables_of s) n))
          vector-turn =
              turn (tables_of s) (ok v.rooted) (short v.rooted) v.kind v.item r here vector-named
              ∙ rw (t, f, h, e, next-eq, read-def v.rooted v.exact _ lower)
            where
              lower : (next_of (tables_of s) r ≡ none) ⊎ (next_of (tables_of s) r < row_count i)
              lower = ⊎_elim (λ q. inl q) (λ q. inr (omega (arith, q.below, vector-inside))) vector-named

          pub vector-fails : a ≡ false → false ≡ distinct (bits_at (tables_of s) r)
          vector-fails q = sym (vector-turn ∙ rw q)

          pub vector-passes : a ≡ true → distinct (bits_at (tables_of s) n) ≡ distinct (bits_at (tables_of s) r)
          vector-passes q = sym (vector-turn ∙ rw q)
