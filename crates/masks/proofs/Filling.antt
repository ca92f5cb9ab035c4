-- One row more: what holds while the masks are filled in, lowest row first. Assumes nothing.
use mathlib.Core.{Path.◌≡◌, Path.sym, Path.◌∙◌, Logic.◌⊎◌, Logic.inl, Logic.inr, Logic.⊎_elim, List.List}
use Prim.Native.Nat.{ℕ, ◌+◌, ◌≤◌, ◌<◌}
use native.Mathlib.{Nat.eq-or-lt_of_le, Omega.arith}
use lib.{ListN.length, ListN.set, ListN.take, ListN.length-set, ListN.length-take, ListN.get_or-eq_default, Seq.get_or-set_same, Seq.get_or-set_other}
use Rattle.model.specs.declared.{Fields.Fields, Image.Image}
use Rattle.model.specs.Image.{Tables, none, tables_of, fields_of, row_count}
use Rattle.model.specs.Rows.{shape_of}
use Rattle.model.proofs.Rows as Model
use Rattle.image.specs.Located.{Located, Formed}
use Rattle.image.proofs.Laid.{laid, rows-count, variables-count, states-count}
use Rattle.masks.specs.declared.Masks.{Masks}
use Rattle.masks.specs.Masks.{masks, masks_at, masks_in, Filled}
use Rattle.masks.specs.Rows.{masks_by, Small, Lent, Fit}
use Rattle.masks.proofs.ByKind.{masks_none}
use Rattle.masks.proofs.ByRow.{Known, masks-row, small_row}

-- the masks of the rows below r are filled in
pub record Filling (s : List ℕ) (i : Image) (r : ℕ) (ms : List Masks) : Type 0 where
  pub fit : Fit s i ms
  pub inside : r ≤ row_count i
  pub filled : Filled (tables_of s) r ms

-- what is read of a lower row, and of none
pub read : (x : Tables) (ms : List Masks) (r n : ℕ) → length ms ≤ none → masks_at x none ≡ masks 0 0 0
    → ((k : ℕ) → k < r → masks_in ms k ≡ masks_at x k) → (n ≡ none) ⊎ (n < r) → masks_in ms n ≡ masks_at x n
read x ms r n short z h (inl e) = rw e (get_or-eq_default ms (masks 0 0 0) short ∙ sym z)
read x ms r n short z h (inr l) = h n l

more : (x : Tables) (ms : List Masks) (r : ℕ) (m : Masks) → r < length ms → ((k : ℕ) → k < r → masks_in ms k ≡ masks_at x k)
    → m ≡ masks_at x r → (k : ℕ) → k < r + 1 → masks_in (set ms r m) k ≡ masks_at x k
more x ms r m inside h e k l =
    ⊎_elim (λ (q : k ≡ r). rw (q, get_or-set_same ms r m (masks 0 0 0) inside) e)
    (λ q. get_or-set_other ms r k m (masks 0 0 0) (λ p. omega arith) ∙ h k q)
    (eq-or-lt_of_le {n = k} {m = r} (omega arith))

module _ {s : List ℕ} {i : Image} where
  -- 5 passes, of the tables
  pub formed-of : Formed s i → Model.Formed (tables_of s)
  formed-of f = record { each = f.rows }

  pub rows_short : Located s i → length (tables_of s).rows ≤ none
  rows_short l = let k = laid l in omega (arith, rows-count l, k.rows_most)

  pub begin : (ms : List Masks) → Fit s i ms → Filling s i 0 ms
  begin ms f = record {
    fit = f;
    inside = omega arith;
    filled = record { each = λ r h. absurd (omega arith); size = omega arith };
  }

  pub row_small : (r : ℕ) {ms : List Masks} (w : Fields) → Filling s i r ms → w ≡ fields_of (tables_of s) r
      → Small (shape_of w.code).means w.a
  row_small r w f g =
      let l = f.fit.rooted.formed.located in
      let k = laid l in
      rw g (small_row (tables_of s) (omega (arith, variables-count l, k.variables_most)) (omega (arith, states-count l, k.states_most))
      (formed-of f.fit.rooted.formed) r)

  pub known : (r : ℕ) {ms : List Masks} → Filling s i r ms → Known (tables_of s) r (masks_in ms)
  known r {ms} f n =
      let x = tables_of s in
      let l = f.fit.rooted.formed.located in
      let k = laid l in
      let short = rows_short l in
      read x ms r n (omega (arith, f.fit.size, k.rows_most)) (masks_none x (formed-of f.fit.rooted.formed) short) f.filled.each

  -- the masks of row r go in
  pub one_more : (r : ℕ) {ms : List Masks} (w : Fields) (m : Masks) → Filling s i r ms → r < row_count i
      → w ≡ fields_of (tables_of s) r → m ≡ masks_by (masks_in ms) w (shape_of w.code).means → Filling s i (r + 1) (set ms r m)
  one_more r {ms} w m f h g e =
      let x = tables_of s in
      let l = f.fit.rooted.formed.located in
      let z = f.fit.size in
      let is = rw g at e ∙ masks-row x (formed-of f.fit.rooted.formed) (rows_short l) r (omega (arith, rows-count l)) (masks_in ms) (known r f) in
      record {
        fit = record { rooted = f.fit.rooted; size = length-set ms r _ ∙ z };
        inside = omega arith;
        filled = record { each = more x ms r m (omega arith) f.filled.each is; size = simp length-set (omega arith) };
      }

  pub filled-all : {r : ℕ} {ms : List Masks} → Filling s i r ms → row_count i ≤ r → Filled (tables_of s) (row_count i) ms
  filled-all {r} {ms} f h =
      let k = f.inside in
      let e : r ≡ row_count i = omega arith in
      rw e at f.filled

  pub fit-front : {n : ℕ} {ms : List Masks} → Lent s i ms → n ≡ row_count i → Fit s i (take n ms)
  fit-front f e = record { rooted = f.rooted; size = simp length-take (omega (arith, f.size)) }
