-- The masks of the rows of an image free of 1 to 6, as the rules read them. Assumes nothing.
use mathlib.Core.{Path.◌≡◌, Path.sym, Path.ap, Path.◌∙◌, Logic.◌⊎◌, Logic.inl, Logic.inr, List.List}
use Prim.Native.Nat.{ℕ, ◌≤◌, ◌<◌}
use native.Mathlib.Omega.{arith}
use lib.ListN.{length, get_or-eq_default}
use Rattle.model.specs.declared.Image.{Image}
use Rattle.model.specs.Image.{none, tables_of, row_count, fields_of}
use Rattle.model.specs.Rows.{means_at}
use Rattle.model.proofs.Rows as Model
use Rattle.image.specs.Located.{Rooted}
use Rattle.image.proofs.Laid.{laid, rows-count, variables-count, states-count}
use Rattle.masks.specs.declared.Masks.{Masks}
use Rattle.masks.specs.Masks.{use_at, def_at, masks, masks_in}
use Rattle.masks.specs.Rows.{Small}
use Rattle.masks.proofs.ByKind.{use-none, def_none}
use Rattle.masks.proofs.ByRow.{small_row}
use Rattle.masks.proofs.Filling.{formed-of, rows_short}
use Rattle.binding.specs.Bound.{Exact}

module _ {s : List ℕ} {i : Image} (h : Rooted s i) where
  pub ok : Model.Formed (tables_of s)
  ok = formed-of h.formed

  pub short : length (tables_of s).rows ≤ none
  short = rows_short h.formed.located

  pub in_rows : (r : ℕ) → r < length (tables_of s).rows → r < row_count i
  in_rows r l = omega (arith, rows-count h.formed.located)

  pub few : row_count i ≤ 2048
  few = (laid h.formed.located).rows_most

  pub small_at : (r : ℕ) → Small (means_at (tables_of s) r) (fields_of (tables_of s) r).a
  small_at r =
      let l = h.formed.located in
      let k = laid l in
      small_row (tables_of s) (omega (arith, variables-count l, k.variables_most)) (omega (arith, states-count l, k.states_most)) ok r

  -- the masks of a row, and of none
  module _ {ms : List Masks} (e : Exact (tables_of s) (row_count i) ms) where
    past : masks_in ms none ≡ masks 0 0 0
    past = get_or-eq_default ms (masks 0 0 0) (omega (arith, e.size, few))

    pub read-use : (n : ℕ) → (n ≡ none) ⊎ (n < row_count i) → (masks_in ms n).uses ≡ use_at (tables_of s) n
    read-use n (inl q) = rw q (ap (λ (m : Masks). m.uses) past ∙ sym (use-none (tables_of s) ok short))
    read-use n (inr l) = e.use_row n l

    pub read-def : (n : ℕ) → (n ≡ none) ⊎ (n < row_count i) → (masks_in ms n).defs ≡ def_at (tables_of s) n
    read-def n (inl q) = rw q (ap (λ (m : Masks). m.defs) past ∙ sym (def_none (tables_of s) ok short))
    read-def n (inr l) = e.def_row n l
