-- From an image's bytes to its tables: the rows that a row names are rows of the image. Assumes nothing.
use mathlib.Core.{Path.◌≡◌, Logic.inl, Logic.inr, Bool.true, List.List}
use Prim.Native.Nat.{ℕ, ◌≤◌}
use native.Mathlib.Omega.{arith}
use lib.ListN.{length}
use Rattle.model.specs.declared.Image.{Image}
use Rattle.model.specs.Image.{none, tables_of}
use Rattle.model.specs.Rows.{Kind, is_kind}
use Rattle.model.proofs.Rows.{Formed}
use Rattle.image.specs.Located as located
use Rattle.image.specs.Located.{RowOf}
use Rattle.image.proofs.Laid.{laid, rows-count}
use Rattle.speech.specs.Case.{RowOrNone, OfKind, OrNone}
use Rattle.model.proofs.Codes.{is_known, known_in}

pub rows-formed : {s : List ℕ} {i : Image} → located.Formed s i → Formed (tables_of s)
rows-formed h = record { each = h.rows }

pub rows_few : {s : List ℕ} {i : Image} → located.Formed s i → length (tables_of s).rows ≤ none
rows_few h = omega (arith, rows-count h.located, (laid h.located).rows_most)

pub kind_row : {s : List ℕ} {i : Image} {k : Kind} {r : ℕ} → is_known k ≡ true → OfKind s i k r → RowOf s i r
kind_row {s} {i} {k} {r} t h =
    record { located = h.formed.located; inside = omega (arith, known_in (tables_of s) k r t h.kind, rows-count h.formed.located) }

-- what isn't none is a row
pub some-row : {s : List ℕ} {i : Image} {k : Kind} {r : ℕ} → OrNone s i k r → (r ≡ none → ⊥) → OfKind s i k r
some-row {s} {i} {k} {r} h f = record { formed = h.formed; kind = go h.named }
  where
    go : RowOrNone (tables_of s) k r → is_kind (tables_of s) k r ≡ true
    go (inl e) = absurd (f e)
    go (inr e) = e
