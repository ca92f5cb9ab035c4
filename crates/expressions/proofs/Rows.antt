-- A row's fields, by where the rows start. Assumes nothing.
use mathlib.Core.{Path.◌≡◌, Path.sym, Path.ap, Path.◌∙◌, List.List}
use Prim.Native.Nat.{ℕ, ◌+◌, ◌*◌, ◌≤◌}
use native.Mathlib.Omega.{arith}
use lib.ListN.{length}
use Rattle.model.specs.Image.{trailer_of, tables_of, fields_at, fields_of}
use Rattle.image.specs.Located.{RowOf}
use Rattle.image.proofs.Laid.{row_inside, row_read}
use Rattle.expressions.specs.Ready.{RowFrom}

row_of : {s : List ℕ} {rows r : ℕ} → RowFrom s rows r → RowOf s (trailer_of s) r
row_of h = record { located = h.located; inside = h.inside }

pub inside-from : {s : List ℕ} {rows r : ℕ} → RowFrom s rows r → rows + r * 8 + 8 ≤ length s
inside-from h = omega (arith, row_inside (row_of h), h.start)

pub read-from : {s : List ℕ} {rows r : ℕ} → RowFrom s rows r → fields_of (tables_of s) r ≡ fields_at s (rows + r * 8)
read-from {s} {rows} {r} h = row_read (row_of h) ∙ ap (λ (n : ℕ). fields_at s (n + r * 8)) (sym h.start)
