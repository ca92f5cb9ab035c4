-- The rows of a list, one after another. Assumes nothing.
use mathlib.Core.{Path.◌≡◌, Path.◌∙◌, Logic.inl, Logic.inr, Logic.⊎_elim, Bool.true, List.List}
use Prim.Native.Nat.{ℕ, ◌+◌, ◌%◌, ◌<◌}
use native.Mathlib.Omega.{arith}
use lib.{IntN.ℤ}
use Rattle.model.specs.Image.{none, tables_of}
use Rattle.model.specs.Rows.{Kind, next_of}
use Rattle.model.proofs.Rows.{next-named, kind-of}
use Rattle.model.proofs.Codes.{is_known, known_in}
use Rattle.image.proofs.Laid.{laid, rows-count}
use Rattle.expressions.specs.Ready.{Runs}
use Rattle.expressions.proofs.Ways.{located, forms}
use Rattle.actions.specs.Items.{Items}

-- a row of the list, where it isn't at its end
pub here-row : {k : Kind} {s : List ℕ} {rows r : ℕ} {m : List ℤ} → Items k s rows r m → (r ≡ none → ⊥) → Runs k s rows r m
here-row h f = record { ready = h.ready; start = h.start; kind = ⊎_elim (λ e. absurd (f e)) (λ q. q) h.here }

-- the next row is lower, or none; FFFF counts 0
pub next-items : {k : Kind} {s : List ℕ} {rows r n : ℕ} {m : List ℤ} → is_known k ≡ true → Runs k s rows r m → n ≡ next_of (tables_of s) r
    → ((n + 1) % 65536 < (r + 1) % 65536) × Items k s rows n m
next-items {k} {s} {rows} {r} {n} t h e =
    let x = tables_of s in
    let l = laid (located h.ready) in
    let inside = known_in x k r t h.kind in
    let count = rows-count (located h.ready) in
    ⊎_elim (λ q. let z : n ≡ 65535 = e ∙ q in (omega (arith, l.rows_most), record { ready = h.ready; start = h.start; here = inl z }))
    (λ q. let b : n < r = rw e q.below in
    (omega (arith, l.rows_most), record { ready = h.ready; start = h.start; here = inr (rw (e, ← kind-of x k r h.kind) q.kind) }))
    (next-named x (forms h.ready) r)
