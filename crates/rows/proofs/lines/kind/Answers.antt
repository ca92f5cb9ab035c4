-- `rows::lines::kind` meets its contract. Assumes nothing.
use mathlib.Core.Path.{◌∙◌, ap}
use Prim.Native.Nat.{ℕ}
use Rattle.model.specs.Rows.{kind_of, shape_of, number_of_kind}
use Rattle.rows.proofs.lines.kind.Goals as goal

pub returns : goal.returns
returns c = c.line_of-l.ensures.kind ∙ ap (λ (n : ℕ). number_of_kind (kind_of (shape_of n).means)) c.code-c.ensures
