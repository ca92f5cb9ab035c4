-- `rows::once::count_field` meets its contract. Assumes nothing.
use mathlib.Core.Path.{sym, ◌∙◌}
use Rattle.rows.proofs.Counting.{counted-field, counted-plain}
use Rattle.rows.proofs.once.count_field.Goals as goal

pub returns-then-d-ne-PLAIN : goal.returns-then-d-ne-PLAIN
returns-then-d-ne-PLAIN c f e =
    counted-field _ c.count.ensures c.requires f (λ q. c.if-d-ne-PLAIN.true (e ∙ q))

pub returns-else-d-ne-PLAIN : goal.returns-else-d-ne-PLAIN
returns-else-d-ne-PLAIN c f e = counted-plain _ _ f (sym e ∙ c.if-d-ne-PLAIN.false)
