-- `typing::type_of_pattern` meets its contract: the pattern that the loop has come to is of the type asked for. The measure is
-- its row. Assumes nothing.
use mathlib.Core.Path.{◌≡◌}
use Rattle.model.specs.Image.{tables_of}
use Rattle.model.specs.Rows.{pattern}
use Rattle.typing.specs.Rules.{pattern_type, OfKind}
use Rattle.typing.proofs.type_of_pattern.Given as goal

abbrev pub invariant-loop-at : goal.invariant-loop-at
invariant-loop-at l = OfKind l.x.image.now l.x.trailer pattern l.at × (pattern_type (tables_of l.x.image.now) l.at ≡ pattern_type (tables_of l.x.image.now) l.r)

abbrev pub decreases-loop-at : goal.decreases-loop-at
decreases-loop-at l = l.at
