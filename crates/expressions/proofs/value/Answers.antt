-- `expressions::value` meets its contract. Assumes nothing.
use mathlib.Core.Path.{◌∙◌, ap}
use lib.{IntN.pos}
use Rattle.model.specs.Values.{mark, half16}
use Rattle.values.proofs.Held.{held-is}
use Rattle.expressions.specs.Operators.{value_of}
use Rattle.expressions.proofs.Operated.{get_d_any}
use Rattle.expressions.proofs.value.Goals as goal

pub returns : goal.returns
returns c =
    c.known.ensures ∙ ap value_of (held-is _ c.known-arg-1.given ∙ get_d_any c.args.store.now c.args.v (pos 0) (mark half16) c.requires)
