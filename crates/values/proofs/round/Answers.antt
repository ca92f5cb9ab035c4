-- `values::round` meets its contract. Assumes nothing.
use mathlib.Core.Path.{◌∙◌}
use Rattle.values.proofs.Held.{held-is}
use Rattle.values.proofs.Computed.{round-low, round-high}
use Rattle.values.proofs.round.Goals as goal

pub returns-then-m-h : goal.returns-then-m-h
returns-then-m-h c =
    held-is c.side.result c.side.type_inv ∙ c.side.ensures ∙ round-low c.args.h c.args.m c.args.s c.if-m-h.true

pub returns-else-m-h : goal.returns-else-m-h
returns-else-m-h c =
    held-is c.side-else-m-h.result c.side-else-m-h.type_inv ∙ c.side-else-m-h.ensures ∙ round-high c.args.h c.args.m c.args.s c.if-m-h.false c.requires.1
