use Rattle.actions.proofs.Done.{choose-items, drawn-typed, choose-tried, choose-stopped, other-out}
use Rattle.actions.proofs.choose.Goals as goal

pub draw-drawn-requires : goal.draw-drawn-requires
draw-drawn-requires c =
    choose-items c.requires

pub try_condition-requires : goal.try_condition-requires
try_condition-requires c =
    drawn-typed c.requires _ _ c.draw-drawn.ensures c.in-Ends.is

pub returns-in-Ends : goal.returns-in-Ends
returns-in-Ends c =
    choose-tried c.requires _ _ c.draw-drawn.ensures c.in-Ends.is c.try_condition.ensures

pub returns-in_default : goal.returns-in_default
returns-in_default c =
    choose-stopped c.requires _ _ c.draw-drawn.ensures (other-out c.in_default.in_default-own.keys2)
