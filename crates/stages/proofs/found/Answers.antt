use Rattle.stages.proofs.Stages.{found-short, found-sets, to-sets}
use Rattle.stages.proofs.found.Goals as goal

pub returns-then-room-state_count : goal.returns-then-room-state_count
returns-then-room-state_count c = found-short c.args.x.now.image.now _ _ _ c.state_count.ensures c.if-room-state_count.true

pub sets_verdict-requires : goal.sets_verdict-requires
sets_verdict-requires c = to-sets c.requires

pub returns : goal.returns
returns c = found-sets c.args.x.now.image.now _ _ _ _ _ c.state_count.ensures c.if-room-state_count.false c.sets_verdict.ensures
