use mathlib.Core.{Path.ap}
use Rattle.model.specs.declared.{Outcome.TheVariants.Stops}
use Rattle.machine.proofs.Helpers.{blocked-late}
use Rattle.told.proofs.Coded.{tells_as}
use Rattle.machine.proofs.blocked.Goals as goal

pub stopped-requires : goal.stopped-requires
stopped-requires c = blocked-late c.args.run.now.spoken c.args.r c.blocked_at.ensures

pub returns : goal.returns
returns c =
    tells_as c.stopped.ensures (ap Stops c.blocked_at.ensures)
