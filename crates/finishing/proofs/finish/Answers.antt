use Rattle.finishing.proofs.Told.{told-ends, told-stops, told-jumps}
use Rattle.finishing.proofs.finish.Goals as goal

pub returns-in-Ends : goal.returns-in-Ends
returns-in-Ends c =
    told-ends c.args.ran c.args.at c.args.budget c.args.store.now c.args.label.now c.args.work.now c.args.values.now c.in-Ends.is c.blocked_at.ensures

pub returns-in-Stops : goal.returns-in-Stops
returns-in-Stops c =
    told-stops c.args.ran c.args.at c.args.budget c.args.store.now c.args.label.now c.args.work.now c.args.values.now c.in-Stops.is

pub returns-in-Jumps : goal.returns-in-Jumps
returns-in-Jumps c =
    told-jumps c.args.ran c.args.at c.args.budget c.args.store.now c.args.label.now c.args.work.now c.args.values.now c.in-Jumps.is c.copy_from_slice.ensures.after c.put_label.ensures
