use native.Mathlib.Omega.{arith}
use mathlib.Core.Path.{refl}
use Rattle.stepping.proofs.Trying.{state-there}
use Rattle.stepping.proofs.Steps.{to-try, units-fit, words-fit, label-there, ran-is}
use Rattle.stepping.proofs.step_on.Goals as goal

pub try_step-p-requires : goal.try_step-p-requires
try_step-p-requires c =
    to-try c.requires _ _ c.copy_from_slice.ensures.after (omega (arith, c.requires.room))

pub state_row-at-requires : goal.state_row-at-requires
state_row-at-requires c =
    state-there (to-try c.requires c.args.store.now c.args.values.now refl c.requires.room)

pub finish_on-requires : goal.finish_on-requires
finish_on-requires c =
    record {
      slots = omega (arith, c.try_step-p.ensures.store, c.copy_from_slice.auto.self, c.requires.copy);
      room = label-there c.requires;
      offers = omega (arith, c.try_step-p.ensures.values, c.requires.room);
      units = units-fit c.requires c.args.script.now c.copy_from_slice.new.self c.copy_from_slice.ensures.after c.try_step-p.result c.try_step-p.new.work.now c.try_step-p.new.values c.try_step-p.ensures.result;
      words = words-fit c.requires c.args.script.now c.copy_from_slice.new.self c.copy_from_slice.ensures.after c.try_step-p.result c.try_step-p.new.work.now c.try_step-p.new.values c.try_step-p.ensures.result;
    }

pub returns : goal.returns
returns c =
    ran-is c.requires c.args.script.now c.copy_from_slice.new.self c.try_step-p.new.work.now c.try_step-p.new.values c.try_step-p.result c.copy_from_slice.ensures.after c.try_step-p.ensures.result c.state_row-at.ensures c.finish_on.ensures
