use Rattle.stepping.proofs.Trying.{state-there, runs-there, tried}
use Rattle.stepping.proofs.try_step.Goals as goal

pub state_row-r-requires : goal.state_row-r-requires
state_row-r-requires c = state-there c.requires

pub run_action-n-requires : goal.run_action-n-requires
run_action-n-requires c = runs-there c.requires c.state_row-r.ensures

pub returns : goal.returns
returns c =
    record {
      result = tried c.requires _ _ _ _ c.state_row-r.ensures c.outcome.ensures c.run_action-n.ensures.result;
      store = c.run_action-n.ensures.store;
      values = c.run_action-n.ensures.values;
    }
