-- `well_spoken` meets its contract. Assumes nothing.
use mathlib.Core.{Path.ap}
use Rattle.speech.specs.Verdict.{ends_right}
use Rattle.speech.proofs.States.{state-of, in-ways, speaks-well}
use Rattle.speech.proofs.well_spoken.Goals as goal

pub state_row-requires : goal.state_row-requires
state_row-requires c = state-of c.requires.0 c.requires.1

pub at-w-requires : goal.at-w-requires
at-w-requires c = in-ways c.requires.0 c.requires.1 c.state_row.ensures

pub returns : goal.returns
returns c = speaks-well c.requires.0 c.requires.1 c.state_row.ensures (ap ends_right c.at-w.ensures)
