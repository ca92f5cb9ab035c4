use Rattle.notation.specs.Whole.{filling_of, count_of}
use Rattle.notation.proofs.tables.filling_of.Goals as goal

pub type_filling-requires : goal.type_filling-requires
unfolding count_of
type_filling-requires c = record { located = c.requires.located; inside = rw c.in-Types.is at c.requires.inside }

pub variable_filling-requires : goal.variable_filling-requires
unfolding count_of
variable_filling-requires c = record { located = c.requires.located; inside = rw c.in-Variables.is at c.requires.inside }

pub row_filling-requires : goal.row_filling-requires
unfolding count_of
row_filling-requires c = record { located = c.requires.located; inside = rw c.in-Rows.is at c.requires.inside }

pub state_filling-requires : goal.state_filling-requires
unfolding count_of
state_filling-requires c = record { located = c.requires.located; inside = rw c.in-States.is at c.requires.inside }

pub returns-in-Types : goal.returns-in-Types
unfolding filling_of
returns-in-Types c = rw c.in-Types.is c.type_filling.ensures

pub returns-in-Variables : goal.returns-in-Variables
unfolding filling_of
returns-in-Variables c = rw c.in-Variables.is c.variable_filling.ensures

pub returns-in-Rows : goal.returns-in-Rows
unfolding filling_of
returns-in-Rows c = rw c.in-Rows.is c.row_filling.ensures

pub returns-in-States : goal.returns-in-States
unfolding filling_of
returns-in-States c = rw c.in-States.is c.state_filling.ensures
