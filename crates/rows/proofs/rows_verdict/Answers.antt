-- `rows::rows_verdict` meets its contract. Assumes nothing.
use mathlib.Core.Path.{refl}
use Rattle.model.specs.Lists.{table}
use Rattle.model.specs.Rows.{codes, lookup, shape_of}
use Rattle.rows.specs.Lines.{kind_in, form_in, plains, namings, listings}
use Rattle.rows.proofs.Codes.{table_of}
use Rattle.rows.proofs.rows_verdict.Goals as goal

pub verdict_by-requires : goal.verdict_by-requires
unfolding table shape_of lookup codes kind_in form_in plains namings listings
verdict_by-requires c = record { located = c.requires; lines = table_of _ refl }
