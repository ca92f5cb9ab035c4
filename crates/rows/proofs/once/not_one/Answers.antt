-- `rows::once::not_one` meets its contract. Assumes nothing.
use mathlib.Core.Path.{refl}
use Rattle.std.proofs.Common.{rules, tests}
use Rattle.model.proofs.Found.{found}
use Rattle.rows.specs.Counts.{once_in}
use Rattle.rows.proofs.once.not_one.Goals as goal

pub returns : goal.returns
returns c = found (once_in c.args.counts.now) _ _ _ c.find.ensures.ran (λ x b q k. search (rules, tests)) refl
