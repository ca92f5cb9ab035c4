-- `rows::not_rooted` meets its contract. Assumes nothing.
use mathlib.Core.Path.{refl}
use Rattle.std.proofs.Common.{rules, tests}
use Rattle.model.specs.Image.{tables_of}
use Rattle.model.proofs.Found.{found}
use Rattle.rows.specs.Judged.{rooted}
use Rattle.rows.proofs.not_rooted.Goals as goal

pub returns : goal.returns
returns c = found (rooted (tables_of c.args.x.now.image.now)) _ _ _ c.find.ensures.ran (λ x b q k. search (rules, tests)) refl
