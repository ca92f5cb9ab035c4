-- `typing::of_types_typed` meets its contract: the test of each row. Assumes nothing.
use Rattle.std.proofs.Common.{rules, tests}
use mathlib.Core.Path.{◌∙◌}
use Rattle.model.specs.Image.{tables_of}
use Rattle.typing.proofs.Lists.{tested, kinds, of_type-variable, of_type-tested, of_type_passes, of_types-all}
use Rattle.typing.proofs.of_types_typed.Goals as goal

pub all_pass-requires : goal.all_pass-requires
all_pass-requires c = tested c.requires (λ r f. of_type-tested f (let v = of_type-variable f in search (rules, tests)))

pub returns : goal.returns
returns c = c.all_pass.ensures (of_type_passes (tables_of c.args.x.now.image.now)) (λ n d l t h. let f = kinds c.requires n d l in search (rules, tests)) ∙ of_types-all (tables_of c.args.x.now.image.now) c.args.r
