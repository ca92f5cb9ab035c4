-- `typing::gets_typed` meets its contract: the test of each row. Assumes nothing.
use Rattle.std.proofs.Common.{rules, tests}
use mathlib.Core.Path.{◌∙◌}
use Rattle.model.specs.Image.{tables_of}
use Rattle.typing.proofs.Lists.{tested, kinds, gets-variable, gets-expression, gets-tested, gets_pass, gets-all}
use Rattle.typing.proofs.gets_typed.Goals as goal

pub all_pass-requires : goal.all_pass-requires
all_pass-requires c = tested c.requires (λ r f. gets-tested f (let v = gets-variable f in let e = gets-expression f in search (rules, tests)))

pub returns : goal.returns
returns c = c.all_pass.ensures (gets_pass (tables_of c.args.x.now.image.now)) (λ n d l t h. let f = kinds c.requires n d l in search (rules, tests)) ∙ gets-all (tables_of c.args.x.now.image.now) c.args.r
