-- `typing::arms_typed` meets its contract: the test of each row. Assumes nothing.
use Rattle.std.proofs.Common.{rules, tests}
use mathlib.Core.Path.{◌∙◌}
use Rattle.model.specs.Image.{tables_of}
use Rattle.typing.proofs.Lists.{tested, kinds, arm-pattern, arm-tested, arm_passes, arms-all}
use Rattle.typing.proofs.arms_typed.Goals as goal

pub all_pass-requires : goal.all_pass-requires
all_pass-requires c = tested c.requires (λ r f. arm-tested f (let e = arm-pattern f in search (rules, tests)))

pub returns : goal.returns
returns c = c.all_pass.ensures (arm_passes (tables_of c.args.x.now.image.now) c.args.t) (λ n d l t h. let f = kinds c.requires n d l in search (rules, tests)) ∙ arms-all (tables_of c.args.x.now.image.now) c.args.t c.args.r
