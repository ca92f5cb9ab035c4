-- `values::wrap` meets its contract. Assumes nothing.
use Rattle.values.proofs.Wrapping.{twice-fits, some-n, quotient_fits, higher-fits, highest-fits, last-quotient-fits, ends-fits, wraps}
use Rattle.values.proofs.wrap.Goals as goal

pub overflow_add-n : goal.overflow_add-n
overflow_add-n c = twice-fits c.args.half c.args.z c.requires c.ranges.z.sfits

pub nonzero_rem-result : goal.nonzero_rem-result
nonzero_rem-result c = (some-n c.args.half c.args.z c.requires c.ranges.z.sfits, quotient_fits c.args.half c.args.z c.requires c.ranges.z.sfits)

pub overflow_add-result : goal.overflow_add-result
overflow_add-result c = higher-fits c.args.half c.args.z c.requires c.ranges.z.sfits

pub overflow_add-result-2 : goal.overflow_add-result-2
overflow_add-result-2 c = highest-fits c.args.half c.args.z c.requires c.ranges.z.sfits

pub nonzero_rem-result-2 : goal.nonzero_rem-result-2
nonzero_rem-result-2 c = (some-n c.args.half c.args.z c.requires c.ranges.z.sfits, last-quotient-fits c.args.half c.args.z c.requires c.ranges.z.sfits)

pub overflow_sub-result : goal.overflow_sub-result
overflow_sub-result c = ends-fits c.args.half c.args.z c.requires c.ranges.z.sfits

pub returns : goal.returns
returns c = wraps c.args.half c.args.z c.requires c.ranges.z.sfits
