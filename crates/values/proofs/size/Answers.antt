-- `values::size` meets its contract. Assumes nothing.
use mathlib.Core.Path.{◌≡◌}
use lib.{Dec.T, IntN.nat_abs, Signed.non_neg, Signed.mag}
use Rattle.values.proofs.Sizes.{flip, below, above}
use Rattle.values.proofs.Held.{held-is, flip-fits, flip-held, size_fits}
use Rattle.values.proofs.size.Goals as goal

pub overflow_sub-result : goal.overflow_sub-result
overflow_sub-result c = let f = c.ranges.z.sfits in flip-fits (held-is c.args.z f) f

pub overflow_cast-result : goal.overflow_cast-result
overflow_cast-result c =
    let neg : (T (non_neg (flip c.args.z)) × (nat_abs (flip c.args.z) ≡ mag c.args.z)) = below c.args.z (rw (held-is c.args.z c.ranges.z.sfits) at c.if-z-lt0.true) in
    let f = c.ranges.z.sfits in
    rw (flip-held (held-is c.args.z f) f) ((neg).0, size_fits c.args.z f (neg).1)

pub overflow_cast-result-else-z-lt0 : goal.overflow_cast-result-else-z-lt0
overflow_cast-result-else-z-lt0 c =
    let plain : (T (non_neg c.args.z) × (nat_abs c.args.z ≡ mag c.args.z)) = above c.args.z (rw (held-is c.args.z c.ranges.z.sfits) at c.if-z-lt0.false) in
    let f = c.ranges.z.sfits in
    rw (held-is c.args.z f) ((plain).0, size_fits c.args.z f (plain).1)

pub returns-then-z-lt0 : goal.returns-then-z-lt0
returns-then-z-lt0 c =
    let neg : (T (non_neg (flip c.args.z)) × (nat_abs (flip c.args.z) ≡ mag c.args.z)) = below c.args.z (rw (held-is c.args.z c.ranges.z.sfits) at c.if-z-lt0.true) in
    let f = c.ranges.z.sfits in rw (flip-held (held-is c.args.z f) f) (neg).1

pub returns-else-z-lt0 : goal.returns-else-z-lt0
returns-else-z-lt0 c =
    let plain : (T (non_neg c.args.z) × (nat_abs c.args.z ≡ mag c.args.z)) = above c.args.z (rw (held-is c.args.z c.ranges.z.sfits) at c.if-z-lt0.false) in
    rw (held-is c.args.z c.ranges.z.sfits) (plain).1
