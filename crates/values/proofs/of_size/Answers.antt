-- `values::of_size` meets its contract. Assumes nothing.
use mathlib.Core.Path.{◌≡◌, sym, ◌∙◌}
use mathlib.Core.Bool.{true, false}
use lib.Signed.{mag, non_neg}
use Rattle.model.proofs.Values.{of_size-int}
use Rattle.values.proofs.Sizes.{le-sign}
use Rattle.values.proofs.Held.{held-is, size-held}
use Rattle.values.proofs.Computed.{of_size-other}
use Rattle.values.proofs.of_size.Goals as goal

pub returns-then-n-eq0 : goal.returns-then-n-eq0
returns-then-n-eq0 c =
    let sized : c.size-m.result ≡ mag c.args.z = size-held c.args.z c.ranges.z.sfits c.size-m.ensures in
    rw (c.if-n-eq0.true, of_size-int, sized)

pub returns-then-z-ge0 : goal.returns-then-z-ge0
returns-then-z-ge0 c =
    let sized : c.size-m.result ≡ mag c.args.z = size-held c.args.z c.ranges.z.sfits c.size-m.ensures in
    let t : non_neg c.args.z ≡ true = sym (le-sign c.args.z) ∙ rw (held-is c.args.z c.ranges.z.sfits) at c.if-z-ge0.true in
    rw (of_size-other c.args.half c.args.n c.args.z c.if-n-eq0.false, t, sized)

pub returns-else-z-ge0 : goal.returns-else-z-ge0
returns-else-z-ge0 c =
    let t : non_neg c.args.z ≡ false = sym (le-sign c.args.z) ∙ rw (held-is c.args.z c.ranges.z.sfits) at c.if-z-ge0.false in
    rw (of_size-other c.args.half c.args.n c.args.z c.if-n-eq0.false, held-is c.args.z c.ranges.z.sfits, le-sign, t)
