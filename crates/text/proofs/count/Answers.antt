use borrow.Author.Rules.{rules}
use mathlib.Core.Path.{◌≡◌, refl}
use native.Mathlib.Omega.{arith}
use Rattle.model.specs.Exports.{count}
use Rattle.text.proofs.Halving.{halved_none, halved-next, count_next}
use Rattle.text.proofs.count.Goals as goal

pub loop-v-init : goal.loop-v-init
unfolding count
loop-v-init c = (search rules, search rules, refl, halved_none c.args.mask)

pub loop-v-preserved : goal.loop-v-preserved
loop-v-preserved c =
    let h = c.loop-v.invariant.3 in
    (search rules, search rules, omega (arith, count_next h), halved-next h)

pub returns : goal.returns
returns c =
    let e : c.loop-v.v ≡ c.args.n = omega arith in
    rw (← e) c.loop-v.invariant.2
