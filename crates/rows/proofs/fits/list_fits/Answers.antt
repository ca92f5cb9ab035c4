-- `rows::fits::list_fits` meets its contract. Assumes nothing.
use mathlib.Core.Path.{ap, ◌∙◌}
use Prim.Native.Nat.{◌-◌}
use native.Mathlib.Omega.{arith}
use Rattle.model.specs.Image.{tables_of}
use Rattle.model.specs.Rows.{list_fits}
use Rattle.rows.proofs.Fields.{list_over, list_end, list_on}
use Rattle.rows.proofs.fits.list_fits.Goals as goal

pub loop-init : goal.loop-init
loop-init c = ap (λ k. list_fits (tables_of c.args.x.now.image.now) k c.args.n) (omega arith)

pub returns-then-at : goal.returns-then-at
returns-then-at c = list_over _ _ _ c.if-at.true ∙ c.loop.invariant

pub loop-preserved : goal.loop-preserved
loop-preserved c =
    let left = c.args.most - c.loop.counter in
    ap (λ k. list_fits (tables_of c.args.x.now.image.now) k c.next_of-at.result) (omega (arith, c.loop-test.true))
    ∙ list_on _ _ left _ (λ e. omega (arith, c.loop-test.true)) c.if-at.false c.next_of-at.ensures
    ∙ c.loop.invariant

pub returns : goal.returns
returns c = list_end _ _ _ (omega arith) ∙ c.loop.invariant
