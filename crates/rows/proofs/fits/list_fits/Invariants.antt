-- `rows::fits::list_fits` meets its contract. Assumes nothing.
use mathlib.Core.Path.{◌≡◌}
use Prim.Native.Nat.{◌-◌}
use Rattle.model.specs.Image.{tables_of}
use Rattle.model.specs.Rows.{list_fits}
use Rattle.rows.proofs.fits.list_fits.Given as goal

abbrev pub invariant-loop : goal.invariant-loop
invariant-loop l = list_fits (tables_of l.x.image.now) (l.most - l.counter) l.at ≡ list_fits (tables_of l.x.image.now) l.most l.n
