-- `rows::fits::value_fits` meets its contract. Assumes nothing.
use native.Mathlib.Omega.{arith}
use Rattle.model.specs.Image.{tables_of}
use Rattle.rows.proofs.Fields.{type-in, value-int, value-size, value-past}
use Rattle.rows.proofs.fits.value_fits.Goals as goal

pub size-requires : goal.size-requires
size-requires c = type-in c.requires _ (omega (arith, c.type_count.ensures))

pub returns-then-t-eq-INT : goal.returns-then-t-eq-INT
returns-then-t-eq-INT c = value-int (tables_of c.args.x.now.image.now) _ _ c.if-t-eq-INT.true

pub returns-then-t-type_count : goal.returns-then-t-type_count
returns-then-t-type_count c = value-size (tables_of c.args.x.now.image.now) _ _ _ c.if-t-eq-INT.false c.size.ensures

pub returns-else-t-type_count : goal.returns-else-t-type_count
returns-else-t-type_count c = value-past (tables_of c.args.x.now.image.now) _ _ _ c.if-t-eq-INT.false c.type_count.ensures c.if-t-type_count.false
