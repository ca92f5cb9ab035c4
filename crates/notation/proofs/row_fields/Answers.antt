use mathlib.Core.{Path.sym}
use native.Mathlib.Omega.{arith}
use lib.ListN.{get_or-eq_default}
use Rattle.model.specs.Image.{tables_of}
use Rattle.image.proofs.Laid.{rows-count}
use Rattle.notation.proofs.row_fields.Goals as goal

pub fields-requires : goal.fields-requires
fields-requires c = record { located = c.requires; inside = omega (arith, c.if-r-n.true, c.row_count-n.ensures, rows-count c.requires) }

pub returns : goal.returns
returns c = sym (get_or-eq_default (tables_of c.args.x.now.image.now).rows _ {n = c.args.r} (omega (arith, c.if-r-n.false, c.row_count-n.ensures)))
