use mathlib.Core.Path.{sym}
use Rattle.text.proofs.Decimal.{decimal-append}
use Rattle.text.proofs.Writing.{written-as, written-then}
use Rattle.listing.proofs.put_number.Goals as goal

pub returns : goal.returns
returns c = written-as (sym (decimal-append _ _)) (written-then c.emit_number.ensures c.emit_byte.ensures)
