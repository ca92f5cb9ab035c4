-- `rows::fits::next_of` meets its contract. Assumes nothing.
use native.Mathlib.Omega.{arith}
use Rattle.rows.proofs.Fields.{row_in, next_past, next-b, next-c, next-none}
use Rattle.rows.proofs.fits.next_of.Goals as goal

pub returns-then-row_count-r : goal.returns-then-row_count-r
returns-then-row_count-r c = next_past _ _ (omega (arith, c.row_count.ensures))

pub fields-w-requires : goal.fields-w-requires
fields-w-requires c = row_in c.requires.located _ (omega (arith, c.row_count.ensures))

pub returns-then-l-eq-NEXT : goal.returns-then-l-eq-NEXT
returns-then-l-eq-NEXT c = next-b _ _ c.fields-w.ensures c.line_of-l.ensures c.if-l-eq-NEXT.true

pub returns-then-l-eq-NEXT-2 : goal.returns-then-l-eq-NEXT-2
returns-then-l-eq-NEXT-2 c = next-c _ _ c.fields-w.ensures c.line_of-l.ensures c.if-l-eq-NEXT.false c.if-l-eq-NEXT-2.true

pub returns-else-l-eq-NEXT-2 : goal.returns-else-l-eq-NEXT-2
returns-else-l-eq-NEXT-2 c = next-none _ _ c.fields-w.ensures c.line_of-l.ensures c.if-l-eq-NEXT.false c.if-l-eq-NEXT-2.false
