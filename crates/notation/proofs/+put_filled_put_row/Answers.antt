use borrow.Author.Rules.{rules}
use mathlib.Core.Path.{◌≡◌}
use Prim.Native.Nat.{◌<◌}
use native.Mathlib.Omega.{arith}
use lib.ListN.{length, get_or}
use Rattle.model.specs.Image.{tables_of}
use Rattle.notation.specs.Table.{notation}
use Rattle.notation.specs.Texts.{line_from, up_to_end, line_of, row_text}
use Rattle.notation.proofs.Steps.{line-endless, filled-starts, filled-turn, filled-ends}
use Rattle.notation.proofs.Rows.{row-spent, row-none, row-some}
use Rattle.notation.proofs.+put_filled_put_row.Goals as goal

pub put_filled-loop-b-init : goal.put_filled-loop-b-init
unfolding line_of
put_filled-loop-b-init t c = filled-starts (λ t. row_text c.args.left (tables_of c.args.x.now.image.now) c.args.st t) c.args.st c.args.a c.args.w _ c.line-marks.result.now c.args.page.now c.line-marks.ensures

pub put_filled-put_row-requires : goal.put_filled-put_row-requires
put_filled-put_row-requires t c = (omega (arith, c.decreases), c.requires)

pub put_filled-loop-b-preserved : goal.put_filled-loop-b-preserved
unfolding line_of
put_filled-loop-b-preserved t c =
    let inside : c.loop-b.b-index < length (up_to_end (line_from c.args.k notation)) = rw (← c.line-marks.ensures) (search rules) in
    let n : get_or c.line-marks.result.now c.loop-b.b-index 0 ≡ 10 → ⊥ = rw c.line-marks.ensures (line-endless (line_from c.args.k notation) c.loop-b.b-index inside) in
    filled-turn (λ t. row_text c.args.left (tables_of c.args.x.now.image.now) c.args.st t) c.args.st c.args.a c.args.w c.line-marks.result.now c.loop-b.b-index c.aim.result (search rules) n c.loop-b.invariant c.aim.ensures c.put_plain.ensures c.put_row.ensures

pub put_filled-returns : goal.put_filled-returns
put_filled-returns t c =
    let e : c.loop-b.b-index ≡ length c.line-marks.result.now = search rules in
    filled-ends (λ t. row_text c.args.left (tables_of c.args.x.now.image.now) c.args.st t) c.args.st c.args.a c.args.w c.line-marks.result.now (rw e at c.loop-b.invariant)

pub put_row-returns-then-left-eq0 : goal.put_row-returns-then-left-eq0
put_row-returns-then-left-eq0 t c = row-spent c.args.left (tables_of c.args.x.now.image.now) c.args.st c.args.a _ c.if-left-eq0.true

pub put_row-returns-then-a-eq-NONE : goal.put_row-returns-then-a-eq-NONE
put_row-returns-then-a-eq-NONE t c = row-none c.args.left (tables_of c.args.x.now.image.now) c.args.st c.args.a _ c.if-a-eq-NONE.true

pub put_row-row_fields-w-requires : goal.put_row-row_fields-w-requires
put_row-row_fields-w-requires t c = c.requires (omega arith)

pub put_row-put_filled-requires : goal.put_row-put_filled-requires
put_row-put_filled-requires t c = (omega (arith, c.decreases), λ h. c.requires (omega arith))

pub put_row-returns : goal.put_row-returns
put_row-returns t c = row-some c.args.left (tables_of c.args.x.now.image.now) c.args.st c.args.a c.row_fields-w.result _ c.if-left-eq0.false c.if-a-eq-NONE.false c.row_fields-w.ensures (rw c.row_line.ensures) c.put_lead.ensures c.put_filled.ensures
