use Prim.Native.Nat.{◌+◌, ◌*◌}
use lib.ListN.{drop}
use Rattle.model.specs.Image.{tables_of}
use Rattle.notation.specs.declared.Aim.{Aim}
use Rattle.notation.specs.Table.{notation}
use Rattle.notation.specs.Texts.{line_from, filled, row_text}
use Rattle.notation.proofs.Steps.{Left}
use Rattle.notation.proofs.+put_filled_put_row.Given as goal

abbrev pub decreases-put_row : goal.decreases-put_row
decreases-put_row l = 2 * l.left

abbrev pub decreases-put_filled : goal.decreases-put_filled
decreases-put_filled l = 2 * l.left + 1

abbrev pub invariant-put_filled-loop-b : goal.invariant-put_filled-loop-b
invariant-put_filled-loop-b l =
    let row = λ (t : Aim). row_text l.left (tables_of l.x.image.now) l.st t in
    Left (filled row l.st l.a l.w (line_from l.k notation)) l.initial.page (filled row l.st l.a l.w (drop l.b-index l.marks)) l.page
