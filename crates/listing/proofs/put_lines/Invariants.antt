use Prim.Native.Nat.{◌*◌, ◌≤◌}
use lib.ListN.{length, take}
use Rattle.model.specs.Image.{tables_of, variable_count}
use Rattle.model.specs.Exports.{lines}
use Rattle.text.specs.Written.{Written}
use Rattle.listing.proofs.put_lines.Given as goal

abbrev pub invariant-loop-q : goal.invariant-loop-q
invariant-loop-q l =
    let written = lines (tables_of l.x.image.now).states (variable_count l.x.trailer) 0 (take l.q l.sets) in
    (length written ≤ 18 * l.q) × Written written l.initial.page l.page
