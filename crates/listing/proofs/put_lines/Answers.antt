use borrow.Author.Rules.{rules}
use native.Mathlib.Omega.{arith}
use lib.{ListN.length-append}
use Rattle.model.specs.Image.{tables_of, variable_count}
use Rattle.model.specs.Exports.{lines}
use Rattle.image.proofs.Laid.{laid}
use Rattle.text.proofs.Writing.{written-none, written-then}
use Rattle.listing.proofs.Lines.{lines_next}
use Rattle.listing.proofs.put_lines.Goals as goal

pub overflow_sub-states : goal.overflow_sub-states
overflow_sub-states c = let l = laid c.requires.0 in omega (arith, l.rows)

pub loop-q-init : goal.loop-q-init
unfolding lines
loop-q-init c = (search rules, written-none _)

pub put_line-requires : goal.put_line-requires
put_line-requires c = record { located = c.requires.0; inside = search rules }

pub loop-q-preserved : goal.loop-q-preserved
loop-q-preserved c =
    let e = lines_next (tables_of c.args.x.now.image.now).states (variable_count c.args.x.now.trailer) c.loop-q.q c.args.sets.now (search rules) in
    (rw (e, length-append) (omega (arith, c.loop-q.invariant.0, c.put_line.ensures.most)), rw e (written-then c.loop-q.invariant.1 c.put_line.ensures.line))
