use borrow.Author.Rules.{rules}
use Rattle.model.specs.Image.{tables_of}
use Rattle.notation.specs.Whole.{entry_text, table_text}
use Rattle.notation.proofs.Steps.{each_next, each_none}
use Rattle.notation.proofs.tables.put_table.Goals as goal

pub loop-q-init : goal.loop-q-init
loop-q-init c = each_none _ _

pub put_entry-requires : goal.put_entry-requires
put_entry-requires c = record { located = c.requires; inside = search rules }

pub loop-q-preserved : goal.loop-q-preserved
loop-q-preserved c = each_next (entry_text (tables_of c.args.x.now.image.now) c.args.st c.args.table) c.loop-q.q c.loop-q.invariant c.put_entry.ensures

pub returns : goal.returns
unfolding table_text
returns c = search rules
