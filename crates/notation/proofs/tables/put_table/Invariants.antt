use Rattle.model.specs.Image.{tables_of}
use Rattle.text.specs.Written.{Written}
use Rattle.notation.specs.Texts.{each}
use Rattle.notation.specs.Whole.{entry_text}
use Rattle.notation.proofs.tables.put_table.Given as goal

abbrev pub invariant-loop-q : goal.invariant-loop-q
invariant-loop-q l = Written (each (entry_text (tables_of l.x.image.now) l.st l.table) l.q) l.initial.page l.page
