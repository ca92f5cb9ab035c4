use Rattle.text.proofs.Writing.{written-then}
use Rattle.notation.specs.Whole.{listing_text}
use Rattle.notation.proofs.whole.put_listing.Goals as goal

pub returns : goal.returns
unfolding listing_text
returns c = written-then (written-then c.put_tables.ensures c.put_line.ensures) c.put_table.ensures
