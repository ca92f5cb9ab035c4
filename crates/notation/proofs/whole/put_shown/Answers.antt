use borrow.Author.Rules.{rules}
use borrow.Author.Tests.{lt-ltb, le-ltb}
use Rattle.notation.specs.Whole.{shown_text}
use Rattle.notation.proofs.whole.put_shown.Goals as goal

pub returns-then-n-lt3 : goal.returns-then-n-lt3
unfolding shown_text
returns-then-n-lt3 c = rw (shown_text, lt-ltb c.args.n 3 (search rules)) c.put_length.ensures

pub trailer-requires : goal.trailer-requires
trailer-requires c = c.requires.trailed (search rules)

pub returns-then-n-lt4 : goal.returns-then-n-lt4
unfolding shown_text
returns-then-n-lt4 c = rw (shown_text, le-ltb c.args.n 3 (search rules), lt-ltb c.args.n 4 (search rules), ← c.trailer.ensures) c.put_trailer.ensures

pub put_tables-requires : goal.put_tables-requires
put_tables-requires c = rw c.trailer.ensures (c.requires.located (search rules))

pub returns-then-n-lt5 : goal.returns-then-n-lt5
unfolding shown_text
returns-then-n-lt5 c = rw (shown_text, le-ltb c.args.n 3 (search rules), le-ltb c.args.n 4 (search rules), lt-ltb c.args.n 5 (search rules), ← c.trailer.ensures) c.put_tables.ensures

pub put_raw-requires : goal.put_raw-requires
put_raw-requires c = rw c.trailer.ensures (c.requires.located (search rules))

pub returns-then-n-lt-TREES : goal.returns-then-n-lt-TREES
unfolding shown_text
returns-then-n-lt-TREES c = rw (shown_text, le-ltb c.args.n 3 (search rules), le-ltb c.args.n 4 (search rules), le-ltb c.args.n 5 (search rules), lt-ltb c.args.n 8 (search rules), ← c.trailer.ensures) c.put_raw.ensures

pub put_listing-requires : goal.put_listing-requires
put_listing-requires c = rw c.trailer.ensures (c.requires.located (search rules))

pub returns-else-n-lt-TREES : goal.returns-else-n-lt-TREES
unfolding shown_text
returns-else-n-lt-TREES c = rw (shown_text, le-ltb c.args.n 3 (search rules), le-ltb c.args.n 4 (search rules), le-ltb c.args.n 5 (search rules), le-ltb c.args.n 8 (search rules), ← c.trailer.ensures) c.put_listing.ensures
