use Rattle.header.proofs.Laws.{short, not_short}
use Rattle.header.proofs.length_fits.Goals as goal

pub returns-then-image : goal.returns-then-image
returns-then-image c = short _ c.if-image.true

pub returns : goal.returns
returns c = not_short _ c.if-image.false
