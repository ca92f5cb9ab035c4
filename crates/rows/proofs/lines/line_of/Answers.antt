-- `rows::lines::line_of` meets its contract. Assumes nothing.
use Rattle.rows.proofs.Codes.{line-past}
use Rattle.rows.proofs.lines.line_of.Goals as goal

pub returns-then-at-lt-CODES : goal.returns-then-at-lt-CODES
returns-then-at-lt-CODES c = c.requires.line _ c.if-at-lt-CODES.true

pub returns-else-at-lt-CODES : goal.returns-else-at-lt-CODES
returns-else-at-lt-CODES c = line-past _ c.if-at-lt-CODES.false
