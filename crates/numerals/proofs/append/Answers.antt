-- `numerals::append` meets its contract. Assumes nothing.
use Rattle.numerals.proofs.Reading.{digit_low}
use Rattle.numerals.proofs.append.Goals as goal

pub overflow_sub-b : goal.overflow_sub-b
overflow_sub-b c = digit_low _ c.requires
