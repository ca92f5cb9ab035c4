use native.Mathlib.Omega.{arith}
use Rattle.notation.specs.Texts.{row_text}
use Rattle.notation.specs.Whole.{words_text}
use Rattle.notation.proofs.tables.put_words.Goals as goal

pub put_filled-requires : goal.put_filled-requires
put_filled-requires c = λ h. absurd (omega arith)

pub returns : goal.returns
unfolding words_text row_text
returns c = c.put_filled.ensures
