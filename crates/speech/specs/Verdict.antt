-- 12 over the states. Assumes nothing.
use mathlib.Core.{List.List, Bool.◌&&◌, Bool.not, Bool.Bool}
use Rattle.std.specs.Prelude.{ℕ, length}
use Rattle.model.specs.declared.{Image.Image, Refusal.TheVariants.Speech}
use Rattle.model.specs.Answers.{state, each, Verdict}
use Rattle.model.specs.Image.{Tables, tables_of, row_count}
use Rattle.model.specs.Decode.{act}
use Rattle.model.specs.Speech.{well_spoken}
use Rattle.speech.specs.Both.{Both}
use Rattle.speech.specs.Filled.{Filled, Lent}

-- refused at the lowest state whose action, entered quiet, is wrong or can end spoken
unfoldable pub speech_verdict : Tables → Verdict
speech_verdict x = each (λ s. well_spoken x (act x s)) (length x.states) (λ s. Speech (state s))

-- an image free of 1 to 6, all its rows filled in
pub record Judged (s : List ℕ) (i : Image) (ways : List ℕ) : Type 0 where
  pub lent : Lent s i ways
  pub filled : Filled (tables_of s) (row_count i) ways

-- entered quiet, it is right and can't end spoken
abbrev pub ends_right : Both → Bool
ends_right w = w.quiet.right && not w.quiet.spoken
