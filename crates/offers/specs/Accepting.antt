-- What one offer gives while nothing has been said: accept(v, ρ, O) of the report, section 3.4 (01, "The step"). Assumes nothing.
use mathlib.Core.{List.List}
use Rattle.std.specs.Prelude.{ℕ, ◌+◌, ℤ, Option, Some, None, Ok, Err}
use Rattle.model.specs.declared.{Fields.Fields, Refusal.Refusal, Refusal.TheVariants.Blocked, Refusal.TheVariants.Undefined, Refusal.TheVariants.ScriptEnded, Refusal.TheVariants.WordOutOfRange}
use Rattle.model.specs.Answers.{row}
use Rattle.model.specs.Image.{Tables, size_of}
use Rattle.model.specs.Rows.{shape_of}
use Rattle.model.specs.Trees.{Pat, Offer, emit, receive}
use Rattle.model.specs.Decode.{offer_of}
use Rattle.model.specs.Typing.{type_of_pat}
use Rattle.model.specs.Run.{Match, matched, failed, unsure, eval, match}
use Rattle.actions.specs.declared.{Word.Word, Word.TheVariants.Read, Word.TheVariants.Ended, Word.TheVariants.OutOfRange}
use Rattle.actions.specs.Words.{word_of}
use Rattle.offers.specs.declared.{Offered.Offered}

-- what an offer gives, and the store after it
pub record Given : Type 0 where
  pub got : Offered
  pub store : List ℤ

abbrev pub given : Offered → List ℤ → Given
given o m = record { got = o; store = m }

-- its value, after so many words
abbrev pub gave : ℤ → ℕ → Offered
gave z n = record { value = Ok z; words = n }

-- its refusal, after so many words
abbrev pub refused : Refusal → ℕ → Offered
refused y n = record { value = Err y; words = n }

-- the offer of a row with these fields
abbrev pub offer_by : Tables → Fields → Offer
offer_by x w = offer_of x w (shape_of w.code).means

-- an emission of a value, in the communication of row r after n words
abbrev pub emits : Option ℤ → ℕ → ℕ → Offered
emits (Some z) r n = gave z n
emits None r n = refused (Undefined (row r)) n

-- a receipt of the word z, by its match; "A receipt that doesn't match is 21"
abbrev pub match_gives : ℕ → List ℤ → ℕ → ℤ → Match → Given
match_gives r m n z (matched k) = given (gave z n) k
match_gives r m n z failed = given (refused (Blocked (row r)) n) m
match_gives r m n z unsure = given (refused (Undefined (row r)) n) m

-- a receipt, by its word
abbrev pub word_gives : Tables → Pat → ℕ → List ℤ → ℕ → Word → Given
word_gives x p r m n (Read z) = match_gives r m (n + 1) z (match x p z m)
word_gives x p r m n Ended = given (refused (ScriptEnded (row r)) n) m
word_gives x p r m n OutOfRange = given (refused (WordOutOfRange (row r)) (n + 1)) m

unfoldable pub receives : Tables → Pat → List ℕ → ℕ → List ℤ → ℕ → Given
receives x p script r m n = word_gives x p r m n (word_of (size_of x (type_of_pat x p)) script n)

unfoldable pub accepts : Tables → Offer → List ℕ → ℕ → List ℤ → ℕ → Given
accepts x (emit e) script r m n = given (emits (eval x e m) r n) m
accepts x (receive p) script r m n = receives x p script r m n
