-- `numerals::digits` meets its contract: what is said so far and by the rest is what the whole says. Assumes nothing.
use mathlib.Core.Path.{◌≡◌}
use lib.ListN.{drop}
use Rattle.numerals.specs.Numerals.{saying}
use Rattle.numerals.proofs.digits.Given as goal

abbrev pub invariant-loop-b : goal.invariant-loop-b
invariant-loop-b l = saying 0 l.text ≡ saying l.n (drop l.b-index l.text)
