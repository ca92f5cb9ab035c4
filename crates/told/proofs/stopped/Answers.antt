use borrow.Author.Rules.{rules}
use native.Mathlib.Omega.{arith}
use Rattle.told.proofs.Coded.{number-most, tells-stop}
use Rattle.told.proofs.stopped.Goals as goal

pub overflow_mul-result : goal.overflow_mul-result
overflow_mul-result c = record { fits = omega (arith, c.number.ensures, number-most c.args.y) }

pub overflow_add-result : goal.overflow_add-result
overflow_add-result c = record { fits = omega (arith, c.number.ensures, number-most c.args.y, c.place.type_inv) }

pub returns : goal.returns
returns c = tells-stop c.args.y c.requires c.number.ensures c.place.ensures (search rules)
