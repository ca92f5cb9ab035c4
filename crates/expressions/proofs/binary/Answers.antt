use mathlib.Core.Path.{◌∙◌}
use Rattle.model.specs.Run.{apply_binary}
use Rattle.expressions.specs.Operators.{binary_of}
use Rattle.model.specs.Values.{half16, plus, minus, times, quotient, remainder}
use Rattle.values.proofs.Held.{held-is}
use Rattle.expressions.proofs.Operated.{zero_is, same-is, binary-by, held_both, last_code}
use Rattle.expressions.proofs.binary.Goals as goal

pub returns-in-17 : goal.returns-in-17
unfolding binary_of apply_binary
returns-in-17 c = binary-by c.args.code 17 c.args.a c.args.b c.in-17.is c.of_bool.type_inv (c.of_bool.ensures ∙ rw (zero_is c.args.a c.ranges.a.sfits, zero_is c.args.b c.ranges.b.sfits))

pub returns-in-18 : goal.returns-in-18
unfolding binary_of apply_binary
returns-in-18 c = binary-by c.args.code 18 c.args.a c.args.b c.in-18.is c.of_bool-in-18.type_inv (c.of_bool-in-18.ensures ∙ rw (zero_is c.args.a c.ranges.a.sfits, zero_is c.args.b c.ranges.b.sfits))

pub returns-in-20 : goal.returns-in-20
unfolding binary_of apply_binary
returns-in-20 c = binary-by c.args.code 20 c.args.a c.args.b c.in-20.is c.plus.type_inv (c.plus.ensures ∙ held_both (plus half16) c.args.a c.args.b c.ranges.a.sfits c.ranges.b.sfits)

pub returns-in-21 : goal.returns-in-21
unfolding binary_of apply_binary
returns-in-21 c = binary-by c.args.code 21 c.args.a c.args.b c.in-21.is c.minus.type_inv (c.minus.ensures ∙ held_both (minus half16) c.args.a c.args.b c.ranges.a.sfits c.ranges.b.sfits)

pub returns-in-22 : goal.returns-in-22
unfolding binary_of apply_binary
returns-in-22 c = binary-by c.args.code 22 c.args.a c.args.b c.in-22.is c.times.type_inv (c.times.ensures ∙ held_both (times half16) c.args.a c.args.b c.ranges.a.sfits c.ranges.b.sfits)

pub returns-in-23 : goal.returns-in-23
unfolding binary_of apply_binary
returns-in-23 c = binary-by c.args.code 23 c.args.a c.args.b c.in-23.is c.quotient.type_inv (c.quotient.ensures ∙ held_both (quotient half16) c.args.a c.args.b c.ranges.a.sfits c.ranges.b.sfits)

pub returns-in-24 : goal.returns-in-24
unfolding binary_of apply_binary
returns-in-24 c = binary-by c.args.code 24 c.args.a c.args.b c.in-24.is c.remainder.type_inv (c.remainder.ensures ∙ held_both remainder c.args.a c.args.b c.ranges.a.sfits c.ranges.b.sfits)

pub returns-in-25 : goal.returns-in-25
unfolding binary_of apply_binary
returns-in-25 c = binary-by c.args.code 25 c.args.a c.args.b c.in-25.is c.of_bool-in-25.type_inv (c.of_bool-in-25.ensures ∙ rw (same-is c.args.a c.args.b c.ranges.a.sfits c.ranges.b.sfits))

pub returns-in-26 : goal.returns-in-26
unfolding binary_of apply_binary
returns-in-26 c = binary-by c.args.code 26 c.args.a c.args.b c.in-26.is c.of_bool-in-26.type_inv (c.of_bool-in-26.ensures ∙ rw (held-is c.args.a c.ranges.a.sfits, held-is c.args.b c.ranges.b.sfits))

pub returns-in_default : goal.returns-in_default
unfolding apply_binary
returns-in_default c =
    let r = c.in_default.in_default-own.rest in
    let k = last_code c.args.code r.0.0.0.0.0.0.0.0.1 r.0.0.0.0.0.0.0.1 r.0.0.0.0.0.0.1 r.0.0.0.0.0.1 r.0.0.0.0.1 r.0.0.0.1 r.0.0.1 r.0.1 r.1 in
    held-is _ c.of_bool-in_default.type_inv ∙ c.of_bool-in_default.ensures ∙ rw (k, held-is c.args.a c.ranges.a.sfits, held-is c.args.b c.ranges.b.sfits)
