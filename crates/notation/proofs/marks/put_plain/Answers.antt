use borrow.Author.Tests.{ne_eqb}
use Rattle.text.proofs.Writing.{written-none}
use Rattle.notation.specs.Texts.{plain_text, text_by}
use Rattle.notation.proofs.marks.put_plain.Goals as goal

pub returns-in-48 : goal.returns-in-48
unfolding plain_text text_by
returns-in-48 c = rw c.in-48.is c.emit_number.ensures

pub returns-in-49 : goal.returns-in-49
unfolding plain_text text_by
returns-in-49 c = rw c.in-49.is c.emit_number-in-49.ensures

pub returns-in-50 : goal.returns-in-50
unfolding plain_text text_by
returns-in-50 c = rw c.in-50.is c.emit_number-in-50.ensures

pub returns-in-51 : goal.returns-in-51
unfolding plain_text text_by
returns-in-51 c = rw c.in-51.is c.emit_literal.ensures

pub returns-in-52 : goal.returns-in-52
unfolding plain_text text_by
returns-in-52 c = rw c.in-52.is c.emit_literal-in-52.ensures

pub returns-in-53 : goal.returns-in-53
unfolding plain_text text_by
returns-in-53 c = rw c.in-53.is c.put_type.ensures

pub returns-in-54 : goal.returns-in-54
unfolding plain_text text_by
returns-in-54 c = rw c.in-54.is c.put_type-in-54.ensures

pub returns-in-57 : goal.returns-in-57
unfolding plain_text text_by
returns-in-57 c = rw c.in-57.is c.emit_number-in-57.ensures

pub returns-in-76 : goal.returns-in-76
unfolding plain_text text_by
returns-in-76 c = rw c.in-76.is c.put_start.ensures

pub returns-in-73 : goal.returns-in-73
unfolding plain_text text_by
returns-in-73 c = rw c.in-73.is c.put_indent.ensures

pub returns-in-77 : goal.returns-in-77
unfolding plain_text text_by
returns-in-77 c = rw c.in-77.is c.put_margin.ensures

pub returns-in-80 : goal.returns-in-80
unfolding plain_text text_by
returns-in-80 c = rw c.in-80.is c.put_pointer.ensures

pub returns-in-69 : goal.returns-in-69
unfolding plain_text text_by
returns-in-69 c = rw c.in-69.is c.put_end.ensures

pub returns-in-85 : goal.returns-in-85
unfolding plain_text text_by
returns-in-85 c = rw c.in-85.is c.emit_byte.ensures

pub returns-in-65 : goal.returns-in-65
unfolding plain_text text_by
returns-in-65 c = rw c.in-65.is (written-none _)

pub returns-in-66 : goal.returns-in-66
unfolding plain_text text_by
returns-in-66 c = rw c.in-66.is (written-none _)

pub returns-in-67 : goal.returns-in-67
unfolding plain_text text_by
returns-in-67 c = rw c.in-67.is (written-none _)

pub returns-in-68 : goal.returns-in-68
unfolding plain_text text_by
returns-in-68 c = rw c.in-68.is (written-none _)

pub returns-in-70 : goal.returns-in-70
unfolding plain_text text_by
returns-in-70 c = rw c.in-70.is (written-none _)

pub returns-in-78 : goal.returns-in-78
unfolding plain_text text_by
returns-in-78 c = rw c.in-78.is (written-none _)

pub returns-in-81 : goal.returns-in-81
unfolding plain_text text_by
returns-in-81 c = rw c.in-81.is (written-none _)

pub returns-in-82 : goal.returns-in-82
unfolding plain_text text_by
returns-in-82 c = rw c.in-82.is (written-none _)

pub returns-in-87 : goal.returns-in-87
unfolding plain_text text_by
returns-in-87 c = rw c.in-87.is (written-none _)

pub returns-in_default : goal.returns-in_default
unfolding plain_text text_by
returns-in_default c = rw (plain_text, text_by, ne_eqb c.args.b 48 c.in_default.in_default-own.rest.0.0.0.0.0.0.0.0.0.0.0.0.0.0.0.0.0.0.0.0.0.0.1, text_by, ne_eqb c.args.b 49 c.in_default.in_default-own.rest.0.0.0.0.0.0.0.0.0.0.0.0.0.0.0.0.0.0.0.0.0.1, text_by, ne_eqb c.args.b 50 c.in_default.in_default-own.rest.0.0.0.0.0.0.0.0.0.0.0.0.0.0.0.0.0.0.0.0.1, text_by, ne_eqb c.args.b 51 c.in_default.in_default-own.rest.0.0.0.0.0.0.0.0.0.0.0.0.0.0.0.0.0.0.0.1, text_by, ne_eqb c.args.b 52 c.in_default.in_default-own.rest.0.0.0.0.0.0.0.0.0.0.0.0.0.0.0.0.0.0.1, text_by, ne_eqb c.args.b 53 c.in_default.in_default-own.rest.0.0.0.0.0.0.0.0.0.0.0.0.0.0.0.0.0.1, text_by, ne_eqb c.args.b 54 c.in_default.in_default-own.rest.0.0.0.0.0.0.0.0.0.0.0.0.0.0.0.0.1, text_by, ne_eqb c.args.b 57 c.in_default.in_default-own.rest.0.0.0.0.0.0.0.0.0.0.0.0.0.0.0.1, text_by, ne_eqb c.args.b 76 c.in_default.in_default-own.rest.0.0.0.0.0.0.0.0.0.0.0.0.0.0.1, text_by, ne_eqb c.args.b 73 c.in_default.in_default-own.rest.0.0.0.0.0.0.0.0.0.0.0.0.0.1, text_by, ne_eqb c.args.b 77 c.in_default.in_default-own.rest.0.0.0.0.0.0.0.0.0.0.0.0.1, text_by, ne_eqb c.args.b 80 c.in_default.in_default-own.rest.0.0.0.0.0.0.0.0.0.0.0.1, text_by, ne_eqb c.args.b 69 c.in_default.in_default-own.rest.0.0.0.0.0.0.0.0.0.0.1, text_by, ne_eqb c.args.b 85 c.in_default.in_default-own.rest.0.0.0.0.0.0.0.0.0.1, text_by, ne_eqb c.args.b 65 c.in_default.in_default-own.rest.0.0.0.0.0.0.0.0.1, text_by, ne_eqb c.args.b 66 c.in_default.in_default-own.rest.0.0.0.0.0.0.0.1, text_by, ne_eqb c.args.b 67 c.in_default.in_default-own.rest.0.0.0.0.0.0.1, text_by, ne_eqb c.args.b 68 c.in_default.in_default-own.rest.0.0.0.0.0.1, text_by, ne_eqb c.args.b 70 c.in_default.in_default-own.rest.0.0.0.0.1, text_by, ne_eqb c.args.b 78 c.in_default.in_default-own.rest.0.0.0.1, text_by, ne_eqb c.args.b 81 c.in_default.in_default-own.rest.0.0.1, text_by, ne_eqb c.args.b 82 c.in_default.in_default-own.rest.0.1, text_by, ne_eqb c.args.b 87 c.in_default.in_default-own.rest.1) c.emit_byte-in_default.ensures
