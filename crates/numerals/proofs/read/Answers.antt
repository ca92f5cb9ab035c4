-- `numerals::read` meets its contract. Assumes nothing.
use mathlib.Core.{Path.◌≡◌, Path.ap, Path.sym, Path.◌∙◌, Bool.true, Bool.false, List.[], List.◌∷◌}
use lib.ListN.{length}
use borrow.Author.Tests.{eqb-true, eq-eqb}
use Rattle.std.proofs.lemmas.Slice.Eq.{bytes_eq-Decides}
use Rattle.numerals.specs.Numerals.{fits}
use Rattle.numerals.proofs.Reading.{word_none, word-plus, word-dash, word-dashes, word-minus}
use Rattle.numerals.proofs.read.Goals as goal

pub returns-in_default : goal.returns-in_default
returns-in_default c = word_none _ c.in_default.ensures.cases

pub returns-then-first-ne45 : goal.returns-then-first-ne45
returns-then-first-ne45 c = c.number.ensures ∙ ap (fits false) c.digits.ensures ∙ word-plus c.in-Some.ensures.cases.0 c.if-first-ne45.true

pub returns-then-is_empty : goal.returns-then-is_empty
returns-then-is_empty c = word-dash c.in-Some.ensures.cases.0 c.if-first-ne45.false (eqb-true _ 0 (sym c.is_empty.ensures ∙ c.if-is_empty.true))

pub returns-then-eq : goal.returns-then-eq
returns-then-eq c =
    word-dashes c.in-Some.ensures.cases.0 c.if-first-ne45.false ((bytes_eq-Decides c.in-Some.rest.now c.as_slice.result.now).0 (sym c.eq.ensures ∙ c.if-eq.true) ∙ c.as_slice.ensures)

pub returns : goal.returns
returns c =
    let more : length c.in-Some.rest.now ≡ 0 → ⊥ = λ e. let t = eq-eqb (length c.in-Some.rest.now) 0 e in cc (t, c.is_empty.ensures, c.if-is_empty.false) in
    let other : c.in-Some.rest.now ≡ 45 ∷ [] → ⊥ =
    λ e. let t = (bytes_eq-Decides c.in-Some.rest.now c.as_slice.result.now).1 (e ∙ sym c.as_slice.ensures) in cc (t, c.eq.ensures, c.if-eq.false) in
    c.number-2.ensures ∙ ap (fits true) c.digits-2.ensures ∙ word-minus c.in-Some.ensures.cases.0 c.if-first-ne45.false more other
