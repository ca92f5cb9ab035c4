-- `rows::verdict_by` meets its contract: each stage's answer, where the stages before it refuse nothing. Assumes nothing.
use mathlib.Core.Path.{◌≡◌, refl, sym, ◌∙◌}
use Rattle.model.specs.Image.{Tables, tables_of}
use Rattle.model.specs.Rows.{expression}
use Rattle.model.specs.Calls.{rows_verdict}
use Rattle.rows.proofs.Stages.{root-condition, from7, from_condition, from6, refused-5, past-5, refused-6, past-6, refused-condition, past-condition, refused-7, accepted}
use Rattle.rows.proofs.verdict_by.Goals as goal

pub returns-in-Some : goal.returns-in-Some
returns-in-Some c =
    let tables : Tables = tables_of c.args.x.now.image.now in
    refused-5 (tables) c.row_count-rows.ensures c.malformed.ensures c.in-Some.is

pub returns-in-Some-not_rooted : goal.returns-in-Some-not_rooted
returns-in-Some-not_rooted c =
    let tables : Tables = tables_of c.args.x.now.image.now in
    let at-6 : rows_verdict (tables) ≡ from6 (tables) = past-5 (tables) c.row_count-rows.ensures c.malformed.ensures c.in_default.is in
    refused-6 (tables) c.state_count-states.ensures c.not_rooted.ensures c.in-Some-not_rooted.is ∙ sym (at-6)

pub returns-then-not-is_root : goal.returns-then-not-is_root
returns-then-not-is_root c =
    let tables : Tables = tables_of c.args.x.now.image.now in
    let at-6 : rows_verdict (tables) ≡ from6 (tables) = past-5 (tables) c.row_count-rows.ensures c.malformed.ensures c.in_default.is in
    let at-condition : rows_verdict (tables) ≡ from_condition (tables) = at-6 ∙ past-6 (tables) c.state_count-states.ensures c.not_rooted.ensures c.in_default-not_rooted.is in
    refused-condition (tables) (root-condition c.requires.located (c.is_root.ensures expression refl))
    c.state_count-states.ensures c.if-not-is_root.true
    ∙ sym (at-condition)

pub returns-in-Some-not_once : goal.returns-in-Some-not_once
returns-in-Some-not_once c =
    let tables : Tables = tables_of c.args.x.now.image.now in
    let at-6 : rows_verdict (tables) ≡ from6 (tables) = past-5 (tables) c.row_count-rows.ensures c.malformed.ensures c.in_default.is in
    let at-condition : rows_verdict (tables) ≡ from_condition (tables) = at-6 ∙ past-6 (tables) c.state_count-states.ensures c.not_rooted.ensures c.in_default-not_rooted.is in
    let at_7 : rows_verdict (tables) ≡ from7 (tables) = at-condition
    ∙ past-condition (tables) (root-condition c.requires.located (c.is_root.ensures expression refl)) c.if-not-is_root.false in
    refused-7 (tables) c.row_count-rows.ensures c.not_once.ensures c.in-Some-not_once.is ∙ sym (at_7)

pub returns : goal.returns
returns c =
    let tables : Tables = tables_of c.args.x.now.image.now in
    let at-6 : rows_verdict (tables) ≡ from6 (tables) = past-5 (tables) c.row_count-rows.ensures c.malformed.ensures c.in_default.is in
    let at-condition : rows_verdict (tables) ≡ from_condition (tables) = at-6 ∙ past-6 (tables) c.state_count-states.ensures c.not_rooted.ensures c.in_default-not_rooted.is in
    let at_7 : rows_verdict (tables) ≡ from7 (tables) = at-condition
    ∙ past-condition (tables) (root-condition c.requires.located (c.is_root.ensures expression refl)) c.if-not-is_root.false in
    accepted (tables) c.row_count-rows.ensures c.not_once.ensures c.in_default-not_once.is ∙ sym (at_7)
