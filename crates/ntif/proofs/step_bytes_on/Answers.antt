use mathlib.Core.Path.{ap, ◌∙◌}
use native.Mathlib.Omega.{arith}
use Rattle.model.specs.declared.{State.State}
use Rattle.model.specs.Calls.{step}
use Rattle.ntif.proofs.Stepped.{read_of, bytes-refused, words-few, bytes-moved}
use Rattle.ntif.proofs.step_bytes_on.Goals as goal

pub pack_move-requires : goal.pack_move-requires
pack_move-requires c =
    words-few c.args.image.now c.args.q c.args.store.now c.args.script.now c.args.budget c.args.label.now (read_of c.args.store.now c.args.label.now c.args.slots.now c.get_words.auto.words c.requires.0 c.requires.1 c.get_words.ensures) (λ j. omega (arith, c.slice_known-1.given j)) (λ j. omega (arith, c.slice_known-2-1.given j)) (c.take_step-done.ensures ∙ ap (λ (z : State). step c.args.image.now z c.get_words.new.words c.args.script.now c.args.budget c.args.ten.now) c.state_of.ensures) (record { each = λ j. omega (arith, c.shared_slice_known-1.given j) }) _ c.in-Ok.is

pub returns-in-Err : goal.returns-in-Err
returns-in-Err c =
    bytes-refused c.args.image.now c.args.q c.args.store.now c.args.script.now c.args.budget c.args.label.now (read_of c.args.store.now c.args.label.now c.args.slots.now c.get_words.auto.words c.requires.0 c.requires.1 c.get_words.ensures) (λ j. omega (arith, c.slice_known-1.given j)) (λ j. omega (arith, c.slice_known-2-1.given j)) (c.take_step-done.ensures ∙ ap (λ (z : State). step c.args.image.now z c.get_words.new.words c.args.script.now c.args.budget c.args.ten.now) c.state_of.ensures) _ c.in-Err.is c.pack_refusal.ensures

pub returns-in-Ok : goal.returns-in-Ok
returns-in-Ok c =
    bytes-moved c.args.image.now c.args.q c.args.store.now c.args.script.now c.args.budget c.args.label.now (read_of c.args.store.now c.args.label.now c.args.slots.now c.get_words.auto.words c.requires.0 c.requires.1 c.get_words.ensures) (λ j. omega (arith, c.slice_known-1.given j)) (λ j. omega (arith, c.slice_known-2-1.given j)) (c.take_step-done.ensures ∙ ap (λ (z : State). step c.args.image.now z c.get_words.new.words c.args.script.now c.args.budget c.args.ten.now) c.state_of.ensures) _ c.in-Ok.is c.take_step-done.auto.label c.put_words.ensures c.put_words-in-Ok.ensures c.pack_move.ensures
