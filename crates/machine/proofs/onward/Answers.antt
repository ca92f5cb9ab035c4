use mathlib.Core.Path.{◌∙◌, sym, ap}
use lib.IntN.{ℤ, pos}
use Rattle.model.specs.Values.{half16, plus}
use Rattle.values.proofs.Held.{held-is}
use Rattle.told.proofs.Coded.{ends_at, out-ends, out-over}
use Rattle.machine.proofs.Helpers.{onward-over, onward-unknown, onward-is, value-held, plus-range}
use Rattle.told.proofs.Coded.{told-by, told-ends}
use Rattle.machine.proofs.onward.Goals as goal

pub returns-then-p-ne-ENDS : goal.returns-then-p-ne-ENDS
returns-then-p-ne-ENDS c = (c.requires.0, onward-over _ _ (out-over c.args.p c.if-p-ne-ENDS.true))

pub plus-requires : goal.plus-requires
plus-requires c =
    plus-range c.requires.1 (sym (ends_at c.args.p c.if-p-ne-ENDS.false)) c.value.ensures c.in-Some.is

pub returns-in-Some : goal.returns-in-Some
returns-in-Some c = (
  told-ends,
  let e = sym (ends_at c.args.p c.if-p-ne-ENDS.false) in
      onward-is _ _ e c.value.ensures out-ends c.in-Some.is (held-is c.plus.result c.plus.type_inv ∙ c.plus.ensures ∙ ap (λ (z : ℤ). plus half16 z (pos 1)) (value-held c.requires.1 e c.value.ensures c.in-Some.is)),
)

pub returns-in-None : goal.returns-in-None
returns-in-None c =
    (told-by c.stopped.ensures, onward-unknown _ _ (sym (ends_at c.args.p c.if-p-ne-ENDS.false)) c.value.ensures c.in-None.is c.stopped.ensures.outcome)
