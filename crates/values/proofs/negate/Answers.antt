-- `values::negate` meets its contract. Assumes nothing.
use mathlib.Core.Path.{ap, ◌∙◌}
use lib.IntN.{ℤ, pos, neg_ℤ, ◌-ℤ◌, +ℤ_idl}
use Rattle.model.specs.Values.{negate, wrap}
use Rattle.values.proofs.Held.{once, negative-in, result_fits, wrapped}
use Rattle.values.proofs.negate.Goals as goal

-- 0 - a, of one operand
abbrev negative : ℤ → ℤ → ℤ
negative a b = pos 0 -ℤ a

pub overflow_sub-a : goal.overflow_sub-a
overflow_sub-a c = result_fits (once c.requires) negative (negative-in (once c.requires))

pub returns : goal.returns
unfolding negate
returns c =
    wrapped (once c.requires) negative (negative-in (once c.requires)) c.wrap.type_inv c.wrap.ensures ∙ ap (wrap c.args.half) (+ℤ_idl (neg_ℤ c.args.a))
