use Rattle.text.specs.Written.{Written}
use Rattle.notation.specs.Texts.{each}
use Rattle.notation.specs.Whole.{member_text}
use Rattle.notation.proofs.whole.put_members.Given as goal

abbrev pub invariant-loop-v : goal.invariant-loop-v
invariant-loop-v l = Written (each (member_text l.mask) l.v) l.initial.page l.page
