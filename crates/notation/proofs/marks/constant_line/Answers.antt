use mathlib.Core.{Path.sym, Path.ap, Bool.Bool, Bool.true, Bool.false}
use Prim.Native.Nat.{ℕ}
use borrow.Author.Tests.{ne_eqb}
use Rattle.notation.specs.Texts.{constant_line}
use Rattle.notation.proofs.marks.constant_line.Goals as goal

pub returns-then-t-eq1 : goal.returns-then-t-eq1
unfolding constant_line
returns-then-t-eq1 c = rw c.if-t-eq1.true

pub returns-then-t-ne0 : goal.returns-then-t-ne0
unfolding constant_line
returns-then-t-ne0 c = rw (constant_line, ne_eqb c.args.t 1 c.if-t-eq1.false, ne_eqb c.args.t 0 c.if-t-ne0.true)

pub returns-then-n-eq0 : goal.returns-then-n-eq0
unfolding constant_line
returns-then-n-eq0 c = rw (c.if-t-ne0.false, c.if-n-eq0.true)

pub returns : goal.returns
unfolding constant_line
returns c = rw c.if-t-ne0.false (ap (λ (b : Bool). elim b as (λ x. ℕ) [ true ↦ 67 | false ↦ 68 ]) (sym (ne_eqb c.args.n 0 c.if-n-eq0.false)))
