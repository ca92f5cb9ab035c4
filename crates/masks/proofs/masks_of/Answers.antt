-- `masks::masks_of` meets its contract: one line for each arm. Assumes nothing.
use native.Mathlib.Omega.{arith}
use Rattle.masks.proofs.ByCode.{at-variable, at-unary, at-bind, at-where, at-emit, at-receive, at-gets, at-of-type, at_item, at-communicate, at-to, at-then, at-select, at-case, at-arm, at-for, at-binary, at-vector, at_other, bit-variable, bit-bind, bit-gets, bit-of-type, bit-item, bit-to}
use Rattle.masks.proofs.masks_of.Goals as goal

pub bit-requires : goal.bit-requires
bit-requires c = bit-variable _ _ c.requires c.in-1.is

pub bit-requires-in-33 : goal.bit-requires-in-33
bit-requires-in-33 c = bit-bind _ _ c.requires c.in-33.is

pub bit-requires-in-44 : goal.bit-requires-in-44
bit-requires-in-44 c = bit-gets _ _ c.requires c.in-44.is

pub bit-requires-in-45 : goal.bit-requires-in-45
bit-requires-in-45 c = bit-of-type _ _ c.requires c.in-45.is

pub bit-requires-in-46 : goal.bit-requires-in-46
bit-requires-in-46 c = bit-item _ _ c.requires c.in-46.is

pub bit-requires-in-53 : goal.bit-requires-in-53
bit-requires-in-53 c = bit-to _ _ c.requires c.in-53.is

pub returns-in-1 : goal.returns-in-1
returns-in-1 c = rw c.bit.ensures (at-variable _ _ c.in-1.is)

pub returns-in-16 : goal.returns-in-16
returns-in-16 c = rw c.masks_in.ensures (at-unary _ _ c.in-16.is)

pub returns-in-33 : goal.returns-in-33
returns-in-33 c = rw c.bit-in-33.ensures (at-bind _ _ c.in-33.is)

pub returns-in-35 : goal.returns-in-35
returns-in-35 c = rw (c.without.ensures, c.masks_in-in-35.ensures, c.masks_in-pattern.ensures) (at-where _ _ c.in-35.is)

pub returns-in-40 : goal.returns-in-40
returns-in-40 c = rw (c.joined.ensures, c.masks_in-in-40.ensures) (at-emit _ _ c.in-40.is)

pub returns-in-41 : goal.returns-in-41
returns-in-41 c = rw c.joined-in-41.ensures (at-receive _ _ c.in-41.is)

pub returns-in-44 : goal.returns-in-44
returns-in-44 c = rw (c.joined-in-44.ensures, c.bit-in-44.ensures, c.masks_in-in-44.ensures) (at-gets _ _ c.in-44.is)

pub returns-in-45 : goal.returns-in-45
returns-in-45 c = rw (c.bit-in-45.ensures, c.masks_in-in-45.ensures) (at-of-type _ _ c.in-45.is)

pub returns-in-46 : goal.returns-in-46
returns-in-46 c = rw (c.bit-in-46.ensures, c.masks_in-in-46.ensures) (at_item _ _ c.in-46.is)

pub returns-in-52 : goal.returns-in-52
returns-in-52 c = rw c.masks_in-in-52.ensures (at-communicate _ _ c.in-52.is)

pub returns-in-53 : goal.returns-in-53
returns-in-53 c = rw c.bit-in-53.ensures (at-to _ _ c.in-53.is)

pub returns-in-54 : goal.returns-in-54
returns-in-54 c = rw c.joined-in-54.ensures (at-then _ _ c.in-54.is)

pub returns-in-55 : goal.returns-in-55
returns-in-55 c = rw c.masks_in-in-55.ensures (at-select _ _ c.in-55.is)

pub returns-in-56 : goal.returns-in-56
returns-in-56 c = rw c.masks_in-in-56.ensures (at-case _ _ c.in-56.is)

pub returns-in-58 : goal.returns-in-58
returns-in-58 c = rw (c.joined-in-58.ensures, c.masks_in-pattern-in-58.ensures, c.joined-rest.ensures) (at-arm _ _ c.in-58.is)

pub returns-in-60 : goal.returns-in-60
returns-in-60 c = rw (c.joined-in-60.ensures, c.masks_in-in-60.ensures) (at-for _ _ c.in-60.is)

pub returns-in-17 : goal.returns-in-17
returns-in-17 c = rw c.joined-in-17.ensures (at-binary _ _ c.in-17.if-code-lt16-own.false c.in-17.if-code-lt28-own.true c.in-17.in_default-own.rest)

pub returns-in-49-to-51 : goal.returns-in-49-to-51
returns-in-49-to-51 c = rw c.masks_in-in-49-to-51.ensures (at-vector _ _ c.in-49-to-51.if-code-lt49-own.false c.in-49-to-51.if-code-lt52-own.true)

pub returns-in_default : goal.returns-in_default
returns-in_default c = at_other _ _ (λ a b. omega arith) (λ a b. omega arith) c.in_default.in_default-own.rest

pub returns-in_default-2 : goal.returns-in_default-2
returns-in_default-2 c = at_other _ _ (λ a b. omega arith) (λ a b. omega arith) c.in_default.in_default-own.rest

pub returns-in_default-3 : goal.returns-in_default-3
returns-in_default-3 c = at_other _ _ (λ a b. omega arith) (λ a b. omega arith) c.in_default.in_default-own.rest
