-- `exhaustive`: some arm catches all; or int; or value by value. Assumes nothing.
use Rattle.speech.proofs.Expressions.{type-in}
use Rattle.speech.proofs.Exhausted.{exhausted-all, exhausted-int, exhausted-each}
use Rattle.speech.proofs.arms.exhaustive.Goals as goal

pub returns-then-c : goal.returns-then-c
returns-then-c c = exhausted-all c.requires c.arms_catch-c.ensures c.if-c.true

pub returns-then-t-eq-INT : goal.returns-then-t-eq-INT
returns-then-t-eq-INT c = exhausted-int c.requires c.arms_catch-c.ensures c.if-c.false c.type_of_expression-t.ensures c.if-t-eq-INT.true

pub size-requires : goal.size-requires
size-requires c = record { located = c.requires.subject.formed.located; inside = rw c.type_of_expression-t.ensures (type-in c.requires.subject) }

pub returns : goal.returns
returns c = exhausted-each c.requires c.arms_catch-c.ensures c.if-c.false c.type_of_expression-t.ensures c.if-t-eq-INT.false c.size.ensures c.all_in.ensures
