use native.Mathlib.Omega.{arith}
use Rattle.finishing.proofs.Words.{word_none, word-rest, word-gate, word-eight, word_count, word_value, word_after}
use Rattle.finishing.proofs.label_word.Goals as goal

pub returns-then-k-eq0 : goal.returns-then-k-eq0
returns-then-k-eq0 c = word_none c.args.run c.args.values.now c.args.k c.if-not-run.true c.if-k-eq0.true

pub returns-then-not-run : goal.returns-then-not-run
returns-then-not-run c = word-rest c.args.run c.args.values.now c.args.k c.if-not-run.true c.if-k-eq0.false

pub returns-then-k-eq0-2 : goal.returns-then-k-eq0-2
returns-then-k-eq0-2 c = word-gate c.args.run c.args.values.now c.args.k c.if-not-run.false c.if-k-eq0-2.true (omega arith)

pub returns-then-run-gt8 : goal.returns-then-run-gt8
returns-then-run-gt8 c = word-eight c.args.run c.args.values.now c.args.k c.if-not-run.false c.if-k-eq1.true c.requires.1 c.if-run-gt8.true

pub returns-then-k-eq1 : goal.returns-then-k-eq1
returns-then-k-eq1 c = word_count c.args.run c.args.values.now c.args.k c.if-not-run.false c.if-k-eq1.true c.requires.1 c.if-run-gt8.false

pub returns-then-k-run : goal.returns-then-k-run
returns-then-k-run c = word_value c.args.run c.args.values.now c.args.k c.if-not-run.false c.if-k-eq0-2.false c.if-k-eq1.false c.if-k-run.true c.result-1.given

pub returns : goal.returns
returns c = word_after c.args.run c.args.values.now c.args.k c.if-not-run.false c.if-k-eq0-2.false c.if-k-eq1.false c.if-k-run.false
