-- `finishing::put_label` meets its contract. Assumes nothing.
use mathlib.Core.{Path.◌≡◌, Path.◌∙◌, Path.ap, Path.sym, List.◌++◌}
use native.Mathlib.Omega.{arith}
use lib.{ListN.drop, ListN.length, ListN.take, Seq.length-take-le, Seq.take_all}
use Rattle.model.specs.Run.{label_words}
use Rattle.actions.specs.State.{label_of}
use Rattle.values.proofs.Held.{more-held}
use Rattle.finishing.proofs.Words.{words-ten}
use Rattle.finishing.proofs.put_label.Goals as goal

pub loop-k-preserved : goal.loop-k-preserved
loop-k-preserved c =
    let ten = words-ten c.args.run c.args.values.now c.requires.1 in
    let room : length (take 10 c.args.label.now) ≡ 10 = length-take-le 10 c.args.label.now c.requires.0 in
    more-held (label_words (label_of c.args.run c.args.values.now)) c.loop-k.word-items c.loop-k.k (omega arith) (omega arith) c.label_word.type_inv c.label_word.ensures c.loop-k.invariant

pub returns : goal.returns
returns c =
    let ten = words-ten c.args.run c.args.values.now c.requires.1 in
    let room : length (take 10 c.args.label.now) ≡ 10 = length-take-le 10 c.args.label.now c.requires.0 in
    ap (λ ws. ws ++ drop 10 c.args.label.now)
    (sym (take_all c.loop-k.k c.loop-k.word-items (omega arith)) ∙ c.loop-k.invariant ∙ take_all c.loop-k.k (label_words (label_of c.args.run c.args.values.now)) (omega arith))
