use borrow.Author.Rules.{rules}
use native.Mathlib.Omega.{arith}
use Rattle.image.proofs.Laid.{laid}
use Rattle.expressions.proofs.Ways.{located}
use Rattle.told.proofs.Coded.{told-by}
use Rattle.simple.proofs.{Late.act-stops, Acts.worded-told}
use Rattle.simple.proofs.run_worded.Goals as goal

pub trailer-requires : goal.trailer-requires
trailer-requires c =
    let p = laid (located c.requires.ready) in omega (arith, p.long)

pub read_on-q-requires : goal.read_on-q-requires
read_on-q-requires c =
    let h = c.requires in
    record { ready = h.ready; trailer = c.trailer.ensures; kind = h.kind; code = h.code; room = h.room }

pub told-requires : goal.told-requires
told-requires c = record { late = act-stops _ _ _ _ _ c.read_on-q.ensures }

pub returns : goal.returns
returns c =
    record {
      told = told-by c.told.ensures;
      result = worded-told c.args.image.now c.args.r c.args.script.now.now c.read_on-q.result c.told.result c.args.run.now c.args.store.now c.read_on-q.new.store c.args.values.now c.read_on-q.new.values c.told.ensures.outcome c.read_on-q.ensures;
      store = search rules;
      values = search rules;
    }
