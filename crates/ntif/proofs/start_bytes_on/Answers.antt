-- `ntif::start_bytes_on` meets its contract. Assumes nothing.
use Rattle.ntif.proofs.Starting.{read_of, start-bytes-refused, start-bytes-accepted}
use native.Mathlib.Omega.{arith}
use Rattle.ntif.proofs.start_bytes_on.Goals as goal

pub returns-in-Err : goal.returns-in-Err
returns-in-Err c =
    let r = read_of _ c.args.store.now c.args.given.now c.get_words.auto.words c.requires.0 c.requires.1 c.get_words.ensures in
    start-bytes-refused _ _ _ (λ j. omega (arith, c.slice_known-1.given j)) r c.start-v.ensures c.pack_verdict.ensures _ c.in-Err.is

pub returns-in-Ok : goal.returns-in-Ok
returns-in-Ok c =
    let r = read_of _ c.args.store.now c.args.given.now c.get_words.auto.words c.requires.0 c.requires.1 c.get_words.ensures in
    start-bytes-accepted _ _ _ (λ j. omega (arith, c.slice_known-1.given j)) r c.start-v.ensures c.pack_verdict-in-Ok.ensures c.in-Ok.is c.put_words.ensures
