-- `ntif::check_bytes_on` meets its contract. Assumes nothing.
use mathlib.Core.Path.{ap, ◌∙◌}
use Prim.Native.Nat.{ℕ}
use native.Mathlib.Omega.{arith}
use lib.ListN.{take, length-take}
use Rattle.std.proofs.lemmas.List.{map-id}
use Rattle.model.specs.Bytes.{written}
use Rattle.ntif.proofs.Checking.{accepted-trailer, accepted-rooted, accepted-fits, accepted-most, bytes-refused, bytes-accepted}
use Rattle.ntif.proofs.check_bytes_on.Goals as goal

pub trailer-requires : goal.trailer-requires
trailer-requires c = accepted-trailer _ _ c.judge-v.ensures.verdict c.in-Ok.is

pub state_count-n-requires : goal.state_count-n-requires
state_count-n-requires c = (accepted-rooted _ _ c.judge-v.ensures.verdict c.in-Ok.is _ c.trailer.ensures).formed.located

pub slice_bounds-put_words-end : goal.slice_bounds-put_words-end
slice_bounds-put_words-end c = omega (arith, c.state_count-n.ensures, accepted-most _ _ c.judge-v.ensures.verdict c.in-Ok.is)

pub slice_bounds-put_words-end-in-Ok : goal.slice_bounds-put_words-end-in-Ok
slice_bounds-put_words-end-in-Ok c =
    omega (arith, length-take {A = ℕ}, c.state_count-n.ensures, accepted-most _ _ c.judge-v.ensures.verdict c.in-Ok.is)

pub put_words-requires : goal.put_words-requires
put_words-requires c =
    let v = c.judge-v.ensures.verdict in
    omega (arith, length-take {A = ℕ}, c.state_count-n.ensures, accepted-fits _ _ v c.in-Ok.is, accepted-most _ _ v c.in-Ok.is)

pub returns-in-Err : goal.returns-in-Err
returns-in-Err c =
    bytes-refused _ c.args.sets.now (λ j. omega (arith, c.slice_known-1.given j)) _ c.judge-v.ensures.verdict c.in-Err.is c.pack_verdict.ensures

pub returns-in-Ok : goal.returns-in-Ok
returns-in-Ok c =
    bytes-accepted _ c.args.sets.now (λ j. omega (arith, c.slice_known-1.given j)) _ c.judge-v.ensures c.in-Ok.is c.state_count-n.ensures
    (c.put_words.ensures ∙ ap (λ l. written 8 l c.args.sets.now) (map-id (take c.state_count-n.result c.judge-v.new.sets))) c.pack_verdict-in-Ok.ensures
