use mathlib.Core.Path.{refl}
use native.Mathlib.Omega.{arith}
use Rattle.image.proofs.Laid.{laid}
use Rattle.listing.proofs.Listed.{gave-located}
use Rattle.notation.proofs.Verdicts.{gave-shown}
use Rattle.graph.specs.Ways.{drawn_by}
use Rattle.graph.proofs.Walks.{gave-drawn, drawn-refused, drawn-graph}
use Rattle.graph.proofs.put_drawn.Goals as goal

pub returns-then-n-lt8 : goal.returns-then-n-lt8
returns-then-n-lt8 c = rw (gave-drawn c.requires, c.in-Err.is, drawn-refused c.args.image.now c.in-Err.y (omega (arith, c.number-n.ensures)), ← c.number-n.ensures, ← c.place-p.ensures, ← c.pointing-st.ensures) c.put_refused.ensures

pub trailer-requires : goal.trailer-requires
trailer-requires c = let s = gave-shown c.requires _ c.in-Err.is in s.trailed (omega (arith, c.number-n.ensures))

pub put_graph-requires : goal.put_graph-requires
put_graph-requires c = rw c.trailer.ensures ((gave-shown c.requires _ c.in-Err.is).located (omega (arith, c.number-n.ensures)))

pub trailer-requires-in-Ok : goal.trailer-requires-in-Ok
trailer-requires-in-Ok c = let l = laid (gave-located c.requires _ c.in-Ok.is refl) in omega (arith, l.long)

pub put_graph-requires-in-Ok : goal.put_graph-requires-in-Ok
put_graph-requires-in-Ok c = gave-located c.requires _ c.in-Ok.is c.trailer-in-Ok.ensures

pub returns-else-n-lt8 : goal.returns-else-n-lt8
returns-else-n-lt8 c = rw (gave-drawn c.requires, c.in-Err.is, drawn-graph c.args.image.now c.in-Err.y (omega (arith, c.number-n.ensures)), ← c.number-n.ensures, ← c.place-p.ensures, ← c.pointing-st.ensures, ← c.trailer.ensures) c.put_graph.ensures

pub returns-in-Ok : goal.returns-in-Ok
unfolding drawn_by
returns-in-Ok c = rw (gave-drawn c.requires, c.in-Ok.is, ← c.trailer-in-Ok.ensures, ← c.plain_style.ensures) c.put_graph-in-Ok.ensures
