use mathlib.Core.Path.{refl}
use native.Mathlib.Omega.{arith}
use Rattle.image.proofs.Laid.{laid}
use Rattle.listing.proofs.Listed.{gave-located}
use Rattle.text.proofs.Writing.{written-then}
use Rattle.notation.specs.Whole.{explained_by}
use Rattle.notation.proofs.Verdicts.{gave-explained, gave-shown}
use Rattle.notation.proofs.put_explained.Goals as goal

pub put_shown-requires : goal.put_shown-requires
put_shown-requires c = rw c.number-n.ensures (gave-shown c.requires _ c.in-Err.is)

pub trailer-requires : goal.trailer-requires
trailer-requires c = let l = laid (gave-located c.requires _ c.in-Ok.is refl) in omega (arith, l.long)

pub put_listing-requires : goal.put_listing-requires
put_listing-requires c = gave-located c.requires _ c.in-Ok.is c.trailer.ensures

pub put_accepted-requires : goal.put_accepted-requires
put_accepted-requires c = (gave-located c.requires _ c.in-Ok.is c.trailer.ensures, c.requires.room)

pub returns-in-Err : goal.returns-in-Err
unfolding explained_by
returns-in-Err c = rw (gave-explained c.requires, c.in-Err.is, ← c.number-n.ensures, ← c.place-p.ensures, ← c.pointing-st.ensures) (written-then c.put_shown.ensures c.put_refusal.ensures)

pub returns-in-Ok : goal.returns-in-Ok
unfolding explained_by
returns-in-Ok c = rw (gave-explained c.requires, c.in-Ok.is, ← c.trailer.ensures) (written-then c.put_listing.ensures c.put_accepted.ensures)
