use mathlib.Core.Path.{refl}
use native.Mathlib.Omega.{arith}
use lib.{ListN.length-append}
use Rattle.image.proofs.Laid.{laid}
use Rattle.text.proofs.Writing.{written-then}
use Rattle.listing.proofs.Listed.{gave-located, gave-refused, gave-accepted}
use Rattle.listing.proofs.put_listing.Goals as goal

pub trailer-requires : goal.trailer-requires
trailer-requires c =
    let l = laid (gave-located c.requires _ c.in-Ok.is refl) in
    omega (arith, l.long)

pub put_lines-requires : goal.put_lines-requires
put_lines-requires c =
    let z = gave-located c.requires c.trailer.result c.in-Ok.is c.trailer.ensures in
    let l = laid z in
    (z, omega (arith, l.states_most, c.requires.room))

pub returns-in-Err-clause-most : goal.returns-in-Err-clause-most
returns-in-Err-clause-most c = rw (gave-refused c.requires _ c.in-Err.is) (omega (arith, c.put_refusal.ensures.most))

pub returns-in-Err-clause-listing : goal.returns-in-Err-clause-listing
returns-in-Err-clause-listing c = rw (gave-refused c.requires _ c.in-Err.is) c.put_refusal.ensures.line

pub returns-in-Ok-clause-most : goal.returns-in-Ok-clause-most
returns-in-Ok-clause-most c =
    let l = laid (gave-located c.requires c.trailer.result c.in-Ok.is c.trailer.ensures) in
    rw (gave-accepted c.requires c.trailer.result c.in-Ok.is c.trailer.ensures, length-append)
    (omega (arith, l.states_most, c.put_lines.ensures.most))

pub returns-in-Ok-clause-listing : goal.returns-in-Ok-clause-listing
returns-in-Ok-clause-listing c =
    rw (gave-accepted c.requires c.trailer.result c.in-Ok.is c.trailer.ensures)
    (written-then c.emit.ensures c.put_lines.ensures.lines)
