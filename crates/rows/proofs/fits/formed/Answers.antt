-- `rows::fits::formed` meets its contract: the fields by the form of the row's line. Assumes nothing.
use native.Mathlib.Omega.{arith}
use Rattle.rows.specs.Judged.{Lined}
use Rattle.rows.proofs.Fields.{row_in, lined-at, formed-unknown, formed-known}
use Rattle.rows.proofs.fits.formed.Goals as goal

pub fields-w-requires : goal.fields-w-requires
fields-w-requires c = row_in c.requires.0.located _ c.requires.1

pub returns-then-l-eq-UNKNOWN : goal.returns-then-l-eq-UNKNOWN
returns-then-l-eq-UNKNOWN c =
    let here : Lined c.args.x.now.image.now c.args.lines.now c.args.x.now.trailer c.args.r c.fields-w.result c.line_of-l.result = lined-at c.requires.0 c.requires.1 c.fields-w.ensures c.line_of-l.ensures in
    formed-unknown (here) c.if-l-eq-UNKNOWN.true

pub naming_fits-requires : goal.naming_fits-requires
naming_fits-requires c =
    let here : Lined c.args.x.now.image.now c.args.lines.now c.args.x.now.trailer c.args.r c.fields-w.result c.line_of-l.result = lined-at c.requires.0 c.requires.1 c.fields-w.ensures c.line_of-l.ensures in
    (here, c.in-1.is)

pub listing_fits-requires : goal.listing_fits-requires
listing_fits-requires c =
    let here : Lined c.args.x.now.image.now c.args.lines.now c.args.x.now.trailer c.args.r c.fields-w.result c.line_of-l.result = lined-at c.requires.0 c.requires.1 c.fields-w.ensures c.line_of-l.ensures in
    (here, omega (arith, c.in_default.in_default-own.rest))

pub returns-in-0 : goal.returns-in-0
returns-in-0 c =
    let here : Lined c.args.x.now.image.now c.args.lines.now c.args.x.now.trailer c.args.r c.fields-w.result c.line_of-l.result = lined-at c.requires.0 c.requires.1 c.fields-w.ensures c.line_of-l.ensures in
    formed-known (here) _ c.if-l-eq-UNKNOWN.false (c.plain_fits.ensures _)

pub returns-in-1 : goal.returns-in-1
returns-in-1 c =
    let here : Lined c.args.x.now.image.now c.args.lines.now c.args.x.now.trailer c.args.r c.fields-w.result c.line_of-l.result = lined-at c.requires.0 c.requires.1 c.fields-w.ensures c.line_of-l.ensures in
    formed-known (here) _ c.if-l-eq-UNKNOWN.false c.naming_fits.ensures

pub returns-in_default : goal.returns-in_default
returns-in_default c =
    let here : Lined c.args.x.now.image.now c.args.lines.now c.args.x.now.trailer c.args.r c.fields-w.result c.line_of-l.result = lined-at c.requires.0 c.requires.1 c.fields-w.ensures c.line_of-l.ensures in
    formed-known (here) _ c.if-l-eq-UNKNOWN.false c.listing_fits.ensures
