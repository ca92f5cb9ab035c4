-- `rows::fits::listing_fits` meets its contract. Assumes nothing.
use native.Mathlib.Omega.{arith}
use mathlib.Core.Path.{refl, sym}
use Rattle.model.specs.Rows.{field_fits}
use Rattle.image.proofs.Laid.{gates-count}
use Rattle.rows.specs.Lines.{listings}
use Rattle.rows.proofs.Fields.{below, listing-shown, listing-last, by_form}
use Rattle.rows.proofs.fits.listing_fits.Goals as goal

pub returns-in-0 : goal.returns-in-0
unfolding listings field_fits
returns-in-0 c =
    let p = listing-shown c.args.w _ c.requires.0.line _ c.in-0.is c.requires.1 in
    by_form p _ _ _ _ _ (c.names_list.ensures _ p.a) refl refl

pub returns-in-1 : goal.returns-in-1
unfolding listings field_fits
returns-in-1 c =
    let p = listing-shown c.args.w _ c.requires.0.line _ c.in-1.is c.requires.1 in
    by_form p _ _ _ _ _ (c.names_list-in-1.ensures _ p.a) (c.names_or_none.ensures _ p.b) refl

pub returns-in-2 : goal.returns-in-2
unfolding listings field_fits
returns-in-2 c =
    let p = listing-shown c.args.w _ c.requires.0.line _ c.in-2.is c.requires.1 in
    by_form p _ _ _ _ _ (below _ (sym (gates-count c.requires.0.below.reading.located))) (c.names_list_or_none.ensures _ p.b) refl

pub returns-in-3 : goal.returns-in-3
unfolding listings field_fits
returns-in-3 c =
    let p = listing-shown c.args.w _ c.requires.0.line _ c.in-3.is c.requires.1 in
    by_form p _ _ _ _ _ (c.names_list_or_none-in-3.ensures _ p.a) refl refl

pub returns-in_default : goal.returns-in_default
unfolding field_fits
returns-in_default c =
    let p = listing-last c.args.w _ c.requires.0.line (omega (arith, c.in_default.in_default-own.rest)) c.requires.1 in
    by_form p _ _ _ _ _ (c.names.ensures _ p.a) (c.names_list_or_none-in_default.ensures _ p.b) refl
