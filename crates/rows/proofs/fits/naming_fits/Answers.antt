-- `rows::fits::naming_fits` meets its contract. Assumes nothing.
use native.Mathlib.Omega.{arith}
use mathlib.Core.Path.{refl}
use Rattle.model.specs.Rows.{field_fits}
use Rattle.rows.specs.Lines.{namings}
use Rattle.rows.proofs.Fields.{below, naming-shown, naming-last, by_form, own}
use Rattle.rows.proofs.fits.naming_fits.Goals as goal

pub returns-in-0 : goal.returns-in-0
unfolding namings field_fits
returns-in-0 c =
    let p = naming-shown c.args.w _ c.requires.0.line _ c.in-0.is c.requires.1 in
    by_form p _ _ _ _ _ (c.names.ensures _ p.a) refl refl

pub returns-in-1 : goal.returns-in-1
unfolding namings field_fits
returns-in-1 c =
    let p = naming-shown c.args.w _ c.requires.0.line _ c.in-1.is c.requires.1 in
    by_form p _ _ _ _ _ (c.names-in-1.ensures _ p.a) (c.names-in-1-2.ensures _ p.b) refl

pub returns-in-2 : goal.returns-in-2
unfolding namings field_fits
returns-in-2 c =
    let p = naming-shown c.args.w _ c.requires.0.line _ c.in-2.is c.requires.1 in
    by_form p _ _ _ _ _ (c.names-in-2.ensures _ p.a) (c.names_or_none.ensures _ (own c.requires.0)) refl

pub returns-in-3 : goal.returns-in-3
unfolding namings field_fits
returns-in-3 c =
    let p = naming-shown c.args.w _ c.requires.0.line _ c.in-3.is c.requires.1 in
    by_form p _ _ _ _ _ (below _ c.variable_count.ensures) (c.names_or_none-in-3.ensures _ (own c.requires.0)) refl

pub returns-in-4 : goal.returns-in-4
unfolding namings field_fits
returns-in-4 c =
    let p = naming-shown c.args.w _ c.requires.0.line _ c.in-4.is c.requires.1 in
    by_form p _ _ _ _ _ (below _ c.variable_count-in-4.ensures) (below _ c.type_count.ensures) (c.names_or_none-in-4.ensures _ (own c.requires.0))

pub returns-in-5 : goal.returns-in-5
unfolding namings field_fits
returns-in-5 c =
    let p = naming-shown c.args.w _ c.requires.0.line _ c.in-5.is c.requires.1 in
    by_form p _ _ _ _ _ (below _ c.variable_count-in-5.ensures) (c.names-in-5.ensures _ p.b) (c.names_or_none-in-5.ensures _ (own c.requires.0))

pub returns-in_default : goal.returns-in_default
unfolding field_fits
returns-in_default c =
    let p = naming-last c.args.w _ c.requires.0.line (omega (arith, c.in_default.in_default-own.rest)) c.requires.1 in
    by_form p _ _ _ _ _ (c.names-in_default.ensures _ p.a) (c.names-in_default-2.ensures _ p.b) (c.names_or_none-in_default.ensures _ (own c.requires.0))
