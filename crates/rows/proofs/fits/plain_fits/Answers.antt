-- `rows::fits::plain_fits` meets its contract. Assumes nothing.
use native.Mathlib.Omega.{arith}
use mathlib.Core.Path.{refl}
use Rattle.model.specs.Rows.{field_fits}
use Rattle.rows.specs.Lines.{plains}
use Rattle.rows.proofs.Fields.{below, plain-shown, plain-last, by_form, by-ends}
use Rattle.rows.proofs.fits.plain_fits.Goals as goal

pub returns-in-0 : goal.returns-in-0
unfolding plains field_fits
returns-in-0 c r =
    by_form (plain-shown c.args.w _ c.requires.1 _ c.in-0.is c.requires.2) _ _ _ _ _ refl refl refl

pub returns-in-1 : goal.returns-in-1
unfolding plains field_fits
returns-in-1 c r =
    by_form (plain-shown c.args.w _ c.requires.1 _ c.in-1.is c.requires.2) _ _ _ _ _ (below _ c.variable_count.ensures) refl refl

pub returns-in-2 : goal.returns-in-2
unfolding plains field_fits
returns-in-2 c r =
    by_form (plain-shown c.args.w _ c.requires.1 _ c.in-2.is c.requires.2) _ _ _ _ _ (below _ c.type_count.ensures) c.value_fits.ensures refl

pub returns-in-3 : goal.returns-in-3
unfolding plains field_fits
returns-in-3 c r =
    by_form (plain-shown c.args.w _ c.requires.1 _ c.in-3.is c.requires.2) _ _ _ _ _ (below _ c.type_count-in-3.ensures) refl refl

pub returns-in-4 : goal.returns-in-4
unfolding plains field_fits
returns-in-4 c r =
    by-ends (plain-shown c.args.w _ c.requires.1 _ c.in-4.is c.requires.2) _ _ _ _ (below _ c.variable_count-in-4.ensures) refl refl

pub returns-in_default : goal.returns-in_default
unfolding field_fits
returns-in_default c r =
    by_form (plain-last c.args.w _ c.requires.1 (omega (arith, c.in_default.in_default-own.rest)) c.requires.2) _ _ _ _ _ (below _ c.state_count.ensures) refl refl
