use borrow.Author.Rules.{rules}
use mathlib.Core.Path.{refl}
use native.Mathlib.Omega.{arith}
use Rattle.expressions.proofs.Ways.{row_from, local-is}
use Rattle.actions.proofs.Listed.{here-row}
use Rattle.actions.proofs.Assigning.{assign-none, item-inside, item-value, item-next, assign-unknown, assign-stops, assign-stores, kept-where-false}
use Rattle.actions.proofs.+assign_all.Goals as goal

pub returns-then-r-eq-NONE : goal.returns-then-r-eq-NONE
returns-then-r-eq-NONE t c = assign-none c.requires c.if-r-eq-NONE.true

pub row-w-requires : goal.row-w-requires
row-w-requires t c = row_from refl (here-row c.requires c.if-r-eq-NONE.false)

pub eval-requires : goal.eval-requires
eval-requires t c = item-value (here-row c.requires c.if-r-eq-NONE.false) c.if-r-eq-NONE.false c.row-w.ensures

pub enum_told-1 : goal.enum_told-1
enum_told-1 t c = c.in-None.in-None-own.keys1

pub enum_known-z : goal.enum_known-z
enum_known-z t c = c.in-Some.in-Some-own.keys2

pub assign_all-done-requires : goal.assign_all-done-requires
assign_all-done-requires t c = let p = item-next (here-row c.requires c.if-r-eq-NONE.false) c.if-r-eq-NONE.false c.row-w.ensures in (omega (arith, p.0, c.decreases), p.1)

pub bounds-store-w : goal.bounds-store-w
bounds-store-w t c = let i = item-inside (here-row c.requires c.if-r-eq-NONE.false) c.if-r-eq-NONE.false c.row-w.ensures in search rules

pub returns-in-None : goal.returns-in-None
returns-in-None t c = assign-unknown (here-row c.requires c.if-r-eq-NONE.false) c.if-r-eq-NONE.false c.row-w.ensures c.eval.ensures c.in-None.is

pub returns-then-done : goal.returns-then-done
returns-then-done t c = let h = here-row c.requires c.if-r-eq-NONE.false in
    let f = c.if-r-eq-NONE.false in
    let e = c.row-w.ensures in
    let l = local-is (item-value h f e) c.eval.ensures c.in-Some.is in
    assign-stores h f e c.eval.ensures c.in-Some.is c.assign_all-done.ensures c.if-done.true l

pub returns-else-done : goal.returns-else-done
returns-else-done t c = let h = here-row c.requires c.if-r-eq-NONE.false in
    let f = c.if-r-eq-NONE.false in
    let e = c.row-w.ensures in
    assign-stops h f e c.eval.ensures c.in-Some.is c.assign_all-done.ensures c.if-done.false
    (kept-where-false _ _ _ c.assign_all-done.ensures c.if-done.false)
