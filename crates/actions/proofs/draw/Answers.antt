use borrow.Author.Rules.{rules}
use mathlib.Core.{Path.◌≡◌, Path.refl, Path.◌∙◌}
use Prim.Native.Nat.{ℕ}
use native.Mathlib.Omega.{arith}
use lib.{ListN.length-set}
use Rattle.expressions.proofs.Ways.{row_from}
use Rattle.actions.proofs.Listed.{here-row}
use Rattle.actions.proofs.Drawing.{word-inside, draw-none, drawn-inside, drawn-type, drawn-local, draw-next, draw-ended, draw-out, draw-read}
use Rattle.actions.proofs.draw.Goals as goal

pub loop-r-init : goal.loop-r-init
loop-r-init c =
    (refl, c.requires.items, λ values. refl)

pub row-w-requires : goal.row-w-requires
row-w-requires c =
    row_from refl (here-row c.loop-r.invariant.1 c.loop-r-test.true)

pub size-requires : goal.size-requires
size-requires c =
    drawn-type c.requires.trailer (here-row c.loop-r.invariant.1 c.loop-r-test.true) c.loop-r-test.true c.row-w.ensures

pub read_word-requires : goal.read_word-requires
read_word-requires c =
    tt

pub enum_told-1 : goal.enum_told-1
enum_told-1 c =
    c.in-Ended.in-Ended-own.keys1

pub returns-in-Ended : goal.returns-in-Ended
returns-in-Ended c =
    record { does = λ values. draw-ended c.requires.trailer (here-row c.loop-r.invariant.1 c.loop-r-test.true) c.loop-r-test.true c.row-w.ensures _ _ c.args.run _ _ c.size.ensures c.read_word.ensures values c.in-Ended.is ∙ c.loop-r.invariant.2 values }

pub enum_told-in-OutOfRange : goal.enum_told-in-OutOfRange
enum_told-in-OutOfRange c =
    c.in-OutOfRange.in-OutOfRange-own.keys2

pub overflow_add-result : goal.overflow_add-result
overflow_add-result c =
    let i = word-inside _ _ _ c.read_word.ensures (λ e. let k : ◌≡◌ {A = ℕ} 0 1 = cc in absurd (omega arith)) in search rules

pub returns-in-OutOfRange : goal.returns-in-OutOfRange
returns-in-OutOfRange c =
    record { does = λ values. draw-out c.requires.trailer (here-row c.loop-r.invariant.1 c.loop-r-test.true) c.loop-r-test.true c.row-w.ensures _ _ c.args.run _ _ c.size.ensures c.read_word.ensures values c.in-OutOfRange.is ∙ c.loop-r.invariant.2 values }

pub enum_known-z : goal.enum_known-z
enum_known-z c =
    c.in-Read.in-Read-own.keys3

pub bounds-store-w : goal.bounds-store-w
bounds-store-w c =
    omega (arith, drawn-inside c.requires.trailer (here-row c.loop-r.invariant.1 c.loop-r-test.true) c.loop-r-test.true c.row-w.ensures, c.loop-r.invariant.0)

pub overflow_add-words : goal.overflow_add-words
overflow_add-words c =
    let i = word-inside _ _ _ c.read_word.ensures (λ e. let k : ◌≡◌ {A = ℕ} 0 1 = cc in absurd (omega arith)) in search rules

pub loop-r-smaller : goal.loop-r-smaller
loop-r-smaller c =
    (draw-next c.requires.trailer (here-row c.loop-r.invariant.1 c.loop-r-test.true) c.loop-r-test.true c.row-w.ensures).0

pub loop-r-preserved : goal.loop-r-preserved
loop-r-preserved c =
    let l = drawn-local c.requires.trailer (here-row c.loop-r.invariant.1 c.loop-r-test.true) c.loop-r-test.true c.row-w.ensures _ _ c.size.ensures c.read_word.ensures c.in-Read.is in (
      length-set c.loop-r.store _ _ ∙ c.loop-r.invariant.0,
      (draw-next c.requires.trailer (here-row c.loop-r.invariant.1 c.loop-r-test.true) c.loop-r-test.true c.row-w.ensures).1,
      λ values. draw-read c.requires.trailer (here-row c.loop-r.invariant.1 c.loop-r-test.true) c.loop-r-test.true c.row-w.ensures _ _ c.args.run _ _ c.size.ensures c.read_word.ensures values c.in-Read.is l ∙ c.loop-r.invariant.2 values,
    )

pub returns : goal.returns
returns c =
    record { does = λ values. draw-none c.loop-r.invariant.1 c.loop-r-test.false _ _ _ ∙ c.loop-r.invariant.2 values }
