-- `header::others_fit` meets its contract. Assumes nothing.
use mathlib.Core.{Path.refl, Path.◌∙◌, Bool.◌&&◌}
use Prim.Native.Nat.{◌-◌}
use native.Mathlib.Omega.{arith}
use lib.{Dec.leb, ListN.get_or}
use Rattle.std.proofs.Common.{rules, tests}
use Rattle.std.proofs.lemmas.Iterator.{YieldsList-from_range, serves_from_Range}
use Rattle.std.proofs.lemmas.Iterator.Search.{all_from_yields_List}
use Rattle.model.specs.Image.{tables_of}
use Rattle.image.proofs.Laid.{laid, types-count}
use Rattle.image.specs.Located.{TypeOf}
use Rattle.header.proofs.Laws.{others-all}
use Rattle.header.proofs.others_fit.Goals as goal

pub all-requires-clause-callable : goal.all-requires-clause-callable
all-requires-clause-callable c =
    serves_from_Range (λ x q k. search (rules, tests)) (λ x low high. let h : TypeOf c.args.x.now.image.now c.args.x.now.trailer x = record { located = c.requires; inside = omega (arith, c.type_count-n.ensures, types-count c.requires) } in search rules)

pub returns : goal.returns
returns c =
    let l = (tables_of c.args.x.now.image.now).sizes in
    let n = c.type_count-n.result in
    all_from_yields_List (λ j. leb 1 (get_or l j 0) && leb (get_or l j 0) 4096) _ _ _ c.all.ensures.ran (YieldsList-from_range 2 n (n - 2) refl refl) (λ x b q k. search (rules, tests))
    ∙ others-all l (n - 2) 2 (omega (arith, c.type_count-n.ensures, types-count c.requires, (laid c.requires).types_least))
