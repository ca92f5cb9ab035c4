-- `header::entries_fit` meets its contract. Assumes nothing.
use mathlib.Core.{Path.refl, Path.◌∙◌, Path.ap, Bool.◌&&◌}
use native.Mathlib.Omega.{arith}
use lib.{Dec.leb, Dec.ltb, ListN.get_or}
use Rattle.std.proofs.Common.{rules, tests}
use Rattle.std.proofs.lemmas.Iterator.{YieldsList-from_range, serves_from_Range}
use Rattle.std.proofs.lemmas.Iterator.Search.{all_from_yields_List}
use Rattle.model.specs.Image.{tables_of, entries_fit}
use Rattle.image.proofs.Laid.{variables-count}
use Rattle.image.specs.Located.{VariableOf}
use Rattle.header.proofs.Laws.{no_entry, entries-all}
use Rattle.header.proofs.entries_fit.Goals as goal

pub all-requires-clause-callable : goal.all-requires-clause-callable
all-requires-clause-callable c =
    serves_from_Range (λ x q k. search (rules, tests)) (λ x low high. let h : VariableOf c.args.x.now.image.now c.args.x.now.trailer x = record { located = c.requires; inside = omega (arith, c.variable_count-n.ensures, variables-count c.requires) } in search rules)

pub returns : goal.returns
returns c =
    let l = (tables_of c.args.x.now.image.now).variables in
    let t = c.type_count-types.result in
    let n = c.variable_count-n.result in
    all_from_yields_List (λ j. ltb (get_or l j no_entry).type t && leb (get_or l j no_entry).parameter 1) _ _ _ c.all.ensures.ran (YieldsList-from_range 0 n n refl (omega arith)) (λ x b q k. search (rules, tests))
    ∙ entries-all t l n 0 (omega (arith, c.variable_count-n.ensures))
    ∙ ap (λ k. entries_fit k l) c.type_count-types.ensures
