-- 1 to 9 in two parts: before the rows, and the rows. Assumes nothing.
use mathlib.Core.{Path.◌≡◌, Path.sym, Path.ap, Path.◌∙◌, List.List}
use Prim.Native.Nat.{ℕ}
use Rattle.model.specs.declared.{Refusal.TheVariants.ImageLength, Refusal.TheVariants.MarkOrLength, Refusal.TheVariants.Starts, Refusal.TheVariants.Entries}
use Rattle.model.specs.Answers.{after, unless}
use Rattle.model.specs.Image.{length_fits, marked, trailer_of, starts_fit, tables_of, entries_right}
use Rattle.model.specs.Calls.{rows_verdict, rules_verdict, image_verdict}
use Rattle.model.proofs.Order.{after-assoc}
use Rattle.image.specs.Located.{header_verdict}

pub image-is : (s : List ℕ) → image_verdict s ≡ after (header_verdict s) (after (rows_verdict (tables_of s)) (rules_verdict (tables_of s)))
unfolding image_verdict header_verdict
image-is s =
    let x = tables_of s in
    let a = unless (length_fits s) ImageLength in
    let b = unless (marked s) MarkOrLength in
    let c = unless (starts_fit (trailer_of s)) Starts in
    let d = unless (entries_right x) Entries in
    let e = after (rows_verdict x) (rules_verdict x) in
    sym (after-assoc a (after b (after c d)) e ∙ ap (after a) (after-assoc b (after c d) e ∙ ap (after b) (after-assoc c d e)))
