-- What is read to the end of the first bytes is these bytes. Assumes nothing.
use mathlib.Core.{Path.◌≡◌, Path.ap, Path.◌∙◌}
use Rattle.std.specs.Prelude.{ℕ, List, [], ◌++◌, Option, Some, None, IfSome, take}
use Rattle.std.specs.Option.{option_map}

pub loaded : (limit : ℕ) (left : Option (List ℕ)) (items : List ℕ) {before : List ℕ} → before ≡ [] → IfSome (option_map (take limit) left) (λ xs. items ≡ before ++ xs)
    → IfSome left (λ bytes. items ≡ take limit bytes)
loaded limit None items e h = h
loaded limit (Some bytes) items e h = h ∙ ap (λ (front : List ℕ). front ++ take limit bytes) e
