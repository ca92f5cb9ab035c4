-- A page of the code, as it is written. Assumes nothing.
use mathlib.Core.{Path.◌≡◌, List.List}
use Rattle.std.specs.Prelude.{ℕ}
use Rattle.text.specs.declared.Page.{Page as Lent}
use Rattle.text.specs.Emit.{Page, page, Emitted}

-- what a lent page has now
abbrev pub shown : Lent → Page
shown p = page p.«end» p.text.now

-- a lent page p becomes q, on the same slice, by some bytes emitted
pub record Written (bytes : List ℕ) (p q : Lent) : Type 0 where
  pub emitted : Emitted bytes (shown p) (shown q)
  pub slice : q.text.ghost_name ≡ p.text.ghost_name
