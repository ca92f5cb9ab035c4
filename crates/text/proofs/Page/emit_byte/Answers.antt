use mathlib.Core.Path.{refl}
use borrow.Author.Rules.{rules}
use Rattle.text.proofs.Pages.{emit-room, emit-full}
use Rattle.text.proofs.Page.emit_byte.Goals as goal

pub returns-then-self : goal.returns-then-self
returns-then-self c = record { emitted = emit-room _ _ _ (search rules); slice = refl }

pub returns-else-self : goal.returns-else-self
returns-else-self c = record { emitted = emit-full _ _ _ (search rules); slice = refl }
