-- A lent page written piece after piece. Assumes nothing.
use mathlib.Core.{Path.◌≡◌, Path.refl, Path.◌∙◌, List.List, List.[], List.◌∷◌, List.◌++◌}
use Prim.Native.Nat.{ℕ, ◌+◌, ◌-◌, ◌/◌, ◌%◌, ◌<◌, ◌≤◌}
use lib.{ListN.length, ListN.take, ListN.get_or}
use Rattle.model.specs.Exports.{decimal}
use Rattle.text.specs.declared.Page.{Page as Lent}
use Rattle.text.specs.Put.{Put}
use Rattle.text.specs.Emit.{literal}
use Rattle.text.specs.Written.{Written}
use Rattle.text.proofs.Pages.{emit-none, emit-then, emit-as, emit-next, emit-digit, emit-tenth, emit-small, emit-minus, emit-whole}

-- nothing
pub written-none : (p : Lent) → Written [] p p
written-none p = record { emitted = emit-none _; slice = refl }

-- a text and another after it
pub written-then : {p q r : Lent} {xs ys : List ℕ} → Written xs p q → Written ys q r → Written (xs ++ ys) p r
written-then d e = record { emitted = emit-then d.emitted e.emitted; slice = e.slice ∙ d.slice }

-- a text by another name
pub written-as : {p q : Lent} {xs ys : List ℕ} → xs ≡ ys → Written xs p q → Written ys p q
written-as h e = record { emitted = emit-as h e.emitted; slice = e.slice }

-- one more byte of a text
pub written-next : {p q r : Lent} (xs : List ℕ) (j : ℕ) → j < length xs → Written (take j xs) p q → Written (get_or xs j 0 ∷ []) q r
    → Written (take (j + 1) xs) p r
written-next xs j h d e = record { emitted = emit-next xs j h d.emitted e.emitted; slice = e.slice ∙ d.slice }

-- a number of one digit, and one whose tenth stands before its last digit
pub written-digit : {p q : Lent} (n : ℕ) → n < 10 → Written ((48 + n % 10) ∷ []) p q → Written (decimal n []) p q
written-digit n h e = record { emitted = emit-digit n h e.emitted; slice = e.slice }

pub written-tenth : {p q r : Lent} (n : ℕ) → 10 ≤ n → Written (decimal (n / 10) []) p q → Written ((48 + n % 10) ∷ []) q r → Written (decimal n []) p r
written-tenth n h d e = record { emitted = emit-tenth n h d.emitted e.emitted; slice = e.slice ∙ d.slice }

-- a number of two's complement, by its sign
pub written-small : {p q : Lent} (n : ℕ) → n < 0x8000 → Written (decimal n []) p q → Written (literal n) p q
written-small n h e = record { emitted = emit-small n h e.emitted; slice = e.slice }

pub written-minus : {p q r : Lent} (n : ℕ) → 0x8000 ≤ n → n < 0x10000 → Written (45 ∷ []) p q → Written (decimal (0xFFFF - n + 1) []) q r
    → Written (literal n) p r
written-minus n h l d e = record { emitted = emit-minus n h l d.emitted e.emitted; slice = e.slice ∙ d.slice }

-- with room for all of it, a text is put whole
pub written-whole : {p q : Lent} {xs : List ℕ} → Written xs p q → p.«end» + length xs ≤ length p.text.now → Put p.text.now p.«end» xs q.«end» q.text.now
written-whole e h = emit-whole e.emitted h
