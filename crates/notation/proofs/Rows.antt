-- The text of a row. Assumes nothing.
use mathlib.Core.{Path.◌≡◌, Path.refl}
use Prim.Native.Nat.{ℕ, zero, suc, ◌+◌, ◌-◌}
use native.Mathlib.{Omega.arith}
use borrow.Author.Tests.{eq-eqb, ne_eqb}
use Rattle.model.specs.declared.Fields.{Fields}
use Rattle.model.specs.Image.{Tables, none, fields_of}
use Rattle.text.specs.declared.Page.{Page}
use Rattle.text.specs.Written.{Written}
use Rattle.text.proofs.Writing.{written-none, written-then}
use Rattle.notation.specs.declared.{Aim.Aim, Style.Style}
use Rattle.notation.specs.Table.{notation}
use Rattle.notation.specs.Texts.{line_from, lead_text, row_line, filled, row_text}

-- nothing where no rows are left, or there is no row
pub row-spent : (n : ℕ) (x : Tables) (st : Style) (a : Aim) (p : Page) → n ≡ 0 → Written (row_text n x st a) p p
unfolding row_text
row-spent n x st a p e = rw e (written-none p)

pub row-none : (n : ℕ) (x : Tables) (st : Style) (a : Aim) (p : Page) → a.row ≡ none → Written (row_text n x st a) p p
unfolding row_text
row-none zero x st a p e = written-none p
row-none (suc n) x st a p e = rw (row_text, eq-eqb a.row none e) (written-none p)

-- the words before a row, and its line
pub row-some : (n : ℕ) (x : Tables) (st : Style) (a : Aim) (w : Fields) (k : ℕ) {p q r : Page} → (n ≡ 0 → ⊥) → (a.row ≡ none → ⊥)
    → w ≡ fields_of x a.row → k ≡ row_line w + a.shift → Written (lead_text a.lead) p q
    → Written (filled (λ t. row_text (n - 1) x st t) st a w (line_from k notation)) q r → Written (row_text n x st a) p r
unfolding row_text
row-some zero x st a w k h i e f y z = absurd (h refl)
row-some (suc n) x st a w k h i e f y z =
    let m : suc n - 1 ≡ n = omega arith in
    rw (row_text, ne_eqb a.row none i, ← e, ← f) (written-then y (rw m at z))
