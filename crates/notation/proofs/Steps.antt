-- Steps of the definitions. Assumes nothing.
use mathlib.Core.{Path.◌≡◌, Path.refl, Path.sym, Path.ap, Path.◌∙◌, Bool.Bool, Bool.true, Bool.false, List.List, List.[], List.◌∷◌, List.◌++◌}
use Prim.Native.Nat.{ℕ, zero, suc, ◌+◌, ◌<◌}
use native.Mathlib.{Omega.arith, Numerals.add-one}
use lib.{Dec.eqb, ListN.length, ListN.get_or, ListN.drop, ListN.drop_of_length-le, Seq.drop-cons}
use Rattle.std.proofs.lemmas.Bool.{eqb-false}
use borrow.Author.Tests.{ne_eqb}
use Rattle.model.specs.declared.Fields.{Fields}
use Rattle.text.specs.declared.Page.{Page}
use Rattle.text.specs.Emit.{emit}
use Rattle.text.specs.Written.{shown, Written}
use Rattle.text.proofs.Pages.{emit-append}
use Rattle.text.proofs.Writing.{written-none, written-then}
use Rattle.notation.specs.declared.{Aim.Aim, Style.Style}
use Rattle.notation.specs.Texts.{up_to_end, each, plain_text, aim_of, filled}

-- one more of the texts
pub each_next : (f : ℕ → List ℕ) (n : ℕ) {p q r : Page} → Written (each f n) p q → Written (f n) q r → Written (each f (n + 1)) p r
unfolding each
each_next f n e g = rw add-one (written-then e g)

pub each_none : (f : ℕ → List ℕ) (p : Page) → Written (each f 0) p p
unfolding each
each_none f p = written-none p

-- what is left of a text to be written
pub record Left (all : List ℕ) (p : Page) (rest : List ℕ) (q : Page) : Type 0 where
  pub is : emit rest (shown q) ≡ emit all (shown p)
  pub slice : q.text.ghost_name ≡ p.text.ghost_name

pub left-next : {all rest more : List ℕ} {p q r : Page} → Left all p (more ++ rest) q → Written more q r → Left all p rest r
left-next {all} {rest} {more} {p} {q} l e =
    record { is = ap (emit rest) e.emitted.is ∙ sym (emit-append more rest (shown q)) ∙ l.is; slice = e.slice ∙ l.slice }

pub left-none : {all rest : List ℕ} {p q : Page} → Left all p rest q → rest ≡ [] → Written all p q
unfolding emit
left-none {all} {rest} {p} {q} l e =
    record { emitted = record { is = ap (λ (t : List ℕ). emit t (shown q)) (sym e) ∙ l.is }; slice = l.slice }

-- a line has no end inside
pub line-endless : (s : List ℕ) (j : ℕ) → j < length (up_to_end s) → get_or (up_to_end s) j 0 ≡ 10 → ⊥
unfolding up_to_end
line-endless [] j h e = omega arith
line-endless (b ∷ s) j h e = go (eqb b 10) refl j h e (line-endless s)
  where
    go : (t : Bool) → eqb b 10 ≡ t → (j : ℕ) → j < length (up_to_end (b ∷ s)) → get_or (up_to_end (b ∷ s)) j 0 ≡ 10
        → ((j : ℕ) → j < length (up_to_end s) → get_or (up_to_end s) j 0 ≡ 10 → ⊥) → ⊥
    go true t j h e f = absurd (omega (arith, (rw (up_to_end, t) at h)))
    go false t zero h e f = eqb-false b 10 t (rw (up_to_end, t) at e)
    go false t (suc j) h e f = f j (omega (arith, (rw (up_to_end, t) at h))) (rw (up_to_end, t) at e)

module _ (row : Aim → List ℕ) (st : Style) (a : Aim) (w : Fields) where
  -- a line is filled in up to its end
  filled-line : (s : List ℕ) → filled row st a w (up_to_end s) ≡ filled row st a w s
  unfolding filled up_to_end
  filled-line [] = refl
  filled-line (b ∷ s) = go (eqb b 10) refl (filled-line s)
    where
      go : (t : Bool) → eqb b 10 ≡ t → filled row st a w (up_to_end s) ≡ filled row st a w s
          → filled row st a w (up_to_end (b ∷ s)) ≡ filled row st a w (b ∷ s)
      go true t f = rw (filled, up_to_end, t)
      go false t f = rw (filled, up_to_end, t) (rw (filled, t) (ap (λ (l : List ℕ). (plain_text st a w b ++ row (aim_of a w b)) ++ l) f))

  pub filled-starts : (s t : List ℕ) (p : Page) → t ≡ up_to_end s → Left (filled row st a w s) p (filled row st a w (drop 0 t)) p
  filled-starts s t p e = record { is = ap (λ (l : List ℕ). emit l (shown p)) (ap (filled row st a w) e ∙ filled-line s); slice = refl }

  -- a line's turn: its next byte, and the row t that it stands for
  pub filled-turn : (s : List ℕ) (j : ℕ) (t : Aim) {all : List ℕ} {p q m r : Page} → j < length s → (get_or s j 0 ≡ 10 → ⊥)
      → Left all p (filled row st a w (drop j s)) q → t ≡ aim_of a w (get_or s j 0)
      → Written (plain_text st a w (get_or s j 0)) q m → Written (row t) m r → Left all p (filled row st a w (drop (j + 1) s)) r
  unfolding filled
  filled-turn s j t h n l e x y =
      rw add-one (left-next (rw (drop-cons s j 0 h, filled, ne_eqb (get_or s j 0) 10 n, ← e) at l) (written-then x y))

  -- a line's end
  pub filled-ends : (s : List ℕ) {all : List ℕ} {p q : Page} → Left all p (filled row st a w (drop (length s) s)) q → Written all p q
  unfolding filled
  filled-ends s l = left-none l (ap (filled row st a w) (drop_of_length-le s {i = length s} (omega arith)))
