-- The listing, by what check gives. Assumes nothing.
use Rattle.std.specs.Prelude.{Ok, Err}
use Rattle.model.specs.Answers.{Verdict}
use mathlib.Core.{Path.◌≡◌, Path.refl, Path.sym, Path.ap, Path.◌∙◌, List.List, List.[], List.◌++◌}
use Prim.Native.Nat.{ℕ}
use lib.{ListN.length, ListN.take, ListN.replicate}
use Rattle.model.specs.declared.{Image.Image, Refusal.Refusal}
use Rattle.model.specs.Image.{trailer_of, tables_of, variable_count, state_count}
use Rattle.model.specs.Calls.{image_verdict, check_verdict, Checked, checked_as, check}
use Rattle.model.specs.Exports.{heading, lines, listed, listing}
use Rattle.model.proofs.Order.{after_both}
use Rattle.model.proofs.Passed.{passed}
use Rattle.image.specs.Located.{Located}
use Rattle.image.proofs.Laid.{states-count, variables-count}
use Rattle.listing.specs.Gave.{Gave}

answer-is : (v : Verdict) (masks sets : List ℕ) → (checked_as v masks sets).answer ≡ v
answer-is (Ok _) masks sets = refl
answer-is (Err y) masks sets = refl

module _ {s : List ℕ} {v : Verdict} {m : List ℕ} (g : Gave s v m) where
  pub gave-verdict : v ≡ check_verdict s (length (replicate {A = ℕ} 64 0))
  unfolding check
  gave-verdict = ap (λ (c : Checked). c.answer) g.checked ∙ answer-is _ _ _

  pub gave-located : (i : Image) → v ≡ Ok tt → i ≡ trailer_of s → Located s i
  unfolding check_verdict
  gave-located i e t =
      let a : check_verdict s (length (replicate {A = ℕ} 64 0)) ≡ Ok tt = sym gave-verdict ∙ e in
      let p = passed s (after_both (image_verdict s) _ a).0 in
      record { trailer = t; long = p.long; marked = p.marked; starts = rw t p.starts }

  pub gave-refused : (y : Refusal) → v ≡ Err y → listing s ≡ listed (Err y) []
  unfolding listing
  gave-refused y e = rw (← g.checked, e)

  pub gave-accepted : (i : Image) → v ≡ Ok tt → i ≡ trailer_of s
      → listing s ≡ heading ++ lines (tables_of s).states (variable_count i) 0 (take (state_count i) m)
  unfolding listing
  gave-accepted i e t =
      let l = gave-located i e t in
      rw (← g.checked, e, states-count l, variables-count l)
