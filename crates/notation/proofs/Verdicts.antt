-- What check's verdict says of an image, for what is written of it. Assumes nothing.
use Rattle.std.specs.Prelude.{Err}
use mathlib.Core.{Path.◌≡◌, Path.refl, Path.sym, Path.ap, Path.◌∙◌, Bool.Bool, Bool.true, Bool.false, List.List}
use Prim.Native.Nat.{ℕ, ◌≤◌}
use native.Mathlib.{Omega.arith}
use lib.{Dec.leb, ListN.length}
use Rattle.model.specs.declared.{Refusal.Refusal, Refusal.TheVariants.ImageLength, Refusal.TheVariants.MarkOrLength, Refusal.TheVariants.Starts, Refusal.TheVariants.Entries, Refusal.TheVariants.SetsShort}
use Rattle.model.specs.Answers.{number, after, unless, Verdict}
use Rattle.model.specs.Image.{length_fits, marked, trailer_of, starts_fit, tables_of, entries_right}
use Rattle.model.specs.Calls.{rows_verdict, rules_verdict, image_verdict, flow_verdict, check_verdict}
use Rattle.model.proofs.Order.{after-assoc}
use Rattle.model.proofs.Rows.{both_true}
use borrow.Author.Tests.{leb-true}
use Rattle.listing.specs.Gave.{Gave}
use Rattle.listing.proofs.Listed.{gave-verdict}
use Rattle.notation.specs.Whole.{explained_by, explained}
use Rattle.notation.specs.Inside.{Shown}

pub gave-explained : {s : List ℕ} {v : Verdict} {m : List ℕ} → Gave s v m → explained s ≡ explained_by s v m
unfolding explained
gave-explained g = rw (← g.checked)

-- a stage passed by an image that is refused with another number
record Past (b : Bool) (v : Verdict) (y : Refusal) : Type 0 where
  passed : b ≡ true
  rest : v ≡ Err y

past : (b : Bool) (x y : Refusal) (v : Verdict) → after (unless b x) v ≡ Err y → (number x ≡ number y → ⊥) → Past b v y
unfolding after
past true x y v e h = record { passed = refl; rest = e }
past false x y v e h = let z : x ≡ y = cc in absurd (h (ap number z))

-- 1 to 3 stand before all others
module _ {s : List ℕ} {v : Verdict} {m : List ℕ} (g : Gave s v m) (y : Refusal) (e : v ≡ Err y) where
  abbrev later : Verdict
  later = after (unless (entries_right (tables_of s)) Entries) (after (rows_verdict (tables_of s)) (rules_verdict (tables_of s)))

  abbrev last : Verdict
  last = after (unless (leb (length (tables_of s).states) 64) SetsShort) (flow_verdict (tables_of s))

  all : after (unless (length_fits s) ImageLength) (after (unless (marked s) MarkOrLength) (after (unless (starts_fit (trailer_of s)) Starts) (after later last))) ≡ Err y
  unfolding check_verdict image_verdict
  all =
      ap (λ (w : Verdict). after (unless (length_fits s) ImageLength) (after (unless (marked s) MarkOrLength) w)) (sym (after-assoc (unless (starts_fit (trailer_of s)) Starts) later last))
      ∙ ap (after (unless (length_fits s) ImageLength)) (sym (after-assoc (unless (marked s) MarkOrLength) (after (unless (starts_fit (trailer_of s)) Starts) later) last))
      ∙ sym (after-assoc (unless (length_fits s) ImageLength) (after (unless (marked s) MarkOrLength) (after (unless (starts_fit (trailer_of s)) Starts) later)) last)
      ∙ sym (gave-verdict g)
      ∙ e

  one : 3 ≤ number y → Past (length_fits s) (after (unless (marked s) MarkOrLength) (after (unless (starts_fit (trailer_of s)) Starts) (after later last))) y
  one h = past (length_fits s) ImageLength y _ all (λ z. absurd (omega arith))

  two : 4 ≤ number y → Past (marked s) (after (unless (starts_fit (trailer_of s)) Starts) (after later last)) y
  two h = past (marked s) MarkOrLength y _ (one (omega arith)).rest (λ z. absurd (omega arith))

  three : 4 ≤ number y → Past (starts_fit (trailer_of s)) (after later last) y
  three h = past (starts_fit (trailer_of s)) Starts y _ (two h).rest (λ z. absurd (omega arith))

  long : length_fits s ≡ true → 16 ≤ length s
  unfolding length_fits
  long f = let l = leb-true 38 (length s) (both_true (leb 38 (length s)) _ f).0 in omega arith

  pub gave-shown : Shown s (number y)
  gave-shown = record {
    trailed = λ h. long (one h).passed;
    located = λ h. record { trailer = refl; long = (one (omega arith)).passed; marked = (two h).passed; starts = (three h).passed };
  }
