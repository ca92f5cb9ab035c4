-- Statement 4: the sets are the largest that fit, check gives them, and the reached states are found. Assumes nothing.
use Rattle.std.specs.Prelude.{Ok, Err}
use Rattle.model.specs.Answers.{Verdict}
use mathlib.Core.{Path.◌≡◌, Path.refl, Path.ap, Path.◌∙◌, Bool.true, List.List, List.[], List.◌∷◌, List.◌++◌}
use Prim.Native.Nat.{ℕ, zero, suc, ◌-◌, ◌%◌, ◌^◌, ◌<◌}
use native.Mathlib.{Omega.arith, Nat.pow-suc}
use lib.{Dec.eqb, Dec.leb, Dec.ltb, ListN.length, ListN.get_or, ListN.drop, ListN.get_or-append}
use borrow.Author.Tests.{leb-true}
use Rattle.model.specs.Limits.{limits}
use Rattle.model.specs.Image.{Tables, Entry, trailer_of, state_count, table_fits, starts_fit, tables_of, sizes_fit, entries_fit, entries_right}
use Rattle.model.specs.Binding.{parameters_of}
use Rattle.model.specs.Decode.{act}
use Rattle.model.specs.Largest.{top_of, Sub, sets_of}
use Rattle.model.specs.Calls.{image_verdict, check_verdict, checked_as, check}
use Rattle.model.proofs.Rows.{both_true}
use Rattle.model.proofs.Bytes.{length-table}
use Rattle.model.proofs.Masks.{sub-full}
use Rattle.model.proofs.Passed.{Free, passed}
use Rattle.demands.specs.Common.{AreBytes}
use Rattle.demands.specs.Statements.{SetsAreLargest}
use Rattle.demands.proofs.Whole.{whole}
use Rattle.demands.proofs.GoodRows.{good-state}
use Rattle.demands.proofs.Targets.{targets-lt}
use Rattle.demands.proofs.Greatest.{Leads}
use Rattle.demands.proofs.Reaching.{reached-sound, reached-found}
use Rattle.demands.proofs.Solved.{sets-length, sets-largest}

-- ---- what an image has
some-state : (s : List ℕ) → starts_fit (trailer_of s) ≡ true → 0 < length (tables_of s).states
unfolding starts_fit table_fits tables_of
some-state s e =
    let i = trailer_of s in
    let a = both_true (eqb i.types 0) _ e in
    let b = both_true (table_fits i.types i.variables 2 limits.types_least limits.types) _ a.1 in
    let c = both_true (table_fits i.variables i.states 4 0 limits.variables) _ b.1 in
    let d = both_true (table_fits i.states i.rows 2 1 limits.states) _ c.1 in
    let f = both_true (leb i.states i.rows) _ d.0 in
    let g = both_true (eqb ((i.rows - i.states) % 2) 0) _ f.1 in
    let h = leb-true 1 (state_count i) (both_true (leb 1 (state_count i)) _ g.1).0 in
    rw length-table h

parameters-lt : (n : ℕ) (es : List Entry) → entries_fit n es ≡ true → parameters_of es < 2 ^ length es
unfolding entries_fit parameters_of
parameters-lt n [] e = omega arith
parameters-lt n (y ∷ es) e =
    let p = both_true (ltb y.type n) _ e in
    let q = both_true (leb y.parameter 1) _ p.1 in
    omega (arith, leb-true y.parameter 1 q.0, parameters-lt n es q.1, pow-suc 2 (length es))

pub parameters-in : (x : Tables) → Free x → Sub (parameters_of x.variables) (top_of x)
unfolding entries_right
parameters-in x f =
    sub-full (length x.variables) (parameters_of x.variables)
    (parameters-lt (length x.sizes) x.variables (both_true (sizes_fit x.sizes) _ f.entries).1)

pub leads-of : (s : List ℕ) → AreBytes s → image_verdict s ≡ Ok tt → Leads (tables_of s)
leads-of s b e = record {
  some = some-state s (passed s e).starts;
  inner = λ q l. targets-lt (tables_of s) (act (tables_of s) q) (good-state (tables_of s) (whole s b e) q l);
}

-- ---- what check leaves in the buffer
checked-sets : (v : Verdict) (masks sets : List ℕ) → (checked_as v masks sets).answer ≡ Ok tt
    → (checked_as v masks sets).sets ≡ masks ++ drop (length masks) sets
checked-sets (Ok _) masks sets e = refl
checked-sets (Err y) masks sets e = cc

any-default : (l : List ℕ) (i d e : ℕ) → i < length l → get_or l i d ≡ get_or l i e
any-default [] i d e h = absurd (omega arith)
any-default (n ∷ l) zero d e h = refl
any-default (n ∷ l) (suc i) d e h = any-default l i d e (omega arith)

given-at : (image sets : List ℕ) → (check image sets).answer ≡ Ok tt → (s d : ℕ) → s < length (sets_of (tables_of image))
    → get_or (check image sets).sets s 0 ≡ get_or (sets_of (tables_of image)) s d
unfolding check
given-at image sets e s d l =
    let m = sets_of (tables_of image) in
    ap (λ k. get_or k s 0) (checked-sets (check_verdict image (length sets)) m sets e) ∙ get_or-append m (drop (length m) sets) 0 s l ∙ any-default m s 0 d l

pub sets-are-largest : SetsAreLargest
sets-are-largest image b e =
    let x = tables_of image in
    let w = leads-of image b e in
    let i = parameters-in x (passed image e).free in
    record {
      largest = sets-largest x w i;
      reached = reached-sound x w;
      reaches = reached-found x w;
      given = λ sets a s l. given-at image sets a s (top_of x) (omega (arith, sets-length x w i));
    }
