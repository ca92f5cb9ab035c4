-- The mask of the parameters, from the last variable down. Assumes nothing.
use mathlib.Core.{Path.◌≡◌, Path.refl, Path.sym, Path.ap, Path.◌∙◌, Bool.true, List.List, List.[], List.◌∷◌}
use Prim.Native.Nat.{ℕ, zero, suc, ◌+◌, ◌-◌, ◌*◌, ◌^◌, ◌≤◌, ◌<◌}
use native.Mathlib.{Omega.arith, Nat.pow-suc, Numerals.add-one}
use lib.{Dec.leb, Dec.ltb, ListN.length, ListN.get_or, ListN.drop, Pow.pow_mono, Seq.drop-length, Seq.drop-cons}
use borrow.Author.Tests.{leb-true}
use Rattle.model.specs.declared.Image.{Image}
use Rattle.model.specs.Answers.{variable}
use Rattle.model.specs.Image.{Tables, Entry, entries_fit, entries_right, sizes_fit, tables_of, entry_of}
use Rattle.model.specs.Binding.{parameters_of}
use Rattle.model.specs.Largest.{top_of, Sub}
use Rattle.model.proofs.Rows.{both_true}
use Rattle.model.proofs.Masks.{sub-full}
use Rattle.image.specs.Located.{Formed}
use Rattle.image.proofs.Laid.{laid, variables-count}

abbrev pub absent : Entry
absent = record { type = 0; parameter = 0 }

pub none_left : (es : List Entry) → parameters_of (drop (length es) es) ≡ 0
unfolding parameters_of
none_left es = rw (drop-length es)

pub one_more : (es : List Entry) (v : ℕ) → v < length es
    → parameters_of (drop (v + 1) es) * 2 + (get_or es v absent).parameter ≡ parameters_of (drop v es)
unfolding parameters_of
one_more es v h = rw (add-one, drop-cons es v absent) (omega arith)

dropped-lt : (n : ℕ) (es : List Entry) (v : ℕ) → entries_fit n es ≡ true → parameters_of (drop v es) < 2 ^ length es
unfolding entries_fit parameters_of
dropped-lt n [] zero e = omega arith
dropped-lt n [] (suc v) e = omega arith
dropped-lt n (y ∷ es) zero e =
    let p = both_true (ltb y.type n) _ e in
    let q = both_true (leb y.parameter 1) _ p.1 in
    omega (arith, leb-true y.parameter 1 q.0, dropped-lt n es zero q.1, pow-suc 2 (length es))
dropped-lt n (y ∷ es) (suc v) e =
    let p = both_true (ltb y.type n) _ e in
    let q = both_true (leb y.parameter 1) _ p.1 in
    omega (arith, dropped-lt n es v q.1, pow-suc 2 (length es))

module _ (x : Tables) (e : entries_right x ≡ true) where
  pub parameters-lt : (v : ℕ) → parameters_of (drop v x.variables) < 2 ^ length x.variables
  unfolding entries_right
  parameters-lt v = dropped-lt (length x.sizes) x.variables v (both_true (sizes_fit x.sizes) _ e).1

  -- fewer than 64 variables: the mask fits
  pub parameters-fit : length x.variables ≤ 64 → (v : ℕ) → parameters_of (drop v x.variables) < 2 ^ 64
  parameters-fit h v = omega (arith, parameters-lt v, pow_mono {i = length x.variables} {j = 64} h)

  pub parameters-in : Sub (parameters_of x.variables) (top_of x)
  parameters-in = sub-full (length x.variables) (parameters_of x.variables) (parameters-lt 0)

-- the loop over the variables
module _ {s : List ℕ} {i : Image} (h : Formed s i) where
  pub from-none : (v : ℕ) → v ≡ length (tables_of s).variables → 0 ≡ parameters_of (drop v (tables_of s).variables)
  from-none v e = let es = (tables_of s).variables in sym (ap (λ n. parameters_of (drop n es)) e ∙ none_left es)

  module _ (v m : ℕ) (l : 0 < v) (b : v ≤ length (tables_of s).variables) (e : m ≡ parameters_of (drop v (tables_of s).variables)) where
    pub one_on : (p : ℕ) → p ≡ (entry_of (tables_of s) (variable (v - 1))).parameter → m * 2 + p ≡ parameters_of (drop (v - 1) (tables_of s).variables)
    one_on p f =
        let es = (tables_of s).variables in
        let n : v - 1 + 1 ≡ v = omega arith in
        rw (e, f) (ap (λ k. parameters_of (drop k es) * 2 + (get_or es (v - 1) absent).parameter) (sym n)
        ∙ one_more es (v - 1) (omega arith))

    pub one-fits : (p : ℕ) → p ≡ (entry_of (tables_of s) (variable (v - 1))).parameter → m * 2 + p < 2 ^ 64
    one-fits p f =
        omega (
          arith,
          one_on p f,
          parameters-fit (tables_of s) h.entries
              (omega (arith, (laid h.located).variables_most, variables-count h.located)) (v - 1),
        )

    pub double-fits : m * 2 < 2 ^ 64
    double-fits = omega (arith, one-fits (entry_of (tables_of s) (variable (v - 1))).parameter refl)
