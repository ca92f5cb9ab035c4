-- What `find` gives over 0..n for the numbers that fail a test: the lowest. Assumes nothing.
use mathlib.Core.{Path.◌≡◌, Path.refl, Path.sym, Path.ap, Path.◌∙◌, Bool.Bool, Bool.true, Bool.false, Bool.not, List.List}
use Prim.Native.Nat.{ℕ, ◌<◌, ◌≤◌}
use native.Mathlib.Omega.{arith}
use lib.Dec.{ltb}
use borrow.Author.Tests.{lt-ltb, le-ltb, le-leb, lt-leb, ltb-true, ltb-false}
use denote.{Ref.Bor, Param.Members.Mut}
use Rattle.std.specs.Prelude.{Option, Some, None, Ok, Err}
use Rattle.std.specs.declared.ops.Range.{Range}
use Rattle.std.specs.Bool.{⊤}
use Rattle.std.specs.Fn.{CalledAt}
use Rattle.std.specs.Iterator.{YieldsThen}
use Rattle.std.specs.List.{FoldsTo}
use Rattle.std.specs.Option.{MatchOption}
use Rattle.std.proofs.iter.Yields.{nat_range_steps}
use Rattle.std.proofs.lemmas.Bool.{not-false, not-true}
use Rattle.std.proofs.lemmas.Iterator.{first_from_Range}
use Rattle.model.specs.declared.{Refusal.Refusal}
use Rattle.model.specs.Answers.{lowest, each, lowest_failing}
use Rattle.model.proofs.Order.{lowest-is, lowest-full}

module _ (p : ℕ → Bool) (n : ℕ) where
  abbrev First : Option ℕ → Type 0
  First r = MatchOption r ((k : ℕ) → 0 ≤ k → k < n → p k ≡ true) (λ i. (0 ≤ i) × (i < n) × (p i ≡ false) × ((k : ℕ) → 0 ≤ k → k < i → p k ≡ true))

  first-lowest : (r : Option ℕ) → First r → r ≡ lowest_failing p n
  unfolding lowest_failing
  first-lowest None h = rw (lowest-full p n (λ k q. h k (omega arith) q), le-ltb n n (omega arith))
  first-lowest (Some i) h = rw (lowest-is p n i (omega (arith, h.1)) (λ k q. h.3 k (omega arith) q) (λ q. h.2), lt-ltb i n h.1)

-- the closure is f at every call, and answers whether a number fails
pub found : {F : Type 0} {g : Mut F (Bor ℕ × Unit {0}) Bool} (p : ℕ → Bool) {n m : ℕ} (u : Range ℕ) (f : F) (r : Option ℕ)
    → (xs : List ℕ) × (j : F) × YieldsThen nat_range_steps (record { start = 0; end = n }) xs r u × FoldsTo (λ c x d. CalledAt g c x false d) f xs j × MatchOption r ⊤ (λ x. (h : F) × CalledAt g j x true h)
    → ((x : ℕ) (b : Bool) (q : F) → CalledAt g f x b q → (q ≡ f) × (b ≡ not (p x)))
    → n ≡ m → r ≡ lowest_failing p m
found p {n} {m} u f r ran calls e =
    first-lowest p n r (first_from_Range (record { start = 0; end = n }) u f r (λ i. p i ≡ false) (λ i. p i ≡ true) ran (λ x q k. not-true (p x) (sym (calls x true q k).1))
    (λ x q k. let c = calls x false q k in (c.0, not-false (p x) (sym c.1))))
    ∙ ap (lowest_failing p) e

-- the verdict where one is found, and where none is
module _ (p : ℕ → Bool) (n : ℕ) (x : ℕ → Refusal) {r : Option ℕ} (found : r ≡ lowest_failing p n) where
  at-lowest : (t : Bool) → ltb (lowest p n) n ≡ t → {i : ℕ} → r ≡ Some i → Err (x i) ≡ each p n x
  unfolding lowest_failing each
  at-lowest true t {i} e =
      let q : i ≡ lowest p n = let f : ◌≡◌ {A = Option ℕ} (Some i) (Some (lowest p n)) = rw t at (sym e ∙ found) in cc in
      rw (← q, lt-leb n i (rw (← q) at (ltb-true (lowest p n) n t)))
  at-lowest false t {i} e = let f : ◌≡◌ {A = Option ℕ} (Some i) None = rw t at (sym e ∙ found) in cc

  at_none : (t : Bool) → ltb (lowest p n) n ≡ t → r ≡ None → Ok tt ≡ each p n x
  unfolding lowest_failing each
  at_none true t e = let f : ◌≡◌ {A = Option ℕ} None (Some (lowest p n)) = rw t at (sym e ∙ found) in cc
  at_none false t e = rw (le-leb n (lowest p n) (ltb-false (lowest p n) n t))

  pub found-refused : {i : ℕ} → r ≡ Some i → Err (x i) ≡ each p n x
  found-refused e = at-lowest (ltb (lowest p n) n) refl e

  pub none-accepted : r ≡ None → Ok tt ≡ each p n x
  none-accepted e = at_none (ltb (lowest p n) n) refl e
