-- Laws of the order in which refusals are given: `after`, `unless`, `lowest`, `each`. Assumes nothing.
use Rattle.std.specs.Prelude.{Result, Ok, Err, IsErrAnd}
use Rattle.std.proofs.lemmas.Result.{err_from_is_err_and}
use mathlib.Core.{Path.◌≡◌, Path.refl, Path.sym, Path.◌∙◌, Logic.⊎_elim, Bool.Bool, Bool.true, Bool.false, Bool.cond, Bool.false≢true}
use Prim.Native.Nat.{ℕ, zero, suc, ◌+◌, ◌<◌, ◌≤◌}
use native.Mathlib.{Nat.eq-or-lt_of_le, Omega.arith}
use lib.Dec.{ltb}
use borrow.Author.Tests.{ltb-true, ltb-false, leb-true, le-leb, lt-leb}
use Rattle.model.specs.declared.{Refusal.Refusal}
use Rattle.model.specs.Answers.{after, unless, lowest, each, Verdict}

pub after-accepted : (v w : Verdict) → v ≡ Ok tt → after v w ≡ w
unfolding after
after-accepted v w e = rw e

pub after-refused : (v w : Verdict) (y : Refusal) → v ≡ Err y → after v w ≡ Err y
unfolding after
after-refused v w y e = rw e

pub after_both : (v w : Verdict) → after v w ≡ Ok tt → (v ≡ Ok tt) × (w ≡ Ok tt)
unfolding after
after_both (Ok _) w e = (refl, e)
after_both (Err y) w e = (e, cc)

pub after-assoc : (u v w : Verdict) → after (after u v) w ≡ after u (after v w)
unfolding after
after-assoc (Ok _) v w = refl
after-assoc (Err y) v w = refl

-- what a `?` leaves with is what it met
pub passed-on : {T : Type 0} (r : Result T Refusal) (y : Refusal) → IsErrAnd r (λ e. e ≡ y) → r ≡ Err y
passed-on r y h = let p = err_from_is_err_and r h in rw (← p.2) p.1

pub unless-true : (b : Bool) (y : Refusal) → unless b y ≡ Ok tt → b ≡ true
unless-true true y e = refl
unless-true false y e = cc

module _ (p : ℕ → Bool) where
  -- m is the lowest place below n at which the test fails, or n
  record Lowest (n m : ℕ) : Type 0 where
    le : m ≤ n
    below : (k : ℕ) → k < m → p k ≡ true
    least : m < n → p m ≡ false

  up : (n : ℕ) → ((k : ℕ) → k < n → p k ≡ true) → p n ≡ true → (k : ℕ) → k < n + 1 → p k ≡ true
  up n b t k h = ⊎_elim (λ (q : k ≡ n). rw q t) (b k) (eq-or-lt_of_le {n = k} {m = n} (omega arith))

  step : (n m : ℕ) (t u : Bool) → ltb m n ≡ t → p n ≡ u → Lowest n m → Lowest (suc n) (cond t m (cond u (suc n) n))
  step n m true u e f l = record { le = omega arith; below = l.below; least = λ h. l.least (ltb-true m n e) }
  step n m false true e f l = record {
    le = omega arith;
    below = λ k h. up n (λ j q. l.below j (omega (arith, ltb-false m n e))) f k (omega arith);
    least = λ h. absurd (omega arith);
  }
  step n m false false e f l = record { le = omega arith; below = λ k h. l.below k (omega (arith, ltb-false m n e)); least = λ h. f }

  lowest-meets : (n : ℕ) → Lowest n (lowest p n)
  unfolding lowest
  lowest-meets zero = record { le = omega arith; below = λ k h. absurd (omega arith); least = λ h. absurd (omega arith) }
  lowest-meets (suc n) = step n (lowest p n) (ltb (lowest p n) n) (p n) refl refl (lowest-meets n)

  pub lowest-le : (n : ℕ) → lowest p n ≤ n
  lowest-le n = (lowest-meets n).le

  pub lowest-below : (n k : ℕ) → k < lowest p n → p k ≡ true
  lowest-below n = (lowest-meets n).below

  pub lowest-least : (n : ℕ) → lowest p n < n → p (lowest p n) ≡ false
  lowest-least n = (lowest-meets n).least

  -- there is one such place
  pub lowest-is : (n m : ℕ) → m ≤ n → ((k : ℕ) → k < m → p k ≡ true) → (m < n → p m ≡ false) → lowest p n ≡ m
  lowest-is n m l b f =
      let q = lowest-le n in
      let low : ¬ (lowest p n < m) = λ h. false≢true (sym (lowest-least n (omega arith)) ∙ b (lowest p n) h) in
      let high : ¬ (m < lowest p n) = λ h. false≢true (sym (f (omega arith)) ∙ lowest-below n m h) in
      omega arith

  pub lowest-full : (n : ℕ) → ((k : ℕ) → k < n → p k ≡ true) → lowest p n ≡ n
  lowest-full n b = lowest-is n n (omega arith) b (λ h. absurd (omega arith))

  pub lowest-pass : (i : ℕ) → lowest p i ≡ i → p i ≡ true → lowest p (i + 1) ≡ i + 1
  lowest-pass i e t = lowest-full (i + 1) (up i (λ k h. lowest-below i k (omega arith)) t)

  pub lowest-fail : (i n : ℕ) → lowest p i ≡ i → i < n → p i ≡ false → lowest p n ≡ i
  lowest-fail i n e h t = lowest-is n i (omega arith) (λ k g. lowest-below i k (omega arith)) (λ g. t)

  module _ (n : ℕ) (f : ℕ → Refusal) where
    pub each-full : lowest p n ≡ n → each p n f ≡ Ok tt
    unfolding each
    each-full e = rw (e, le-leb n n (omega arith))

    pub each-accepts : ((k : ℕ) → k < n → p k ≡ true) → each p n f ≡ Ok tt
    each-accepts h = each-full (lowest-full n h)

    pub each_all : each p n f ≡ Ok tt → (k : ℕ) → k < n → p k ≡ true
    unfolding each
    each_all e k h = lowest-below n k (omega (arith, leb-true n (lowest p n) (unless-true _ _ e)))

    pub each-refuses : (i : ℕ) → lowest p i ≡ i → i < n → p i ≡ false → each p n f ≡ Err (f i)
    unfolding each
    each-refuses i e h t = rw (lowest-fail i n e h t, lt-leb n i h)
