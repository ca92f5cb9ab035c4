-- What `settle` leaves: at rest, where each round that changes something lowers a measure. And masks as numbers. Assumes nothing.
use mathlib.Core.{Path.◌≡◌, Path.refl, Logic.⊎_elim, Bool.Bool, Bool.true, Bool.false}
use Prim.Native.Nat.{ℕ, zero, suc, ◌^◌, ◌≤◌, ◌<◌}
use native.Mathlib.{Omega.arith, Decide.dec_lt, Nat.eq-or-lt_of_le}
use borrow.Author.Tests.{eqb-false}
use Rattle.model.specs.Masks.{digit, Has, has, meet}
use Rattle.model.specs.Largest.{Sub, settle}
use Rattle.model.proofs.Masks.{digit-meet, digit-out, digit-ext, meet-le}

-- both cases of a choice
pub choice : {A : Type 0} (P : A → Type 0) (b : Bool) (x y : A) → (b ≡ true → P x) → (b ≡ false → P y) → P (elim b [ true ↦ x | false ↦ y ])
choice P true x y h k = h refl
choice P false x y h k = k refl

-- a set inside another is no larger a number
pub sub-le : (a b : ℕ) → Sub a b → a ≤ b
sub-le a b h = omega (arith, meet-le b a, digit-ext (meet b a) a (λ v. omega (arith, digit-meet b a v, h v)))

-- a mask of n digits has only what is below n
pub has-lt : (n m v : ℕ) → m < 2 ^ n → Has m v → v < n
has-lt n m v l h = go (dec_lt v n)
  where
    go : Dec (v < n) → v < n
    go (yes p) = p
    go (no f) = absurd (omega (arith, digit-out n m v l (omega arith)))

-- below k + 1: at k, or before it
pub at_last : (P : ℕ → Type 0) (s k : ℕ) → s < suc k → P k → (s < k → P s) → P s
at_last P s k l h f = ⊎_elim (λ (e : s ≡ k). rw e h) f (eq-or-lt_of_le {n = s} {m = k} (omega arith))

pub before : (m s k : ℕ) → s < suc k → Has m s → has m k ≡ false → s < k
before m s k l h e = at_last (λ i. Has m i → i < k) s k l (λ i. absurd (eqb-false (digit m k) 1 e i)) (λ i j. i) h

module _ {A : Type 0} (same : A → A → Bool) (f : A → A) where
  pub record Settled (Keeps : A → Type 0) (b : A) : Type 0 where
    pub kept : Keeps b
    pub rests : same (f b) b ≡ true

  module _ (Keeps : A → Type 0) (measure : A → ℕ) (on : (a : A) → Keeps a → Keeps (f a))
      (falls : (a : A) → Keeps a → same (f a) a ≡ false → measure (f a) < measure a) where
    pub settles : (n : ℕ) (a : A) → Keeps a → measure a < n → Settled Keeps (settle same f n a)
    unfolding settle
    settles zero a h l = absurd (omega arith)
    settles (suc n) a h l =
        let ih = settles n (f a) (on a h) in
        choice (Settled Keeps) (same (f a) a) a (settle same f n (f a)) (λ e. record { kept = h; rests = e }) (λ e. ih (omega (arith, falls a h e)))
