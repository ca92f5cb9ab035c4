-- The largest sets, found in any order: what every iteration keeps, and that at rest it has the largest. Assumes nothing.
use mathlib.Core.Path.{◌≡◌}
use Prim.Native.Nat.{ℕ, ◌^◌, ◌<◌}
use native.Mathlib.{Omega.arith, Decide.dec_lt}
use lib.ListN.{length}
use Rattle.model.specs.Masks.{Has, meet}
use Rattle.model.specs.Image.{Tables}
use Rattle.model.specs.Decode.{act}
use Rattle.model.specs.Binding.{parameters_of}
use Rattle.model.specs.Sets.{jumps, targets}
use Rattle.model.specs.Largest.{top_of, Sub, Reached, first, next, Fits, Largest}
use Rattle.model.proofs.Masks.{digit-ext, digit-out, sub_trans, sub-meet}
use Rattle.demands.proofs.Monotone.{jumps-mono}
use Rattle.demands.proofs.Targets.{jumps-away}
use Rattle.demands.proofs.Settle.{has-lt}

module _ (x : Tables) where
  -- there is a state, and jumps lead to states
  pub record Leads : Type 0 where
    pub some : 0 < length x.states
    pub inner : (s : ℕ) → s < length x.states → targets (act x s) < 2 ^ length x.states

  -- what holds of state 0 and along jumps holds of every state reached
  pub reached-all : (P : ℕ → Type 0) → P 0 → ((s q : ℕ) → P s → Has (targets (act x s)) q → P q) → {s : ℕ} → Reached x s → P s
  reached-all P z on first = z
  reached-all P z on (next {s} {q} r h) = on s q (reached-all P z on r) h

  pub reached-in : Leads → (s : ℕ) → Reached x s → s < length x.states
  reached-in w s =
      let n = length x.states in reached-all (λ q. q < n) w.some (λ p q l h. has-lt n (targets (act x p)) q (w.inner p l) h)

  -- kept by every iteration: above all that fit
  pub record Over (sets : ℕ → ℕ) : Type 0 where
    pub all : (s : ℕ) → Sub (sets s) (top_of x)
    pub begins : Sub (sets 0) (parameters_of x.variables)
    pub above : (o : ℕ → ℕ) → Fits x o → (s : ℕ) → Sub (o s) (sets s)

  -- one relaxation, of m at q along s where n holds: what fits stays inside
  pub relax-above : (o : ℕ → ℕ) → Fits x o → (s q m n : ℕ) → Reached x s → Sub (o q) m → Sub (o s) n
      → Sub (o q) (meet m (jumps q (top_of x) n (act x s)))
  relax-above o f s q m n r h k =
      sub-meet (o q) m (jumps q (top_of x) n (act x s)) h
      (sub_trans (o q) (jumps q (top_of x) (o s) (act x s)) (jumps q (top_of x) n (act x s)) (f.along s q r)
      (jumps-mono (top_of x) q (act x s) (o s) n k))

  -- at rest: no jump between states lowers anything
  pub at_rest : Leads → (sets : ℕ → ℕ) → Over sets
      → ((s q : ℕ) → Reached x s → q < length x.states → Sub (sets q) (jumps q (top_of x) (sets s) (act x s))) → Largest x sets
  at_rest w sets h f =
      record { fits = record { all = h.all; begins = h.begins; along = λ s q r. go s q r (dec_lt q (length x.states)) }; above = h.above }
    where
      go : (s q : ℕ) → Reached x s → Dec (q < length x.states) → Sub (sets q) (jumps q (top_of x) (sets s) (act x s))
      go s q r (yes l) = f s q r l
      go s q r (no g) =
          let n = length x.states in
          sub_trans (sets q) (top_of x) (jumps q (top_of x) (sets s) (act x s)) (h.all q)
          (jumps-away q (top_of x) (act x s) (sets s) (digit-out n (targets (act x s)) q (w.inner s (reached-in w s r)) (omega arith)))

  -- there is one largest
  pub one-largest : (a b : ℕ → ℕ) → Largest x a → Largest x b → (s : ℕ) → a s ≡ b s
  one-largest a b h k s = digit-ext (a s) (b s) (λ v. omega (arith, k.above a h.fits s v, h.above b k.fits s v))
