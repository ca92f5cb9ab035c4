-- The mask `reached_of` has the reached states and no others. Assumes nothing.
use mathlib.Core.{Path.◌≡◌, Path.ap, Bool.true, Bool.false}
use Prim.Native.Nat.{ℕ, zero, suc, ◌-◌, ◌^◌, ◌≤◌, ◌<◌}
use native.Mathlib.{Omega.arith, Decide.ℕ_discrete}
use lib.{Dec.eqb, ListN.length}
use borrow.Author.Tests.{eqb-true, eqb-false}
use Rattle.model.specs.Masks.{digit, Has, has, bit, full, join}
use Rattle.model.specs.Image.{Tables}
use Rattle.model.specs.Decode.{act}
use Rattle.model.specs.Sets.{targets}
use Rattle.model.specs.Largest.{Sub, Reached, first, next, spread, reached_of}
use Rattle.model.proofs.Masks.{digit-le, digit-join, digit-bit-here, digit-bit-there, has-digit, join-lt, bit-lt, sub_refl}
use Rattle.demands.proofs.Settle.{choice, sub-le, has-lt, at_last, before, Settled, settles}
use Rattle.demands.proofs.Greatest.{Leads, reached-all}

module _ (x : Tables) where
  -- ---- one round
  spread-grows : (k m : ℕ) → Sub m (spread x k m)
  unfolding spread
  spread-grows zero m = sub_refl m
  spread-grows (suc k) m =
      let ih = spread-grows k m in
      choice (Sub m) (has m k) _ _ (λ e v. omega (arith, digit-join (targets (act x k)) (spread x k m) v, ih v)) (λ e. ih)

  spread-next : (s k m : ℕ) → s < k → Has m s → Sub (targets (act x s)) (spread x k m)
  unfolding spread
  spread-next s zero m l h = absurd (omega arith)
  spread-next s (suc k) m l h =
      let ih = spread-next s k m in
      let t = targets (act x k) in
      let j = join t (spread x k m) in
      choice (Sub (targets (act x s))) (has m k) _ _
      (λ e. at_last (λ i. Sub (targets (act x i)) j) s k l (λ v. omega (arith, digit-join t (spread x k m) v))
      (λ b v. omega (arith, digit-join t (spread x k m) v, ih b h v)))
      (λ e. ih (before m s k l h e) h)

  spread-reached : (k m : ℕ) → ((s : ℕ) → Has m s → Reached x s) → (q : ℕ) → Has (spread x k m) q → Reached x q
  unfolding spread
  spread-reached zero m r q = r q
  spread-reached (suc k) m r q =
      let ih = spread-reached k m r q in
      choice (λ n. Has n q → Reached x q) (has m k) _ _ (λ e h. go ih e h (ℕ_discrete (digit (targets (act x k)) q) 1)) (λ e. ih)
    where
      go : (Has (spread x k m) q → Reached x q) → has m k ≡ true → Has (join (targets (act x k)) (spread x k m)) q
          → Dec (Has (targets (act x k)) q) → Reached x q
      go ih e h (yes t) = next (r k (has-digit m k e)) t
      go ih e h (no f) = ih (omega (arith, digit-join (targets (act x k)) (spread x k m) q, digit-le (targets (act x k)) q))

  module _ (w : Leads x) where
    spread-lt : (k m : ℕ) → k ≤ length x.states → m < 2 ^ length x.states → spread x k m < 2 ^ length x.states
    unfolding spread
    spread-lt zero m l h = h
    spread-lt (suc k) m l h =
        let ih = spread-lt k m (omega arith) h in
        choice (λ n. n < 2 ^ length x.states) (has m k) _ _ (λ e. join-lt _ _ _ (w.inner k (omega arith)) ih) (λ e. ih)

    -- ---- the rounds
    record Seen (m : ℕ) : Type 0 where
      small : m < 2 ^ length x.states
      start : Has m 0
      reach : (s : ℕ) → Has m s → Reached x s

    seen_first : Seen (bit 0)
    seen_first = record { small = bit-lt _ 0 w.some; start = digit-bit-here 0; reach = λ s h. go s h (ℕ_discrete s 0) }
      where
        go : (s : ℕ) → Has (bit 0) s → Dec (s ≡ 0) → Reached x s
        go s h (yes p) = rw p first
        go s h (no f) = absurd (omega (arith, digit-bit-there 0 s f))

    seen-on : (m : ℕ) → Seen m → Seen (spread x (length x.states) m)
    seen-on m h = record {
      small = spread-lt (length x.states) m (omega arith) h.small;
      start = omega (arith, h.start, spread-grows (length x.states) m 0, digit-le (spread x (length x.states) m) 0);
      reach = spread-reached (length x.states) m h.reach;
    }

    rises : (m : ℕ) → Seen m → eqb (spread x (length x.states) m) m ≡ false
        → full (length x.states) - spread x (length x.states) m < full (length x.states) - m
    unfolding full
    rises m h e =
        let n = length x.states in
        omega (arith, sub-le m (spread x n m) (spread-grows n m), eqb-false (spread x n m) m e, spread-lt n m (omega arith) h.small)

    settled : Settled eqb (spread x (length x.states)) Seen (reached_of x)
    unfolding reached_of full bit
    settled =
        let n = length x.states in
        settles eqb (spread x n) Seen (λ m. full n - m) seen-on rises (full n) (bit 0) seen_first (omega (arith, bit-lt n 0 w.some))

    pub reached-sound : (s : ℕ) → Has (reached_of x) s → Reached x s
    reached-sound = settled.kept.reach

    pub reached-found : (s : ℕ) → Reached x s → Has (reached_of x) s
    reached-found s = reached-all x (Has (reached_of x)) settled.kept.start on
      where
        r : ℕ
        r = reached_of x

        on : (s q : ℕ) → Has r s → Has (targets (act x s)) q → Has r q
        on s q h t =
            let n = length x.states in
            let e = eqb-true (spread x n r) r settled.rests in
            omega (arith, spread-next s n r (has-lt n r s settled.kept.small h) h q, ap (λ m. digit m q) e, digit-le r q)
