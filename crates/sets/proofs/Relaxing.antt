-- A walk of a state's action, in place: it keeps the sets above all that fit. Assumes nothing.
use mathlib.Core.{Path.◌≡◌, Path.refl, Path.sym, Path.ap, Path.ap₂, Path.◌∙◌, Bool.Bool, Bool.true, List.List, List.[], List.◌∷◌}
use Prim.Native.Nat.{ℕ, zero, suc, ◌+◌, ◌≤◌, ◌<◌}
use native.Mathlib.{Omega.arith, Decide.dec_lt, Decide.ℕ_discrete}
use lib.{ListN.length, ListN.get_or, ListN.get_or-eq_default}
use Rattle.model.specs.declared.Image.{Image}
use Rattle.model.specs.Masks.{digit, meet}
use Rattle.model.specs.Image.{Tables, none, tables_of, state_count}
use Rattle.model.specs.Decode.{action_at, act}
use Rattle.model.specs.Sets.{fine, jumps, targets}
use Rattle.model.specs.Largest.{top_of, Sub, Reached}
use Rattle.model.proofs.Masks.{sub_refl, sub_trans, meet_left, meet_right}
use Rattle.image.proofs.Laid.{states-count}
use Rattle.demands.proofs.Targets.{jumps-away}
use Rattle.demands.proofs.Greatest.{relax-above}
use Rattle.sets.specs.Flow.{flow, Moved, Walked, Ready}
use Rattle.masks.specs.declared.Masks.{Masks}
use Rattle.sets.specs.States.{set_at, Above, Given}
use Rattle.sets.proofs.Leading.{state-kind}
use Rattle.sets.proofs.Tests.{meet-sub}

any-default : (l : List ℕ) (i d e : ℕ) → i < length l → get_or l i d ≡ get_or l i e
any-default [] i d e h = absurd (omega arith)
any-default (n ∷ l) zero d e h = refl
any-default (n ∷ l) (suc i) d e h = any-default l i d e (omega arith)

-- a state's set, and what is past the last state
pub near : (x : Tables) (l : List ℕ) (q : ℕ) → q < length l → set_at x l q ≡ get_or l q 0
near x l q h = any-default l q (top_of x) 0 h

pub far : (x : Tables) (l : List ℕ) (q : ℕ) → length l ≤ q → set_at x l q ≡ top_of x
far x l q h = get_or-eq_default l (top_of x) {n = q} h

-- what holds of every state's set and of the top holds of every set
pub by_state : (P : ℕ → ℕ → Type 0) (x : Tables) (l : List ℕ) → ((q : ℕ) → q < length l → P q (set_at x l q)) → ((q : ℕ) → P q (top_of x)) → (q : ℕ) → P q (set_at x l q)
by_state P x l h k q = go (dec_lt q (length l))
  where
    go : Dec (q < length l) → P q (set_at x l q)
    go (yes b) = h q b
    go (no f) = rw (far x l q (omega arith)) (k q)

-- one state's jumps are met
pub record Relaxed (x : Tables) (t : ℕ) (was now' : List ℕ) : Type 0 where
  pub size : length now' ≡ length was
  pub each : (q : ℕ) → q < length was → set_at x now' q ≡ meet (set_at x was q) (jumps q (top_of x) (set_at x was t) (act x t))

module _ {x : Tables} {t : ℕ} {was now' : List ℕ} (r : Relaxed x t was now') where
  pub relaxed-below : (q : ℕ) → Sub (set_at x now' q) (set_at x was q)
  relaxed-below q = go (dec_lt q (length was))
    where
      go : Dec (q < length was) → Sub (set_at x now' q) (set_at x was q)
      go (yes b) = rw (r.each q b) (meet_left (set_at x was q) _)
      go (no f) = rw (far x now' q (omega (arith, r.size)), far x was q (omega arith)) (sub_refl (top_of x))

  pub relaxed-jump : (q : ℕ) → q < length was → Sub (set_at x now' q) (jumps q (top_of x) (set_at x was t) (act x t))
  relaxed-jump q b = rw (r.each q b) (meet_right (set_at x was q) _)

  pub relaxed-above : Above x was → Reached x t → Above x now'
  relaxed-above a p = record {
    size = r.size ∙ a.size;
    all = λ q. sub_trans _ _ _ (relaxed-below q) (a.all q);
    begins = sub_trans _ _ _ (relaxed-below 0) a.begins;
    above = λ o f. by_state (λ q m. Sub (o q) m) x now'
        (λ q b. rw (r.each q (omega (arith, r.size))) (relax-above x o f t q _ _ p (a.above o f q) (a.above o f t))) f.all;
  }

-- a set that isn't among those changed, or that no jump leads to
module _ {x : Tables} {t moved : ℕ} {was now' : List ℕ} (a : Above x was) (r : Relaxed x t was now') (m : Moved was now' moved) where
  not-moved-at : (q : ℕ) → digit moved q ≡ 0 → set_at x now' q ≡ set_at x was q
  not-moved-at q e = go (dec_lt q (length was))
    where
      go : Dec (q < length was) → set_at x now' q ≡ set_at x was q
      go (yes b) = near x now' q (omega (arith, r.size)) ∙ m.still q e ∙ sym (near x was q b)
      go (no f) = far x now' q (omega (arith, r.size)) ∙ sym (far x was q (omega arith))

  not-led-at : (q : ℕ) → digit (targets (act x t)) q ≡ 0 → set_at x now' q ≡ set_at x was q
  not-led-at q e = go (dec_lt q (length was))
    where
      go : Dec (q < length was) → set_at x now' q ≡ set_at x was q
      go (yes b) = r.each q b ∙ meet-sub _ _ (sub_trans _ (top_of x) _ (a.all q) (jumps-away q (top_of x) (act x t) (set_at x was t) e))
      go (no f) = far x now' q (omega (arith, r.size)) ∙ sym (far x was q (omega arith))

  pub same_at : (q : ℕ) → digit (targets (act x t)) q + digit moved q ≤ 1 → set_at x now' q ≡ set_at x was q
  same_at q h = go (ℕ_discrete (digit moved q) 0)
    where
      go : Dec (digit moved q ≡ 0) → set_at x now' q ≡ set_at x was q
      go (yes e) = not-moved-at q e
      go (no f) = not-led-at q (omega arith)

-- ---- a walk of a state's action
module _ {s : List ℕ} {i : Image} {ms : List Masks} {top : ℕ} (g : Given s i ms top) where
  module _ {l : List ℕ} (a : Above (tables_of s) l) where
    pub state-small : (t : ℕ) → t < length l → t < state_count i
    state-small t b = omega (arith, a.size, states-count g.rows.lending.rooted.formed.located)

    module _ (t row : ℕ) (b : t < length l) (e : row ≡ get_or (tables_of s).states t none) where
      pub state-ready : Ready s i ms row top l
      state-ready = record {
        lent = record { formed = g.rows.lending.rooted.formed; filled = g.rows.lending.filled; size = g.rows.size };
        sets = record { size = a.size; inside = λ q h. rw (g.all, ← near (tables_of s) l q h) (a.all q) };
        kind = rw e (state-kind g.rows.lending.rooted t (state-small t b));
      }

      pub relaxed : {now' : List ℕ} {mv mv' : ℕ} {ok ok' : Bool} {n : ℕ} → Walked (flow top (get_or l t 0) (action_at (tables_of s) row)) l now' mv mv' ok ok' n
          → Relaxed (tables_of s) t l now'
      relaxed {now'} w = record {
        size = w.size;
        each = λ q h.
            let x = tables_of s in
            near x now' q (omega (arith, w.size)) ∙ w.met q h
            ∙ ap₂ meet (sym (near x l q h)) (ap (λ n. jumps q n (get_or l t 0) (action_at x row)) g.all
            ∙ ap₂ (λ m n. jumps q (top_of x) m (action_at x n)) (sym (near x l t b)) e);
      }

      pub fine-as : {now' : List ℕ} {mv mv' : ℕ} {ok : Bool} {n : ℕ} → Walked (flow top (get_or l t 0) (action_at (tables_of s) row)) l now' mv mv' true ok n
          → ok ≡ fine (top_of (tables_of s)) (set_at (tables_of s) l t) (act (tables_of s) t)
      fine-as w =
          let x = tables_of s in
          w.fine ∙ ap (λ n. fine n (get_or l t 0) (action_at x row)) g.all
          ∙ ap₂ (λ m n. fine (top_of x) m (action_at x n)) (sym (near x l t b)) e
