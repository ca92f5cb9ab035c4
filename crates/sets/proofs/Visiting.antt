-- States walked until none is due: what is left to do, what is kept. Assumes nothing.
use mathlib.Core.{Path.◌≡◌, Path.sym, Path.ap, Path.◌∙◌, Bool.Bool, Bool.not, List.List}
use Prim.Native.Nat.{ℕ, ◌+◌, ◌-◌, ◌*◌, ◌^◌, ◌≤◌, ◌<◌}
use native.Mathlib.{Omega.arith, Decide.ℕ_discrete}
use lib.{Dec.eqb, ListN.length}
use Rattle.model.specs.Masks.{digit, Has, has, bit}
use Rattle.model.specs.Image.{Tables}
use Rattle.model.specs.Decode.{act}
use Rattle.model.specs.Sets.{fine, jumps, targets}
use Rattle.model.specs.Largest.{top_of, Sub, Reached, first, next, sum}
use Rattle.model.proofs.Masks.{digit-le, digit-zero, digit-bit-here, digit-bit-there, sub_trans}
use Rattle.demands.proofs.Settle.{sub-le}
use Rattle.sets.specs.Flow.{Moved}
use Rattle.sets.specs.States.{set_at, Marked, Above}
use Rattle.sets.proofs.Rest.{moved-falls}
use Rattle.sets.proofs.Relaxing.{Relaxed, relaxed-below, relaxed-jump, relaxed-above, same_at}
use Rattle.sets.proofs.Turning.{Turn}

-- ---- what is left to do
-- a number that falls with the sets, with the states not walked, with those due
unfoldable pub remaining : List ℕ → ℕ → ℕ → ℕ
remaining l due walked = (sum l * 2 ^ 64 + (2 ^ 64 - walked)) * 2 ^ 64 + due

first-falls : {a a' b' : ℕ} (b : ℕ) → a' < a → b' < 2 ^ 64 → a' * 2 ^ 64 + b' < a * 2 ^ 64 + b
first-falls b h k = omega arith

last-falls : {a a' b b' : ℕ} → a' ≤ a → b' < b → a' * 2 ^ 64 + b' < a * 2 ^ 64 + b
last-falls h k = omega arith

-- a digit tells them apart
differ : (a b v : ℕ) → a ≤ b → digit a v ≡ 0 → digit b v ≡ 1 → a < b
differ a b v h e f = go (ℕ_discrete a b)
  where
    go : Dec (a ≡ b) → a < b
    go (yes z) = absurd (omega (arith, ap (λ n. digit n v) z))
    go (no g) = omega arith

-- ---- what is kept
-- of a state that is walked and not due: its jumps are met, and it is judged
pub record Done (x : Tables) (l : List ℕ) (wrong t : ℕ) : Type 0 where
  pub along : (q : ℕ) → q < length x.states → Sub (set_at x l q) (jumps q (top_of x) (set_at x l t) (act x t))
  pub judged : has wrong t ≡ not (fine (top_of x) (set_at x l t) (act x t))

-- the sets, the states due, those walked, those that err
pub record Visiting (x : Tables) (l : List ℕ) (due walked wrong : ℕ) : Type 0 where
  pub stage : Above x l
  pub due_fits : due < 2 ^ 64
  pub walked_fits : walked < 2 ^ 64
  pub due_in : (t : ℕ) → Has due t → Reached x t
  pub walked_in : (t : ℕ) → Has walked t → Reached x t
  pub wrong_in : Sub wrong walked
  pub start : 1 ≤ digit due 0 + digit walked 0
  pub led : (t q : ℕ) → Has walked t → digit (targets (act x t)) q ≤ digit due q + digit walked q
  pub done : (t : ℕ) → Has walked t → digit due t ≡ 0 → Done x l wrong t

pub visiting-first : {x : Tables} {l : List ℕ} → Above x l → Visiting x l 1 0 0
unfolding bit
visiting-first {x} a = record {
  stage = a;
  due_fits = omega arith;
  walked_fits = omega arith;
  due_in = λ t h. go t h (ℕ_discrete t 0);
  walked_in = λ t h. absurd (omega (arith, digit-zero t));
  wrong_in = λ v. omega arith;
  start = omega (arith, digit-bit-here 0);
  led = λ t q h. absurd (omega (arith, digit-zero t));
  done = λ t h. absurd (omega (arith, digit-zero t));
}
  where
    go : (t : ℕ) → Has 1 t → Dec (t ≡ 0) → Reached x t
    go t h (yes e) = rw e first
    go t h (no f) = absurd (omega (arith, digit-bit-there 0 t f))

module _ {x : Tables} {was now' : List ℕ} {s led moved due walked wrong due' walked' : ℕ} (d : Visiting x was due walked wrong)
    (t : Turn s led moved due walked due' walked') (e : led ≡ targets (act x s)) (m : Moved was now' moved) where
  -- a walk lowers the sum of the sets, or walks one state more, or leaves less due
  pub visiting-less : remaining now' due' walked' < remaining was due walked
  unfolding remaining
  visiting-less = go (ℕ_discrete moved 0) (ℕ_discrete (digit walked s) 1)
    where
      up : walked ≤ walked'
      up = sub-le walked walked' t.grown

      at-s : moved ≡ 0 → digit due' s ≡ 0
      at-s z = omega (arith, t.only s, t.here, digit-le led s, digit-bit-here s, digit-le due s, ap (λ n. digit n s) z, digit-zero s)

      down : moved ≡ 0 → Has walked s → Sub due' due
      down z p q = omega (arith, digit-le due' q, t.only q, d.led s q p, ap (λ n. digit n q) e, t.grown q, ap (λ n. digit n q) z, digit-zero q)

      less : moved ≡ 0 → Has walked s → due' < due
      less z p = differ due' due s (sub-le due' due (down z p)) (at-s z) t.taken

      other : (Has walked s → ⊥) → walked < walked'
      other g = differ walked walked' s up (omega (arith, digit-le walked s)) t.here

      go : Dec (moved ≡ 0) → Dec (Has walked s) → remaining now' due' walked' < remaining was due walked
      go (no g) p = first-falls due (omega (arith, moved-falls m, up, t.walked_fits)) t.due_fits
      go (yes z) (no g) = first-falls due (omega (arith, moved-falls m, other g, t.walked_fits)) t.due_fits
      go (yes z) (yes p) = last-falls (omega (arith, moved-falls m, up)) (less z p)

  module _ {wrong' : ℕ} {f : Bool} (r : Relaxed x s was now') (j : Marked s f wrong wrong') (g : f ≡ fine (top_of x) (set_at x was s) (act x s)) where
    reached-here : Reached x s
    reached-here = d.due_in s t.taken

    -- a set unchanged
    same : (q : ℕ) → digit due' q ≡ 0 → set_at x now' q ≡ set_at x was q
    same q z = same_at d.stage r m q (omega (arith, t.changed q, ap (λ n. digit n q) e))

    done-here : digit due' s ≡ 0 → Done x now' wrong' s
    done-here z = record {
      along = λ q b. rw (same s z) (relaxed-jump r q (omega (arith, d.stage.size)));
      judged = rw (same s z) (j.here ∙ ap not g);
    }

    done-there : (q : ℕ) → (q ≡ s → ⊥) → Has walked q → digit due' q ≡ 0 → Done x now' wrong' q
    done-there q n p z =
        let o = d.done q p (omega (arith, t.kept q, digit-bit-there s q n)) in
        record {
          along = λ v b. rw (same q z) (sub_trans _ _ _ (relaxed-below r v) (o.along v b));
          judged = rw (same q z) (ap (λ k. eqb k 1) (j.there q n) ∙ o.judged);
        }

    pub visiting-on : Visiting x now' due' walked' wrong'
    visiting-on = record {
      stage = relaxed-above r d.stage reached-here;
      due_fits = t.due_fits;
      walked_fits = t.walked_fits;
      due_in = λ q h. due_in_lem q h (ℕ_discrete (digit due q) 1);
      walked_in = λ q h. walked-in q h (ℕ_discrete q s);
      wrong_in = λ q. wrong-in q (ℕ_discrete q s);
      start = omega (arith, d.start, t.kept 0, t.grown 0, t.marks 0);
      led = λ p q h. led_on p q h (ℕ_discrete p s);
      done = λ q h z. done_on q h z (ℕ_discrete q s);
    }
      where
        walked-there : (q : ℕ) → (q ≡ s → ⊥) → Has walked' q → Has walked q
        walked-there q n h = omega (arith, t.more q, digit-bit-there s q n, digit-le walked q)

        due_in_lem : (q : ℕ) → Has due' q → Dec (Has due q) → Reached x q
        due_in_lem q h (yes p) = d.due_in q p
        due_in_lem q h (no n) = next {q = q} reached-here (omega (arith, t.only q, ap (λ k. digit k q) e, digit-le due q, digit-le led q))

        walked-in : (q : ℕ) → Has walked' q → Dec (q ≡ s) → Reached x q
        walked-in q h (yes z) = rw z reached-here
        walked-in q h (no n) = d.walked_in q (walked-there q n h)

        wrong-in : (q : ℕ) → Dec (q ≡ s) → digit wrong' q ≤ digit walked' q
        wrong-in q (yes z) = rw z (omega (arith, t.here, digit-le wrong' s))
        wrong-in q (no n) = omega (arith, d.wrong_in q, j.there q n, t.grown q)

        led_on : (p q : ℕ) → Has walked' p → Dec (p ≡ s) → digit (targets (act x p)) q ≤ digit due' q + digit walked' q
        led_on p q h (yes z) = rw z (omega (arith, t.fresh q, ap (λ k. digit k q) e))
        led_on p q h (no n) = omega (arith, d.led p q (walked-there p n h), t.kept q, t.grown q, t.marks q, digit-le (targets (act x p)) q)

        done_on : (q : ℕ) → Has walked' q → digit due' q ≡ 0 → Dec (q ≡ s) → Done x now' wrong' q
        done_on q h z (yes k) = rw k (done-here (ap (digit due') (sym k) ∙ z))
        done_on q h z (no n) = done-there q n (walked-there q n h) z
