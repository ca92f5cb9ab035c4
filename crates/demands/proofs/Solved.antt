-- The rounds of `sets_of` come to rest at the largest sets. Assumes nothing.
use mathlib.Core.{Path.◌≡◌, Path.refl, Path.sym, Path.ap, Path.◌∙◌, Path.subst, Bool.Bool, Bool.true, Bool.false, Bool.cond, Bool.◌&&◌, List.List, List.[], List.◌∷◌}
use Prim.Native.Nat.{ℕ, zero, suc, ◌+◌, ◌≤◌, ◌<◌}
use native.Mathlib.{Omega.arith, Decide.dec_lt}
use lib.{Dec.eqb, ListN.length, ListN.get_or, ListN.get_or-eq_default}
use borrow.Author.Tests.{eqb-true, eqb-false}
use Rattle.model.specs.Lists.{table}
use Rattle.model.specs.Masks.{Has, has, meet}
use Rattle.model.specs.Image.{Tables}
use Rattle.model.specs.Decode.{act}
use Rattle.model.specs.Binding.{parameters_of}
use Rattle.model.specs.Sets.{jumps}
use Rattle.model.specs.Largest.{top_of, Sub, Reached, Fits, Largest, reached_of, carried, sweep, alike, sum, begun, sets_of}
use Rattle.model.proofs.Rows.{both_true}
use Rattle.model.proofs.Masks.{has-digit, sub_refl, sub_trans, meet_left, meet_right}
use Rattle.model.proofs.Bytes.{length-table, get_or-table}
use Rattle.demands.proofs.Settle.{choice, sub-le, at_last, before, Settled, settles}
use Rattle.demands.proofs.Greatest.{Leads, reached-in, Over, relax-above, at_rest}
use Rattle.demands.proofs.Reaching.{reached-sound, reached-found}

-- ---- lists
pub alike_same : (ms ns : List ℕ) → alike ms ns ≡ true → ms ≡ ns
unfolding alike
alike_same [] [] e = refl
alike_same [] (n ∷ ns) e = cc
alike_same (m ∷ ms) [] e = cc
alike_same (m ∷ ms) (n ∷ ns) e =
    let p = both_true (eqb m n) (alike ms ns) e in
    rw (eqb-true m n p.0, alike_same ms ns p.1)

-- nowhere more: the sum is no more, and less unless all is the same
pub sum-le : (ms ns : List ℕ) (d : ℕ) → length ms ≡ length ns → ((i : ℕ) → get_or ms i d ≤ get_or ns i d) → sum ms ≤ sum ns
unfolding sum
sum-le [] [] d e h = omega arith
sum-le [] (n ∷ ns) d e h = omega arith
sum-le (m ∷ ms) [] d e h = absurd (omega arith)
sum-le (m ∷ ms) (n ∷ ns) d e h = omega (arith, h 0, sum-le ms ns d (omega arith) (λ i. h (suc i)))

pub sum_lt : (ms ns : List ℕ) (d : ℕ) → length ms ≡ length ns → ((i : ℕ) → get_or ms i d ≤ get_or ns i d) → alike ms ns ≡ false → sum ms < sum ns
unfolding sum alike
sum_lt [] [] d e h z = absurd (let i : ◌≡◌ {A = ℕ} 0 1 = cc in omega arith)
sum_lt [] (n ∷ ns) d e h z = absurd (omega arith)
sum_lt (m ∷ ms) [] d e h z = absurd (omega arith)
sum_lt (m ∷ ms) (n ∷ ns) d e h z =
    let l : length ms ≡ length ns = omega arith in
    go (eqb m n) refl (sum-le ms ns d l (λ i. h (suc i))) (sum_lt ms ns d l (λ i. h (suc i))) z
  where
    go : (b : Bool) → eqb m n ≡ b → sum ms ≤ sum ns → (alike ms ns ≡ false → sum ms < sum ns) → (b && alike ms ns) ≡ false → m + sum ms < n + sum ns
    go true p k f y = omega (arith, h 0, f y)
    go false p k f y = omega (arith, h 0, eqb-false m n p)

-- each element of a table from 0, and past its end
table-rule : (P : ℕ → ℕ → Type 0) (f : ℕ → ℕ) (n d : ℕ) → ((q : ℕ) → q < n → P q (f q)) → ((q : ℕ) → n ≤ q → P q d)
    → (q : ℕ) → P q (get_or (table f 0 n) q d)
table-rule P f n d h k q = go (dec_lt q n)
  where
    go : Dec (q < n) → P q (get_or (table f 0 n) q d)
    go (yes l) = let e : 0 + q ≡ q = omega arith in rw (get_or-table f 0 n q d l, e) (h q l)
    go (no g) = rw (get_or-eq_default (table f 0 n) d {n = q} (omega (arith, length-table f 0 n))) (k q (omega arith))

module _ (x : Tables) where
  abbrev set_at : List ℕ → ℕ → ℕ
  set_at sets s = get_or sets s (top_of x)

  module _ (r : ℕ) (sets : List ℕ) where
    carried-below : (q m k : ℕ) → Sub (carried x r sets q m k) m
    unfolding carried
    carried-below q m zero = sub_refl m
    carried-below q m (suc k) =
        let ih = carried-below q m k in
        choice (λ n. Sub n m) (has r k) _ _ (λ e. sub_trans _ _ _ (meet_left _ _) ih) (λ e. ih)

    carried-jump : (s q m k : ℕ) → s < k → Has r s → Sub (carried x r sets q m k) (jumps q (top_of x) (set_at sets s) (act x s))
    unfolding carried
    carried-jump s q m zero l h = absurd (omega arith)
    carried-jump s q m (suc k) l h =
        let ih = carried-jump s q m k in
        let c = carried x r sets q m k in
        let j : ℕ → ℕ = λ i. jumps q (top_of x) (set_at sets i) (act x i) in
        choice (λ n. Sub n (j s)) (has r k) _ _
        (λ e. at_last (λ i. Sub (meet c (j k)) (j i)) s k l (meet_right c (j k)) (λ b. sub_trans _ c _ (meet_left c (j k)) (ih b h)))
        (λ e. ih (before r s k l h e) h)

    carried-above : (o : ℕ → ℕ) → Fits x o → ((s : ℕ) → Has r s → Reached x s) → ((s : ℕ) → Sub (o s) (set_at sets s))
        → (q m k : ℕ) → Sub (o q) m → Sub (o q) (carried x r sets q m k)
    unfolding carried
    carried-above o f p h q m zero i = i
    carried-above o f p h q m (suc k) i =
        let ih = carried-above o f p h q m k i in
        choice (Sub (o q)) (has r k) _ _ (λ e. relax-above x o f k q _ _ (p k (has-digit r k e)) ih (h k)) (λ e. ih)

    -- ---- one sweep
    sweep-length : length (sweep x r sets) ≡ length x.states
    unfolding sweep
    sweep-length = length-table _ 0 (length x.states)

    sweep-at : (q : ℕ) → q < length x.states → set_at (sweep x r sets) q ≡ carried x r sets q (set_at sets q) (length x.states)
    unfolding sweep
    sweep-at q l = let e : 0 + q ≡ q = omega arith in get_or-table _ 0 (length x.states) q (top_of x) l ∙ rw e

    sweep-below : length sets ≡ length x.states → (q : ℕ) → Sub (set_at (sweep x r sets) q) (set_at sets q)
    unfolding sweep
    sweep-below z = table-rule (λ q m. Sub m (set_at sets q)) _ (length x.states) (top_of x) (λ q l. carried-below q (set_at sets q) (length x.states))
        (λ q l. rw (get_or-eq_default sets (top_of x) {n = q} (omega arith)) (sub_refl (top_of x)))

    sweep-above : (o : ℕ → ℕ) → Fits x o → ((s : ℕ) → Has r s → Reached x s) → ((s : ℕ) → Sub (o s) (set_at sets s))
        → (q : ℕ) → Sub (o q) (set_at (sweep x r sets) q)
    unfolding sweep
    sweep-above o f p h = table-rule (λ q m. Sub (o q) m) _ (length x.states) (top_of x)
        (λ q l. carried-above o f p h q (set_at sets q) (length x.states) (h q)) (λ q l. f.all q)

  -- ---- the rounds
  record Stage (sets : List ℕ) : Type 0 where
    size : length sets ≡ length x.states
    over : Over x (set_at sets)

  module _ (w : Leads x) (inside : Sub (parameters_of x.variables) (top_of x)) where
    pick : (P : ℕ → Type 0) (q : ℕ) (b : Bool) → eqb q 0 ≡ b → (q ≡ 0 → P (parameters_of x.variables)) → P (top_of x)
        → P (cond b (parameters_of x.variables) (top_of x))
    pick P q true e h k = h (eqb-true q 0 e)
    pick P q false e h k = k

    stage-first : Stage (begun x)
    unfolding begun
    stage-first = record {
      size = length-table _ 0 n;
      over = record {
        all = table-rule (λ q m. Sub m (top_of x)) _ n (top_of x) (λ q l. pick (λ m. Sub m (top_of x)) q _ refl (λ e. inside) (sub_refl (top_of x)))
            (λ q l. sub_refl (top_of x));
        begins = rw (get_or-table (λ q. cond (eqb q 0) (parameters_of x.variables) (top_of x)) 0 n 0 (top_of x) w.some) (sub_refl (parameters_of x.variables));
        above = λ o f. table-rule (λ q m. Sub (o q) m) _ n (top_of x) (λ q l. pick (Sub (o q)) q _ refl (λ e. rw e f.begins) (f.all q)) (λ q l. f.all q);
      };
    }
      where
        n : ℕ
        n = length x.states

    stage-on : (sets : List ℕ) → Stage sets → Stage (sweep x (reached_of x) sets)
    stage-on sets h =
        let b = sweep-below (reached_of x) sets h.size in
        record {
          size = sweep-length (reached_of x) sets;
          over = record {
            all = λ s. sub_trans _ _ _ (b s) (h.over.all s);
            begins = sub_trans _ _ _ (b 0) h.over.begins;
            above = λ o f. sweep-above (reached_of x) sets o f (reached-sound x w) (h.over.above o f);
          };
        }

    falls : (sets : List ℕ) → Stage sets → alike (sweep x (reached_of x) sets) sets ≡ false → sum (sweep x (reached_of x) sets) < sum sets
    falls sets h =
        sum_lt (sweep x (reached_of x) sets) sets (top_of x) (sweep-length (reached_of x) sets ∙ sym h.size)
        (λ i. sub-le _ _ (sweep-below (reached_of x) sets h.size i))

    settled : Settled alike (sweep x (reached_of x)) Stage (sets_of x)
    unfolding sets_of
    settled = settles alike (sweep x (reached_of x)) Stage sum stage-on falls (suc (sum (begun x))) (begun x) stage-first (omega arith)

    pub sets-length : length (sets_of x) ≡ length x.states
    sets-length = settled.kept.size

    pub sets-largest : Largest x (λ s. get_or (sets_of x) s (top_of x))
    sets-largest = at_rest x w (set_at (sets_of x)) settled.kept.over along
      where
        rests : sweep x (reached_of x) (sets_of x) ≡ sets_of x
        rests = alike_same _ _ settled.rests

        along : (s q : ℕ) → Reached x s → q < length x.states → Sub (set_at (sets_of x) q) (jumps q (top_of x) (set_at (sets_of x) s) (act x s))
        along s q r l =
            subst (λ m. Sub m (jumps q (top_of x) (set_at (sets_of x) s) (act x s)))
            (sym (sweep-at (reached_of x) (sets_of x) q l) ∙ ap (λ k. set_at k q) rests)
            (carried-jump (reached_of x) (sets_of x) s q _ _ (reached-in x w s r) (reached-found x w s r))
