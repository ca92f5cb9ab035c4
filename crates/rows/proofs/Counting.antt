-- Counting the namings of rows (7). Assumes nothing.
use mathlib.Core.{Path.◌≡◌, Path.refl, Path.sym, Path.ap, Path.◌∙◌, Path.subst, Bool.Bool, Bool.true, Bool.false, Bool.cond, List.List, List.[], List.◌∷◌, List.◌++◌, List.append-nil, List.append_assoc}
use Prim.Native.Nat.{ℕ, suc, min, ◌+◌, ◌≤◌, ◌<◌}
use native.Mathlib.{Numerals.add-one, Omega.arith}
use Rattle.std.specs.Prelude.{Option}
use lib.{Dec.eqb, ListN.length, ListN.get_or, ListN.take, ListN.set, ListN.length-set, ListN.replicate, ListN.length-replicate, ListN.get_or-replicate, ListN.length-take, Seq.get_or-take, Seq.get_or-set_same, Seq.get_or-set_other, Seq.take-suc, Seq.take_all}
use borrow.Author.Tests.{eqb-true, eqb-false, eq-eqb, ne_eqb}
use Rattle.model.specs.declared.Fields.{Fields}
use Rattle.model.specs.Answers.{lowest, lowest_failing}
use Rattle.model.specs.Image.{Tables, none, fields_of}
use Rattle.model.specs.Rows.{Field, plain, one, one_or_none, list, list_or_none, next, shape_of, unless_none, named_by, named_in, named_by_rows, named, occurs, named_once}
use Rattle.model.proofs.Order.{lowest-le, lowest-below, lowest-least, lowest-is}
use Rattle.rows.specs.Lines.{digit}
use Rattle.rows.specs.Counts.{Counts, Counted, Scratch, once_in}
use Rattle.rows.proofs.Codes.{kind-small}

-- how often a row occurs
hit : ℕ → ℕ → ℕ
hit r n = cond (eqb r n) 1 0

hit-by : (b : Bool) (k : ℕ) → ◌≡◌ {A = ℕ} (elim b [ true ↦ suc k | false ↦ k ]) (cond b 1 0 + k)
hit-by true k = omega arith
hit-by false k = omega arith

module _ (r : ℕ) where
  occurs-cons : (n : ℕ) (ns : List ℕ) → occurs r (n ∷ ns) ≡ hit r n + occurs r ns
  unfolding occurs hit
  occurs-cons n ns = hit-by (eqb r n) (occurs r ns)

  occurs-append : (ms ns : List ℕ) → occurs r (ms ++ ns) ≡ occurs r ms + occurs r ns
  unfolding occurs
  occurs-append [] ns = omega arith
  occurs-append (m ∷ ms) ns = omega (arith, occurs-cons m (ms ++ ns), occurs-cons m ms, occurs-append ms ns)

  occurs-one : (ms : List ℕ) (n : ℕ) → occurs r (ms ++ n ∷ []) ≡ occurs r ms + hit r n
  unfolding occurs
  occurs-one ms n = omega (arith, occurs-append ms (n ∷ []), occurs-cons n [])

  hit_same : (n : ℕ) → r ≡ n → hit r n ≡ 1
  unfolding hit
  hit_same n e = rw (eq-eqb r n e)

  hit_other : (n : ℕ) → (r ≡ n → ⊥) → hit r n ≡ 0
  unfolding hit
  hit_other n h = rw (ne_eqb r n h)

-- counts that say the same of each row
module _ {l ms : List ℕ} (c : Counts l ms) (ns : List ℕ) where
  same-counts : ((r : ℕ) → r < length l → occurs r ns ≡ occurs r ms) → Counts l ns
  same-counts f = record { each = λ r h. c.each r h ∙ ap (min 2) (sym (f r h)) }

-- one naming: of a row, and of none
module _ (l : List ℕ) (n : ℕ) where
  set-each : (v : ℕ) (ms : List ℕ) → Counts l ms → n < length l → v ≡ min 2 (get_or l n 0 + 1)
      → (r : ℕ) → r < length l → get_or (set l n v) r 0 ≡ min 2 (occurs r (ms ++ n ∷ []))
  set-each v ms c h e r g = go (eqb r n) refl
    where
      go : (b : Bool) → eqb r n ≡ b → get_or (set l n v) r 0 ≡ min 2 (occurs r (ms ++ n ∷ []))
      go true q =
          let z = eqb-true r n q in
          rw (z, get_or-set_same l n v 0 h) (omega (arith, c.each n h, occurs-one n ms n, hit_same n n refl))
      go false q =
          let z = eqb-false r n q in
          rw (get_or-set_other l n r v 0 z) (omega (arith, c.each r g, occurs-one r ms n, hit_other r n z))

  pub counted-in : (v : ℕ) → n < length l → v ≡ min 2 (get_or l n 0 + 1) → Counted l (set l n v) (n ∷ [])
  counted-in v h e = record {
    exact = length-set l n v;
    also = λ ms c. record { each = λ r g. set-each v ms c h e r (rw length-set at g) };
  }

  pub counted-out : length l ≤ n → Counted l l (n ∷ [])
  counted-out h = record {
    exact = refl;
    also = λ ms c. same-counts c (ms ++ n ∷ []) (λ r g. omega (arith, occurs-one r ms n, hit_other r n (λ q. omega arith)));
  }

-- one naming after another
pub counted_none : (l : List ℕ) → Counted l l []
counted_none l = record { exact = refl; also = λ ms c. same-counts c (ms ++ []) (λ r h. ap (occurs r) (append-nil ms)) }

counted-then : {l m k ms ns : List ℕ} → Counted l m ms → Counted m k ns → Counted l k (ms ++ ns)
counted-then {ms = ms} {ns = ns} p q = record {
  exact = q.exact ∙ p.exact;
  also = λ js c. same-counts (q.also (js ++ ms) (p.also js c)) (js ++ (ms ++ ns)) (λ r h. ap (occurs r) (sym (append_assoc js ms ns)));
}

-- the naming by a field; none is no row
module _ {l m : List ℕ} (n : ℕ) (p : Counted l m (n ∷ [])) (few : length l ≤ none) where
  not_none : n ≡ none → Counted l m []
  not_none e = record {
    exact = p.exact;
    also = λ ms c. same-counts (p.also ms c) (ms ++ [])
        (λ r h. omega (arith, ap (occurs r) (append-nil ms), occurs-one r ms n, hit_other r n (λ q. omega (arith, p.exact))));
  }

  unless-none : (b : Bool) → eqb n none ≡ b → Counted l m (elim b [ true ↦ [] | false ↦ n ∷ [] ])
  unless-none true e = not_none (eqb-true n none e)
  unless-none false e = p

  pub counted-field : (f : Field) → (digit f ≡ 15 → ⊥) → Counted l m (named_by f n)
  unfolding named_by unless_none
  counted-field (plain q) h = absurd (h refl)
  counted-field (one k) h = p
  counted-field (one_or_none k) h = unless-none (eqb n none) refl
  counted-field (list k most) h = p
  counted-field (list_or_none k most) h = unless-none (eqb n none) refl
  counted-field next h = unless-none (eqb n none) refl

pub counted-plain : (l : List ℕ) (n : ℕ) (f : Field) → digit f ≡ 15 → Counted l l (named_by f n)
unfolding named_by
counted-plain l n (plain q) e = counted_none l
counted-plain l n (one k) e = absurd (omega (arith, kind-small k))
counted-plain l n (one_or_none k) e = absurd (omega (arith, kind-small k))
counted-plain l n (list k most) e = absurd (omega (arith, kind-small k))
counted-plain l n (list_or_none k most) e = absurd (omega (arith, kind-small k))
counted-plain l n next e = absurd (omega arith)

-- by a row
pub counted-row : {l m k j : List ℕ} (w : Fields)
    → Counted l m (named_by (shape_of w.code).a w.a)
    → Counted m k (named_by (shape_of w.code).b w.b)
    → Counted k j (named_by (shape_of w.code).c w.c)
    → Counted l j (named_in w)
unfolding named_in
counted-row w p q s = counted-then p (counted-then q s)

-- by rows and by states, one after another
rows_append : (vs ws : List Fields) → named_by_rows (vs ++ ws) ≡ named_by_rows vs ++ named_by_rows ws
unfolding named_by_rows
rows_append [] ws = refl
rows_append (v ∷ vs) ws = rw (rows_append vs ws, append_assoc)

module _ (x : Tables) {l m : List ℕ} (r : ℕ) where
  pub rows-turn : {k : List ℕ} {w : Fields} → Counted l m (named_by_rows (take r x.rows)) → r < length x.rows
      → w ≡ fields_of x r → Counted m k (named_in w) → Counted l k (named_by_rows (take (r + 1) x.rows))
  unfolding named_by_rows
  rows-turn {w = w} p h e q =
      rw (add-one, take-suc x.rows r (record { code = 0; a = 0; b = 0; c = 0 }) h, rows_append, ← e, append-nil) (counted-then p q)

  pub rows_end : Counted l m (named_by_rows (take r x.rows)) → length x.rows ≤ r → Counted l m (named_by_rows x.rows)
  rows_end p h = rw take_all at p

  pub states-turn : {k : List ℕ} (n : ℕ) → Counted l m (take r x.states) → r < length x.states
      → n ≡ get_or x.states r none → Counted m k (n ∷ []) → Counted l k (take (r + 1) x.states)
  states-turn n p h e q = rw (add-one, take-suc x.states r none h, ← e) (counted-then p q)

  pub states-end : Counted l m (take r x.states) → length x.states ≤ r → Counted l m x.states
  states-end p h = rw take_all at p

pub rows_start : (x : Tables) (l : List ℕ) → Counted l l (named_by_rows (take 0 x.rows))
unfolding named_by_rows
rows_start x l = counted_none l

once-same : (o : ℕ) → eqb (min 2 o) 1 ≡ eqb o 1
once-same o = go (eqb o 1) refl
  where
    go : (b : Bool) → eqb o 1 ≡ b → eqb (min 2 o) 1 ≡ eqb o 1
    go true e = eq-eqb (min 2 o) 1 (omega (arith, eqb-true o 1 e)) ∙ sym e
    go false e = ne_eqb (min 2 o) 1 (λ q. eqb-false o 1 e (omega arith)) ∙ sym e

-- the lowest row that isn't counted once isn't named once
lowest-same : (x : Tables) (l : List ℕ) (n : ℕ) → length l ≡ n → Counts l (named x) → lowest (once_in l) n ≡ lowest (named_once x) n
unfolding named_once
lowest-same x l n e c =
    let f : (k : ℕ) → k < n → once_in l k ≡ named_once x k = λ k h. ap (λ (o : ℕ). eqb o 1) (c.each k (omega arith)) ∙ once-same (occurs k (named x)) in
    lowest-is (once_in l) n (lowest (named_once x) n) (lowest-le (named_once x) n)
    (λ k h. f k (omega (arith, lowest-le (named_once x) n)) ∙ lowest-below (named_once x) n k h)
    (λ h. f _ h ∙ lowest-least (named_once x) n h)

failing-same : (p q : ℕ → Bool) (n : ℕ) → lowest p n ≡ lowest q n → lowest_failing p n ≡ lowest_failing q n
unfolding lowest_failing
failing-same p q n e = rw e

pub lowest-named : (x : Tables) {l m k j : List ℕ} {n t : ℕ} {r : Option ℕ} → Scratch l n → Counted l m (named_by_rows x.rows) → Counted m k x.states
    → x.condition ≡ t → Counted k j (t ∷ []) → r ≡ lowest_failing (once_in j) n → r ≡ lowest_failing (named_once x) n
unfolding named
lowest-named x {k = k} {j = j} {n = n} s p q e c l =
    let z = counted-then p (counted-then q (subst (λ (v : ℕ). Counted k j (v ∷ [])) (sym e) c)) in
    l ∙ failing-same (once_in j) (named_once x) n (lowest-same x j n (z.exact ∙ s.exact) (z.also [] s.blank))

-- counts that are all 0
pub scratch : (n m : ℕ) → n ≤ m → Scratch (take n (replicate m 0)) n
unfolding occurs
scratch n m h =
    let e : length (take {A = ℕ} n (replicate m 0)) ≡ n = simp (length-take, length-replicate) (omega arith) in
    record {
      exact = e;
      blank = record { each = λ r g. get_or-take n (replicate m 0) r 0 (omega arith) ∙ get_or-replicate m r 0 0 (omega arith) };
    }
