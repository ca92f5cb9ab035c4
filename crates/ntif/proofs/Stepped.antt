-- step on words that are read from bytes, no more of them than can matter. Assumes nothing.
use Rattle.std.specs.Prelude.{Ok, Err}
use mathlib.Core.{Path.◌≡◌, Path.refl, Path.sym, Path.ap, Path.◌∙◌, Bool.Bool, Bool.true, Bool.false, List.List, List.[], List.◌∷◌, List.◌++◌, List.map, List.append-nil}
use Prim.Native.Nat.{ℕ, zero, suc, ◌*◌, ◌/◌, ◌^◌, ◌≤◌, ◌<◌, min}
use native.Mathlib.Omega.{arith}
use lib.{Dec.eqb, Dec.leb, Dec.ltb, IntN.ℤ, ListN.length, ListN.get_or, ListN.take, ListN.drop, ListN.length-map, ListN.drop_of_length-le, Seq.take_all}
use borrow.Author.Tests.{eqb-true, ltb-true, ltb-false, lt-ltb, le-ltb, leb-true, leb-false, le-leb, lt-leb}
use Rattle.model.specs.declared.{Move.Move, Refusal.Refusal, Refusal.TheVariants.NoState, Refusal.TheVariants.StoreLength}
use Rattle.model.specs.Answers.{state, after, unless, Stepped}
use Rattle.model.specs.Bytes.{number_at, unsigned, words_of, signed_words, written}
use Rattle.model.specs.Image.{tables_of}
use Rattle.model.specs.Run.{label_words, Res}
use Rattle.model.specs.Calls.{image_verdict, step_verdict, attempt, StepDone, step}
use Rattle.model.specs.Exports.{pack_refusal, pack_stepped, written_back, ExportedStep, step_bytes}
use Rattle.model.proofs.Order.{after_both, unless-true}
use Rattle.model.proofs.Bytes.{number_at-in}
use Rattle.words.proofs.Words.{length-signed_words}
use Rattle.image.proofs.Laid.{laid, variables-count, states-count}
use Rattle.demands.specs.Common.{AreBytes}
use Rattle.stepping.specs.Stepping.{slots_verdict, room_verdict, run_verdict}
use Rattle.stepping.proofs.Moved.{not-moved, moves, moved-words, same_answer}
use Rattle.image.proofs.Accepted.{accepted-located}
use Rattle.ntif.proofs.Kept.{written-kept}
use Rattle.ntif.proofs.Starting.{eqb-capped, after_test, after_same, back-table}

-- numbers that are capped above every number they are held against
ltb-capped : (q n : ℕ) → n ≤ 64 → ltb (min q 65535) n ≡ ltb q n
ltb-capped q n h = go (ltb q n) refl
  where
    go : (t : Bool) → ltb q n ≡ t → ltb (min q 65535) n ≡ t
    go true e = lt-ltb (min q 65535) n (let l = ltb-true q n e in omega arith)
    go false e = le-ltb (min q 65535) n (let l = ltb-false q n e in omega arith)

leb-capped : (a b : ℕ) → a ≡ min b 10 → leb 10 a ≡ leb 10 b
leb-capped a b e = go (leb 10 b) refl
  where
    go : (t : Bool) → leb 10 b ≡ t → leb 10 a ≡ t
    go true q = le-leb 10 a (let l = leb-true 10 b q in omega arith)
    go false q = lt-leb 10 a (let l = leb-false 10 b q in omega arith)

-- the words that are read
pub record Read (m slots label ten : List ℤ) : Type 0 where
  pub first : slots ≡ take (length slots) m
  pub room : length slots ≡ min (length m) 65
  pub say : length ten ≡ min (length label) 10

module _ (s : List ℕ) (q : ℕ) (budget : ℕ) {m slots label ten : List ℤ} (r : Read m slots label ten) where
  whole-store : (n : ℕ) → n ≤ 64 → length m ≡ n → slots ≡ m
  whole-store n h e = r.first ∙ take_all (length slots) m (omega (arith, r.room))

  module _ (e : image_verdict s ≡ Ok tt) where
    few-variables : length (tables_of s).variables ≤ 64
    few-variables = let l = accepted-located refl e in omega (arith, (laid l).variables_most, variables-count l)

    few-states : length (tables_of s).states ≤ 64
    few-states = let l = accepted-located refl e in omega (arith, (laid l).states_most, states-count l)

    run-capped : run_verdict (tables_of s) (state (min q 65535)) slots budget ten ≡ run_verdict (tables_of s) (state q) m budget label
    run-capped =
        let x = tables_of s in
        rw (ltb-capped q (length x.states) few-states, eqb-capped (length slots) (length m) (length x.variables) r.room few-variables, leb-capped (length ten) (length label) r.say)
        (ap (after (unless (ltb q (length x.states)) NoState))
        (after_test (eqb (length m) (length x.variables)) StoreLength _ _
        (λ t. ap (λ (l : List ℤ). after (slots_verdict x l) (room_verdict budget label)) (whole-store (length x.variables) few-variables (eqb-true (length m) _ t)))))

  pub capped : step_verdict s (state (min q 65535)) slots budget ten ≡ step_verdict s (state q) m budget label
  unfolding step_verdict
  capped = after_same (image_verdict s) _ _ run-capped

  -- where nothing is refused every word was read
  pub read_whole : step_verdict s (state q) m budget label ≡ Ok tt → (slots ≡ m) × (min q 65535 ≡ q) × (10 ≤ length label)
  unfolding step_verdict
  read_whole e =
      let x = tables_of s in
      let a = after_both (image_verdict s) (run_verdict x (state q) m budget label) e in
      let b = after_both (unless (ltb q (length x.states)) NoState) _ a.1 in
      let c = after_both (unless (eqb (length m) (length x.variables)) StoreLength) _ b.1 in
      let d = after_both (slots_verdict x m) (room_verdict budget label) c.1 in
      let f = after_both (unless (leb 10 (length label)) _) _ d.1 in
      let l = ltb-true q _ (unless-true _ NoState b.0) in (
        whole-store (length x.variables) (few-variables a.0) (eqb-true (length m) _ (unless-true _ StoreLength c.0)),
        omega (arith, few-states a.0),
        leb-true 10 (length label) (unless-true _ _ f.0),
      )

-- words read and written again
drop-mapped : {A B : Type 0} (f : A → B) (n : ℕ) (l : List A) → map f (drop n l) ≡ drop n (map f l)
drop-mapped f zero l = refl
drop-mapped f (suc n) [] = refl
drop-mapped f (suc n) (a ∷ l) = drop-mapped f n l

append-mapped : {A B : Type 0} (f : A → B) (k l : List A) → map f (k ++ l) ≡ map f k ++ map f l
append-mapped f [] l = refl
append-mapped f (a ∷ k) l = ap (λ t. f a ∷ t) (append-mapped f k l)

module _ (b : List ℕ) (bytes : (j : ℕ) → get_or b j 0 < 256) where
  back : map (unsigned (2 ^ 31)) (signed_words b) ≡ words_of 4 b
  unfolding signed_words words_of
  back = back-table (λ i. number_at 4 b (4 * i)) 0 (length b / 4) (λ k. number_at-in 4 b (4 * k) bytes)

  pub back-kept : written_back (signed_words b) b ≡ b
  unfolding written
  back-kept = ap (λ (l : List ℕ). written 4 l b) back ∙ written-kept 4 b bytes [] (omega arith) (omega arith)

  -- the first words anew
  pub back-first : (ws : List ℤ) (n : ℕ) → length ws ≡ n → n ≤ length b / 4 → written_back (ws ++ drop n (signed_words b)) b ≡ written 4 (map (unsigned (2 ^ 31)) ws) b
  back-first ws n e h =
      let us = map (unsigned (2 ^ 31)) ws in
      let l : length us ≡ n = length-map ws (unsigned (2 ^ 31)) ∙ e in
      ap (λ (l : List ℕ). written 4 l b)
      (append-mapped (unsigned (2 ^ 31)) ws (drop n (signed_words b)) ∙ ap (λ (l : List ℕ). us ++ l) (drop-mapped (unsigned (2 ^ 31)) n (signed_words b) ∙ ap (drop n) back)
      ∙ ap (λ (k : ℕ). us ++ drop k (words_of 4 b)) (sym l))
      ∙ written-kept 4 b bytes us (omega arith) (omega (arith, l))

pub read_of : (store label : List ℕ) (was : List ℤ) {slots ten : List ℤ} → length slots ≡ length was → length was ≡ min (length store / 4) 65
    → length ten ≡ min (length label / 4) 10 → slots ≡ take (length was) (signed_words store) → Read (signed_words store) slots (signed_words label) ten
read_of store label was {slots} {ten} k p q e =
    record {
      first = rw k e;
      room = k ∙ rw (length-signed_words store) p;
      say = rw (length-signed_words label) q;
    }

-- what step gave on the words read
module _ (s : List ℕ) (q : ℕ) (store script : List ℕ) (budget : ℕ) (label : List ℕ) {slots ten slots' ten' : List ℤ} {done : Stepped}
    (r : Read (signed_words store) slots (signed_words label) ten) (sb : (j : ℕ) → get_or store j 0 < 256) (lb : (j : ℕ) → get_or label j 0 < 256)
    (f : ◌≡◌ {A = StepDone} (record { answer = done; store = slots'; label = ten' }) (step s (state (min q 65535)) slots script budget ten)) where
  answer-is : (step s (state q) (signed_words store) script budget (signed_words label)).answer ≡ done
  answer-is =
      sym (same_answer s (state q) (state (min q 65535)) (signed_words store) slots script budget (signed_words label) ten (capped s q budget r)
      (λ e. let w = read_whole s q budget r e in (w.0, ap state w.1))) ∙ ap (λ (d : StepDone). d.answer) (sym f)

  pub bytes-refused : {n : ℕ} (y : Refusal) → done ≡ Err y → n ≡ pack_refusal y
      → ◌≡◌ {A = ExportedStep} (record { answer = n; store = store; label = label }) (step_bytes s q store script budget label)
  unfolding step_bytes
  bytes-refused y e p =
      rw (not-moved s (state q) (signed_words store) script budget (signed_words label) y (answer-is ∙ e), p, back-kept store sb, back-kept label lb)

  pub words-few : AreBytes s → (k : Move) → done ≡ Ok k → k.words < 2 ^ 23
  words-few b k e = moved-words s (state q) (signed_words store) script budget (signed_words label) b k (answer-is ∙ e)

  pub bytes-moved : {a : ℕ} {store' label' : List ℕ} (k : Move) → done ≡ Ok k → length ten' ≡ length ten
      → store' ≡ written 4 (map (unsigned (2 ^ 31)) slots') store → label' ≡ written 4 (map (unsigned (2 ^ 31)) ten') label
      → a ≡ pack_stepped (Ok k)
      → ◌≡◌ {A = ExportedStep} (record { answer = a; store = store'; label = label' }) (step_bytes s q store script budget label)
  unfolding step_bytes
  bytes-moved k e l g h p =
      let m = moves s (state q) (signed_words store) script budget (signed_words label) k (answer-is ∙ e) in
      let w = read_whole s q budget r m.passed in
      let y = moves s (state (min q 65535)) slots script budget ten k (ap (λ (z : StepDone). z.answer) (sym f) ∙ e) in
      let u : attempt (tables_of s) (min q 65535) slots script budget ≡ attempt (tables_of s) q (signed_words store) script budget = rw (w.0, w.1) refl in
      let z : slots' ≡ (step s (state q) (signed_words store) script budget (signed_words label)).store =
      ap (λ (o : StepDone). o.store) f ∙ y.move.store ∙ ap (λ (o : Res). o.st.store) u ∙ sym m.move.store in
      let ws = label_words (attempt (tables_of s) q (signed_words store) script budget).st.label in
      let full : length ten ≡ 10 = omega (arith, r.say, w.2) in
      let j : ten' ≡ ws =
      ap (λ (o : StepDone). o.label) f ∙ y.move.says ∙ rw (drop_of_length-le ten {i = 10} (omega (arith, full)), append-nil) (ap (λ (o : Res). label_words o.st.label) u) in
      let b : written_back (step s (state q) (signed_words store) script budget (signed_words label)).label label ≡ written 4 (map (unsigned (2 ^ 31)) ten') label =
      ap (λ (v : List ℤ). written_back v label) (m.move.says ∙ ap (λ (v : List ℤ). v ++ drop 10 (signed_words label)) (sym j))
      ∙ back-first label lb ten' 10 (l ∙ full) (omega (arith, w.2, length-signed_words label)) in
      rw (answer-is ∙ e, p, g, h, ← z, b)
