-- start on words that are read from bytes, no more of them than can matter. Assumes nothing.
use Rattle.std.specs.Prelude.{Ok, Err}
use mathlib.Core.{Path.◌≡◌, Path.refl, Path.sym, Path.ap, Path.◌∙◌, Bool.Bool, Bool.true, Bool.false, List.List, List.[], List.◌∷◌, List.map}
use Prim.Native.Nat.{ℕ, zero, suc, ◌+◌, ◌*◌, ◌/◌, ◌^◌, ◌≤◌, ◌<◌, min}
use native.Mathlib.Omega.{arith}
use lib.{Dec.eqb, IntN.ℤ, ListN.length, ListN.get_or, ListN.take, Seq.take_all}
use borrow.Author.Tests.{eq-eqb, ne_eqb, eqb-true, eqb-false}
use Rattle.model.specs.declared.{Refusal.Refusal, Refusal.TheVariants.StoreLength, Refusal.TheVariants.ParameterCount}
use Rattle.model.specs.Answers.{after, unless, Verdict}
use Rattle.model.specs.Lists.{table}
use Rattle.model.specs.Bytes.{number_at, signed, unsigned, words_of, signed_words, written}
use Rattle.model.specs.Image.{Entry, tables_of}
use Rattle.model.specs.Calls.{image_verdict, parameter_count, started, start_verdict, Started, started_as, start}
use Rattle.model.specs.Exports.{pack_verdict, written_back, Exported, start_bytes}
use Rattle.model.proofs.Order.{after_both, unless-true}
use Rattle.model.proofs.Passed.{passed}
use Rattle.model.proofs.Bytes.{number_at-in, unsigned_signed}
use Rattle.words.proofs.Words.{length-signed_words}
use Rattle.image.proofs.Laid.{laid, variables-count}
use Rattle.demands.proofs.Whole.{entry-of}
use Rattle.starting.specs.Starting.{values_verdict, counts_verdict}
use Rattle.image.proofs.Accepted.{accepted-located}
use Rattle.starting.proofs.Judging.{start_is}
use Rattle.ntif.proofs.Kept.{written-kept}

abbrev no_entry : Entry
no_entry = record { type = 0; parameter = 0 }

-- at most one parameter a variable
parameters-most : (es : List Entry) → ((v : ℕ) → v < length es → (get_or es v no_entry).parameter ≤ 1) → parameter_count es ≤ length es
unfolding parameter_count
parameters-most [] h = omega arith
parameters-most (e ∷ es) h = omega (arith, h 0 (omega arith), parameters-most es (λ v k. h (suc v) (omega arith)))

-- an image free of 1 to 9
module _ (s : List ℕ) (e : image_verdict s ≡ Ok tt) where
  few-variables : length (tables_of s).variables ≤ 64
  few-variables = let l = accepted-located refl e in omega (arith, (laid l).variables_most, variables-count l)

  few-parameters : parameter_count (tables_of s).variables ≤ 64
  few-parameters =
      omega (arith, few-variables, parameters-most (tables_of s).variables (λ v h. (entry-of (tables_of s) (passed s e).free v h).parameter))

-- a number that is capped above every number it is held against
pub eqb-capped : (a b n : ℕ) → a ≡ min b 65 → n ≤ 64 → eqb a n ≡ eqb b n
eqb-capped a b n e h = go (eqb b n) refl
  where
    go : (t : Bool) → eqb b n ≡ t → eqb a n ≡ t
    go true q = eq-eqb a n (omega (arith, eqb-true b n q))
    go false q = ne_eqb a n (λ f. eqb-false b n q (omega arith))

-- two stages after the same test
pub after_test : (t : Bool) (y : Refusal) (v w : Verdict) → (t ≡ true → v ≡ w) → after (unless t y) v ≡ after (unless t y) w
unfolding after
after_test true y v w h = h refl
after_test false y v w h = refl

pub after_same : (u v w : Verdict) → (u ≡ Ok tt → v ≡ w) → after u v ≡ after u w
unfolding after
after_same (Ok _) v w h = h refl
after_same (Err y) v w h = refl

-- the words that are read
pub record Read (ps given m slots : List ℤ) : Type 0 where
  pub first : given ≡ take (length given) ps
  pub values : length given ≡ min (length ps) 65
  pub room : length slots ≡ min (length m) 65

module _ (s : List ℕ) {ps given m slots : List ℤ} (r : Read ps given m slots) where
  whole-given : (n : ℕ) → n ≤ 64 → length ps ≡ n → given ≡ ps
  whole-given n h e = r.first ∙ take_all (length given) ps (omega (arith, r.values))

  counts-capped : image_verdict s ≡ Ok tt → counts_verdict (tables_of s) given slots ≡ counts_verdict (tables_of s) ps m
  unfolding counts_verdict
  counts-capped e =
      let x = tables_of s in
      let n = parameter_count x.variables in
      let few = few-parameters s e in
      rw (eqb-capped (length slots) (length m) (length x.variables) r.room (few-variables s e), eqb-capped (length given) (length ps) n r.values few)
      (ap (after (unless (eqb (length m) (length x.variables)) StoreLength))
      (after_test (eqb (length ps) n) ParameterCount _ _ (λ t. ap (λ (l : List ℤ). values_verdict x (started x l)) (whole-given n few (eqb-true (length ps) n t)))))

  capped : start_verdict s given slots ≡ start_verdict s ps m
  capped = start_is s given slots refl ∙ after_same (image_verdict s) _ _ counts-capped ∙ sym (start_is s ps m refl)

  -- where it is accepted every value was read
  read_whole : start_verdict s ps m ≡ Ok tt → given ≡ ps
  unfolding counts_verdict
  read_whole e =
      let x = tables_of s in
      let n = parameter_count x.variables in
      let a = after_both (image_verdict s) (counts_verdict x ps m) (sym (start_is s ps m refl) ∙ e) in
      let b = after_both (unless (eqb (length m) (length x.variables)) StoreLength) _ a.1 in
      let c = after_both (unless (eqb (length ps) n) ParameterCount) _ b.1 in
      whole-given n (few-parameters s a.0) (eqb-true (length ps) n (unless-true _ ParameterCount c.0))

started-answer : (v : Verdict) (m store : List ℤ) → (started_as v m store).answer ≡ v
started-answer (Ok _) m store = refl
started-answer (Err y) m store = refl

-- what start gave on the words read
module _ (s : List ℕ) {ps given m slots after : List ℤ} {v : Verdict} (r : Read ps given m slots)
    (f : ◌≡◌ {A = Started} (record { answer = v; store = after }) (start s given slots)) where
  verdict-is : v ≡ start_verdict s ps m
  unfolding start
  verdict-is = ap (λ (c : Started). c.answer) f ∙ started-answer (start_verdict s given slots) _ slots ∙ capped s r

  pub words-refused : (y : Refusal) → v ≡ Err y → ◌≡◌ {A = Started} (record { answer = v; store = m }) (start s ps m)
  unfolding start
  words-refused y e = rw (← verdict-is, e)

  pub words-accepted : v ≡ Ok tt → ◌≡◌ {A = Started} (record { answer = v; store = after }) (start s ps m)
  unfolding start
  words-accepted e =
      let w = read_whole s r (sym verdict-is ∙ e) in
      let k : after ≡ started (tables_of s) given =
      ap (λ (c : Started). c.store) f ∙ ap (λ (u : Verdict). (started_as u (started (tables_of s) given) slots).store) (capped s r ∙ sym verdict-is ∙ e) in
      rw (← verdict-is, e, k, w)

pub read_of : (params store : List ℕ) (was : List ℤ) {given slots : List ℤ} → length given ≡ length was → length was ≡ min (length params / 4) 65
    → length slots ≡ min (length store / 4) 65 → given ≡ take (length was) (signed_words params) → Read (signed_words params) given (signed_words store) slots
read_of params store was {given} {slots} k p q e =
    record {
      first = rw k e;
      values = k ∙ rw (length-signed_words params) p;
      room = rw (length-signed_words store) q;
    }

-- words read and written again
pub back-table : (f : ℕ → ℕ) (i n : ℕ) → ((k : ℕ) → f k < 2 ^ 31 + 2 ^ 31) → map (unsigned (2 ^ 31)) (map (signed (2 ^ 31)) (table f i n)) ≡ table f i n
unfolding table
back-table f i zero h = refl
back-table f i (suc n) h = rw (unsigned_signed (2 ^ 31) (f i) (h i), back-table f (suc i) n h)

module _ (s params store : List ℕ) (bytes : (j : ℕ) → get_or store j 0 < 256) where
  back-kept : written_back (signed_words store) store ≡ store
  unfolding signed_words words_of written
  back-kept =
      ap (λ (l : List ℕ). written 4 l store) (back-table (λ i. number_at 4 store (4 * i)) 0 (length store / 4) (λ k. number_at-in 4 store (4 * k) bytes))
      ∙ written-kept 4 store bytes [] (omega arith) (omega arith)

  module _ {given slots after : List ℤ} {v : Verdict} {n : ℕ} (r : Read (signed_words params) given (signed_words store) slots)
      (f : ◌≡◌ {A = Started} (record { answer = v; store = after }) (start s given slots)) (p : n ≡ pack_verdict v) where
    pub start-bytes-refused : (y : Refusal) → v ≡ Err y → ◌≡◌ {A = Exported} (record { answer = n; lent = store }) (start_bytes s params store)
    unfolding start_bytes
    start-bytes-refused y e = rw (← words-refused s r f y e, p, back-kept)

    pub start-bytes-accepted : {lent : List ℕ} → v ≡ Ok tt → lent ≡ written 4 (map (unsigned (2 ^ 31)) after) store
        → ◌≡◌ {A = Exported} (record { answer = n; lent = lent }) (start_bytes s params store)
    unfolding start_bytes
    start-bytes-accepted e a = rw (← words-accepted s r f e, p, a)
