-- The ways of a while and of a for, from their first test or from any later one. Assumes nothing.
use Rattle.std.specs.Prelude.{Some}
use mathlib.Core.{Path.◌≡◌, Path.refl, Path.sym, Path.ap, Path.◌∙◌, Path.subst, List.List}
use Prim.Native.Nat.{ℕ, zero, suc, ◌≤◌, ◌<◌}
use native.Mathlib.Omega.{arith}
use lib.{IntN.ℤ, IntN.pos, ListN.length, ListN.set, Signed.mag}
use borrow.Author.Tests.{ltb-true}
use Rattle.model.specs.declared.{Fields.Fields, State.State, Variable.Variable, Tested.Tested, Tested.TheVariants.Holds, Tested.TheVariants.Fails, Tested.TheVariants.Unsure, Refusal.Refusal, Refusal.TheVariants.Undefined, Refusal.TheVariants.BudgetSpent, Outcome.Outcome, Outcome.TheVariants.Ends, Outcome.TheVariants.Jumps, Outcome.TheVariants.Stops}
use Rattle.model.specs.Answers.{row, variable}
use Rattle.model.specs.Bytes.{signed}
use Rattle.model.specs.Values.{half16}
use Rattle.model.specs.Image.{Tables, none, int, tables_of, fields_of, type_of}
use Rattle.model.specs.Rows.{expression, range, arithmetic, Plus}
use Rattle.model.specs.Trees.{Exp, var, const, binary, Action}
use Rattle.model.specs.Decode.{expression_at, for_of, action_at}
use Rattle.model.specs.Run.{slot, store, defined, eval, test, St, Res, gives, stored, charge, and_then, valued, storing, assigning, looping, at_most_high, onward, exec, exec_act}
use Rattle.model.proofs.Rows.{row_is, is-kind}
use Rattle.model.proofs.Run.{charge-spent, charge-some, charge-rule, then-ends, then-stops, then_rule, valued-rule, looping-holds, looping-fails, looping-unsure, exec-left, turn-left}
use Rattle.model.proofs.Bytes.{signed-in}
use Rattle.image.proofs.Laid.{half_is}
use Rattle.demands.specs.Stores.{TypedStore}
use Rattle.demands.proofs.All.{All, cons, nil}
use Rattle.demands.proofs.Whole.{Whole}
use Rattle.demands.proofs.Good.{Inside, GoodExp, GoodGets}
use Rattle.demands.proofs.Typed.{OfType, int-type, store-typed, eval-typed}
use Rattle.demands.proofs.Kept.{onward-good}
use Rattle.expressions.specs.Operators.{value_of}
use Rattle.expressions.specs.Ready.{Runs, RowFrom}
use Rattle.expressions.proofs.Ways.{all, forms, row_from, value-small}
use Rattle.actions.specs.declared.{Run.Run, Ran.Ran}
use Rattle.actions.specs.State.{state_of, result_of}
use Rattle.machine.specs.Running.{RunningLoop, RunningFor, Turned, SlotOf, Onward, AtMost}
use Rattle.machine.proofs.Parts.{moved}
use Rattle.machine.proofs.Ways.{ran, answered, then-over, ends-typed}

apart : {A : Type 0} (o : Outcome) (p : o ≡ Ends) (t : State) → o ≡ Jumps t → A
apart o p t q = let k : ◌≡◌ {A = ℕ} 0 1 = cc in absurd (omega arith)

apart-stops : {A : Type 0} (o : Outcome) (p : o ≡ Ends) (y : Refusal) → o ≡ Stops y → A
apart-stops o p y q = let k : ◌≡◌ {A = ℕ} 0 1 = cc in absurd (omega arith)

-- what ended had a part before it that ended
first_ends : (q : Res) (k : St → Res) → (and_then q k).out ≡ Ends → q.out ≡ Ends
first_ends q k =
    then_rule (λ p. p.out ≡ Ends → q.out ≡ Ends) q k (λ e o. e) (λ t e o. o) (λ y e o. o)

-- ---- one turn: the body, and a unit where it ended
module _ (r : ℕ) (f : r ≡ none → ⊥) where
  abbrev pub again : Res → Res
  again q = and_then q (λ u. charge r u (gives Ends))

  charge-then : (u : St) (k : St → Res) → and_then (charge r u (gives Ends)) k ≡ charge r u k
  charge-then u k =
      charge-rule (λ q. and_then q k ≡ charge r u k) r u (gives Ends) (λ e. absurd (f e))
      (λ g e. then-stops _ k (BudgetSpent (row r)) refl ∙ sym (charge-spent r u k g e)) (λ g l. then-ends _ k refl ∙ sym (charge-some r u k g l))

  again-then : (q : Res) (k : St → Res) → and_then (again q) k ≡ and_then q (λ u. charge r u k)
  again-then q k =
      then_rule (λ p. and_then p k ≡ and_then q (λ u. charge r u k)) q (λ u. charge r u (gives Ends))
      (λ e. charge-then q.st k ∙ sym (then-ends q (λ u. charge r u k) e))
      (λ t e. over t e) (λ y e. then-stops q k y e ∙ sym (then-stops q (λ u. charge r u k) y e))
    where
      over : (t : State) → q.out ≡ Jumps t → and_then q k ≡ and_then q (λ u. charge r u k)
      over t e = then-over q k (λ o. apart q.out o t e) ∙ sym (then-over q (λ u. charge r u k) (λ o. apart q.out o t e))

  -- a turn that ends has spent a unit
  again-left : (q : Res) → (again q).out ≡ Ends → (again q).st.left < q.st.left
  again-left q =
      then_rule (λ p. p.out ≡ Ends → p.st.left < q.st.left) q (λ u. charge r u (gives Ends))
      (λ e. charge-rule (λ p. p.out ≡ Ends → p.st.left < q.st.left) r q.st (gives Ends) (λ z. absurd (f z))
      (λ g z o. apart-stops _ o (BudgetSpent (row r)) refl) (λ g l o. omega arith))
      (λ t e o. apart q.out o t e) (λ y e o. apart-stops q.out o y e)

  -- ---- a loop whose fuel n is above the units left
  module _ (x : Tables) (e : Exp) (body : St → Res) (u : St) where
    pub loop-ends : (n : ℕ) → u.left < n → Fails ≡ test x e u.store → gives Ends u ≡ looping n x e body r u
    loop-ends zero l t = absurd (omega arith)
    loop-ends (suc n) l t = sym (looping-fails x e body r n u (sym t))

    pub loop-unsure : (n : ℕ) → u.left < n → Unsure ≡ test x e u.store → gives (Stops (Undefined (row r))) u ≡ looping n x e body r u
    loop-unsure zero l t = absurd (omega arith)
    loop-unsure (suc n) l t = sym (looping-unsure x e body r n u (sym t))

    turn_is : (n : ℕ) (p : Res) → Holds ≡ test x e u.store → p ≡ again (body u) → looping (suc n) x e body r u ≡ and_then p (looping n x e body r)
    turn_is n p t g =
        looping-holds x e body r n u (sym t) ∙ sym (again-then (body u) (looping n x e body r)) ∙ ap (λ (q : Res). and_then q (looping n x e body r)) (sym g)

    pub loop-stops : (n : ℕ) (p : Res) → u.left < n → Holds ≡ test x e u.store → p ≡ again (body u) → (p.out ≡ Ends → ⊥) → p ≡ looping n x e body r u
    loop-stops zero p l t g o = absurd (omega arith)
    loop-stops (suc n) p l t g o = sym (turn_is n p t g ∙ then-over p (looping n x e body r) o)

    pub turn-less : (p : Res) → (body u).st.left ≤ u.left → p ≡ again (body u) → p.out ≡ Ends → p.st.left < u.left
    turn-less p d g o =
        let a : (again (body u)).st.left < (body u).st.left = again-left (body u) (subst (λ (q : Res). q.out ≡ Ends) g o) in
        let b : p.st.left ≡ (again (body u)).st.left = ap (λ (q : Res). q.st.left) g in
        omega arith

    pub loop-more : (n : ℕ) (p : Res) → u.left < n → (body u).st.left ≤ u.left → Holds ≡ test x e u.store → p ≡ again (body u) → p.out ≡ Ends
        → (j : ℕ) × (p.st.left < j) × (looping j x e body r p.st ≡ looping n x e body r u)
    loop-more zero p l d t g o = absurd (omega arith)
    loop-more (suc n) p l d t g o =
        (n, omega (arith, turn-less p d g o), sym (turn_is n p t g ∙ then-ends p (looping n x e body r) o))

-- what `again` gives of a run
turned : {r : ℕ} {q p : Ran} → Turned r q p → (f : r ≡ none → ⊥) (m values : List ℤ) {b : Res} → result_of q m values ≡ b
    → result_of p m values ≡ again r f b
turned {r} d f m values e = d.does f m values ∙ ap (again r f) e

-- ---- a while
abbrev pub whiling : List ℕ → ℕ → ℕ → ℕ → List ℕ → ℕ → St → Res
whiling s r e a script n u = looping n (tables_of s) (expression_at (tables_of s) e) (exec (tables_of s) (action_at (tables_of s) a) script) r u

-- a while from a later test on, and from its first
pub record Whiles (s : List ℕ) (rows : ℕ) (r e a : ℕ) (script : List ℕ) (m₀ values₀ : List ℤ) (now₀ : Run) (m values : List ℤ) (now : Run) : Type 0 where
  pub going : RunningLoop s rows r e a m values
  pub store : length m ≡ length m₀
  pub buffer : length values ≡ length values₀
  pub less : now.left ≤ now₀.left
  pub fuel : ℕ
  pub enough : now.left < fuel
  pub same : whiling s r e a script fuel (state_of now m values) ≡ whiling s r e a script (suc now₀.left) (state_of now₀ m₀ values₀)

pub while-first : {s : List ℕ} {rows : ℕ} {r e a : ℕ} (script : List ℕ) {m values : List ℤ} (now : Run) → RunningLoop s rows r e a m values
    → Whiles s rows r e a script m values now m values now
while-first script now h =
    record { going = h; store = refl; buffer = refl; less = omega arith; fuel = suc now.left; enough = omega arith; same = refl }

module _ {s : List ℕ} {rows : ℕ} {r e a : ℕ} {script : List ℕ} {m₀ values₀ : List ℤ} {now₀ : Run} {m values : List ℤ} {now : Run}
    (w : Whiles s rows r e a script m₀ values₀ now₀ m values now) where
  pub while-row : r ≡ none → ⊥
  while-row z = omega (arith, w.going.row)

  pub while-test : Runs expression s rows e m
  while-test =
      record { ready = w.going.body.ready; start = w.going.body.start; kind = w.going.test }

  module _ {y : Tested} (t : y ≡ test (tables_of s) (expression_at (tables_of s) e) m) where
    pub while-ends : {q : Ran} → y ≡ Fails → q ≡ ran Ends now
        → result_of q m values ≡ whiling s r e a script (suc now₀.left) (state_of now₀ m₀ values₀)
    while-ends k g =
        answered Ends now m values g ∙ loop-ends r while-row (tables_of s) _ _ (state_of now m values) w.fuel w.enough (sym k ∙ t) ∙ w.same

    pub while-unsure : {q : Ran} → y ≡ Unsure → q ≡ ran (Stops (Undefined (row r))) now
        → result_of q m values ≡ whiling s r e a script (suc now₀.left) (state_of now₀ m₀ values₀)
    while-unsure k g =
        answered _ now m values g ∙ loop-unsure r while-row (tables_of s) _ _ (state_of now m values) w.fuel w.enough (sym k ∙ t) ∙ w.same

    module _ (k : y ≡ Holds) (n vs : List ℤ) {q p : Ran} (d : Turned r q p)
        (g : result_of q n vs ≡ exec (tables_of s) (action_at (tables_of s) a) script (state_of now m values)) where
      pub while-stops : (p.out ≡ Ends → ⊥) → result_of p n vs ≡ whiling s r e a script (suc now₀.left) (state_of now₀ m₀ values₀)
      while-stops o =
          loop-stops r while-row (tables_of s) _ _ (state_of now m values) w.fuel (result_of p n vs) w.enough (sym k ∙ t)
          (turned d while-row n vs g) o ∙ w.same

      body_less : (exec (tables_of s) (action_at (tables_of s) a) script (state_of now m values)).st.left ≤ now.left
      body_less = exec-left (tables_of s) (action_at (tables_of s) a) script (state_of now m values)

      pub while-less : p.out ≡ Ends → p.run.left < now.left
      while-less o =
          turn-less r while-row (tables_of s) (expression_at (tables_of s) e) (exec (tables_of s) (action_at (tables_of s) a) script) (state_of now m values)
          (result_of p n vs) body_less (turned d while-row n vs g) o

      pub while-more : p.out ≡ Ends → length n ≡ length m → length vs ≡ length values → Whiles s rows r e a script m₀ values₀ now₀ n vs p.run
      while-more o ln lv =
          let ends : q.out ≡ Ends = first_ends (result_of q n vs) _ (subst (λ (b : Res). b.out ≡ Ends) (turned d while-row n vs refl) o) in
          let l : p.run.left ≤ now₀.left = omega (arith, while-less o, w.less) in
          let j = loop-more r while-row (tables_of s) _ _ (state_of now m values) w.fuel (result_of p n vs) w.enough body_less (sym k ∙ t) (turned d while-row n vs g) o in
          record {
            going = record { body = moved w.going.body (ends-typed w.going.body script now q n vs g ends) lv; test = w.going.test; row = w.going.row };
            store = ln ∙ w.store;
            buffer = lv ∙ w.buffer;
            less = l;
            fuel = j.0;
            enough = j.1;
            same = j.2 ∙ w.same;
          }

-- ---- a for
abbrev pub for_body : Tables → Fields → Action → List ℕ → ℕ → St → Res
for_body x w a script r t = and_then (exec x a script t) (assigning x (onward (variable w.a)) r)

abbrev pub for_test : Fields → Exp
for_test w = at_most_high (variable w.a) (signed half16 w.c)

-- its turns
abbrev pub turning : List ℕ → ℕ → ℕ → ℕ → List ℕ → ℕ → St → Res
turning s r g a script n u =
    looping n (tables_of s) (for_test (fields_of (tables_of s) g)) (for_body (tables_of s) (fields_of (tables_of s) g) (action_at (tables_of s) a) script r) r u

for-starts : (x : Tables) (w : Fields) (a : Action) (script : List ℕ) (r : ℕ) (u : St)
    → looping (suc u.left) x (for_test w) (for_body x w a script r) r (stored (store u.store (variable w.a) (signed half16 w.b)) u)
    ≡ exec_act x (for_of w a) script r u
unfolding exec storing valued eval and_then
for-starts x w a script r u = refl

-- V := V + 1 keeps the store typed
onward-typed : (x : Tables) → Whole x → (v : Variable) (r : ℕ) (u : St) → Inside x v → type_of x v ≡ int → TypedStore x u.store
    → (assigning x (onward v) r u).out ≡ Ends → TypedStore x (assigning x (onward v) r u).st.store
unfolding storing
onward-typed x w v r u i t k =
    valued-rule (λ q. q.out ≡ Ends → TypedStore x q.st.store) _ r u _
    (λ z e o. good z e (onward-good x w v i t)) (λ e o. apart-stops _ o _ refl)
  where
    good : (z : ℤ) → eval x (binary (arithmetic Plus) (var v) (const int (pos 1))) u.store ≡ Some z → All (GoodGets x) (onward v) → TypedStore x (store u.store v z)
    good z e (cons g nil) =
        store-typed x u.store v z g.inside k (subst (λ (n : ℕ). OfType x n z) g.typed (eval-typed x w _ u.store z g.good k e))

-- a for from a later test on, and from its first
pub record Fors (s : List ℕ) (rows : ℕ) (r g a : ℕ) (script : List ℕ) (m₀ values₀ : List ℤ) (now₀ : Run) (m values : List ℤ) (now : Run) : Type 0 where
  pub going : RunningFor s rows r g a m values
  pub store : length m ≡ length m₀
  pub buffer : length values ≡ length values₀
  pub less : now.left ≤ now₀.left
  pub fuel : ℕ
  pub enough : now.left < fuel
  pub same : turning s r g a script fuel (state_of now m values) ≡ turning s r g a script (suc now₀.left) (state_of now₀ m₀ values₀)

module _ {s : List ℕ} {rows : ℕ} {r g a : ℕ} {m values : List ℤ} (h : RunningFor s rows r g a m values) where
  pub for-range : RowFrom s rows g
  for-range = row_from refl (record { ready = h.body.ready; start = h.body.start; kind = h.range })

  for-moved : {n vs : List ℤ} → TypedStore (tables_of s) n → length vs ≡ length values → RunningFor s rows r g a n vs
  for-moved t l = record { body = moved h.body t l; range = h.range; typed = h.typed; row = h.row }

  for-inside : Inside (tables_of s) (variable (fields_of (tables_of s) g).a)
  for-inside = ltb-true _ _ (row_is (tables_of s) (forms h.body.ready) g _ (is-kind (tables_of s) range g h.range)).a

  pub for-slot : {w : Fields} → w ≡ fields_of (tables_of s) g → w.a < length m
  for-slot e = omega (arith, for-inside, h.body.ready.store.size, ap (λ (f : Fields). f.a) e)

  -- V := low
  module _ (script : List ℕ) (run : Run) {w : Fields} (e : w ≡ fields_of (tables_of s) g) {low : ℤ} (l : low ≡ signed half16 w.b) where
    low_small : mag low < (tables_of s).half
    low_small = rw (l, e) (omega (arith, signed-in half16 (fields_of (tables_of s) g).b ((all h.body.ready).small g).b, half_is s))

    low-typed : TypedStore (tables_of s) (set m w.a low)
    unfolding store
    low-typed =
        subst (λ (f : Fields). TypedStore (tables_of s) (set m f.a low)) (sym e)
        (store-typed (tables_of s) m (variable (fields_of (tables_of s) g).a) low for-inside h.body.ready.store
        (subst (λ (n : ℕ). OfType (tables_of s) n low) (sym h.typed) (int-type (tables_of s) (all h.body.ready) low low_small)))

    pub for-first : Fors s rows r g a script (set m w.a low) values run (set m w.a low) values run
    for-first =
        record { going = for-moved low-typed refl; store = refl; buffer = refl; less = omega arith; fuel = suc run.left; enough = omega arith; same = refl }

    pub for-is : {q : Res} → q ≡ turning s r g a script (suc run.left) (state_of run (set m w.a low) values)
        → q ≡ exec_act (tables_of s) (for_of (fields_of (tables_of s) g) (action_at (tables_of s) a)) script r (state_of run m values)
    unfolding store
    for-is k =
        k ∙ ap (λ (n : List ℤ). turning s r g a script (suc run.left) (state_of run n values)) places
        ∙ for-starts (tables_of s) (fields_of (tables_of s) g) (action_at (tables_of s) a) script r (state_of run m values)
      where
        places : set m w.a low ≡ set m (fields_of (tables_of s) g).a (signed half16 (fields_of (tables_of s) g).b)
        places = rw (l, e) refl

module _ {s : List ℕ} {rows : ℕ} {r g a : ℕ} {script : List ℕ} {m₀ values₀ : List ℤ} {now₀ : Run} {m values : List ℤ} {now : Run}
    (h : Fors s rows r g a script m₀ values₀ now₀ m values now) {w : Fields} (e : w ≡ fields_of (tables_of s) g) where
  pub for-row : r ≡ none → ⊥
  for-row z = omega (arith, h.going.row)

  module _ {high : ℤ} (l : high ≡ signed half16 w.c) {y : Tested} (b : AtMost w.a high m y) where
    tests : y ≡ test (tables_of s) (for_test (fields_of (tables_of s) g)) m
    tests =
        b.is (tables_of s) (half_is s) ∙ ap (λ (z : ℤ). test (tables_of s) (at_most_high (variable w.a) z) m) l
        ∙ ap (λ (f : Fields). test (tables_of s) (for_test f) m) e

    pub for-ends : {q : Ran} → y ≡ Fails → q ≡ ran Ends now
        → result_of q m values ≡ turning s r g a script (suc now₀.left) (state_of now₀ m₀ values₀)
    for-ends k f =
        answered Ends now m values f ∙ loop-ends r for-row (tables_of s) _ _ (state_of now m values) h.fuel h.enough (sym k ∙ tests) ∙ h.same

    pub for-unsure : {q : Ran} → y ≡ Unsure → q ≡ ran (Stops (Undefined (row r))) now
        → result_of q m values ≡ turning s r g a script (suc now₀.left) (state_of now₀ m₀ values₀)
    for-unsure k f =
        answered _ now m values f ∙ loop-unsure r for-row (tables_of s) _ _ (state_of now m values) h.fuel h.enough (sym k ∙ tests) ∙ h.same

  module _ (n vs : List ℤ) (q : Ran) (f : result_of q n vs ≡ exec (tables_of s) (action_at (tables_of s) a) script (state_of now m values)) where
    body_typed : q.out ≡ Ends → TypedStore (tables_of s) n
    body_typed o = ends-typed h.going.body script now q n vs f o

    pub slot_of : length n ≡ length m → SlotOf q.out w.a n
    unfolding value_of eval defined slot tables_of GoodExp
    slot_of k = record {
      inside = rw k (for-slot h.going e);
      int = λ o z b.
          value-small (all h.going.body.ready) _ z (eval-typed (tables_of s) (all h.going.body.ready) (var (variable w.a)) n z
          (rw e (for-inside h.going)) (body_typed o) b);
    }

    module _ {high : ℤ} (l : high ≡ signed half16 w.c) {y : Tested} (b : AtMost w.a high m y) (k : y ≡ Holds) (n' : List ℤ) {o' : Outcome} {p : Ran}
        (c : Onward r w.a q.out n o' n') (d : Turned r (ran o' q.run) p) where
      moves : result_of (ran o' q.run) n' vs ≡ for_body (tables_of s) (fields_of (tables_of s) g) (action_at (tables_of s) a) script r (state_of now m values)
      moves =
          c.does (tables_of s) (half_is s) q.run vs ∙ ap (λ (u : Res). and_then u (assigning (tables_of s) (onward (variable w.a)) r)) f
          ∙ ap (λ (v : Fields). for_body (tables_of s) v (action_at (tables_of s) a) script r (state_of now m values)) e

      pub for-stops : (p.out ≡ Ends → ⊥) → result_of p n' vs ≡ turning s r g a script (suc now₀.left) (state_of now₀ m₀ values₀)
      for-stops o =
          loop-stops r for-row (tables_of s) _ _ (state_of now m values) h.fuel (result_of p n' vs) h.enough (sym k ∙ tests l b)
          (turned d for-row n' vs moves) o ∙ h.same

      turn-body-less : (for_body (tables_of s) (fields_of (tables_of s) g) (action_at (tables_of s) a) script r (state_of now m values)).st.left ≤ now.left
      turn-body-less = turn-left (tables_of s) (action_at (tables_of s) a) (variable (fields_of (tables_of s) g).a) script r (state_of now m values)

      pub for-less : p.out ≡ Ends → p.run.left < now.left
      for-less o =
          turn-less r for-row (tables_of s) (for_test (fields_of (tables_of s) g)) (for_body (tables_of s) (fields_of (tables_of s) g) (action_at (tables_of s) a) script r) (state_of now m values)
          (result_of p n' vs) turn-body-less (turned d for-row n' vs moves) o

      turn_typed : p.out ≡ Ends → TypedStore (tables_of s) n'
      turn_typed o =
          let step = c.does (tables_of s) (half_is s) q.run vs in
          let ends' : o' ≡ Ends = first_ends (result_of (ran o' q.run) n' vs) _ (subst (λ (u : Res). u.out ≡ Ends) (turned d for-row n' vs refl) o) in
          let ends : q.out ≡ Ends = first_ends (result_of q n vs) _ (subst (λ (u : Res). u.out ≡ Ends) step ends') in
          let goes : result_of (ran o' q.run) n' vs ≡ assigning (tables_of s) (onward (variable w.a)) r (state_of q.run n vs) = step ∙ then-ends (result_of q n vs) _ ends in
          subst (λ (u : Res). TypedStore (tables_of s) u.st.store) (sym goes)
          (onward-typed (tables_of s) (all h.going.body.ready) (variable w.a) r (state_of q.run n vs) (rw e (for-inside h.going))
          (rw e h.going.typed) (body_typed ends) (subst (λ (u : Res). u.out ≡ Ends) goes ends'))

      pub for-more : p.out ≡ Ends → length n' ≡ length m → length vs ≡ length values → Fors s rows r g a script m₀ values₀ now₀ n' vs p.run
      for-more o ln lv =
          let d' : p.run.left ≤ now₀.left = omega (arith, for-less o, h.less) in
          let j = loop-more r for-row (tables_of s) _ _ (state_of now m values) h.fuel (result_of p n' vs) h.enough turn-body-less (sym k ∙ tests l b) (turned d for-row n' vs moves) o in
          record {
            going = for-moved h.going (turn_typed o) lv;
            store = ln ∙ h.store;
            buffer = lv ∙ h.buffer;
            less = d';
            fuel = j.0;
            enough = j.1;
            same = j.2 ∙ h.same;
          }
