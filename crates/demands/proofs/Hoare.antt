-- What is shown of a run, by how it ends: one logic for every analysis. What is shown may speak of the store and the label, not
-- of the words read or the units left. Assumes nothing.
use Rattle.std.specs.Prelude.{Option, Some, None}
use mathlib.Core.{Path.◌≡◌, Path.refl, Path.subst, Bool.true, List.List}
use Prim.Native.Nat.{ℕ}
use lib.IntN.{ℤ}
use Rattle.model.specs.declared.{State.State, Tested.Tested, Tested.TheVariants.Holds, Tested.TheVariants.Fails, Tested.TheVariants.Unsure, Refusal.Refusal, Refusal.TheVariants.Undefined, Refusal.TheVariants.ScriptEnded, Refusal.TheVariants.WordOutOfRange, Refusal.TheVariants.BudgetSpent, Outcome.Outcome, Outcome.TheVariants.Ends, Outcome.TheVariants.Jumps, Outcome.TheVariants.Stops}
use Rattle.model.specs.Answers.{row}
use Rattle.model.specs.Values.{of_size}
use Rattle.model.specs.Image.{Tables, size_of}
use Rattle.model.specs.Trees.{Exp}
use Rattle.model.specs.Run.{test, St, Res, gives, charge, and_then, reading, reading_of, valued, tested, looping}
use Rattle.model.proofs.Run.{charge-rule, reading-rule, reading_of-rule, valued-rule, tested-rule, looping-rule}

-- what holds where the run ends, jumps to a state, or stops with a refusal
pub record Post : Type 1 where
  pub ends : St → Type 0
  pub jumps : State → St → Type 0
  pub stops : Refusal → St → Type 0

abbrev pub Says : Post → Outcome → St → Type 0
Says c Ends s = c.ends s
Says c (Jumps q) s = c.jumps q s
Says c (Stops y) s = c.stops y s

pub record Shown (c : Post) (q : Res) : Type 0 where
  pub says : Says c q.out q.st

-- what is shown where the outcome is known
pub shown-ends : {c : Post} {r : Res} → r.out ≡ Ends → Shown c r → c.ends r.st
shown-ends {c} {r} e h = subst (λ (o : Outcome). Says c o r.st) e h.says

pub shown-jump : {c : Post} {r : Res} (q : State) → r.out ≡ Jumps q → Shown c r → c.jumps q r.st
shown-jump {c} {r} q e h = subst (λ (o : Outcome). Says c o r.st) e h.says

pub shown-stop : {c : Post} {r : Res} (y : Refusal) → r.out ≡ Stops y → Shown c r → c.stops y r.st
shown-stop {c} {r} y e h = subst (λ (o : Outcome). Says c o r.st) e h.says

-- c's jumps and stops are d's
pub record Within (c d : Post) : Type 0 where
  pub jumps : (q : State) (s : St) → c.jumps q s → d.jumps q s
  pub stops : (y : Refusal) (s : St) → c.stops y s → d.stops y s

abbrev pub same_post : {c : Post} → Within c c
same_post = record { jumps = λ q s h. h; stops = λ y s h. h }

-- the same store and label
pub record Like (s u : St) : Type 0 where
  pub store : u.store ≡ s.store
  pub label : u.label ≡ s.label

abbrev pub like-refl : {s : St} → Like s s
like-refl = record { store = refl; label = refl }

then_at : {c d : Post} (o : Outcome) (s : St) (k : St → Res) → Within c d → Shown c (gives o s) → ((u : St) → c.ends u → Shown d (k u))
    → Shown d (and_then (gives o s) k)
unfolding and_then
then_at Ends s k i a h = h s a.says
then_at (Jumps q) s k i a h = record { says = i.jumps q s a.says }
then_at (Stops y) s k i a h = record { says = i.stops y s a.says }

-- a run and then another
pub after : {c d : Post} {q : Res} (k : St → Res) → Within c d → Shown c q → ((u : St) → c.ends u → Shown d (k u)) → Shown d (and_then q k)
after {q = q} k i a h = then_at q.out q.st k i a h

weaken-at : {c d : Post} (o : Outcome) (s : St) → Within c d → ((u : St) → c.ends u → d.ends u) → Shown c (gives o s) → Shown d (gives o s)
weaken-at Ends s i e a = record { says = e s a.says }
weaken-at (Jumps q) s i e a = record { says = i.jumps q s a.says }
weaken-at (Stops y) s i e a = record { says = i.stops y s a.says }

pub weaken : {c d : Post} {q : Res} → Within c d → ((u : St) → c.ends u → d.ends u) → Shown c q → Shown d q
weaken {q = q} i e a = weaken-at q.out q.st i e a

module _ {c : Post} where
  pub charged : (r : ℕ) (s : St) (k : St → Res) → c.stops (BudgetSpent (row r)) s → ((u : St) → Like s u → Shown c (k u)) → Shown c (charge r s k)
  charged r s k b h = charge-rule (Shown c) r s k (λ e. h s like-refl) (λ f e. record { says = b }) (λ f l. h _ (record { store = refl; label = refl }))

  pub word : (script : List ℕ) (r : ℕ) (s : St) (k : ℤ → St → Res) → c.stops (ScriptEnded (row r)) s → ((z : ℤ) (u : St) → Like s u → Shown c (k z u))
      → Shown c (reading script r s k)
  word script r s k e h = reading-rule (Shown c) script r s k (λ l. h _ _ (record { store = refl; label = refl })) (λ l. record { says = e })

  pub word_of : (x : Tables) (t : ℕ) (script : List ℕ) (r : ℕ) (s : St) (k : ℤ → St → Res) → c.stops (ScriptEnded (row r)) s
      → ((u : St) → Like s u → c.stops (WordOutOfRange (row r)) u)
      → ((z : ℤ) (u : St) → of_size x.half (size_of x t) z ≡ true → Like s u → Shown c (k z u)) → Shown c (reading_of x t script r s k)
  word_of x t script r s k e o h =
      reading_of-rule (Shown c) x t script r s k (λ l f. h _ _ f (record { store = refl; label = refl }))
      (λ l f. record { says = o _ (record { store = refl; label = refl }) }) (λ l. record { says = e })

  pub value : (y : Option ℤ) (r : ℕ) (s : St) (k : ℤ → Res) → (y ≡ None → c.stops (Undefined (row r)) s) → ((z : ℤ) → y ≡ Some z → Shown c (k z))
      → Shown c (valued y r s k)
  value y r s k u h = valued-rule (Shown c) y r s k h (λ e. record { says = u e })

  pub test_of : (y : Tested) (r : ℕ) (s : St) (k l : Res) → (y ≡ Unsure → c.stops (Undefined (row r)) s) → (y ≡ Holds → Shown c k) → (y ≡ Fails → Shown c l)
      → Shown c (tested y r s k l)
  test_of y r s k l u h f = tested-rule (Shown c) y r s k l h f (λ e. record { says = u e })

  -- a loop keeps what its body keeps: `ends` is the invariant
  pub loops : (n : ℕ) (x : Tables) (e : Exp) (body : St → Res) (r : ℕ) → ((s : St) → c.ends s → c.stops (BudgetSpent (row r)) s)
      → ((s : St) → c.ends s → test x e s.store ≡ Unsure → c.stops (Undefined (row r)) s)
      → ((s : St) → c.ends s → test x e s.store ≡ Holds → Shown c (body s)) → ((s u : St) → Like s u → c.ends s → c.ends u)
      → (s : St) → c.ends s → Shown c (looping n x e body r s)
  loops n x e body r b u h m s i =
      looping-rule x e body r c.ends (Shown c) (λ t j. record { says = b t j })
      (λ k ih t j. test_of (test x e t.store) r t _ _ (u t j)
      (λ q. after (λ v. charge r v k) same_post (h t j q) (λ v jv. charged r v k (b v jv) (λ w l. ih w (m v w l jv)))) (λ q. record { says = j }))
      n s i
