-- Figure 11 by the mask of the values caught: a case of at most 64 arms catches at most 64 values as constants. Assumes nothing.
use mathlib.Core.{Path.◌≡◌, Path.refl, Path.sym, Path.ap, Path.◌∙◌, Logic.◌⊎◌, Logic.inl, Logic.inr, Bool.Bool, Bool.true, Bool.false, Bool.◌||◌, List.List, List.[], List.◌∷◌}
use Prim.Native.Nat.{ℕ, zero, suc, ◌≤◌, ◌<◌}
use native.Mathlib.{Omega.arith, Decide.ℕ_discrete, Decide.dec_lt}
use lib.{Dec.eqb, Dec.leb, IntN.ℤ, IntN.pos, ListN.length}
use borrow.Author.Tests.{leb-true, le-leb, ne_eqb}
use Rattle.model.specs.declared.Image.{Image}
use Rattle.model.specs.Image.{Tables, none, tables_of, size_of}
use Rattle.model.specs.Rows.{next_of, list_up_to}
use Rattle.model.specs.Trees.{Pat, any, bind, equals, guarded, Action, Arms, no_arm, arm}
use Rattle.model.specs.Decode.{expression_at, arms_of, list_at, action_at}
use Rattle.model.specs.Masks.{digit, full}
use Rattle.model.specs.Typing.{type_of_exp}
use Rattle.model.specs.Speech.{catches, some_catches, each_caught, exhaustive}
use Rattle.model.proofs.Rows.{both_true, Formed}
use Rattle.model.proofs.Decode.{list_at-none}
use Rattle.model.proofs.Values.{same-eq}
use Rattle.model.proofs.Masks.{digit-full, digit-full-out, inside-sub, sub-inside, has-digit, digit-has, digit-le}
use Rattle.speech.specs.Filled.{arms_at}
use Rattle.speech.specs.Case.{CaseOf, CaughtBy, all_in, exhaustive_at}

-- two tests that pass together
same_test : (a b : Bool) → (a ≡ true → b ≡ true) → (b ≡ true → a ≡ true) → a ≡ b
same_test true b f g = sym (f refl)
same_test false true f g = g refl
same_test false false f g = refl

-- ---- a list is as short as its first rows say
stops : (m n : ℕ) (x : Tables) (r : ℕ) → length (list_up_to (suc m) x r) ≤ m → length (list_up_to n x r) ≤ m
unfolding list_up_to
stops m zero x r h = omega arith
stops m (suc n) x r h = go m (eqb r none) h (λ k. stops k n x (next_of x r))
  where
    go : (m : ℕ) (b : Bool) → length {A = ℕ} (elim b [ true ↦ [] | false ↦ r ∷ list_up_to m x (next_of x r) ]) ≤ m
        → ((k : ℕ) → length (list_up_to (suc k) x (next_of x r)) ≤ k → length (list_up_to n x (next_of x r)) ≤ k)
        → length {A = ℕ} (elim b [ true ↦ [] | false ↦ r ∷ list_up_to n x (next_of x r) ]) ≤ m
    go m true l f = omega arith
    go zero false l f = absurd (omega arith)
    go (suc m) false l f = omega (arith, f m (omega arith))

pub short : (x : Tables) → Formed x → (r : ℕ) {P : Type 0} → (r ≡ none) ⊎ (P × (length (list_up_to 65 x r) ≤ 64)) → length (list_at x r) ≤ 64
unfolding list_at
short x ok r (inl e) = rw (e, list_at-none x ok) (omega arith)
short x ok r (inr p) = stops 64 (suc r) x r p.1

-- ---- no more values are caught than there are arms
count : Arms → ℕ
count no_arm = 0
count (arm p a rest) = suc (count rest)

count-rows : (x : Tables) (f : ℕ → Action) (l : List ℕ) → count (arms_of x f l) ≡ length l
unfolding count arms_of
count-rows x f [] = refl
count-rows x f (i ∷ l) = ap suc (count-rows x f l)

-- the arms without the first that catches k
less : ℤ → Arms → Arms
less k no_arm = no_arm
less k (arm p a rest) = elim (catches k p) [ true ↦ rest | false ↦ arm p a (less k rest) ]

count_less : (k : ℤ) (arms : Arms) → some_catches k arms ≡ true → count arms ≡ suc (count (less k arms))
unfolding count less some_catches
count_less k no_arm e = cc
count_less k (arm p a rest) e = go (catches k p) e (count_less k rest)
  where
    go : (b : Bool) → (b || some_catches k rest) ≡ true → (some_catches k rest ≡ true → count rest ≡ suc (count (less k rest)))
        → suc (count rest) ≡ suc (count (elim b [ true ↦ rest | false ↦ arm p a (less k rest) ]))
    go true q f = refl
    go false q f = ap suc (f q)

-- a constant catches one value
one-caught : (j k : ℤ) (p : Pat) → catches j p ≡ true → catches k p ≡ true → j ≡ k
one-caught j k (any t) e f = cc
one-caught j k (bind v) e f = cc
one-caught j k (equals t z) e f = same-eq j z e ∙ sym (same-eq k z f)
one-caught j k (guarded p c) e f = cc

less-catches : (j k : ℤ) (arms : Arms) → (j ≡ k → ⊥) → some_catches j arms ≡ true → some_catches j (less k arms) ≡ true
unfolding less some_catches
less-catches j k no_arm n e = e
less-catches j k (arm p a rest) n e = go (catches k p) refl (catches j p) refl e (less-catches j k rest n)
  where
    go : (b : Bool) → catches k p ≡ b → (t : Bool) → catches j p ≡ t → (t || some_catches j rest) ≡ true
        → (some_catches j rest ≡ true → some_catches j (less k rest) ≡ true)
        → some_catches j (elim b [ true ↦ rest | false ↦ arm p a (less k rest) ]) ≡ true
    go true d true c q f = absurd (n (one-caught j k p c d))
    go true d false c q f = q
    go false d true c q f = rw c
    go false d false c q f = rw c (f q)

each-less : (m n : ℕ) (arms : Arms) → m ≤ n → each_caught m arms ≡ true → each_caught m (less (pos n) arms) ≡ true
unfolding each_caught
each-less zero n arms l e = refl
each-less (suc m) n arms l e =
    let p = both_true (some_catches (pos m) arms) _ e in
    rw (less-catches (pos m) (pos n) arms (λ q. let z : m ≡ n = cc in omega arith) p.0) (each-less m n arms (omega arith) p.1)

few-caught : (n : ℕ) (arms : Arms) → each_caught n arms ≡ true → n ≤ count arms
unfolding each_caught
few-caught zero arms e = omega arith
few-caught (suc n) arms e =
    let p = both_true (some_catches (pos n) arms) _ e in
    omega (arith, count_less (pos n) arms p.0, few-caught n (less (pos n) arms) (each-less n n arms (omega arith) p.1))

-- ---- value by value
each_of : (n : ℕ) (arms : Arms) → ((k : ℕ) → k < n → some_catches (pos k) arms ≡ true) → each_caught n arms ≡ true
unfolding each_caught
each_of zero arms h = refl
each_of (suc n) arms h = rw (h n (omega arith)) (each_of n arms (λ k l. h k (omega arith)))

of-each : (n : ℕ) (arms : Arms) → each_caught n arms ≡ true → (k : ℕ) → k < n → some_catches (pos k) arms ≡ true
unfolding each_caught
of-each zero arms e k l = absurd (omega arith)
of-each (suc n) arms e k l =
    let p = both_true (some_catches (pos n) arms) _ e in
    elim (ℕ_discrete k n) [ yes q ↦ rw q p.0 | no f ↦ of-each n arms p.1 k (omega arith) ]

module _ {arms : Arms} {any : Bool} {values : ℕ} (h : CaughtBy arms any values) where
  all-each : (n : ℕ) → all_in values n ≡ true → each_caught n arms ≡ true
  all-each n e =
      let p = both_true (leb n 64) _ e in
      let l = leb-true n 64 p.0 in
      let sub = inside-sub (full n) values p.1 in
      each_of n arms (λ k b. sym (h.each k (omega arith)) ∙ digit-has values k (omega (arith, sub k, digit-full n k b, digit-le values k)))

  each_all : (n : ℕ) → count arms ≤ 64 → each_caught n arms ≡ true → all_in values n ≡ true
  each_all n c e =
      let l : n ≤ 64 = omega (arith, few-caught n arms e) in
      rw (le-leb n 64 l) (sub-inside (full n) values (λ v. go v (dec_lt v n) l))
    where
      go : (v : ℕ) → Dec (v < n) → n ≤ 64 → digit (full n) v ≤ digit values v
      go v (yes b) l = omega (arith, digit-full n v b, has-digit values v (h.each v (omega arith) ∙ of-each n arms e v b))
      go v (no f) l = omega (arith, digit-full-out n v (omega arith))

  all-is : (n : ℕ) → count arms ≤ 64 → all_in values n ≡ each_caught n arms
  all-is n c = same_test (all_in values n) (each_caught n arms) (all-each n) (each_all n c)

-- ---- the code's three ways
module _ {s : List ℕ} {i : Image} {e first : ℕ} (h : CaseOf s i e first) {any : Bool} {values : ℕ} (g : CaughtBy (arms_at (tables_of s) first) any values) where
  abbrev x : Tables
  x = tables_of s

  abbrev Is : Bool → Type 0
  Is b = b ≡ exhaustive_at x e first

  pub exhausted-all : any ≡ true → Is true
  unfolding exhaustive
  exhausted-all a = rw (← g.all, a)

  pub exhausted-int : {t : ℕ} → any ≡ false → t ≡ type_of_exp x (expression_at x e) → t ≡ 1 → Is false
  unfolding exhaustive
  exhausted-int a b q = rw (← g.all, a, ← b, q)

  pub exhausted-each : {t n : ℕ} {b : Bool} → any ≡ false → t ≡ type_of_exp x (expression_at x e) → (t ≡ 1 → ⊥) → n ≡ size_of x t → b ≡ all_in values n → Is b
  unfolding exhaustive
  exhausted-each {t} {n} a k q m r =
      rw (r, m, ← g.all, a, ← k, ne_eqb t 1 q) (all-is g (size_of x t) (rw (count-rows x (action_at x) (list_at x first)) h.few))
