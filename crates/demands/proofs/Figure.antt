-- Small laws of Figure 2: its matching and the one that is run, its sums of labels, its tolls. Assumes nothing.
use Rattle.std.specs.Prelude.{Option, Some, None}
use mathlib.Core.{Path.◌≡◌, Path.refl, Path.sym, Path.subst, Bool.Bool, Bool.true, Bool.false, List.List}
use Prim.Native.Nat.{ℕ}
use native.Mathlib.Omega.{arith}
use lib.IntN.{ℤ}
use borrow.Author.Tests.{ne_eqb}
use Rattle.model.specs.declared.{State.State, Tested.Tested, Tested.TheVariants.Holds, Tested.TheVariants.Fails, Tested.TheVariants.Unsure}
use Rattle.model.specs.Values.{same}
use Rattle.model.specs.Image.{Tables, none}
use Rattle.model.specs.Trees.{Exp, Pat, any, bind, equals, guarded, emit, Gets, at, assign}
use Rattle.model.specs.Run.{eval, test, Match, matched, failed, unsure, match, Label, ε, on, spoken, St}
use Rattle.model.specs.Figure2.{Found, fail, found, match_of, accept, Sum, Next, onto, ended, Does, d_assign, toll}
use Rattle.model.proofs.Values.{same_refl, same-eq}

-- what a run threads, by its parts
abbrev pub made : List ℤ → ℕ → ℕ → Label → St
made m i n l = record { store = m; words = i; left = n; label = l }

-- ---- matching
data Agree : Match → Found → Type 0 where
  both_found : {m : List ℤ} → Agree (matched m) (found m)
  both-fail : Agree failed fail
  not-sure : Agree unsure fail

agree_same : (b : Bool) (m : List ℤ) → Agree (elim b [ true ↦ matched m | false ↦ failed ]) (elim b [ true ↦ found m | false ↦ fail ])
agree_same true m = both_found
agree_same false m = both-fail

agree-test : (y : Tested) (m : List ℤ)
    → Agree (elim y [ Holds ↦ matched m | Fails ↦ failed | Unsure ↦ unsure ]) (elim y [ Holds ↦ found m | Fails ↦ fail | Unsure ↦ fail ])
agree-test Holds m = both_found
agree-test Fails m = both-fail
agree-test Unsure m = not-sure

agree-guard : (x : Tables) (e : Exp) (y : Match) (f : Found) → Agree y f
    → Agree
    (elim y [
      | matched n ↦ elim (test x e n) [ Holds ↦ matched n | Fails ↦ failed | Unsure ↦ unsure ]
      | failed ↦ failed
      | unsure ↦ unsure
    ])
    (elim f [ fail ↦ fail | found n ↦ elim (test x e n) [ Holds ↦ found n | Fails ↦ fail | Unsure ↦ fail ] ])
agree-guard x e y f (both_found {m}) = agree-test (test x e m) m
agree-guard x e y f both-fail = both-fail
agree-guard x e y f not-sure = not-sure

agree : (x : Tables) (p : Pat) (z : ℤ) (m : List ℤ) → Agree (match x p z m) (match_of x z m p)
unfolding match match_of
agree x (any t) z m = both_found
agree x (bind v) z m = both_found
agree x (equals t k) z m = agree_same (same z k) m
agree x (guarded p e) z m = agree-guard x e (match x p z m) (match_of x z m p) (agree x p z m)

agree-found : {y : Match} {f : Found} {n : List ℤ} → Agree y f → y ≡ matched n → f ≡ found n
agree-found both_found e = cc
agree-found both-fail e = cc
agree-found not-sure e = cc

agree-fail : {y : Match} {f : Found} → Agree y f → y ≡ failed → f ≡ fail
agree-fail both_found e = cc
agree-fail both-fail e = refl
agree-fail not-sure e = refl

agree-matched : {y : Match} {f : Found} {n : List ℤ} → Agree y f → f ≡ found n → y ≡ matched n
agree-matched both_found e = cc
agree-matched both-fail e = cc
agree-matched not-sure e = cc

module _ (x : Tables) (p : Pat) (z : ℤ) (m : List ℤ) where
  pub match-found : (n : List ℤ) → match x p z m ≡ matched n → match_of x z m p ≡ found n
  match-found n e = agree-found (agree x p z m) e

  pub match-fail : match x p z m ≡ failed → match_of x z m p ≡ fail
  match-fail e = agree-fail (agree x p z m) e

  pub found-match : (n : List ℤ) → match_of x z m p ≡ found n → match x p z m ≡ matched n
  found-match n e = agree-matched (agree x p z m) e

-- an offer of a value accepts the value
pub emits : (x : Tables) (e : Exp) (z : ℤ) (m : List ℤ) → eval x e m ≡ Some z → accept x z m (emit e) ≡ found m
unfolding accept
emits x e z m q = rw (q, accept, same_refl z)

pub record Emitted (x : Tables) (e : Exp) (z : ℤ) (m n : List ℤ) : Type 0 where
  pub value : eval x e m ≡ Some z
  pub store : m ≡ n

pub emitted : (x : Tables) (e : Exp) (z : ℤ) (m n : List ℤ) → accept x z m (emit e) ≡ found n → Emitted x e z m n
unfolding accept
emitted x e z m n q = go (eval x e m) refl q
  where
    last : (a : ℤ) (b : Bool) → eval x e m ≡ Some a → same a z ≡ b → ◌≡◌ {A = Found} (elim b [ true ↦ found m | false ↦ fail ]) (found n)
        → Emitted x e z m n
    last a true h s r = record { value = rw (← (same-eq a z s)) h; store = cc }
    last a false h s r = let c : ◌≡◌ {A = ℕ} 0 1 = cc in absurd (omega arith)

    go : (y : Option ℤ) → eval x e m ≡ y
        → ◌≡◌ {A = Found} (elim y [ Some a ↦ elim (same a z) [ true ↦ found m | false ↦ fail ] | None ↦ fail ]) (found n) → Emitted x e z m n
    go (Some a) h r = last a (same a z) h refl r
    go None h r = let c : ◌≡◌ {A = ℕ} 0 1 = cc in absurd (omega arith)

-- ---- sums of labels
pub sum-none : (l : Label) → Sum l ε l
sum-none ε = refl
sum-none (on g vs) = refl

pub sum_first : (l k : Label) → spoken l ≡ false → Sum l k k
sum_first ε k e = refl
sum_first (on g vs) k e = let c : ◌≡◌ {A = ℕ} 0 1 = cc in absurd (omega arith)

pub sum-join : (k l₁ k₁ l₂ k₂ : Label) → Sum k l₁ k₁ → Sum k₁ l₂ k₂ → (l : Label) × Sum l₁ l₂ l × Sum k l k₂
sum-join ε l₁ k₁ l₂ k₂ p q = (k₂, subst (λ (j : Label). Sum j l₂ k₂) (sym p) q, refl)
sum-join (on g vs) ε k₁ l₂ k₂ p q = (l₂, refl, subst (λ (j : Label). Sum j l₂ k₂) (sym p) q)
sum-join (on g vs) (on h us) k₁ l₂ k₂ p q = absurd p

pub sum-part : (k l₁ l₂ l k₂ : Label) → Sum l₁ l₂ l → Sum k l k₂ → (k₁ : Label) × Sum k l₁ k₁ × Sum k₁ l₂ k₂
sum-part ε l₁ l₂ l k₂ p q = (l₁, refl, subst (λ (j : Label). Sum l₁ l₂ j) q p)
sum-part (on g vs) ε l₂ l k₂ p q = (on g vs, refl, subst (λ (j : Label). Sum (on g vs) j k₂) (sym p) q)
sum-part (on g vs) (on h us) ε l k₂ p q = absurd (subst (λ (j : Label). Sum (on g vs) j k₂) (sym p) q)
sum-part (on g vs) (on h us) (on i ws) l k₂ p q = absurd p

-- ---- one unit but for no row, and an assignment doesn't jump
pub toll-none : (r : ℕ) → r ≡ none → toll r ≡ 0
toll-none r e = rw e

pub toll-some : (r : ℕ) → (r ≡ none → ⊥) → toll r ≡ 1
toll-some r f = rw (ne_eqb r none f)

assign-ends : {x : Tables} {r : ℕ} {is : List Gets} {m n : List ℤ} {l : Label} {o : Next} → Does x (at r (assign is)) m l o n → o ≡ ended
assign-ends (d_assign p) = refl

pub assign-stays : {x : Tables} {r : ℕ} {is : List Gets} {m n : List ℤ} {l : Label} {q : State} → Does x (at r (assign is)) m l (onto q) n → ⊥
assign-stays d = let e = assign-ends d in let c : ◌≡◌ {A = ℕ} 0 1 = cc in omega arith
