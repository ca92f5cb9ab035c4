-- `Every` and the test of each element; a refused row is the lowest that the judgement refuses. Assumes nothing.
use Rattle.std.specs.Prelude.{Err}
use mathlib.Core.{Path.◌≡◌, Path.refl, Path.sym, Path.◌∙◌, Bool.Bool, Bool.true, Bool.false, Bool.◌&&◌, Bool.false≢true, List.List, List.[], List.◌∷◌, List.map}
use Prim.Native.Nat.{ℕ, zero, suc, ◌<◌, ◌≤◌}
use native.Mathlib.Omega.{arith}
use lib.Dec.{leb}
use borrow.Author.Tests.{leb-false}
use Rattle.model.specs.declared.{Refusal.Refusal}
use Rattle.model.specs.Lists.{all}
use Rattle.model.specs.Answers.{lowest, each, unless}
use Rattle.model.proofs.Rows.{both_true}
use Rattle.model.proofs.Order.{lowest-full, lowest-below, lowest-least, each-refuses}
use Rattle.demands.specs.Common.{Iff, Every, none_left, one_more, Lowest}

pub and_both : (a b : Bool) → a ≡ true → b ≡ true → (a && b) ≡ true
and_both true true p q = refl
and_both true false p q = q
and_both false b p q = p

pub every-all : {A : Type 0} {P : A → Type 0} {l : List A} (p : A → Bool) → ((a : A) → P a → p a ≡ true) → Every P l → all p l ≡ true
unfolding all
every-all p f none_left = refl
every-all p f (one_more {a} {l} h hs) = and_both (p a) (all p l) (f a h) (every-all p f hs)

-- what holds of each, and the test of each
pub all-every : {A : Type 0} {P Q : A → Type 0} (p : A → Bool) (l : List A) → ((a : A) → P a → p a ≡ true → Q a) → Every P l → all p l ≡ true → Every Q l
unfolding all
all-every p [] f none_left e = none_left
all-every p (a ∷ l) f (one_more h hs) e =
    let q = both_true (p a) (all p l) e in
    one_more (f a h q.0) (all-every p l f hs q.1)

pub all-passes : {A : Type 0} {Q : A → Type 0} (p : A → Bool) (l : List A) → ((a : A) → p a ≡ true → Q a) → all p l ≡ true → Every Q l
unfolding all
all-passes p [] f e = none_left
all-passes p (a ∷ l) f e =
    let q = both_true (p a) (all p l) e in
    one_more (f a q.0) (all-passes p l f q.1)

pub every_map : {A B : Type 0} {P : A → Type 0} {Q : B → Type 0} (g : A → B) {l : List A} → ((a : A) → P a → Q (g a)) → Every P l → Every Q (map g l)
every_map g f none_left = none_left
every_map g f (one_more {a} h hs) = one_more (f a h) (every_map g f hs)

-- what each refuses
pub record Refuses (p : ℕ → Bool) (n : ℕ) (f : ℕ → Refusal) (y : Refusal) : Type 0 where
  pub k : ℕ
  pub is : y ≡ f k
  pub row : k < n
  pub below : (i : ℕ) → i < k → p i ≡ true
  pub fails : p k ≡ false

pub each-refused : (p : ℕ → Bool) (n : ℕ) (f : ℕ → Refusal) (y : Refusal) → each p n f ≡ Err y → Refuses p n f y
unfolding each
each-refused p n f y e = go (leb n (lowest p n)) refl e
  where
    go : (b : Bool) → leb n (lowest p n) ≡ b → unless b (f (lowest p n)) ≡ Err y → Refuses p n f y
    go true e q = let z : ◌≡◌ {A = ℕ} 0 1 = cc in absurd (omega arith)
    go false e q =
        let l = leb-false n (lowest p n) e in
        record { k = lowest p n; is = cc; row = l; below = lowest-below p n; fails = lowest-least p n l }

-- ---- a test p of each row below n, and a judgement P that agrees with it where P holds of all lower rows
module _ (p : ℕ → Bool) (P : ℕ → Type 0) (n : ℕ) (agree : (r : ℕ) → r < n → ((i : ℕ) → i < r → P i) → Iff (P r) (p r ≡ true)) where
  holds_by : (k r : ℕ) → r < k → k ≤ n → ((i : ℕ) → i < k → p i ≡ true) → P r
  holds_by zero r h l f = absurd (omega arith)
  holds_by (suc k) r h l f =
      (agree r (omega arith) (λ i b. holds_by k i (omega arith) (omega arith) (λ j c. f j (omega arith)))).back (f r h)

  pub all-agree : Iff ((r : ℕ) → r < n → p r ≡ true) ((r : ℕ) → r < n → P r)
  all-agree = record {
    on = λ f r h. holds_by n r h (omega arith) f;
    back = λ f r h. (agree r h (λ i b. f i (omega arith))).on (f r h);
  }

  is_false : (b : Bool) → (b ≡ true → ⊥) → b ≡ false
  is_false true f = absurd (f refl)
  is_false false f = refl

  pub lowest-refused : (f : ℕ → Refusal) (r : ℕ) → Lowest P n r → each p n f ≡ Err (f r)
  lowest-refused f r l =
      each-refuses p n f r (lowest-full p r (λ i h. (agree i (omega (arith, l.row)) (λ j b. l.below j (omega arith))).on (l.below i h)))
      l.row (is_false (p r) (λ e. l.fails ((agree r l.row l.below).back e)))

  pub refused-lowest : (r : ℕ) → r < n → ((i : ℕ) → i < r → p i ≡ true) → p r ≡ false → Lowest P n r
  refused-lowest r h b e =
      let low : (i : ℕ) → i < r → P i = λ i l. holds_by r i l (omega arith) b in
      record { row = h; below = low; fails = λ t. false≢true (sym e ∙ (agree r h low).on t) }
