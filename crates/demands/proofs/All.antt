-- A predicate of each element of a list. Assumes nothing.
use mathlib.Core.{Path.◌≡◌, Bool.Bool, Bool.true, List.List, List.[], List.◌∷◌, List.map}
use Rattle.model.specs.Lists.{all}
use Rattle.model.proofs.Rows.{both_true}

pub data All {A : Type 0} (P : A → Type 0) : List A → Type 0 where
  nil : All P []
  cons : {a : A} {l : List A} → P a → All P l → All P (a ∷ l)

pub all_true : {A : Type 0} (p : A → Bool) (l : List A) → all p l ≡ true → All (λ a. p a ≡ true) l
unfolding all
all_true p [] e = nil
all_true p (a ∷ l) e = let q = both_true (p a) (all p l) e in cons q.0 (all_true p l q.1)

pub all-zip : {A : Type 0} {P Q R : A → Type 0} {l : List A} → ((a : A) → P a → Q a → R a) → All P l → All Q l → All R l
all-zip f nil nil = nil
all-zip f (cons {a} p ps) (cons q qs) = cons (f a p q) (all-zip f ps qs)

pub all_then : {A : Type 0} {P Q : A → Type 0} {l : List A} → ((a : A) → P a → Q a) → All P l → All Q l
all_then f nil = nil
all_then f (cons {a} p ps) = cons (f a p) (all_then f ps)

pub all_map : {A B : Type 0} {P : A → Type 0} {Q : B → Type 0} (g : A → B) {l : List A} → ((a : A) → P a → Q (g a)) → All P l → All Q (map g l)
all_map g f nil = nil
all_map g f (cons {a} p ps) = cons (f a p) (all_map g f ps)
