-- The number of parameters, and the store that an automaton starts with, variable by variable. Assumes nothing.
use mathlib.Core.{Path.◌≡◌, Path.refl, Path.sym, Path.ap, Path.◌∙◌, Bool.Bool, Bool.true, Bool.false, Bool.cond, List.List, List.[], List.◌∷◌, List.◌++◌, List.append-nil}
use Prim.Native.Nat.{ℕ, zero, suc, ◌+◌, ◌^◌, ◌≤◌, ◌<◌}
use native.Mathlib.{Omega.arith, Numerals.add-one, Nat.add-zero}
use lib.{Dec.eqb, IntN.ℤ, IntN.pos, Signed.mag, ListN.length, ListN.get_or, ListN.set, ListN.take, ListN.drop, ListN.take-append-drop, ListN.drop_of_length-le, Seq.take-suc, Seq.take_all, Seq.drop-cons, Seq.take-suc-set}
use borrow.Author.Tests.{eq-eqb, ne_eqb, eqb-true, eqb-false}
use Rattle.values.proofs.Held.{held, held-is}
use Rattle.model.specs.Values.{half16, mark}
use Rattle.model.specs.Image.{Entry, tables_of}
use Rattle.model.specs.Calls.{parameter_count, start_store, started}
use Rattle.image.proofs.Laid.{half_is}
use Rattle.starting.specs.Starting.{given_to}

abbrev no_entry : Entry
no_entry = record { type = 0; parameter = 0 }

-- n parameters below variable v
pub record Counted (es : List Entry) (v n : ℕ) : Type 0 where
  pub few : n ≤ v
  pub rest : n + parameter_count (drop v es) ≡ parameter_count es

pub counted_none : (es : List Entry) → Counted es 0 0
counted_none es = record { few = omega arith; rest = omega arith }

count_next : (es : List Entry) (v : ℕ) → v < length es → parameter_count (drop v es) ≡ (get_or es v no_entry).parameter + parameter_count (drop (v + 1) es)
unfolding parameter_count
count_next es v h = rw (add-one, drop-cons es v no_entry h)

pub counted_next : {es : List Entry} {v n : ℕ} (p : ℕ) → v < length es → p ≡ (get_or es v no_entry).parameter → p ≤ 1 → Counted es v n → Counted es (v + 1) (n + p)
counted_next {es} {v} p h e q c = record { few = omega (arith, c.few); rest = omega (arith, count_next es v h, c.rest, e) }

pub counted-all : {es : List Entry} {v n : ℕ} → length es ≤ v → Counted es v n → n ≡ parameter_count es
unfolding parameter_count
counted-all {es} {v} {n} h c = sym (add-zero n) ∙ ap (λ (l : List Entry). n + parameter_count l) (sym (drop_of_length-le es h)) ∙ c.rest

-- one variable
start_plain : (h : ℕ) (e : Entry) (es : List Entry) (l : List ℤ) → eqb e.parameter 1 ≡ false → start_store h (e ∷ es) l ≡ mark h ∷ start_store h es l
unfolding start_store
start_plain h e es [] q = refl
start_plain h e es (z ∷ l) q = rw (start_store, q)

start-given : (h : ℕ) (e : Entry) (es : List Entry) (z : ℤ) (l : List ℤ) → eqb e.parameter 1 ≡ true → start_store h (e ∷ es) (z ∷ l) ≡ z ∷ start_store h es l
unfolding start_store
start-given h e es z l q = rw (start_store, q)

start-next : (e : Entry) (es : List Entry) (zs : List ℤ) (k p : ℕ) → p ≡ e.parameter → p ≤ 1 → (p ≡ 1 → k < length zs)
    → start_store half16 (e ∷ es) (drop k zs) ≡ given_to p zs k ∷ start_store half16 es (drop (k + p) zs)
unfolding given_to
start-next e es zs k p f q given = go (eqb p 1) refl
  where
    go : (b : Bool) → eqb p 1 ≡ b → start_store half16 (e ∷ es) (drop k zs) ≡ cond b (get_or zs k (pos 0)) (mark half16) ∷ start_store half16 es (drop (k + p) zs)
    go true t =
        let one : p ≡ 1 = eqb-true p 1 t in
        let m : k + p ≡ suc k = omega arith in
        rw (m, drop-cons zs k (pos 0) (given one)) (start-given half16 e es _ _ (eq-eqb _ 1 (sym f ∙ one)))
    go false t =
        let none : k + p ≡ k = omega (arith, eqb-false p 1 t) in
        rw none (start_plain half16 e es (drop k zs) (ap (λ (n : ℕ). eqb n 1) (sym f) ∙ t))

head-drop : {A : Type 0} (l : List A) (j : ℕ) (d a : A) (r : List A) → drop j l ≡ a ∷ r → (get_or l j d ≡ a) × (drop (suc j) l ≡ r) × (j < length l)
head-drop [] zero d a r e = let q : ◌≡◌ {A = ℕ} 0 1 = cc in absurd (omega arith)
head-drop [] (suc j) d a r e = let q : ◌≡◌ {A = ℕ} 0 1 = cc in absurd (omega arith)
head-drop (x ∷ l) zero d a r e = (cc, cc, omega arith)
head-drop (x ∷ l) (suc j) d a r e = let h = head-drop l j d a r e in (h.0, h.1, omega (arith, h.2))

-- the store filled up to variable v with k of the values
pub record FilledTo (es : List Entry) (zs m : List ℤ) (v k : ℕ) : Type 0 where
  pub left : k + parameter_count (drop v es) ≡ length zs
  pub first : take v m ≡ take v (start_store half16 es zs)
  pub rest : drop v (start_store half16 es zs) ≡ start_store half16 (drop v es) (drop k zs)

pub filled_none : (es : List Entry) (zs m : List ℤ) → length zs ≡ parameter_count es → FilledTo es zs m 0 0
filled_none es zs m e = record { left = omega arith; first = refl; rest = refl }

module _ {es : List Entry} {zs m : List ℤ} {v k : ℕ} (p : ℕ) (h : v < length es) (e : p ≡ (get_or es v no_entry).parameter) (f : FilledTo es zs m v k) where
  pub given-there : p ≡ 1 → k < length zs
  given-there one = omega (arith, count_next es v h, f.left)

  pub filled_next : (z : ℤ) → p ≤ 1 → v < length m → z ≡ given_to p zs k → FilledTo es zs (set m v z) (v + 1) (k + p)
  filled_next z q n g =
      let store = start_store half16 es zs in
      let r : drop v store ≡ z ∷ start_store half16 (drop (suc v) es) (drop (k + p) zs) =
      f.rest ∙ ap (λ (l : List Entry). start_store half16 l (drop k zs)) (drop-cons es v no_entry h)
      ∙ start-next (get_or es v no_entry) (drop (suc v) es) zs k p e q given-there
      ∙ ap (λ (y : ℤ). y ∷ start_store half16 (drop (suc v) es) (drop (k + p) zs)) (sym g) in
      let t = head-drop store v (pos 0) z _ r in
      record {
        left = omega (arith, count_next es v h, f.left, e);
        first = rw (add-one) (take-suc-set m v z n ∙ ap (λ (l : List ℤ). l ++ (z ∷ [])) f.first
            ∙ ap (λ (y : ℤ). take v store ++ (y ∷ [])) (sym t.0) ∙ sym (take-suc store v (pos 0) t.2));
        rest = rw (add-one) t.1;
      }

pub filled-all : {es : List Entry} {zs m : List ℤ} {v k : ℕ} → length es ≤ v → length m ≤ v → FilledTo es zs m v k → m ≡ start_store half16 es zs
unfolding start_store
filled-all {es} {zs} {m} {v} {k} h n f =
    let store = start_store half16 es zs in
    let none : drop v store ≡ [] = f.rest ∙ ap (λ (l : List Entry). start_store half16 l (drop k zs)) (drop_of_length-le es h) in
    sym (take_all v m n) ∙ f.first ∙ sym (append-nil (take v store)) ∙ ap (λ (l : List ℤ). take v store ++ l) (sym none) ∙ take-append-drop v store

pub filled-started : (s : List ℕ) (zs : List ℤ) {m : List ℤ} → m ≡ start_store half16 (tables_of s).variables zs → m ≡ started (tables_of s) zs
filled-started s zs e = rw (half_is s) e

-- what one variable is given
pub given-value : (zs : List ℤ) {p : ℕ} (k : ℕ) → p ≡ 1 → mag (get_or zs k (pos 0)) < 2 ^ 31 → held (get_or zs k (pos 0)) ≡ given_to p zs k
unfolding given_to
given-value zs {p} k e h = rw (held-is (get_or zs k (pos 0)) h, eq-eqb p 1 e)

pub given-mark : (zs : List ℤ) {p : ℕ} (k : ℕ) → (p ≡ 1 → ⊥) → pos 65536 ≡ given_to p zs k
unfolding given_to
given-mark zs {p} k n = rw (ne_eqb p 1 n)
