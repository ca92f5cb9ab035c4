-- One law for each way of the code of 1 to 4. Assumes nothing.
use Rattle.std.specs.Prelude.{Ok, Err}
use mathlib.Core.{Path.◌≡◌, Path.refl, Path.sym, Path.ap, Path.◌∙◌, Bool.Bool, Bool.true, Bool.false, Bool.◌&&◌, List.List, List.[], List.◌∷◌}
use Prim.Native.Nat.{ℕ, zero, suc, ◌+◌, ◌-◌, ◌/◌, ◌%◌, ◌≤◌, ◌<◌}
use native.Mathlib.{Omega.arith, Numerals.add-one}
use lib.{Dec.eqb, Dec.leb, Dec.ltb, ListN.length, ListN.get_or, ListN.drop, Seq.drop-cons, ListN.drop_of_length-le}
use borrow.Author.Tests.{le-leb, lt-leb, eq-eqb, ne_eqb, leb-true, eqb-true}
use Rattle.std.proofs.Math.Bool.{and_assoc}
use Rattle.std.specs.List.{list_all, range_with_len}
use Rattle.model.specs.declared.{Image.Image, Refusal.TheVariants.ImageLength, Refusal.TheVariants.MarkOrLength, Refusal.TheVariants.Starts, Refusal.TheVariants.Entries}
use Rattle.model.specs.Answers.{after, unless}
use Rattle.model.specs.Image.{Entry, length_fits, marked, trailer_of, table_fits, starts_fit, others_fit, sizes_fit, entries_fit, entries_right, tables_of, size_of}
use Rattle.image.proofs.Laid.{laid, types-count}
use Rattle.model.proofs.Rows.{both_true}
use Rattle.image.specs.Located.{Located, TypeOf, header_verdict}

-- 1
pub short : (s : List ℕ) → length s < 38 → false ≡ length_fits s
unfolding length_fits
short s h = rw (lt-leb 38 (length s) h)

pub not_short : (s : List ℕ) → 38 ≤ length s → leb (length s) 16816 ≡ length_fits s
unfolding length_fits
not_short s h = rw (le-leb 38 (length s) h)

pub long-enough : (s : List ℕ) → length_fits s ≡ true → 38 ≤ length s
unfolding length_fits
long-enough s e = leb-true 38 (length s) (both_true (leb 38 (length s)) _ e).0

-- 2
module _ (s : List ℕ) where
  pub mark-first : (get_or s (length s - 2) 0 ≡ 78 → ⊥) → false ≡ marked s
  unfolding marked
  mark-first f = rw (ne_eqb (get_or s (length s - 2) 0) 78 f)

  pub mark-second : get_or s (length s - 2) 0 ≡ 78 → (get_or s (length s - 1) 0 ≡ 84 → ⊥) → false ≡ marked s
  unfolding marked
  mark-second e f = rw (eq-eqb (get_or s (length s - 2) 0) 78 e, ne_eqb (get_or s (length s - 1) 0) 84 f)

  pub mark-length : get_or s (length s - 2) 0 ≡ 78 → get_or s (length s - 1) 0 ≡ 84 → eqb (trailer_of s).length (length s) ≡ marked s
  unfolding marked
  mark-length e f = rw (eq-eqb (get_or s (length s - 2) 0) 78 e, eq-eqb (get_or s (length s - 1) 0) 84 f)

-- 3
module _ (start last size least most : ℕ) where
  pub table-order : last < start → false ≡ table_fits start last size least most
  unfolding table_fits
  table-order h = rw (lt-leb start last h)

  pub table-part : start ≤ last → ((last - start) % size ≡ 0 → ⊥) → false ≡ table_fits start last size least most
  unfolding table_fits
  table-part h f = rw (le-leb start last h, ne_eqb ((last - start) % size) 0 f)

  pub table-few : start ≤ last → (last - start) % size ≡ 0 → (last - start) / size < least → false ≡ table_fits start last size least most
  unfolding table_fits
  table-few h e l = rw (le-leb start last h, eq-eqb ((last - start) % size) 0 e, lt-leb least ((last - start) / size) l)

  pub table-many : start ≤ last → (last - start) % size ≡ 0 → least ≤ (last - start) / size
      → leb ((last - start) / size) most ≡ table_fits start last size least most
  unfolding table_fits
  table-many h e l = rw (le-leb start last h, eq-eqb ((last - start) % size) 0 e, le-leb least ((last - start) / size) l)

-- a chain of tests
pub chain-1 : (a b : Bool) → a ≡ false → false ≡ (a && b)
chain-1 a b e = rw e

pub chain-2 : (a b : Bool) → a ≡ true → false ≡ b → false ≡ (a && b)
chain-2 a b e f = rw e f

-- 4
abbrev pub no_entry : Entry
no_entry = record { type = 0; parameter = 0 }

pub others-turn : (l : List ℕ) (t : ℕ) → t < length l → others_fit (drop t l) ≡ (leb 1 (get_or l t 0) && leb (get_or l t 0) 4096 && others_fit (drop (t + 1) l))
unfolding others_fit
others-turn l t h = rw (drop-cons l t 0 h, add-one)

pub others-end : (l : List ℕ) (t : ℕ) → length l ≤ t → others_fit (drop t l) ≡ true
unfolding others_fit
others-end l t h = rw (drop_of_length-le l {i = t} h)

pub entries-turn : (n : ℕ) (l : List Entry) (v : ℕ) (d : Entry) → v < length l
    → entries_fit n (drop v l) ≡ (ltb (get_or l v d).type n && (leb (get_or l v d).parameter 1 && entries_fit n (drop (v + 1) l)))
unfolding entries_fit
entries-turn n l v d h = rw (drop-cons l v d h, add-one)

pub entries-end : (n : ℕ) (l : List Entry) (v : ℕ) → length l ≤ v → entries_fit n (drop v l) ≡ true
unfolding entries_fit
entries-end n l v h = rw (drop_of_length-le l {i = v} h)

-- "all of so many numbers from t on", as the tables' own recursion says it
pub others-all : (l : List ℕ) (k t : ℕ) → t + k ≡ length l → list_all (λ j. leb 1 (get_or l j 0) && leb (get_or l j 0) 4096) (range_with_len t k) ≡ others_fit (drop t l)
others-all l zero t e = sym (others-end l t (omega arith))
others-all l (suc k) t e = rw (others-turn l t (omega arith), ← others-all l k (t + 1) (omega arith)) refl

pub entries-all : (n : ℕ) (l : List Entry) (k v : ℕ) → v + k ≡ length l
    → list_all (λ j. ltb (get_or l j no_entry).type n && leb (get_or l j no_entry).parameter 1) (range_with_len v k) ≡ entries_fit n (drop v l)
entries-all n l zero v e = sym (entries-end n l v (omega arith))
entries-all n l (suc k) v e = rw (entries-turn n l v no_entry (omega arith), ← entries-all n l k (v + 1) (omega arith)) (and_assoc (ltb (get_or l v no_entry).type n) (leb (get_or l v no_entry).parameter 1) _)

-- a call's answer that was tested
pub passes : {r t : Bool} → r ≡ t → r ≡ true → t ≡ true
passes e f = sym e ∙ f

pub fails : {r t : Bool} → r ≡ t → r ≡ false → t ≡ false
fails e f = sym e ∙ f

pub chain-last : (a b c : Bool) → a ≡ true → c ≡ b → c ≡ (a && b)
chain-last a b c e f = rw e f

pub sizes-turn : (l : List ℕ) → 2 ≤ length l → sizes_fit l ≡ (eqb (get_or l 0 0) 2 && (eqb (get_or l 1 0) 0 && others_fit (drop 2 l)))
unfolding sizes_fit
sizes-turn [] h = absurd (omega arith)
sizes-turn (m ∷ []) h = absurd (omega arith)
sizes-turn (m ∷ n ∷ l) h = refl

module _ {s : List ℕ} {i : Image} (l : Located s i) where
  pub bool-type : TypeOf s i 0
  bool-type = record { located = l; inside = omega (arith, (laid l).types_least) }

  pub int-type : TypeOf s i 1
  int-type = record { located = l; inside = omega (arith, (laid l).types_least) }

  two-types : 2 ≤ length (tables_of s).sizes
  two-types = omega (arith, types-count l, (laid l).types_least)

  pub sizes-bool : {k : ℕ} → k ≡ size_of (tables_of s) 0 → (k ≡ 2 → ⊥) → false ≡ sizes_fit (tables_of s).sizes
  sizes-bool {k} e f = rw (sizes-turn (tables_of s).sizes two-types, ← e, ne_eqb k 2 f)

  pub sizes-int : {k n : ℕ} → k ≡ size_of (tables_of s) 0 → k ≡ 2 → n ≡ size_of (tables_of s) 1 → (n ≡ 0 → ⊥) → false ≡ sizes_fit (tables_of s).sizes
  sizes-int {k} {n} e f g h = rw (sizes-turn (tables_of s).sizes two-types, ← e, eq-eqb k 2 f, ← g, ne_eqb n 0 h)

  pub sizes-others : {k n : ℕ} {b : Bool} → k ≡ size_of (tables_of s) 0 → k ≡ 2 → n ≡ size_of (tables_of s) 1 → n ≡ 0
      → b ≡ others_fit (drop 2 (tables_of s).sizes) → b ≡ sizes_fit (tables_of s).sizes
  sizes-others {k} {n} e f g h q = q ∙ sym (rw (sizes-turn (tables_of s).sizes two-types, ← e, eq-eqb k 2 f, ← g, eq-eqb n 0 h))

-- the order of 1 to 4
pub located : (s : List ℕ) (i : Image) → i ≡ trailer_of s → length_fits s ≡ true → marked s ≡ true → starts_fit i ≡ true → Located s i
located s i e a b c = record { trailer = e; long = a; marked = b; starts = c }

module _ (s : List ℕ) where
  pub header-1 : length_fits s ≡ false → Err ImageLength ≡ header_verdict s
  unfolding header_verdict after
  header-1 a = rw a

  pub header-2 : length_fits s ≡ true → marked s ≡ false → Err MarkOrLength ≡ header_verdict s
  unfolding header_verdict after
  header-2 a b = rw (a, b)

  pub header-3 : (i : Image) → i ≡ trailer_of s → length_fits s ≡ true → marked s ≡ true → starts_fit i ≡ false → Err Starts ≡ header_verdict s
  unfolding header_verdict after
  header-3 i e a b c = rw (a, b, ← e, c)

  right : (i : Image) → Located s i → header_verdict s ≡ unless (entries_right (tables_of s)) Entries
  unfolding header_verdict after
  right i l = rw (l.long, l.marked, ← l.trailer, l.starts)

  pub header-4 : (i : Image) → Located s i → sizes_fit (tables_of s).sizes ≡ false → Err Entries ≡ header_verdict s
  unfolding entries_right
  header-4 i l a = sym (right i l ∙ rw a)

  pub header-5 : (i : Image) → Located s i → sizes_fit (tables_of s).sizes ≡ true
      → entries_fit (length (tables_of s).sizes) (tables_of s).variables ≡ false → Err Entries ≡ header_verdict s
  unfolding entries_right
  header-5 i l a b = sym (right i l ∙ rw (a, b))

  pub header-6 : (i : Image) → Located s i → sizes_fit (tables_of s).sizes ≡ true
      → entries_fit (length (tables_of s).sizes) (tables_of s).variables ≡ true → Ok tt ≡ header_verdict s
  unfolding entries_right
  header-6 i l a b = sym (right i l ∙ rw (a, b))

  pub trailer-long : (i : Image) → i ≡ trailer_of s → length_fits s ≡ true → marked s ≡ true → 16 ≤ i.length
  unfolding marked
  trailer-long i e a b =
      let n = both_true (eqb (get_or s (length s - 2) 0) 78) _ b in
      let k = both_true (eqb (get_or s (length s - 1) 0) 84) _ n.1 in
      omega (arith, long-enough s a, ap (λ (j : Image). j.length) e, eqb-true (trailer_of s).length (length s) k.1)
