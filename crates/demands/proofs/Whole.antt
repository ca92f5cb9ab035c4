-- An image of bytes that passes 1 to 9: its width, its types, its fields. Assumes nothing.
use Rattle.std.specs.Prelude.{Ok}
use mathlib.Core.{Path.◌≡◌, Path.refl, Bool.Bool, Bool.true, Bool.false, Bool.◌&&◌, List.List, List.[], List.◌∷◌}
use Prim.Native.Nat.{ℕ, zero, suc, ◌+◌, ◌*◌, ◌≤◌, ◌<◌}
use native.Mathlib.Omega.{arith}
use lib.{Dec.eqb, Dec.leb, Dec.ltb, ListN.length, ListN.get_or, ListN.get_or-eq_default}
use borrow.Author.Tests.{ltb-true, ltb-false, leb-true, eqb-true}
use Rattle.model.specs.declared.{Fields.Fields, Image.Image}
use Rattle.model.specs.Bytes.{half_at}
use Rattle.model.specs.Lists.{table}
use Rattle.model.specs.Image.{Tables, Entry, bool, int, fields_at, fields_of, trailer_of, tables_of, row_count, others_fit, sizes_fit, entries_fit, entries_right}
use Rattle.model.specs.Calls.{image_verdict}
use Rattle.model.proofs.Rows.{both_true}
use Rattle.model.proofs.Bytes.{half_at-bytes, get_or-table, length-table}
use Rattle.model.proofs.Passed.{Free, passed}
use Rattle.demands.specs.Common.{AreBytes}

-- two bytes a field
pub record Small (w : Fields) : Type 0 where
  pub a : w.a < 65536
  pub b : w.b < 65536
  pub c : w.c < 65536

pub record Whole (x : Tables) : Type 0 where
  pub free : Free x
  pub half : x.half ≡ 32768
  pub small : (r : ℕ) → Small (fields_of x r)

half-small : (s : List ℕ) → AreBytes s → (i : ℕ) → half_at s i < 65536
half-small s b i = omega (arith, half_at-bytes s i, b.each i, b.each (i + 1))

small_at : (s : List ℕ) → AreBytes s → (r : ℕ) → Small (fields_of (tables_of s) r)
unfolding tables_of
small_at s b r = go (ltb r (row_count i)) refl
  where
    i : Image
    i = trailer_of s

    f : ℕ → Fields
    f k = fields_at s (i.rows + 8 * k)

    d : Fields
    d = record { code = 0; a = 0; b = 0; c = 0 }

    at : (k : ℕ) → Small (fields_at s k)
    at k = record { a = half-small s b (k + 2); b = half-small s b (k + 4); c = half-small s b (k + 6) }

    go : (t : Bool) → ltb r (row_count i) ≡ t → Small (get_or (table f 0 (row_count i)) r d)
    go true e = rw (get_or-table f 0 (row_count i) r d (ltb-true r (row_count i) e)) (at (i.rows + 8 * (0 + r)))
    go false e =
        rw (get_or-eq_default (table f 0 (row_count i)) d {n = r} (omega (arith, length-table f 0 (row_count i), ltb-false r (row_count i) e)))
        (record { a = omega arith; b = omega arith; c = omega arith })

pub whole : (s : List ℕ) → AreBytes s → image_verdict s ≡ Ok tt → Whole (tables_of s)
unfolding tables_of
whole s b e = record { free = (passed s e).free; half = refl; small = small_at s b }

-- the numbers of values: bool 2, int 0, others 1 to 4,096
pub record Sized (ns : List ℕ) : Type 0 where
  pub two : 2 ≤ length ns
  pub bools : get_or ns bool 0 ≡ 2
  pub ints : get_or ns int 0 ≡ 0
  pub few : (t : ℕ) → get_or ns t 0 ≤ 4096
  pub only : (t : ℕ) → t < length ns → get_or ns t 0 ≡ 0 → t ≡ int

others-few : (ns : List ℕ) → others_fit ns ≡ true → (t : ℕ) → get_or ns t 0 ≤ 4096
unfolding others_fit
others-few [] e t = omega arith
others-few (n ∷ ns) e zero = let p = both_true (leb 1 n && leb n 4096) _ e in leb-true n 4096 (both_true (leb 1 n) _ p.0).1
others-few (n ∷ ns) e (suc t) = others-few ns (both_true (leb 1 n && leb n 4096) _ e).1 t

others-some : (ns : List ℕ) → others_fit ns ≡ true → (t : ℕ) → t < length ns → get_or ns t 0 ≡ 0 → ⊥
unfolding others_fit
others-some [] e t h z = omega arith
others-some (n ∷ ns) e zero h z =
    let p = both_true (leb 1 n && leb n 4096) _ e in
    let q = leb-true 1 n (both_true (leb 1 n) _ p.0).0 in
    omega arith
others-some (n ∷ ns) e (suc t) h z = others-some ns (both_true (leb 1 n && leb n 4096) _ e).1 t (omega arith) z

sized : (ns : List ℕ) → sizes_fit ns ≡ true → Sized ns
unfolding sizes_fit
sized [] e = let z : ◌≡◌ {A = ℕ} 0 1 = cc in absurd (omega arith)
sized (m ∷ []) e = let z : ◌≡◌ {A = ℕ} 0 1 = cc in absurd (omega arith)
sized (m ∷ n ∷ ns) e =
    let p = both_true (eqb m 2) _ e in
    let q = both_true (eqb n 0) (others_fit ns) p.1 in
    let a = eqb-true m 2 p.0 in
    let b = eqb-true n 0 q.0 in
    record { two = omega arith; bools = a; ints = b; few = few a b q.1; only = only a q.1 }
  where
    few : m ≡ 2 → n ≡ 0 → others_fit ns ≡ true → (t : ℕ) → get_or (m ∷ n ∷ ns) t 0 ≤ 4096
    few a b o zero = omega arith
    few a b o (suc zero) = omega arith
    few a b o (suc (suc t)) = others-few ns o t

    only : m ≡ 2 → others_fit ns ≡ true → (t : ℕ) → t < length (m ∷ n ∷ ns) → get_or (m ∷ n ∷ ns) t 0 ≡ 0 → t ≡ 1
    only a o zero h z = absurd (omega arith)
    only a o (suc zero) h z = refl
    only a o (suc (suc t)) h z = absurd (others-some ns o t (omega arith) z)

pub sizes-of : (x : Tables) → Free x → Sized x.sizes
unfolding entries_right
sizes-of x f = sized x.sizes (both_true (sizes_fit x.sizes) _ f.entries).0

-- the variables' entries
pub record Typed (n : ℕ) (e : Entry) : Type 0 where
  pub type : e.type < n
  pub parameter : e.parameter ≤ 1

entries-typed : (n : ℕ) (es : List Entry) (d : Entry) → entries_fit n es ≡ true → (v : ℕ) → v < length es → Typed n (get_or es v d)
unfolding entries_fit
entries-typed n [] d e v h = absurd (omega arith)
entries-typed n (y ∷ es) d e zero h =
    let p = both_true (ltb y.type n) _ e in
    record { type = ltb-true _ n p.0; parameter = leb-true _ 1 (both_true (leb y.parameter 1) _ p.1).0 }
entries-typed n (y ∷ es) d e (suc v) h =
    let p = both_true (ltb y.type n) _ e in
    entries-typed n es d (both_true (leb y.parameter 1) _ p.1).1 v (omega arith)

pub entry-of : (x : Tables) → Free x → (v : ℕ) → v < length x.variables
    → Typed (length x.sizes) (get_or x.variables v (record { type = 0; parameter = 0 }))
unfolding entries_right
entry-of x f v h =
    entries-typed (length x.sizes) x.variables (record { type = 0; parameter = 0 }) (both_true (sizes_fit x.sizes) _ f.entries).1 v h
