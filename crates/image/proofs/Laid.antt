-- Where the tables of a located image lie, and what its readers read. Assumes nothing.
use mathlib.Core.{Path.◌≡◌, Path.refl, Path.sym, Path.ap, Path.◌∙◌, Bool.true, List.List}
use Prim.Native.Nat.{ℕ, ◌+◌, ◌-◌, ◌*◌, ◌/◌, ◌%◌, ◌≤◌}
use native.Mathlib.Omega.{arith}
use lib.{Dec.eqb, Dec.leb, ListN.length, ListN.get_or}
use borrow.Author.Tests.{leb-true, eqb-true}
use Rattle.model.specs.declared.{Image.Image}
use Rattle.model.specs.Bytes.{half_at}
use Rattle.model.specs.Answers.{variable}
use Rattle.model.specs.Image.{none, length_fits, marked, trailer_of, table_fits, starts_fit, type_count, variable_count, state_count, row_count, rows_end, entry_at, fields_at, tables_of, size_of, entry_of, fields_of}
use Rattle.model.proofs.Rows.{both_true}
use Rattle.model.proofs.Bytes.{get_or-table, length-table}
use Rattle.image.specs.Located.{Located, RowOf, TypeOf, VariableOf, StateOf}

-- one table
pub record Fitted (start last size least most : ℕ) : Type 0 where
  pub order : start ≤ last
  pub exact : (last - start) % size ≡ 0
  pub low : least ≤ (last - start) / size
  pub high : (last - start) / size ≤ most

fitted : (start last size least most : ℕ) → table_fits start last size least most ≡ true → Fitted start last size least most
unfolding table_fits
fitted start last size least most e =
    let a = both_true (leb start last) _ e in
    let b = both_true (eqb ((last - start) % size) 0) _ a.1 in
    let c = both_true (leb least ((last - start) / size)) _ b.1 in
    record { order = leb-true _ _ a.0; exact = eqb-true _ _ b.0; low = leb-true _ _ c.0; high = leb-true _ _ c.1 }

-- the tables follow one another
pub record Laid (s : List ℕ) (i : Image) : Type 0 where
  pub exact : i.length ≡ length s
  pub long : 38 ≤ length s
  pub short : length s ≤ 16816
  pub types : i.types ≡ 0
  pub variables : i.variables ≡ 2 * type_count i
  pub states : i.states ≡ i.variables + 4 * variable_count i
  pub rows : i.rows ≡ i.states + 2 * state_count i
  pub ends : length s ≡ i.rows + 8 * row_count i + 16
  pub types_least : 2 ≤ type_count i
  pub types_most : type_count i ≤ 16
  pub variables_most : variable_count i ≤ 64
  pub states_least : 1 ≤ state_count i
  pub states_most : state_count i ≤ 64
  pub rows_least : 2 ≤ row_count i
  pub rows_most : row_count i ≤ 2048
  pub gates_least : 1 ≤ i.gates
  pub gates_most : i.gates ≤ 64

pub laid : {s : List ℕ} {i : Image} → Located s i → Laid s i
unfolding length_fits marked starts_fit
laid {s} {i} l =
    let m = both_true (leb 38 (length s)) _ l.long in
    let n = both_true (eqb (get_or s (length s - 2) 0) 0x4E) _ l.marked in
    let k = both_true (eqb (get_or s (length s - 1) 0) 0x54) _ n.1 in
    let len : i.length ≡ length s = ap (λ (j : Image). j.length) l.trailer ∙ eqb-true (trailer_of s).length (length s) k.1 in
    let a = both_true (eqb i.types 0) _ l.starts in
    let b = both_true (table_fits i.types i.variables 2 2 16) _ a.1 in
    let c = both_true (table_fits i.variables i.states 4 0 64) _ b.1 in
    let d = both_true (table_fits i.states i.rows 2 1 64) _ c.1 in
    let e = both_true (table_fits i.rows (rows_end i) 8 2 2048) _ d.1 in
    let g = both_true (leb 1 i.gates) _ e.1 in
    let low = leb-true 38 (length s) m.0 in
    let high = leb-true (length s) 16816 m.1 in
    let z = eqb-true i.types 0 a.0 in
    let t = fitted i.types i.variables 2 2 16 b.0 in
    let v = fitted i.variables i.states 4 0 64 c.0 in
    let q = fitted i.states i.rows 2 1 64 d.0 in
    let r = fitted i.rows (rows_end i) 8 2 2048 e.0 in
    record {
      exact = len;
      long = low;
      short = high;
      types = z;
      variables = omega arith;
      states = omega arith;
      rows = omega arith;
      ends = omega arith;
      types_least = t.low;
      types_most = t.high;
      variables_most = v.high;
      states_least = q.low;
      states_most = q.high;
      rows_least = r.low;
      rows_most = r.high;
      gates_least = leb-true 1 i.gates g.0;
      gates_most = leb-true i.gates 64 g.1;
    }

-- what is read, and that it is inside the image
pub row_inside : {s : List ℕ} {i : Image} {r : ℕ} → RowOf s i r → i.rows + r * 8 + 8 ≤ length s
row_inside h = let l = laid h.located in omega (arith, l.ends, h.inside)

pub row_read : {s : List ℕ} {i : Image} {r : ℕ} → RowOf s i r → fields_of (tables_of s) r ≡ fields_at s (i.rows + r * 8)
unfolding tables_of
row_read {s} {i} {r} h =
    let t = trailer_of s in
    let e = h.located.trailer in
    get_or-table (λ k. fields_at s (t.rows + 8 * k)) 0 (row_count t) r _ (rw e at h.inside)
    ∙ ap (fields_at s) (ap (λ (j : Image). j.rows + 8 * (0 + r)) (sym e) ∙ omega arith)

pub type-inside : {s : List ℕ} {i : Image} {t : ℕ} → TypeOf s i t → t * 2 + 2 ≤ length s
type-inside h = let l = laid h.located in omega (arith, l.variables, l.states, l.rows, l.ends, h.inside)

pub type-read : {s : List ℕ} {i : Image} {t : ℕ} → TypeOf s i t → size_of (tables_of s) t ≡ half_at s (t * 2)
unfolding tables_of
type-read {s} {i} {t} h =
    let j = trailer_of s in
    let e = h.located.trailer in
    let z : j.types ≡ 0 = ap (λ (k : Image). k.types) (sym e) ∙ (laid h.located).types in
    get_or-table (λ k. half_at s (j.types + 2 * k)) 0 (type_count j) t _ (rw e at h.inside) ∙ ap (half_at s) (omega arith)

pub variable-inside : {s : List ℕ} {i : Image} {v : ℕ} → VariableOf s i v → i.variables + v * 4 + 4 ≤ length s
variable-inside h = let l = laid h.located in omega (arith, l.states, l.rows, l.ends, h.inside)

pub variable-read : {s : List ℕ} {i : Image} {v : ℕ} → VariableOf s i v → entry_of (tables_of s) (variable v) ≡ entry_at s (i.variables + v * 4)
unfolding tables_of
variable-read {s} {i} {v} h =
    let j = trailer_of s in
    let e = h.located.trailer in
    get_or-table (λ k. entry_at s (j.variables + 4 * k)) 0 (variable_count j) v _ (rw e at h.inside)
    ∙ ap (entry_at s) (ap (λ (k : Image). k.variables + 4 * (0 + v)) (sym e) ∙ omega arith)

pub state-inside : {s : List ℕ} {i : Image} {q : ℕ} → StateOf s i q → i.states + q * 2 + 2 ≤ length s
state-inside h = let l = laid h.located in omega (arith, l.rows, l.ends, h.inside)

pub state-read : {s : List ℕ} {i : Image} {q : ℕ} → StateOf s i q → get_or (tables_of s).states q none ≡ half_at s (i.states + q * 2)
unfolding tables_of
state-read {s} {i} {q} h =
    let j = trailer_of s in
    let e = h.located.trailer in
    get_or-table (λ k. half_at s (j.states + 2 * k)) 0 (state_count j) q none (rw e at h.inside)
    ∙ ap (half_at s) (ap (λ (k : Image). k.states + 2 * (0 + q)) (sym e) ∙ omega arith)

-- the tables' sizes
pub rows-count : {s : List ℕ} {i : Image} → Located s i → length (tables_of s).rows ≡ row_count i
unfolding tables_of
rows-count {s} {i} l = length-table _ 0 (row_count (trailer_of s)) ∙ ap row_count (sym l.trailer)

pub types-count : {s : List ℕ} {i : Image} → Located s i → length (tables_of s).sizes ≡ type_count i
unfolding tables_of
types-count {s} {i} l = length-table _ 0 (type_count (trailer_of s)) ∙ ap type_count (sym l.trailer)

pub variables-count : {s : List ℕ} {i : Image} → Located s i → length (tables_of s).variables ≡ variable_count i
unfolding tables_of
variables-count {s} {i} l = length-table _ 0 (variable_count (trailer_of s)) ∙ ap variable_count (sym l.trailer)

pub states-count : {s : List ℕ} {i : Image} → Located s i → length (tables_of s).states ≡ state_count i
unfolding tables_of
states-count {s} {i} l = length-table _ 0 (state_count (trailer_of s)) ∙ ap state_count (sym l.trailer)

pub gates-count : {s : List ℕ} {i : Image} → Located s i → (tables_of s).gates ≡ i.gates
unfolding tables_of
gates-count l = ap (λ (j : Image). j.gates) (sym l.trailer)

pub condition-is : {s : List ℕ} {i : Image} → Located s i → (tables_of s).condition ≡ i.condition
unfolding tables_of
condition-is l = ap (λ (j : Image). j.condition) (sym l.trailer)

pub half_is : (s : List ℕ) → (tables_of s).half ≡ 32768
unfolding tables_of
half_is s = refl
