-- The pass over the rows: each turn fills one row more. Assumes nothing.
use mathlib.Core.{Path.◌≡◌, Path.refl, Path.◌∙◌, List.List}
use Prim.Native.Nat.{ℕ, ◌+◌, ◌≤◌, ◌<◌}
use native.Mathlib.{Omega.arith, Decide.ℕ_discrete}
use lib.{ListN.length, ListN.get_or, ListN.set, ListN.length-set, Seq.get_or-set_same, Seq.get_or-set_other}
use Rattle.model.specs.declared.Image.{Image}
use Rattle.model.specs.Image.{Tables, tables_of, row_count}
use Rattle.image.proofs.Laid.{laid}
use Rattle.speech.specs.Both.{Both, unpacked}
use Rattle.speech.specs.Filled.{ways_at, Filled, Lent, Ready}

-- rows below r are filled in, of n rows in all
pub record Passing (s : List ℕ) (i : Image) (was : List ℕ) (n : ℕ) (ways : List ℕ) (r : ℕ) : Type 0 where
  pub count : n ≡ row_count i
  pub upto : r ≤ n
  pub size : length ways ≡ length was
  pub filled : Filled (tables_of s) r ways

pub begun : {s : List ℕ} {i : Image} {was : List ℕ} {n : ℕ} → n ≡ row_count i → Passing s i was n was 0
begun e = record { count = e; upto = omega arith; size = refl; filled = record { each = λ r h. absurd (omega arith) } }

fill_one : (x : Tables) (ways : List ℕ) (r v : ℕ) → Filled x r ways → r < length ways → unpacked v ≡ ways_at x r → Filled x (r + 1) (set ways r v)
fill_one x ways r v f h e = record { each = λ k l. go k l (ℕ_discrete k r) }
  where
    go : (k : ℕ) → k < r + 1 → Dec (k ≡ r) → unpacked (get_or (set ways r v) k 0) ≡ ways_at x k
    go k l (yes q) = rw (q, get_or-set_same ways r v 0 h) e
    go k l (no n) = rw (get_or-set_other ways r k v 0 n) (f.each k (omega arith))

module _ {s : List ℕ} {i : Image} {was : List ℕ} {n : ℕ} {ways : List ℕ} {r : ℕ} (lent : Lent s i was) (p : Passing s i was n ways r) where
  pub ready : r < n → Ready s i r ways
  ready h =
      record {
        lent = record { rooted = lent.rooted; room = omega (arith, lent.room, p.size) };
        inside = omega (arith, p.count);
        filled = p.filled;
      }

  pub in-ways : r < n → r < length ways
  in-ways h = omega (arith, lent.room, p.size, p.count)

  pub in-u16 : r < n → r + 1 < 65536
  in-u16 h = omega (arith, p.count, (laid lent.rooted.formed.located).rows_most)

  pub turned : (v : ℕ) {w : Both} → r < n → w ≡ ways_at (tables_of s) r → unpacked v ≡ w → Passing s i was n (set ways r v) (r + 1)
  turned v h e u =
      record {
        count = p.count;
        upto = omega arith;
        size = simp length-set p.size;
        filled = fill_one (tables_of s) ways r v p.filled (in-ways h) (u ∙ e);
      }

  pub ended : n ≤ r → Filled (tables_of s) (row_count i) ways
  ended h = let e : r ≡ row_count i = omega (arith, p.count, p.upto) in rw e at p.filled
