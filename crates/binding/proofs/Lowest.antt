-- The entries of the rows, of the masks that are lent. Assumes nothing.
use mathlib.Core.{Path.◌≡◌, Path.ap, Path.◌∙◌, List.List}
use Prim.Native.Nat.{ℕ}
use native.Mathlib.Omega.{arith}
use lib.{ListN.take, ListN.length-take, Seq.get_or-take}
use Rattle.model.specs.declared.{Image.Image}
use Rattle.model.specs.Image.{row_count}
use Rattle.masks.specs.declared.Masks.{Masks}
use Rattle.masks.specs.Masks.{masks}
use Rattle.binding.specs.Bound.{Masked, Ruled}

-- the entries that the rows have
pub ruled-front : {s : List ℕ} {i : Image} {n : ℕ} {ms : List Masks} → Masked s i ms → n ≡ row_count i → Ruled s i (take n ms)
ruled-front {i = i} {ms = ms} m e = record {
  rooted = m.rooted;
  exact = rw e (record {
    use_row = λ r k. ap (λ (n : Masks). n.uses) (get_or-take (row_count i) ms r (masks 0 0 0) k) ∙ m.use_row r k;
    def_row = λ r k. ap (λ (n : Masks). n.defs) (get_or-take (row_count i) ms r (masks 0 0 0) k) ∙ m.def_row r k;
    size = simp length-take (omega (arith, m.size));
  });
}
