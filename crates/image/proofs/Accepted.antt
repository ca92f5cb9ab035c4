-- An image free of 1 to 9 is located. Assumes nothing.
use Rattle.std.specs.Prelude.{Ok}
use mathlib.Core.{Path.◌≡◌, List.List}
use Prim.Native.Nat.{ℕ}
use Rattle.model.specs.declared.{Image.Image}
use Rattle.model.specs.Image.{trailer_of}
use Rattle.model.specs.Calls.{image_verdict}
use Rattle.model.proofs.Passed.{passed}
use Rattle.image.specs.Located.{Located}

pub accepted-located : {s : List ℕ} {i : Image} → i ≡ trailer_of s → image_verdict s ≡ Ok tt → Located s i
accepted-located {s} e h =
    let p = passed s h in
    record { trailer = e; long = p.long; marked = p.marked; starts = rw e p.starts }
