-- What an image free of 1 to 9 gives those that run it. Assumes nothing.
use Rattle.std.specs.Prelude.{Ok}
use Rattle.model.specs.Answers.{Verdict}
use mathlib.Core.{Path.◌≡◌, Path.refl, Path.sym, Path.◌∙◌, List.List}
use Prim.Native.Nat.{ℕ, ◌≤◌, ◌<◌}
use native.Mathlib.Omega.{arith}
use lib.ListN.{length, get_or}
use Rattle.model.specs.declared.{Image.Image}
use Rattle.model.specs.Image.{trailer_of}
use Rattle.model.specs.Calls.{image_verdict}
use Rattle.image.specs.Located.{Located}
use Rattle.image.proofs.Laid.{laid}
use Rattle.image.proofs.Accepted.{accepted-located}
use Rattle.stages.specs.Judging.{Cleared}

pub located : {s : List ℕ} {i : Image} → Cleared s i → Located s i
located h = accepted-located h.trailer h.passed

-- an image whose verdict says so has a trailer, and is cleared with it
pub cleared-long : (s : List ℕ) {v : Verdict} → v ≡ image_verdict s → v ≡ Ok tt → 16 ≤ length s
cleared-long s f e = omega (arith, (laid (accepted-located refl (sym f ∙ e))).long)

pub to-cleared : {s : List ℕ} {i : Image} {v : Verdict} → ((j : ℕ) → get_or s j 0 < 256) → v ≡ image_verdict s → v ≡ Ok tt → i ≡ trailer_of s → Cleared s i
to-cleared b f e t = record { bytes = record { each = b }; trailer = t; passed = sym f ∙ e }
