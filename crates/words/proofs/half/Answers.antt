-- `words::half` meets its contract. Assumes nothing.
use native.Mathlib.Omega.{arith}
use Rattle.model.proofs.Bytes.{half_at-bytes}
use Rattle.words.proofs.half.Goals as goal

pub returns : goal.returns
returns c = rw half_at-bytes (omega (arith, c.from_le_bytes.ensures))
