-- The ways of both modes as six bits of a byte. Assumes nothing.
use mathlib.Core.{Path.◌≡◌, Path.ap, Path.◌∙◌}
use Prim.Native.Nat.{ℕ}
use Rattle.model.specs.Speech.{Ways}
use Rattle.speech.specs.Both.{two, unpacked_ways, unpacked, Packed}

-- mode by mode
pub pair : {a b c d : Ways} → a ≡ c → b ≡ d → two a b ≡ two c d
pair p q = rw (p, q)

pub packed-both : (n m : ℕ) (q s : Ways) → Packed m s 0 → Packed n q m → unpacked n ≡ two q s
unfolding unpacked
packed-both n m q s p r = pair r.low (ap unpacked_ways r.high ∙ p.low)
