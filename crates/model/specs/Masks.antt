-- Sets of variables and of states as masks (01, "What we are building": bit v for variable v). Assumes nothing.
use mathlib.Core.{Bool.Bool, List.List, List.[], List.◌∷◌, Path.◌≡◌}
use Rattle.std.specs.Prelude.{ℕ, zero, suc, ◌-◌, ◌/◌, ◌%◌, ◌^◌}
use lib.{Bits.bit_and, Bits.bit_or, Dec.eqb}

-- digit v, 0 or 1
unfoldable pub digit : ℕ → ℕ → ℕ
digit m zero = m % 2
digit m (suc v) = digit (m / 2) v

-- v is in m
abbrev pub Has : ℕ → ℕ → Type 0
Has m v = digit m v ≡ 1

abbrev pub has : ℕ → ℕ → Bool
has m v = eqb (digit m v) 1

-- just v
unfoldable pub bit : ℕ → ℕ
bit v = 2 ^ v

-- all below n
unfoldable pub full : ℕ → ℕ
full n = 2 ^ n - 1

-- intersection, union, difference
unfoldable pub meet : ℕ → ℕ → ℕ
meet a b = bit_and a b

unfoldable pub join : ℕ → ℕ → ℕ
join a b = bit_or a b

unfoldable pub without : ℕ → ℕ → ℕ
without a b = a - bit_and a b

unfoldable pub union : List ℕ → ℕ
union [] = 0
union (m ∷ ms) = join m (union ms)

-- each of a is in b
unfoldable pub inside : ℕ → ℕ → Bool
inside a b = eqb (meet a b) a

-- nothing is in both
unfoldable pub apart : ℕ → ℕ → Bool
apart a b = eqb (meet a b) 0
