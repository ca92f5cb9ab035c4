-- Little-endian numbers and words in bytes (01, "What we are building", "The image"). Assumes nothing.
use mathlib.Core.{Bool.cond, List.List, List.[], List.◌∷◌, List.◌++◌, List.map}
use Rattle.std.specs.Prelude.{ℕ, zero, suc, ◌+◌, ◌-◌, ◌*◌, ◌/◌, ◌%◌, ◌^◌}
use lib.{Dec.ltb, IntN.ℤ, IntN.pos, IntN.negsuc, ListN.length, ListN.take, ListN.drop}
use Rattle.model.specs.Lists.{table}

-- the number that bytes say, the lowest first
unfoldable pub number_of : List ℕ → ℕ
number_of [] = 0
number_of (b ∷ bs) = b + 256 * number_of bs

-- the number of k bytes that starts at byte i
abbrev pub number_at : ℕ → List ℕ → ℕ → ℕ
number_at k s i = number_of (take k (drop i s))

-- a 16-bit number of the image
unfoldable pub half_at : List ℕ → ℕ → ℕ
half_at s i = number_at 2 s i

-- the k lowest bytes of a number
unfoldable pub bytes_of : ℕ → ℕ → List ℕ
bytes_of zero n = []
bytes_of (suc k) n = n % 256 ∷ bytes_of k (n / 256)

-- two's complement: h is half the number of values, 2 ^ 15 for 16 bits
abbrev pub signed : ℕ → ℕ → ℤ
signed h n = cond (ltb n h) (pos n) (negsuc (h + h - suc n))

abbrev pub unsigned : ℕ → ℤ → ℕ
unsigned h (pos n) = n
unsigned h (negsuc n) = h + h - suc n

-- the words of k bytes; a part word at the end isn't counted
unfoldable pub words_of : ℕ → List ℕ → List ℕ
words_of k s = table (λ i. number_at k s (k * i)) 0 (length s / k)

-- signed 32-bit word number i
unfoldable pub word_at : List ℕ → ℕ → ℤ
word_at s i = signed (2 ^ 31) (number_at 4 s (4 * i))

-- signed 32-bit words
unfoldable pub signed_words : List ℕ → List ℤ
signed_words s = map (signed (2 ^ 31)) (words_of 4 s)

-- words of k bytes written from byte 0 on; the bytes after them stay
unfoldable pub written : ℕ → List ℕ → List ℕ → List ℕ
written k [] s = s
written k (n ∷ ns) s = bytes_of k n ++ written k ns (drop k s)
