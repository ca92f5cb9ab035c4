-- The library's bytes of a number as the definitions say them, and signed words by their places. Assumes nothing.
use mathlib.Core.{Path.◌≡◌, Path.refl, Path.sym, Path.ap, Path.◌∙◌, Bool.Bool, Bool.true, Bool.false, Bool.cond, List.List}
use Prim.Native.Nat.{ℕ, zero, suc, ◌+◌, ◌-◌, ◌*◌, ◌/◌, ◌%◌, ◌^◌, ◌<◌, ◌≤◌}
use native.Mathlib.{Omega.arith, Nat.zero-add, Nat.pow-suc, Numerals.add-one}
use lib.{Dec.ltb, IntN.ℤ, IntN.pos, IntN.negsuc, Signed.mag, ListN.length, ListN.get_or, ListN.set, ListN.take, ListN.length-map, ListN.get_or-map}
use mir.{Syntax.w32, Val.to_z, Val.of_z, Val.sel}
use Rattle.std.proofs.Math.Nat.{div-one, div-div-eq-div-mul}
use Rattle.std.specs.Int.{byte_at, bytes_low_first}
use Rattle.model.specs.Bytes.{number_of, number_at, bytes_of, signed, unsigned, words_of, word_at, signed_words}
use Rattle.model.proofs.Bytes.{length-table, get_or-table, number_at-suc}
use Rattle.values.proofs.Held.{held, more-held}

-- bytes written
byte_at-is : (i n : ℕ) → byte_at i n ≡ n / 256 ^ i % 256
byte_at-is zero n = rw div-one
byte_at-is (suc i) n = refl

low_first : (i k n : ℕ) → bytes_low_first i k n ≡ bytes_of k (n / 256 ^ i)
unfolding bytes_of
low_first i zero n = refl
low_first i (suc k) n = rw (byte_at-is, low_first (suc i) k n, div-div-eq-div-mul, pow-suc)

pub le_bytes : (k n : ℕ) → bytes_low_first 0 k n ≡ bytes_of k n
le_bytes k n = low_first 0 k n ∙ ap (bytes_of k) (div-one n)

pub unsigned-is : (z : ℤ) → of_z w32 z ≡ unsigned (2 ^ 31) z
unsigned-is (pos n) = refl
unsigned-is (negsuc n) = refl

-- a signed word read
pub signed-is : (n : ℕ) → to_z w32 n ≡ signed (2 ^ 31) n
signed-is n = go (ltb n (2 ^ 31))
  where
    go : (b : Bool) → sel b (pos n) (negsuc (2 ^ 32 - suc n)) ≡ cond b (pos n) (negsuc (2 ^ 32 - suc n))
    go true = refl
    go false = refl

pub number_at-four : (s : List ℕ) (i : ℕ) → number_at 4 s i ≡ get_or s i 0 + get_or s (i + 1) 0 * 256 + get_or s (i + 2) 0 * 65536 + get_or s (i + 3) 0 * 16777216
unfolding number_of
number_at-four s i =
    let two : i + 2 ≡ suc (suc i) = omega arith in
    let three : i + 3 ≡ suc (suc (suc i)) = omega arith in
    rw (add-one, two, three, number_at-suc 3 s i, number_at-suc 2 s (suc i), number_at-suc 1 s (suc (suc i)), number_at-suc 0 s (suc (suc (suc i)))) (omega arith)

-- the words by their places
pub length-signed_words : (s : List ℕ) → length (signed_words s) ≡ length s / 4
unfolding signed_words words_of
length-signed_words s = length-map (words_of 4 s) (signed (2 ^ 31)) ∙ length-table _ 0 (length s / 4)

pub get_or-signed_words : (s : List ℕ) (i : ℕ) → i < length s / 4 → get_or (signed_words s) i (pos 0) ≡ word_at s i
unfolding signed_words words_of word_at
get_or-signed_words s i h =
    get_or-map (signed (2 ^ 31)) (words_of 4 s) i 0
    ∙ ap (signed (2 ^ 31)) (get_or-table (λ j. number_at 4 s (4 * j)) 0 (length s / 4) i 0 h ∙ ap (λ (j : ℕ). number_at 4 s (4 * j)) (zero-add i))

-- one more word read
pub read_step : (s : List ℕ) (w : List ℤ) (i : ℕ) {z : ℤ} → i < length w → 4 * i + 4 ≤ length s → mag z < 2 ^ 31 → z ≡ word_at s i
    → take i w ≡ take i (signed_words s) → take (i + 1) (set w i (held z)) ≡ take (i + 1) (signed_words s)
read_step s w i {z} p q m e f =
    let n : i < length s / 4 = omega arith in
    more-held (signed_words s) w i (rw length-signed_words n) p m (e ∙ sym (get_or-signed_words s i n)) f
