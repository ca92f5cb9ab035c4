-- Laws of tables, of tests of each element, and of numbers and words in bytes. Assumes nothing.
use mathlib.Core.{Path.◌≡◌, Path.refl, Path.ap, Bool.Bool, Bool.true, Bool.false, Bool.cond, Bool.and-eq-true_iff, List.List, List.[], List.◌∷◌}
use Prim.Native.Nat.{ℕ, zero, suc, ◌+◌, ◌-◌, ◌*◌, ◌/◌, ◌^◌, ◌<◌}
use native.Mathlib.{Nat.add-zero, Nat.add-suc, Nat.suc-add, Nat.pow-suc, Nat.zero-lt-suc, Nat.div-lt_iff_lt-mul, Numerals.add-one, Omega.arith}
use lib.{Dec.ltb, IntN.ℤ, IntN.pos, IntN.negsuc, Signed.mag, ListN.length, ListN.get_or, Seq.drop-nil, Seq.take-nil}
use borrow.Author.Tests.{lt-ltb, le-ltb}
use Rattle.model.specs.Lists.{table, all}
use Rattle.model.specs.Bytes.{number_of, number_at, half_at, bytes_of, signed, unsigned}
use Rattle.model.proofs.Values.{round-in}

pub length-table : {A : Type 0} (f : ℕ → A) (i n : ℕ) → length (table f i n) ≡ n
unfolding table
length-table f i zero = refl
length-table f i (suc n) = ap suc (length-table f (suc i) n)

pub get_or-table : {A : Type 0} (f : ℕ → A) (i n k : ℕ) (d : A) → k < n → get_or (table f i n) k d ≡ f (i + k)
unfolding table
get_or-table f i zero k d h = absurd (omega arith)
get_or-table f i (suc n) zero d h = rw add-zero
get_or-table f i (suc n) (suc k) d h = rw (add-suc, ← suc-add) (get_or-table f (suc i) n k d (omega arith))

pub all-each : {A : Type 0} (p : A → Bool) (l : List A) (d : A) → all p l ≡ true → (k : ℕ) → k < length l → p (get_or l k d) ≡ true
unfolding all
all-each p [] d e k h = absurd (omega arith)
all-each p (a ∷ l) d e zero h = ((and-eq-true_iff (p a) (all p l)).0 e).0
all-each p (a ∷ l) d e (suc k) h = all-each p l d ((and-eq-true_iff (p a) (all p l)).0 e).1 k (omega arith)

-- a number's lowest byte, and the number of the others
pub number_at-suc : (k : ℕ) (s : List ℕ) (i : ℕ) → number_at (suc k) s i ≡ get_or s i 0 + 256 * number_at k s (suc i)
unfolding number_of
number_at-suc k [] i = rw (drop-nil, take-nil)
number_at-suc k (b ∷ s) zero = refl
number_at-suc k (b ∷ s) (suc i) = number_at-suc k s i

pub half_at-bytes : (s : List ℕ) (i : ℕ) → half_at s i ≡ get_or s i 0 + 256 * get_or s (i + 1) 0
unfolding half_at number_of
half_at-bytes s i = rw (add-one, number_at-suc 1 s i, number_at-suc 0 s (suc i)) (omega arith)

pub length-bytes_of : (k n : ℕ) → length (bytes_of k n) ≡ k
unfolding bytes_of
length-bytes_of zero n = refl
length-bytes_of (suc k) n = ap suc (length-bytes_of k (n / 256))

pub number-bytes : (k n : ℕ) → n < 256 ^ k → number_of (bytes_of k n) ≡ n
unfolding bytes_of number_of
number-bytes zero n h = omega arith
number-bytes (suc k) n h =
    rw (number-bytes k (n / 256) ((div-lt_iff_lt-mul (zero-lt-suc 255)).1 (rw pow-suc at h))) (omega arith)

-- k bytes say less than 256 ^ k
pub number_at-in : (k : ℕ) (s : List ℕ) (i : ℕ) → ((j : ℕ) → get_or s j 0 < 256) → number_at k s i < 256 ^ k
unfolding number_of
number_at-in zero s i b = omega arith
number_at-in (suc k) s i b = rw number_at-suc (omega (arith, b i, number_at-in k s (suc i) b))

pub signed-in : (h n : ℕ) → n < h + h → mag (signed h n) < h
signed-in h n p = round-in h n true p

unsigned_by : (h n : ℕ) (t : Bool) → n < h + h → unsigned h (cond t (pos n) (negsuc (h + h - suc n))) ≡ n
unsigned_by h n true p = refl
unsigned_by h n false p = omega arith

pub unsigned_signed : (h n : ℕ) → n < h + h → unsigned h (signed h n) ≡ n
unsigned_signed h n p = unsigned_by h n (ltb n h) p

pub signed-unsigned : (h : ℕ) (z : ℤ) → mag z < h → signed h (unsigned h z) ≡ z
signed-unsigned h (pos n) p = rw (lt-ltb n h p)
signed-unsigned h (negsuc n) p = rw (le-ltb (h + h - suc n) h (omega arith)) (ap negsuc (omega arith))
