-- The laws of sets as masks, by their digits. Assumes nothing.
use mathlib.Core.{Path.◌≡◌, Path.refl, Path.sym, Path.ap, Path.◌∙◌, Bool.true, List.List, List.◌∷◌}
use Prim.Native.Nat.{ℕ, zero, suc, ◌+◌, ◌-◌, ◌*◌, ◌/◌, ◌%◌, ◌^◌, ◌≤◌, ◌<◌, min, max}
use native.Mathlib.{Omega.arith, Nat.pow-suc, Nat.mul_comm, Nat.mod-eq_of_lt, Nat.div-one, Nat.div-div-eq-div-mul}
use lib.{Arith.bin_ind, Pow.pow_pos, Pow.pow-lt, Bits.bit_and, Bits.bit_or, Bits.and_step, Bits.or_step, Bits.and_le_l, Bits.and_comm, Bits.and_mask, Bits.or_lt}
use borrow.Author.Tests.{eqb-true, eq-eqb}
use Rattle.model.specs.Masks.{digit, Has, has, bit, full, meet, join, without, union, inside, apart}
use Rattle.model.specs.Largest.{Sub}

-- ---- each operation, digit by digit
pub digit-le : (m v : ℕ) → digit m v ≤ 1
unfolding digit
digit-le m zero = omega arith
digit-le m (suc v) = digit-le (m / 2) v

by-digit : (op f : ℕ → ℕ → ℕ) → ((a b : ℕ) → op a b ≡ op (a / 2) (b / 2) * 2 + f (a % 2) (b % 2))
    → ((a b : ℕ) → f (a % 2) (b % 2) < 2) → (a b v : ℕ) → digit (op a b) v ≡ f (digit a v) (digit b v)
unfolding digit
by-digit op f step small a b zero = omega (arith, step a b, small a b)
by-digit op f step small a b (suc v) =
    let e : op a b / 2 ≡ op (a / 2) (b / 2) = omega (arith, step a b, small a b) in
    ap (λ m. digit m v) e ∙ by-digit op f step small (a / 2) (b / 2) v

pub digit-meet : (a b v : ℕ) → digit (meet a b) v ≡ min (digit a v) (digit b v)
unfolding meet
digit-meet = by-digit bit_and min and_step (λ a b. omega arith)

pub digit-join : (a b v : ℕ) → digit (join a b) v ≡ max (digit a v) (digit b v)
unfolding join
digit-join = by-digit bit_or max or_step (λ a b. omega arith)

pub digit-without : (a b v : ℕ) → digit (without a b) v ≡ digit a v - digit b v
unfolding without
digit-without = by-digit without ◌-◌ (λ a b. omega (arith, and_step a b, and_le_l (a / 2) (b / 2))) (λ a b. omega arith)

pub union-has : (m : ℕ) (ms : List ℕ) (v : ℕ) → digit (union (m ∷ ms)) v ≡ max (digit m v) (digit (union ms) v)
unfolding union
union-has m ms v = digit-join m (union ms) v

pub digit-zero : (v : ℕ) → digit 0 v ≡ 0
unfolding digit
digit-zero zero = refl
digit-zero (suc v) = digit-zero v

half-bit : (v : ℕ) → bit (suc v) / 2 ≡ bit v
unfolding bit
half-bit v = omega (arith, pow-suc 2 v)

pub digit-bit-here : (v : ℕ) → digit (bit v) v ≡ 1
unfolding digit bit
digit-bit-here zero = refl
digit-bit-here (suc v) = ap (λ m. digit m v) (half-bit v) ∙ digit-bit-here v

pub digit-bit-there : (v w : ℕ) → (w ≡ v → ⊥) → digit (bit v) w ≡ 0
unfolding digit bit
digit-bit-there zero zero f = absurd (f refl)
digit-bit-there zero (suc w) f = digit-zero w
digit-bit-there (suc v) zero f = omega (arith, pow-suc 2 v)
digit-bit-there (suc v) (suc w) f = ap (λ m. digit m w) (half-bit v) ∙ digit-bit-there v w (λ p. f (ap suc p))

-- a mask of n variables has nothing from n on
pub digit-out : (n m v : ℕ) → m < 2 ^ n → n ≤ v → digit m v ≡ 0
unfolding digit
digit-out zero m v h l =
    let e : m ≡ 0 = omega arith in
    rw e (digit-zero v)
digit-out (suc n) m zero h l = omega arith
digit-out (suc n) m (suc v) h l = digit-out n (m / 2) v (omega (arith, pow-suc 2 n)) (omega arith)

pub digit-full : (n v : ℕ) → v < n → digit (full n) v ≡ 1
unfolding digit full
digit-full zero v h = omega arith
digit-full (suc n) zero h = omega (arith, pow-suc 2 n, pow_pos n)
digit-full (suc n) (suc v) h =
    let e : full (suc n) / 2 ≡ full n = omega (arith, pow-suc 2 n, pow_pos n) in
    ap (λ m. digit m v) e ∙ digit-full n v (omega arith)

pub digit-full-out : (n v : ℕ) → n ≤ v → digit (full n) v ≡ 0
unfolding full
digit-full-out n v l = digit-out n (2 ^ n - 1) v (omega (arith, pow_pos n)) l

-- masks of the same digits are the same
pub digit-ext : (a b : ℕ) → ((v : ℕ) → digit a v ≡ digit b v) → a ≡ b
unfolding digit
digit-ext = bin_ind (λ a. (b : ℕ) → ((v : ℕ) → digit a v ≡ digit b v) → a ≡ b)
    (bin_ind (λ b. ((v : ℕ) → digit 0 v ≡ digit b v) → 0 ≡ b) (λ h. refl) (λ b ih h. omega (arith, ih (λ v. h (suc v)), h 0)))
    (λ a ih b h. omega (arith, ih (b / 2) (λ v. h (suc v)), h 0))

-- ---- the tests
pub has-digit : (m v : ℕ) → has m v ≡ true → Has m v
has-digit m v = eqb-true (digit m v) 1

pub digit-has : (m v : ℕ) → Has m v → has m v ≡ true
digit-has m v = eq-eqb (digit m v) 1

pub inside-sub : (a b : ℕ) → inside a b ≡ true → Sub a b
unfolding inside
inside-sub a b e v = omega (arith, digit-meet a b v, ap (λ m. digit m v) (eqb-true (meet a b) a e))

pub sub-inside : (a b : ℕ) → Sub a b → inside a b ≡ true
unfolding inside
sub-inside a b h = eq-eqb (meet a b) a (digit-ext (meet a b) a (λ v. omega (arith, digit-meet a b v, h v)))

pub apart-digit : (a b : ℕ) → apart a b ≡ true → (v : ℕ) → digit a v ≡ 1 → digit b v ≡ 0
unfolding apart
apart-digit a b e v h = omega (arith, digit-meet a b v, ap (λ m. digit m v) (eqb-true (meet a b) 0 e), digit-zero v)

-- ---- bounds
pub meet-le : (a b : ℕ) → meet a b ≤ a
unfolding meet
meet-le a b = and_le_l a b

pub without-le : (a b : ℕ) → without a b ≤ a
unfolding without
without-le a b = omega arith

pub meet-lt : (n a b : ℕ) → a < 2 ^ n → meet a b < 2 ^ n
meet-lt n a b h = omega (arith, meet-le a b)

pub join-lt : (n a b : ℕ) → a < 2 ^ n → b < 2 ^ n → join a b < 2 ^ n
unfolding join
join-lt n a b h k = or_lt n a b h k

pub bit-lt : (n v : ℕ) → v < n → bit v < 2 ^ n
unfolding bit
bit-lt n v h = pow-lt h

pub meet-top : (n a : ℕ) → a < 2 ^ n → meet a (full n) ≡ a
unfolding meet full
meet-top n a h = and_mask a n ∙ mod-eq_of_lt h

-- ---- each of a is in b
pub sub_refl : (a : ℕ) → Sub a a
sub_refl a v = omega arith

pub sub_trans : (a b c : ℕ) → Sub a b → Sub b c → Sub a c
sub_trans a b c h k v = omega (arith, h v, k v)

pub meet_left : (a b : ℕ) → Sub (meet a b) a
meet_left a b v = omega (arith, digit-meet a b v)

pub meet_right : (a b : ℕ) → Sub (meet a b) b
meet_right a b v = omega (arith, digit-meet a b v)

pub sub-meet : (c a b : ℕ) → Sub c a → Sub c b → Sub c (meet a b)
sub-meet c a b h k v = omega (arith, digit-meet a b v, h v, k v)

pub meet-mono : (a b c d : ℕ) → Sub a c → Sub b d → Sub (meet a b) (meet c d)
meet-mono a b c d h k v = omega (arith, digit-meet a b v, digit-meet c d v, h v, k v)

pub join-mono : (a b c d : ℕ) → Sub a c → Sub b d → Sub (join a b) (join c d)
join-mono a b c d h k v = omega (arith, digit-join a b v, digit-join c d v, h v, k v)

-- more taken from, less taken away
pub without-mono : (a b c d : ℕ) → Sub a c → Sub d b → Sub (without a b) (without c d)
without-mono a b c d h k v = omega (arith, digit-without a b v, digit-without c d v, h v, k v)

pub sub-full : (n a : ℕ) → a < 2 ^ n → Sub a (full n)
sub-full n a h v = omega (arith, digit-meet a (full n) v, ap (λ m. digit m v) (meet-top n a h))

-- ---- the code's forms: 1 << v, a & !b, (m >> v) & 1
pub bit-shift : (v : ℕ) → v < 64 → 1 * 2 ^ v % 2 ^ 64 ≡ bit v
unfolding bit
bit-shift v h = omega (arith, bit-lt 64 v h)

complement : (k b : ℕ) → b < 2 ^ k → 2 ^ k - 1 - b ≡ without (full k) b
unfolding meet full without
complement k b l = ap (λ m. full k - m) (sym (and_comm (full k) b ∙ meet-top k b l))

less : (k a b : ℕ) → a < 2 ^ k → meet a (without (full k) b) ≡ without a b
less k a b h = digit-ext (meet a (without (full k) b)) (without a b)
    (λ v. let f = full k in
    omega (arith, digit-meet a (without f b) v, digit-without f b v, digit-without a b v, digit-le f v, sub-full k a h v))

pub and-not : (k a b : ℕ) → a < 2 ^ k → b < 2 ^ k → bit_and a (2 ^ k - 1 - b) ≡ without a b
unfolding meet
and-not k a b h l = ap (bit_and a) (complement k b l) ∙ less k a b h

digit_shift : (m v : ℕ) → digit m v ≡ m / 2 ^ v % 2
unfolding digit
digit_shift m zero = ap (λ n. n % 2) (sym (div-one m))
digit_shift m (suc v) =
    digit_shift (m / 2) v ∙ ap (λ n. n % 2) (div-div-eq-div-mul m 2 (2 ^ v) ∙ ap (λ n. m / n) (mul_comm 2 (2 ^ v) ∙ sym (pow-suc 2 v)))
