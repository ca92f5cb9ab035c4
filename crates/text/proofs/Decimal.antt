-- A number's decimal digits. Assumes nothing.
use mathlib.Core.{Path.◌≡◌, Path.refl, Path.sym, Path.ap, Path.◌∙◌, List.List, List.[], List.◌∷◌, List.◌++◌}
use Prim.Native.Nat.{ℕ, zero, suc, ◌+◌, ◌/◌, ◌%◌, ◌^◌, ◌<◌, ◌≤◌}
use native.Mathlib.{Omega.arith, Decide.dec_lt, Nat.pow-suc}
use lib.{ListN.length, ListN.length-append}
use borrow.Author.Tests.{lt-ltb, le-ltb}
use Rattle.model.specs.Exports.{decimal_by, decimal}

-- a number of one digit, or of more
one-or-more : {P : Type 0} (n : ℕ) → (n < 10 → P) → (10 ≤ n → P) → P
one-or-more {P} n f g = go (dec_lt n 10)
  where
    go : Dec (n < 10) → P
    go (yes h) = f h
    go (no h) = g (omega arith)

by-digit : (k n : ℕ) (t : List ℕ) → n < 10 → decimal_by (suc k) n t ≡ (48 + n) ∷ t
unfolding decimal_by
by-digit k n t h = rw (decimal_by, lt-ltb n 10 h)

by-tenth : (k n : ℕ) (t : List ℕ) → 10 ≤ n → decimal_by (suc k) n t ≡ decimal_by k (n / 10) ((48 + n % 10) ∷ t)
unfolding decimal_by
by-tenth k n t h = rw (decimal_by, le-ltb n 10 h)

-- two numbers of turns above n write the same
by-any : (j k n : ℕ) (t : List ℕ) → n < j → n < k → decimal_by j n t ≡ decimal_by k n t
by-any zero k n t h l = absurd (omega arith)
by-any (suc j) zero n t h l = absurd (omega arith)
by-any (suc j) (suc k) n t h l =
    one-or-more n (λ d. by-digit j n t d ∙ sym (by-digit k n t d))
    (λ d. by-tenth j n t d ∙ by-any j k (n / 10) ((48 + n % 10) ∷ t) (omega arith) (omega arith) ∙ sym (by-tenth k n t d))

-- one digit
pub decimal_digit : (n : ℕ) (t : List ℕ) → n < 10 → decimal n t ≡ (48 + n) ∷ t
decimal_digit n t h = by-digit n n t h

-- the last digit after those of the tenth
pub decimal-tenth : (n : ℕ) (t : List ℕ) → 10 ≤ n → decimal n t ≡ decimal (n / 10) ((48 + n % 10) ∷ t)
decimal-tenth n t h = by-tenth n n t h ∙ by-any n (suc (n / 10)) (n / 10) ((48 + n % 10) ∷ t) (omega arith) (omega arith)

by_append : (k n : ℕ) (t u : List ℕ) → decimal_by k n (t ++ u) ≡ decimal_by k n t ++ u
unfolding decimal_by
by_append zero n t u = refl
by_append (suc k) n t u =
    one-or-more n (λ d. by-digit k n (t ++ u) d ∙ ap (λ (l : List ℕ). l ++ u) (sym (by-digit k n t d)))
    (λ d. by-tenth k n (t ++ u) d ∙ by_append k (n / 10) ((48 + n % 10) ∷ t) u ∙ ap (λ (l : List ℕ). l ++ u) (sym (by-tenth k n t d)))

-- the digits before some text
pub decimal-append : (n : ℕ) (t : List ℕ) → decimal n t ≡ decimal n [] ++ t
decimal-append n t = by_append (suc n) n [] t

-- a number below 10 ^ (k + 1) has at most k + 1 digits
pub decimal-width : (k n : ℕ) → n < 10 ^ suc k → length (decimal n []) ≤ suc k
decimal-width zero n h = rw (decimal_digit n [] h) (omega arith)
decimal-width (suc k) n h =
    one-or-more n (λ d. rw (decimal_digit n [] d) (omega arith))
    (λ d. rw (decimal-tenth n [] d, decimal-append, length-append) (omega (arith, decimal-width k (n / 10) (omega (arith, pow-suc 10 (suc k))))))

-- at most 5 digits of a 16-bit number, and 6 bytes with one after them
pub decimal-most : (n : ℕ) → n < 65536 → length (decimal n []) ≤ 5
decimal-most n h = decimal-width 4 n (omega arith)

pub decimal-after : (n b : ℕ) → n < 65536 → length (decimal n (b ∷ [])) ≤ 6
decimal-after n b h = rw (decimal-append n (b ∷ []), length-append) (omega (arith, decimal-most n h))

-- a number, a byte and the text after it, before some more
pub decimal-then : (n b : ℕ) (t u : List ℕ) → decimal n (b ∷ (t ++ u)) ≡ decimal n (b ∷ t) ++ u
decimal-then n b t u = by_append (suc n) n (b ∷ t) u
