-- The masks of one turn: the states due, those walked, those that err. Assumes nothing.
use mathlib.Core.{Path.◌≡◌, Bool.Bool, Bool.true, Bool.false}
use Prim.Native.Nat.{ℕ, ◌+◌, ◌-◌, ◌^◌, ◌≤◌, ◌<◌, min}
use native.Mathlib.Omega.{arith}
use lib.Bits.{bit_and, bit_or}
use borrow.Author.Tests.{eq-eqb, ne_eqb}
use Rattle.model.specs.Masks.{digit, Has, bit, meet, join, without}
use Rattle.model.proofs.Masks.{digit-le, digit-meet, digit-join, digit-without, digit-bit-here, digit-bit-there, bit-lt, meet-lt, join-lt, without-le}
use Rattle.sets.specs.States.{Marked}

-- one turn of the loop: state s is walked; led has the states that it jumps to, moved those whose sets changed
pub record Turn (s led moved due walked due' walked' : ℕ) : Type 0 where
  pub taken : Has due s
  pub kept : (q : ℕ) → digit due q ≤ digit due' q + digit (bit s) q
  pub fresh : (q : ℕ) → digit led q ≤ digit due' q + digit walked' q
  pub changed : (q : ℕ) → digit led q + digit moved q ≤ digit due' q + 1
  pub only : (q : ℕ) → digit due' q ≤ (digit due q - digit (bit s) q) + min (digit led q) (digit moved q) + (digit led q - digit walked' q)
  pub grown : (q : ℕ) → digit walked q ≤ digit walked' q
  pub here : Has walked' s
  pub marks : (q : ℕ) → digit (bit s) q ≤ digit walked' q
  pub more : (q : ℕ) → digit walked' q ≤ digit walked q + digit (bit s) q
  pub due_fits : due' < 2 ^ 64
  pub walked_fits : walked' < 2 ^ 64

-- due without s, with those that it changed and those that it is the first to jump to
next_due : ℕ → ℕ → ℕ → ℕ → ℕ → ℕ
next_due s led moved due w = join (join (without due (bit s)) (meet led moved)) (without led w)

module _ (s led moved due walked : ℕ) (l : s < 64) (u : due < 2 ^ 64) (v : walked < 2 ^ 64) (k : led < 2 ^ 64) where
  turn : Has due s → Turn s led moved due walked (next_due s led moved due (join walked (bit s))) (join walked (bit s))
  unfolding next_due
  turn h = record {
    taken = h;
    kept = λ q. omega (arith, digit-join (join a b) c q, digit-join a b q, digit-without due (bit s) q);
    fresh = λ q. omega (arith, digit-join (join a b) c q, digit-without led w q);
    changed = λ q. omega (arith, digit-join (join a b) c q, digit-join a b q, digit-meet led moved q, digit-le led q, digit-le moved q);
    only = λ q. omega (arith, digit-join (join a b) c q, digit-join a b q, digit-without due (bit s) q, digit-meet led moved q, digit-without led w q);
    grown = λ q. omega (arith, digit-join walked (bit s) q);
    here = omega (arith, digit-join walked (bit s) s, digit-bit-here s, digit-le walked s);
    marks = λ q. omega (arith, digit-join walked (bit s) q);
    more = λ q. omega (arith, digit-join walked (bit s) q);
    due_fits = join-lt 64 _ _ (join-lt 64 _ _ (omega (arith, without-le due (bit s))) (meet-lt 64 led moved k)) (omega (arith, without-le led w));
    walked_fits = join-lt 64 walked (bit s) v (bit-lt 64 s l);
  }
    where
      w : ℕ
      w = join walked (bit s)

      a : ℕ
      a = without due (bit s)

      b : ℕ
      b = meet led moved

      c : ℕ
      c = without led w

  -- as the code finds it
  pub turn-as : {b rest fresh : ℕ} → b ≡ bit s → rest ≡ without due b → fresh ≡ without led (bit_or walked b) → Has due s
      → Turn s led moved due walked (bit_or (bit_or rest (bit_and led moved)) fresh) (bit_or walked b)
  unfolding next_due join meet
  turn-as e f g h = rw (f, g, e) (turn h)

-- ---- the mask of the states that err
fine-without : (s wrong : ℕ) → Marked s true wrong (without wrong (bit s))
fine-without s wrong = record {
  here = ne_eqb (digit (without wrong (bit s)) s) 1 (λ e. omega (arith, digit-without wrong (bit s) s, digit-bit-here s, digit-le wrong s));
  there = λ q f. omega (arith, digit-without wrong (bit s) q, digit-bit-there s q f);
}

wrong-join : (s wrong : ℕ) → Marked s false wrong (join wrong (bit s))
wrong-join s wrong = record {
  here = eq-eqb (digit (join wrong (bit s)) s) 1 (omega (arith, digit-join wrong (bit s) s, digit-bit-here s, digit-le wrong s));
  there = λ q f. omega (arith, digit-join wrong (bit s) q, digit-bit-there s q f);
}

module _ (s wrong : ℕ) (f : Bool) {b : ℕ} (e : b ≡ bit s) where
  pub marked-fine : {n : ℕ} → n ≡ without wrong b → f ≡ true → Marked s f wrong n
  marked-fine h t = rw (t, h, e) (fine-without s wrong)

  pub marked-wrong : f ≡ false → Marked s f wrong (bit_or wrong b)
  unfolding join
  marked-wrong t = rw (t, e) (wrong-join s wrong)
