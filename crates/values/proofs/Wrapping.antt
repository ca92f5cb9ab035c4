-- Wrapping by remainders: what stands h and a multiple of h + h higher, as a remainder, is h higher than where it wraps to.
-- Assumes nothing.
use mathlib.Core.{Path.◌≡◌, Path.refl, Path.sym, Path.ap, Path.◌∙◌, Bool.Bool, Bool.true, Bool.false}
use Prim.Native.Nat.{ℕ, zero, suc, ◌+◌, ◌-◌, ◌%◌, ◌^◌, ◌≤◌, ◌<◌}
use native.Mathlib.{Nat.mod-lt, Nat.mod-eq_of_lt, Nat.add-mod_right, Nat.mod_self, Nat.suc-mod, Omega.arith}
use lib.{Dec.ltb, IntN.ℤ, IntN.pos, IntN.negsuc, IntN.neg_ℤ, IntN.sub_ℕ, IntN.◌+ℤ◌, IntN.◌-ℤ◌, Signed.mag, Signed.quot_z, Signed.rem_z, Signed.mag_rem}
use borrow.Author.Tests.{lt-ltb, le-ltb, ltb-true, ltb-false}
use mir.{Syntax.w32, Val.SFits, Val.to_z, Val.of_z}
use Rattle.model.specs.Bytes.{signed}
use Rattle.model.specs.Values.{wrap}
use Rattle.values.specs.Range.{Half}
use Rattle.values.proofs.Held.{held, held-is}
use Rattle.values.proofs.Sizes.{mag-quot-pos, mag-sub}

less : (a b : ℕ) → b ≤ a → sub_ℕ a b ≡ pos (a - b)
less a b p = rw (le-ltb a b p)

more : (a b : ℕ) → a < b → sub_ℕ a b ≡ negsuc (b - suc a)
more a b p = rw (lt-ltb a b p)

-- n - t
up : (t n : ℕ) → t ≤ n → neg_ℤ (pos t) +ℤ pos n ≡ pos (n - t)
up zero n p = ap pos (omega arith)
up (suc t) n p = less n (suc t) p

down : (x h : ℕ) → pos x -ℤ pos h ≡ sub_ℕ x h
down x zero = ap pos (omega arith) ∙ sym (less x zero (omega arith))
down x (suc h) = refl

-- a remainder of z, raised by n
abbrev pub raised : ℤ → ℕ → ℕ
raised (pos a) n = a % n + n
raised (negsuc a) n = n - suc a % n

raises : (z : ℤ) (n : ℕ) → 0 < n → rem_z z (pos n) +ℤ pos n ≡ pos (raised z n)
raises (pos a) n p = refl
raises (negsuc a) n p = up (suc a % n) n (let l = mod-lt (suc a) p in omega arith)

raised-small : (z : ℤ) (n : ℕ) → 0 < n → raised z n < n + n
raised-small (pos a) n p = let l = mod-lt a p in omega arith
raised-small (negsuc a) n p = omega arith

-- x, and x + n
mod-once : (x n : ℕ) → x < n → (x + n) % n ≡ x
mod-once x n p = add-mod_right x n ∙ mod-eq_of_lt p

mod-is : (y x n : ℕ) → y ≡ x + n → x < n → y % n ≡ x
mod-is y x n e p = ap (λ (k : ℕ). k % n) e ∙ mod-once x n p

mod-twice : (y x n : ℕ) → y ≡ x + n + n → x < n → y % n ≡ x
mod-twice y x n e p = ap (λ (k : ℕ). k % n) e ∙ add-mod_right (x + n) n ∙ mod-once x n p

module _ (h : ℕ) (p : 0 < h) where
  above : (a : ℕ) → sub_ℕ ((a % (h + h) + (h + h) + h) % (h + h)) h ≡ wrap h (pos a)
  unfolding wrap
  above a = go (ltb m h) refl
    where
      m : ℕ
      m = a % (h + h)

      small : m < h + h
      small = mod-lt a (omega arith)

      go : (b : Bool) → ltb m h ≡ b → sub_ℕ ((m + (h + h) + h) % (h + h)) h ≡ wrap h (pos a)
      go true e =
          let l = ltb-true m h e in
          ap (λ (x : ℕ). sub_ℕ x h) (mod-is (m + (h + h) + h) (m + h) (h + h) (omega arith) (omega arith)) ∙ less (m + h) h (omega arith)
          ∙ rw e (ap pos (omega arith))
      go false e =
          let l = ltb-false m h e in
          ap (λ (x : ℕ). sub_ℕ x h) (mod-twice (m + (h + h) + h) (m - h) (h + h) (omega (arith, small)) (omega (arith, small)))
          ∙ more (m - h) h (omega (arith, small)) ∙ rw e (ap negsuc (omega (arith, small)))

  below : (a : ℕ) → sub_ℕ ((h + h - suc a % (h + h) + h) % (h + h)) h ≡ wrap h (negsuc a)
  unfolding wrap
  below a = go (ltb (suc m) (h + h)) refl (ltb m h) refl
    where
      m : ℕ
      m = a % (h + h)

      small : m < h + h
      small = mod-lt a (omega arith)

      at : ℕ → ℤ
      at x = sub_ℕ x h

      next : (t : ℕ) → suc m % (h + h) ≡ t → (h + h - suc a % (h + h) + h) % (h + h) ≡ (h + h - t + h) % (h + h)
      next t q = ap (λ (k : ℕ). (h + h - k + h) % (h + h)) (suc-mod a (h + h) ∙ q)

      go : (c : Bool) → ltb (suc m) (h + h) ≡ c → (b : Bool) → ltb m h ≡ b → sub_ℕ ((h + h - suc a % (h + h) + h) % (h + h)) h ≡ wrap h (negsuc a)
      go true f true e =
          let l = ltb-true m h e in
          ap at (next (suc m) (mod-eq_of_lt (ltb-true _ _ f)) ∙ mod-is (h + h - suc m + h) (h - suc m) (h + h) (omega arith) (omega arith))
          ∙ more (h - suc m) h (omega arith) ∙ rw e (ap negsuc (omega arith))
      go true f false e =
          let l = ltb-false m h e in
          ap at (next (suc m) (mod-eq_of_lt (ltb-true _ _ f)) ∙ mod-eq_of_lt (omega (arith, small)))
          ∙ less (h + h - suc m + h) h (omega arith) ∙ rw e (ap pos (omega arith))
      go false f true e = let l = ltb-true m h e in let k = ltb-false (suc m) (h + h) f in absurd (omega arith)
      go false f false e =
          let k = ltb-false (suc m) (h + h) f in
          ap at (next 0 (ap (λ (x : ℕ). x % (h + h)) (omega (arith, small)) ∙ mod_self (h + h)) ∙ mod-is (h + h - 0 + h) h (h + h) (omega arith) (omega arith))
          ∙ less h h (omega arith) ∙ rw e (ap pos (omega (arith, small)))

  -- h higher than where z wraps to
  shifted : (z : ℤ) → pos ((raised z (h + h) + h) % (h + h)) -ℤ pos h ≡ wrap h z
  shifted (pos a) = down _ h ∙ above a
  shifted (negsuc a) = down _ h ∙ below a

-- the code's locals, one after another
module _ (h : ℕ) (z : ℤ) (k : Half h) (p : mag z < 2 ^ 31) where
  local-h : to_z w32 h ≡ pos h
  local-h = held-is (pos h) (omega (arith, k.small))

  abbrev pub twice : ℤ
  twice = to_z w32 h +ℤ to_z w32 h

  twice-is : twice ≡ pos (h + h)
  twice-is = rw local-h

  pub twice-fits : SFits w32 twice
  twice-fits = record { sfits = rw twice-is (omega (arith, k.small)) }

  local-n : held twice ≡ pos (h + h)
  local-n = held-is twice twice-fits.sfits ∙ twice-is

  pub some-n : 0 < of_z w32 twice
  some-n = rw twice-is (omega (arith, k.some))

  abbrev pub rest : ℤ
  rest = rem_z (held z) (held twice)

  rest-is : rest ≡ rem_z z (pos (h + h))
  rest-is = rw (held-is z p, local-n)

  pub quotient_fits : SFits w32 (quot_z (held z) (held twice))
  quotient_fits = record { sfits = rw (held-is z p, local-n) (let l = mag-quot-pos z (h + h) in omega arith) }

  abbrev pub higher : ℤ
  higher = held rest +ℤ held twice

  local-rest : held rest ≡ rem_z z (pos (h + h))
  local-rest = held-is rest (rw rest-is (let l = mag_rem z (pos (h + h)) in omega arith)) ∙ rest-is

  higher-is : higher ≡ pos (raised z (h + h))
  higher-is = rw (local-rest, local-n) (raises z (h + h) (omega (arith, k.some)))

  pub higher-fits : SFits w32 higher
  higher-fits = record { sfits = rw higher-is (let l = raised-small z (h + h) (omega (arith, k.some)) in omega (arith, k.small)) }

  local-higher : held higher ≡ pos (raised z (h + h))
  local-higher = held-is higher higher-fits.sfits ∙ higher-is

  abbrev pub highest : ℤ
  highest = held higher +ℤ to_z w32 h

  highest-is : highest ≡ pos (raised z (h + h) + h)
  highest-is = rw (local-higher, local-h)

  pub highest-fits : SFits w32 highest
  highest-fits = record { sfits = rw highest-is (let l = raised-small z (h + h) (omega (arith, k.some)) in omega (arith, k.small)) }

  local-highest : held highest ≡ pos (raised z (h + h) + h)
  local-highest = held-is highest highest-fits.sfits ∙ highest-is

  pub last-quotient-fits : SFits w32 (quot_z (held highest) (held twice))
  last-quotient-fits =
      record {
        sfits =
            rw (local-highest, local-n)
            (let l = mag-quot-pos (pos (raised z (h + h) + h)) (h + h) in let m = raised-small z (h + h) (omega (arith, k.some)) in omega (arith, k.small));
      }

  abbrev pub last : ℤ
  last = rem_z (held highest) (held twice)

  last-is : last ≡ pos ((raised z (h + h) + h) % (h + h))
  last-is = rw (local-highest, local-n)

  last-small : (raised z (h + h) + h) % (h + h) < h + h
  last-small = mod-lt _ (omega (arith, k.some))

  local-last : held last ≡ pos ((raised z (h + h) + h) % (h + h))
  local-last = held-is last (rw last-is (let l = last-small in omega (arith, k.small))) ∙ last-is

  ends : held last -ℤ to_z w32 h ≡ wrap h z
  ends = rw (local-last, local-h) (shifted h k.some z)

  wrap-small : mag (wrap h z) < 2 ^ 31
  wrap-small =
      rw (← shifted h k.some z) (let l = mag-sub (pos ((raised z (h + h) + h) % (h + h))) (pos h) in omega (arith, last-small, k.small))

  pub ends-fits : SFits w32 (held last -ℤ to_z w32 h)
  ends-fits = record { sfits = rw ends wrap-small }

  pub wraps : held (held last -ℤ to_z w32 h) ≡ wrap h z
  wraps = rw ends (held-is (wrap h z) wrap-small)

-- a number below h + h wraps as its bits read
pub signed-wraps : (h n : ℕ) {r : ℤ} → n < h + h → n < 2 ^ 31 → mag r < 2 ^ 31 → r ≡ wrap h (to_z w32 n) → held r ≡ signed h n
unfolding wrap
signed-wraps h n {r} p s q e = held-is r q ∙ e ∙ rw (held-is (pos n) s, mod-eq_of_lt p)
