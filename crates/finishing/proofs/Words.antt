-- The ten words of a label, one by one. Assumes nothing.
use mathlib.Core.{Path.◌≡◌, Path.refl, Path.sym, Path.◌∙◌, Bool.Bool, Bool.true, Bool.false, Bool.not, List.List, List.[], List.◌∷◌, List.◌++◌}
use Prim.Native.Nat.{ℕ, zero, suc, ◌-◌, ◌≤◌, ◌<◌, ◌^◌}
use native.Mathlib.Omega.{arith}
use lib.{IntN.ℤ, IntN.pos, IntN.negsuc, Signed.mag, ListN.length, ListN.get_or, ListN.take, ListN.replicate, ListN.length-append, ListN.length-replicate, Seq.take_all, Seq.length-take-le, Seq.get_or-take}
use mir.{Syntax.w32, Val.to_z, ValLaws.to_z_pos}
use Rattle.model.specs.Answers.{gate}
use Rattle.model.specs.Run.{label_words, ε, on}
use Rattle.values.proofs.Held.{held, held-is}
use Rattle.actions.specs.declared.Run.{Run}
use Rattle.actions.specs.State.{label_of}

-- zeros, and what stands past a list, read as 0
zero-at : (n i : ℕ) → get_or (replicate n (pos 0)) i (pos 0) ≡ pos 0
zero-at zero i = refl
zero-at (suc n) zero = refl
zero-at (suc n) (suc i) = zero-at n i

padded : (vs : List ℤ) (n i : ℕ) → get_or (vs ++ replicate n (pos 0)) i (pos 0) ≡ get_or vs i (pos 0)
padded [] n i = zero-at n i
padded (v ∷ vs) n zero = refl
padded (v ∷ vs) n (suc i) = padded vs n i

past-taken : (c i : ℕ) (vs : List ℤ) → c ≤ i → get_or (take c vs) i (pos 0) ≡ pos 0
past-taken zero i vs h = refl
past-taken (suc c) i [] h = refl
past-taken (suc c) zero (v ∷ vs) h = absurd (omega arith)
past-taken (suc c) (suc i) (v ∷ vs) h = past-taken c i vs (omega arith)

taken-at-most : (c n : ℕ) (vs : List ℤ) → length vs ≤ n → length (take c vs) ≤ n
taken-at-most zero n vs h = omega arith
taken-at-most (suc c) n [] h = h
taken-at-most (suc c) zero (v ∷ vs) h = absurd (omega arith)
taken-at-most (suc c) (suc n) (v ∷ vs) h = let k = taken-at-most c n vs (omega arith) in omega arith

-- where nothing was said
module _ (run : Run) (vs : List ℤ) (k : ℕ) (e : not run.spoken ≡ true) where
  silent : run.spoken ≡ false
  silent = go run.spoken e
    where
      go : (b : Bool) → not b ≡ true → b ≡ false
      go true p = sym p
      go false p = refl

  pub word_none : k ≡ 0 → negsuc 0 ≡ get_or (label_words (label_of run vs)) k (pos 0)
  unfolding label_words
  word_none q = rw (silent, q)

  pub word-rest : (k ≡ 0 → ⊥) → pos 0 ≡ get_or (label_words (label_of run vs)) k (pos 0)
  unfolding label_words
  word-rest f = rw silent (go k f)
    where
      go : (i : ℕ) → (i ≡ 0 → ⊥) → pos 0 ≡ get_or (label_words ε) i (pos 0)
      go zero g = absurd (g refl)
      go (suc i) g = sym (zero-at 9 i)

-- where a gate was spoken on
module _ (run : Run) (vs : List ℤ) (k : ℕ) (e : not run.spoken ≡ false) where
  said : run.spoken ≡ true
  said = go run.spoken e
    where
      go : (b : Bool) → not b ≡ false → b ≡ true
      go true p = refl
      go false p = sym p

  pub word-gate : k ≡ 0 → run.gate < 2 ^ 16 → to_z w32 run.gate ≡ get_or (label_words (label_of run vs)) k (pos 0)
  unfolding label_words
  word-gate q h = rw (said, q) (to_z_pos w32 run.gate (omega arith))

  pub word-eight : k ≡ 1 → length vs ≡ 8 → 8 < run.count → pos 8 ≡ get_or (label_words (label_of run vs)) k (pos 0)
  unfolding label_words
  word-eight q l h = rw (said, q, take_all run.count vs (omega arith), l)

  pub word_count : k ≡ 1 → length vs ≡ 8 → run.count ≤ 8 → to_z w32 run.count ≡ get_or (label_words (label_of run vs)) k (pos 0)
  unfolding label_words
  word_count q l h = rw (said, q, length-take-le run.count vs (omega arith)) (to_z_pos w32 run.count (omega arith))

  at_value : (k ≡ 0 → ⊥) → (k ≡ 1 → ⊥) → get_or (label_words (label_of run vs)) k (pos 0) ≡ get_or (take run.count vs) (k - 2) (pos 0)
  unfolding label_words
  at_value f g = rw said (go k f g)
    where
      go : (i : ℕ) → (i ≡ 0 → ⊥) → (i ≡ 1 → ⊥) → get_or (label_words (on (gate run.gate) (take run.count vs))) i (pos 0) ≡ get_or (take run.count vs) (i - 2) (pos 0)
      go zero p q = absurd (p refl)
      go (suc zero) p q = absurd (q refl)
      go (suc (suc i)) p q = let e : suc (suc i) - 2 ≡ i = omega arith in rw e (padded (take run.count vs) (8 - length (take run.count vs)) i)

  pub word_value : (k ≡ 0 → ⊥) → (k ≡ 1 → ⊥) → k - 2 < run.count → mag (get_or vs (k - 2) (pos 0)) < 2 ^ 31 → held (get_or vs (k - 2) (pos 0)) ≡ get_or (label_words (label_of run vs)) k (pos 0)
  word_value f g h m = held-is _ m ∙ sym (at_value f g ∙ get_or-take run.count vs (k - 2) (pos 0) h)

  pub word_after : (k ≡ 0 → ⊥) → (k ≡ 1 → ⊥) → run.count ≤ k - 2 → pos 0 ≡ get_or (label_words (label_of run vs)) k (pos 0)
  word_after f g h = sym (at_value f g ∙ past-taken run.count (k - 2) vs h)

-- ten words
pub words-ten : (run : Run) (vs : List ℤ) → length vs ≡ 8 → length (label_words (label_of run vs)) ≡ 10
unfolding label_words
words-ten run vs l = go run.spoken refl
  where
    go : (b : Bool) → run.spoken ≡ b → length (label_words (label_of run vs)) ≡ 10
    go true e = let t = taken-at-most run.count 8 vs (omega arith) in rw e (simp (length-append, length-replicate) (omega arith))
    go false e = rw e
