-- The notation line by line. Assumes nothing.
use mathlib.Core.{Path.◌≡◌, Path.refl, Path.sym, Path.ap, Path.◌∙◌, Bool.Bool, Bool.true, Bool.false, List.List, List.[], List.◌∷◌, List.◌++◌, List.map}
use Prim.Native.Nat.{ℕ, zero, suc}
use Prim.Native.String.{String}
use Rattle.std.proofs.lemmas.Bool.{false≢true}
use lib.{Dec.eqb, ListN.get_or}
use Rattle.text.specs.Emit.{bytes}
use Rattle.notation.specs.Table.{ended, notation_lines, notation}
use Rattle.notation.specs.Texts.{line_from, up_to_end, line_of}

-- no byte of a text ends a line
abbrev endless : List ℕ → Bool
endless [] = true
endless (b ∷ s) = elim (eqb b 10) [ true ↦ false | false ↦ endless s ]

abbrev all_endless : List String → Bool
all_endless [] = true
all_endless (s ∷ ss) = elim (endless (bytes s)) [ true ↦ all_endless ss | false ↦ false ]

up_to : (t u : List ℕ) → endless t ≡ true → up_to_end (t ++ (10 ∷ u)) ≡ t
unfolding up_to_end
up_to [] u h = refl
up_to (b ∷ t) u h = go (eqb b 10) refl (up_to t u)
  where
    go : (e : Bool) → eqb b 10 ≡ e → (endless t ≡ true → up_to_end (t ++ (10 ∷ u)) ≡ t) → up_to_end ((b ∷ t) ++ (10 ∷ u)) ≡ b ∷ t
    go true e f = absurd (false≢true (rw (endless, e) at h))
    go false e f = rw (up_to_end, e) (ap (λ (l : List ℕ). b ∷ l) (f (rw (endless, e) at h)))

past : (t u : List ℕ) (k : ℕ) → endless t ≡ true → line_from (suc k) (t ++ (10 ∷ u)) ≡ line_from k u
unfolding line_from
past [] u k h = refl
past (b ∷ t) u k h = go (eqb b 10) refl (past t u k)
  where
    go : (e : Bool) → eqb b 10 ≡ e → (endless t ≡ true → line_from (suc k) (t ++ (10 ∷ u)) ≡ line_from k u)
        → line_from (suc k) ((b ∷ t) ++ (10 ∷ u)) ≡ line_from k u
    go true e f = absurd (false≢true (rw (endless, e) at h))
    go false e f = rw (line_from, e) (f (rw (endless, e) at h))

line_at : (ss : List String) (k : ℕ) → all_endless ss ≡ true → up_to_end (line_from k (ended ss)) ≡ get_or (map bytes ss) k []
unfolding line_from up_to_end
line_at [] zero h = refl
line_at [] (suc k) h = refl
line_at (s ∷ ss) k h = go (endless (bytes s)) refl k (λ j. line_at ss j)
  where
    go : (e : Bool) → endless (bytes s) ≡ e → (k : ℕ)
        → ((j : ℕ) → all_endless ss ≡ true → up_to_end (line_from j (ended ss)) ≡ get_or (map bytes ss) j [])
        → up_to_end (line_from k (ended (s ∷ ss))) ≡ get_or (map bytes (s ∷ ss)) k []
    go false e k f = absurd (false≢true (rw (all_endless, e) at h))
    go true e zero f = up_to (bytes s) (ended ss) e
    go true e (suc k) f = ap up_to_end (past (bytes s) (ended ss) k e) ∙ f k (rw (all_endless, e) at h)

-- line k of the notation is the k-th of its lines
pub noted : (k : ℕ) → get_or (map bytes notation_lines) k [] ≡ line_of k
unfolding line_of notation
noted k = sym (line_at notation_lines k refl)
