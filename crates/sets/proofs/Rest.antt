-- Walks put together: what is done and what is left of a walk make the whole. Assumes nothing.
use mathlib.Core.{Path.◌≡◌, Path.refl, Path.sym, Path.ap, Path.◌∙◌, Path.subst, Bool.Bool, Bool.true, Bool.◌&&◌, List.List, List.[], List.◌∷◌}
use Prim.Native.Nat.{ℕ, suc, ◌+◌, ◌/◌, ◌≤◌, ◌<◌, min}
use native.Mathlib.{Omega.arith, Decide.ℕ_discrete}
use lib.{ListN.length, ListN.get_or, ListN.set, Seq.get_or-set_same, Seq.get_or-set_other}
use Rattle.model.specs.Masks.{digit, Has, bit, meet, join}
use Rattle.model.specs.Largest.{Sub, sum}
use Rattle.model.proofs.Masks.{digit-le, digit-join, digit-zero, digit-ext, digit-bit-here, digit-bit-there, meet-le, meet_left, sub_trans}
use Rattle.sets.specs.Flow.{Flow, Moved, Moves, Walked, Sets}
use Rattle.sets.proofs.Tests.{meet-assoc, meet-sub, join-none, none-join, join-assoc, and_assoc, and-true}

-- ---- changes
not-moved : (l : List ℕ) → Moved l l 0
not-moved l = record { still = λ q e. refl; fell = λ q h. absurd (omega (arith, digit-zero q)) }

-- a set doesn't grow
moved-le : {a b : List ℕ} {p : ℕ} → Moved a b p → (v : ℕ) → get_or b v 0 + digit p v ≤ get_or a v 0
moved-le {a} {b} {p} x v = go (ℕ_discrete (digit p v) 0)
  where
    go : Dec (digit p v ≡ 0) → get_or b v 0 + digit p v ≤ get_or a v 0
    go (yes e) = omega (arith, x.still v e)
    go (no f) = let e : digit p v ≡ 1 = omega (arith, digit-le p v) in omega (arith, x.fell v e)

moved_then : {a b c : List ℕ} (p q : ℕ) → Moved a b p → Moved b c q → Moved a c (join p q)
moved_then p q x y = record {
  still = λ v e. y.still v (omega (arith, digit-join p q v)) ∙ x.still v (omega (arith, digit-join p q v));
  fell = λ v h. omega (arith, digit-join p q v, moved-le x v, moved-le y v);
}

pub no-moves : (l : List ℕ) (mv : ℕ) → Moves l l mv mv
no-moves l mv = record { states = 0; change = not-moved l; added = sym (join-none mv) }

moves-then : {a b c : List ℕ} {k m n : ℕ} → Moves a b k m → Moves b c m n → Moves a c k n
moves-then {k = k} x y = record {
  states = join x.states y.states;
  change = moved_then x.states y.states x.change y.change;
  added = y.added ∙ ap (λ n. join n y.states) x.added ∙ join-assoc k x.states y.states;
}

-- of a walk that begins with none
pub moved-alone : {a b : List ℕ} {n : ℕ} → Moves a b 0 n → Moved a b n
moved-alone {a} {b} x = subst (λ n. Moved a b n) (sym (x.added ∙ none-join x.states)) x.change

sum-falls : (a b : List ℕ) (p : ℕ) → ((q : ℕ) → get_or b q 0 + digit p q ≤ get_or a q 0) → sum b + min p 1 ≤ sum a
unfolding sum digit
sum-falls [] [] p h = let z : p ≡ 0 = digit-ext p 0 (λ v. omega (arith, h v, digit-zero v)) in omega arith
sum-falls [] (y ∷ b) p h = omega (arith, h 0, sum-falls [] b (p / 2) (λ q. h (suc q)))
sum-falls (x ∷ a) [] p h = omega (arith, h 0, sum-falls a [] (p / 2) (λ q. h (suc q)))
sum-falls (x ∷ a) (y ∷ b) p h = omega (arith, h 0, sum-falls a b (p / 2) (λ q. h (suc q)))

-- where a set changed, the sum of the sets fell
pub moved-falls : {a b : List ℕ} {p : ℕ} → Moved a b p → sum b + min p 1 ≤ sum a
moved-falls {a} {b} {p} x = sum-falls a b p (moved-le x)

-- a set met in place, and changed
moved-set : (l : List ℕ) (t n m : ℕ) → t < length l → n ≡ meet (get_or l t 0) m → (n ≡ get_or l t 0 → ⊥) → Moved l (set l t n) (bit t)
moved-set l t n m h e f = record {
  still = λ q z. get_or-set_other l t q n 0 (λ p. omega (arith, digit-bit-here t, ap (digit (bit t)) p));
  fell = λ q z. here q z (ℕ_discrete q t);
}
  where
    here : (q : ℕ) → Has (bit t) q → Dec (q ≡ t) → get_or (set l t n) q 0 < get_or l q 0
    here q z (yes p) = rw (p, get_or-set_same l t n 0 h) (omega (arith, e, meet-le (get_or l t 0) m, f))
    here q z (no g) = absurd (omega (arith, digit-bit-there t q g))

pub moves_set : (l : List ℕ) (t n m mv : ℕ) → t < length l → n ≡ meet (get_or l t 0) m → (n ≡ get_or l t 0 → ⊥) → Moves l (set l t n) mv (join mv (bit t))
moves_set l t n m mv h e f = record { states = bit t; change = moved-set l t n m h e f; added = refl }

-- ---- the sets stay inside the top
pub sets-after : {s : List ℕ} {top : ℕ} {f : Flow} {was now' : List ℕ} {mv mv' : ℕ} {ok ok' : Bool} {e : ℕ} → Sets s top was
    → Walked f was now' mv mv' ok ok' e → Sets s top now'
sets-after {s} {top} {f} {was} {now'} d w = record {
  size = w.size ∙ d.size;
  inside = λ q h.
      let l : q < length was = omega (arith, w.size) in
      subst (λ n. Sub n top) (sym (w.met q l)) (sub_trans _ _ _ (meet_left (get_or was q 0) (f.jumps q)) (d.inside q l));
}

-- ---- what is left
-- of the walk that f says, begun at was with mv and ok, g is left at now' with mv' and ok'
pub record Rest (f g : Flow) (was now' : List ℕ) (mv mv' : ℕ) (ok ok' : Bool) : Type 0 where
  pub ends : g.ends ≡ f.ends
  pub fine : (ok' && g.fine) ≡ (ok && f.fine)
  pub size : length now' ≡ length was
  pub met : (q : ℕ) → q < length was → meet (get_or now' q 0) (g.jumps q) ≡ meet (get_or was q 0) (f.jumps q)
  pub moves : Moves was now' mv mv'

-- g is h, and then k
pub record Splits (g h k : Flow) : Type 0 where
  pub ends : k.ends ≡ g.ends
  pub fine : (h.fine && k.fine) ≡ g.fine
  pub jumps : (q : ℕ) → meet (h.jumps q) (k.jumps q) ≡ g.jumps q

pub rest_all : (f : Flow) (l : List ℕ) (mv : ℕ) (ok : Bool) → Rest f f l l mv mv ok ok
rest_all f l mv ok = record { ends = refl; fine = refl; size = refl; met = λ q h. refl; moves = no-moves l mv }

module _ {f g : Flow} {was mid : List ℕ} {mv mv' : ℕ} {ok ok' : Bool} (p : Rest f g was mid mv mv' ok ok') where
  pub rest-on : {h k : Flow} {now' : List ℕ} {mv'' : ℕ} {ok'' : Bool} {e : ℕ} → Splits g h k → Walked h mid now' mv' mv'' ok' ok'' e
      → Rest f k was now' mv mv'' ok ok''
  rest-on {h} {k} s w = record {
    ends = s.ends ∙ p.ends;
    fine = ap (λ t. t && k.fine) w.fine ∙ and_assoc ok' h.fine k.fine ∙ ap (λ t. ok' && t) s.fine ∙ p.fine;
    size = w.size ∙ p.size;
    met = λ q l.
        ap (λ n. meet n (k.jumps q)) (w.met q (omega (arith, p.size))) ∙ meet-assoc (get_or mid q 0) (h.jumps q) (k.jumps q)
        ∙ ap (meet (get_or mid q 0)) (s.jumps q) ∙ p.met q l;
    moves = moves-then p.moves w.moves;
  }

  pub rest-last : {now' : List ℕ} {mv'' : ℕ} {ok'' : Bool} {e : ℕ} → Walked g mid now' mv' mv'' ok' ok'' e → Walked f was now' mv mv'' ok ok'' e
  rest-last w = record {
    ends = w.ends ∙ p.ends;
    fine = w.fine ∙ p.fine;
    size = w.size ∙ p.size;
    met = λ q l. w.met q (omega (arith, p.size)) ∙ p.met q l;
    moves = moves-then p.moves w.moves;
  }

  -- nothing is left
  pub rest-none : {s : List ℕ} {top e : ℕ} → Sets s top mid → e ≡ g.ends → g.fine ≡ true → ((q : ℕ) → g.jumps q ≡ top) → Walked f was mid mv mv' ok ok' e
  rest-none {s} {top} d e t j = record {
    ends = e ∙ p.ends;
    fine = sym (and-true ok') ∙ ap (λ b. ok' && b) (sym t) ∙ p.fine;
    size = p.size;
    met = λ q l.
        sym (ap (meet (get_or mid q 0)) (j q) ∙ meet-sub (get_or mid q 0) top (d.inside q (omega (arith, p.size)))) ∙ p.met q l;
    moves = p.moves;
  }
