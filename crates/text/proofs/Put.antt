-- Text put piece after piece. Assumes nothing.
use mathlib.Core.{Path.◌≡◌, Path.refl, Path.sym, Path.ap, Path.◌∙◌, List.List, List.[], List.◌∷◌, List.◌++◌, List.append_assoc, List.append-nil}
use Prim.Native.Nat.{ℕ, ◌+◌, ◌<◌, ◌≤◌}
use native.Mathlib.{Omega.arith, Numerals.add-one, Nat.add-zero}
use lib.{ListN.length, ListN.take, ListN.drop, ListN.set, ListN.take-append-drop, ListN.length-append, ListN.length-drop, Seq.length-take-le, Seq.take_at, Seq.drop-append-add, Seq.drop-drop, Seq.set_split, Seq.append_snoc}
use Rattle.text.specs.Put.{Put}

-- what stands before the end of the text put
head-long : (s : List ℕ) (at : ℕ) (t : List ℕ) → at ≤ length s → length (take at s ++ t) ≡ at + length t
head-long s at t h = rw (length-append, length-take-le at s h)

-- the slice keeps its length
pub put-length : {s : List ℕ} {at : ℕ} {t : List ℕ} {r : ℕ} {u : List ℕ} → Put s at t r u → r ≤ length s → length u ≡ length s
put-length {s} {at} {t} {r} p h =
    ap length p.text ∙ rw (length-append (take at s ++ t), head-long s at t (omega (arith, p.next)), length-drop) (omega (arith, p.next))

-- nothing put
pub put-none : (s : List ℕ) (at : ℕ) → Put s at [] at s
put-none s at = record { next = sym (add-zero at); text = rw append-nil (sym (take-append-drop at s)) }

-- one byte stored
pub put_one : (s : List ℕ) (at b : ℕ) → at < length s → Put s at (b ∷ []) (at + 1) (set s at b)
put_one s at b h = record { next = refl; text = set_split s at b h ∙ rw (add-one, append_snoc) }

-- a text, and another from its end on
pub put_then : {s u w t v : List ℕ} {a b c : ℕ} → Put s a t b u → b ≤ length s → Put u b v c w → Put s a (t ++ v) c w
put_then {s} {u} {w} {t} {v} {a} {b} {c} p h q =
    let l : length (take a s ++ t) ≡ b = head-long s a t (omega (arith, p.next)) ∙ sym p.next in
    let f : take b u ≡ take a s ++ t = rw p.text (take_at (take a s ++ t) (drop b s) b l) in
    let e : c ≡ length (take a s ++ t) + length v = rw l q.next in
    let g : drop c u ≡ drop c s = rw (p.text, e) (drop-append-add (take a s ++ t) (drop b s) (length v) ∙ rw (drop-drop, l)) in
    record {
      next = rw length-append (omega (arith, p.next, q.next));
      text = q.text ∙ rw (f, g, append_assoc (take a s) t v);
    }
