-- The lister's lines, one after another. Assumes nothing.
use mathlib.Core.{Path.◌≡◌, Path.sym, Path.ap, Path.◌∙◌, List.List, List.[], List.◌∷◌, List.◌++◌, List.append_assoc}
use Prim.Native.Nat.{ℕ, suc, ◌+◌, ◌<◌, ◌≤◌}
use native.Mathlib.{Omega.arith, Numerals.add-one, Nat.add-zero, Nat.zero-add}
use lib.{ListN.length, ListN.get_or, ListN.take, ListN.drop, Seq.take-suc, Seq.length-take-le}
use Rattle.model.specs.Image.{none}
use Rattle.text.specs.declared.Page.{Page}
use Rattle.text.specs.Written.{Written}
use Rattle.model.specs.Exports.{decimal, count, lines}
use Rattle.text.proofs.Decimal.{decimal-then}
use Rattle.text.proofs.Writing.{written-whole}

-- a refusal's two numbers
pub two-numbers : (a b : ℕ) → decimal a (32 ∷ decimal b (10 ∷ [])) ≡ decimal a (32 ∷ []) ++ decimal b (10 ∷ [])
two-numbers a b = decimal-then a 32 [] (decimal b (10 ∷ []))

-- a line's three
pub line-numbers : (rows : List ℕ) (variables q m : ℕ)
    → lines rows variables q (m ∷ []) ≡ decimal q (32 ∷ []) ++ decimal (get_or rows q none) (32 ∷ []) ++ decimal (count m variables) (10 ∷ [])
unfolding lines
line-numbers rows variables q m =
    let d = decimal (count m variables) (10 ∷ []) in
    rw (decimal-then (get_or rows q none) 32 [] d, decimal-then q 32 [] (decimal (get_or rows q none) (32 ∷ []) ++ d), append_assoc)

-- a line and those after it
line-then : (rows : List ℕ) (variables q m : ℕ) (ms : List ℕ)
    → lines rows variables q (m ∷ ms) ≡ lines rows variables q (m ∷ []) ++ lines rows variables (suc q) ms
unfolding lines
line-then rows variables q m ms =
    let l = lines rows variables (suc q) ms in
    let d = decimal (count m variables) (10 ∷ []) in
    rw (decimal-then (count m variables) 10 [] l, decimal-then (get_or rows q none) 32 d l, decimal-then q 32 (decimal (get_or rows q none) (32 ∷ d)) l)

lines-append : (rows : List ℕ) (variables q : ℕ) (ms ns : List ℕ)
    → lines rows variables q (ms ++ ns) ≡ lines rows variables q ms ++ lines rows variables (q + length ms) ns
unfolding lines
lines-append rows variables q [] ns = ap (λ (k : ℕ). lines rows variables k ns) (sym (add-zero q))
lines-append rows variables q (m ∷ ms) ns =
    let e : suc q + length ms ≡ q + suc (length ms) = omega arith in
    line-then rows variables q m (ms ++ ns)
    ∙ ap (λ (t : List ℕ). lines rows variables q (m ∷ []) ++ t) (lines-append rows variables (suc q) ms ns)
    ∙ sym (append_assoc (lines rows variables q (m ∷ [])) (lines rows variables (suc q) ms) (lines rows variables (suc q + length ms) ns))
    ∙ ap (λ (t : List ℕ). t ++ lines rows variables (suc q + length ms) ns) (sym (line-then rows variables q m ms))
    ∙ ap (λ (k : ℕ). lines rows variables q (m ∷ ms) ++ lines rows variables k ns) e

-- one more line
pub lines_next : (rows : List ℕ) (variables q : ℕ) (sets : List ℕ) → q < length sets
    → lines rows variables 0 (take (q + 1) sets) ≡ lines rows variables 0 (take q sets) ++ lines rows variables q (get_or sets q 0 ∷ [])
lines_next rows variables q sets h =
    let e : 0 + length (take q sets) ≡ q = zero-add _ ∙ length-take-le q sets (omega arith) in
    rw (add-one, take-suc sets q 0 h, lines-append, e)

-- a text of a page from its start on that has room for it
pub whole : {p q : Page} {xs s : List ℕ} → Written xs p q → p.text.now ≡ s → p.«end» ≡ 0 → length xs ≤ length s
    → (q.«end» ≡ length xs) × (q.text.now ≡ xs ++ drop q.«end» s)
whole {p} {q} {xs} {s} w e z h =
    let put = written-whole w (rw (e, z) (omega arith)) in
    let start : p.«end» + length xs ≡ length xs = rw z (zero-add _) in
    (put.next ∙ start, put.text ∙ rw (e, z))
