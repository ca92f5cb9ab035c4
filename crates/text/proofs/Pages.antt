-- Text emitted piece after piece. Assumes nothing.
use mathlib.Core.{Path.◌≡◌, Path.refl, Path.sym, Path.ap, Path.subst, Path.◌∙◌, Bool.Bool, Bool.true, Bool.false, List.List, List.[], List.◌∷◌, List.◌++◌}
use Prim.Native.Nat.{ℕ, ◌+◌, ◌-◌, ◌/◌, ◌%◌, ◌<◌, ◌≤◌}
use native.Mathlib.{Omega.arith, Numerals.add-one}
use lib.{Dec.ltb, ListN.length, ListN.set, ListN.length-set, ListN.take, ListN.get_or, Seq.take-suc}
use borrow.Author.Tests.{ltb-true, lt-ltb, le-ltb}
use Rattle.model.specs.Exports.{decimal}
use Rattle.text.specs.Put.{Put}
use Rattle.text.specs.Emit.{Page, page, emit_byte, emit, Emitted, literal}
use Rattle.text.proofs.Decimal.{decimal_digit, decimal-tenth, decimal-append}
use Rattle.text.proofs.Put.{put-none, put_one, put_then}

-- a text and another after it
pub emit-append : (xs ys : List ℕ) (p : Page) → emit (xs ++ ys) p ≡ emit ys (emit xs p)
unfolding emit
emit-append [] ys p = refl
emit-append (x ∷ xs) ys p = emit-append xs ys (emit_byte x p)

pub emit-then : {p q r : Page} {xs ys : List ℕ} → Emitted xs p q → Emitted ys q r → Emitted (xs ++ ys) p r
emit-then {p} {q} {r} {xs} {ys} e f = record { is = f.is ∙ ap (emit ys) e.is ∙ sym (emit-append xs ys p) }

-- nothing
pub emit-none : (p : Page) → Emitted [] p p
unfolding emit
emit-none p = record { is = refl }

-- a text by another name
pub emit-as : {p q : Page} {xs ys : List ℕ} → xs ≡ ys → Emitted xs p q → Emitted ys p q
emit-as {p} {q} {xs} {ys} e h = record { is = h.is ∙ ap (λ (t : List ℕ). emit t p) e }

by-room : (t : List ℕ) (e b : ℕ) (c : Bool) → ltb e (length t) ≡ c
    → emit_byte b (page e t) ≡ elim c [ true ↦ page (e + 1) (set t e b) | false ↦ page e t ]
unfolding emit_byte
by-room t e b c h = ap (λ (k : Bool). elim k [ true ↦ page (e + 1) (set t e b) | false ↦ page e t ]) h

-- one byte, with room and without
pub emit-room : (t : List ℕ) (e b : ℕ) → e < length t → Emitted (b ∷ []) (page e t) (page (e + 1) (set t e b))
unfolding emit
emit-room t e b h = record { is = sym (by-room t e b true (lt-ltb e (length t) h)) }

pub emit-full : (t : List ℕ) (e b : ℕ) → length t ≤ e → Emitted (b ∷ []) (page e t) (page e t)
unfolding emit
emit-full t e b h = record { is = sym (by-room t e b false (le-ltb e (length t) h)) }

-- one more byte of a text
pub emit-next : {p q r : Page} (xs : List ℕ) (j : ℕ) → j < length xs → Emitted (take j xs) p q → Emitted (get_or xs j 0 ∷ []) q r
    → Emitted (take (j + 1) xs) p r
emit-next xs j h e f = rw (add-one, take-suc xs j 0 h) (emit-then e f)

-- a number of one digit, and one whose tenth stands before its last digit
pub emit-digit : {p q : Page} (n : ℕ) → n < 10 → Emitted ((48 + n % 10) ∷ []) p q → Emitted (decimal n []) p q
emit-digit n h e = let d : n % 10 ≡ n = omega arith in rw (decimal_digit n [] h) (rw d at e)

pub emit-tenth : {p q r : Page} (n : ℕ) → 10 ≤ n → Emitted (decimal (n / 10) []) p q → Emitted ((48 + n % 10) ∷ []) q r
    → Emitted (decimal n []) p r
emit-tenth n h e f = rw (decimal-tenth n [] h, decimal-append (n / 10) ((48 + n % 10) ∷ [])) (emit-then e f)

-- a number of two's complement, by its sign
pub emit-small : {p q : Page} (n : ℕ) → n < 0x8000 → Emitted (decimal n []) p q → Emitted (literal n) p q
unfolding literal
emit-small n h e = rw (literal, lt-ltb n 0x8000 h) e

pub emit-minus : {p q r : Page} (n : ℕ) → 0x8000 ≤ n → n < 0x10000 → Emitted (45 ∷ []) p q → Emitted (decimal (0xFFFF - n + 1) []) q r
    → Emitted (literal n) p r
unfolding literal
emit-minus n h l e f =
    let m : 0xFFFF - n + 1 ≡ 0x10000 - n = omega arith in
    rw (literal, le-ltb n 0x8000 h, ← m) (emit-then e f)

-- a slice keeps its length, and what is written ends inside it
byte_inside : (b : ℕ) (p : Page) → p.«end» ≤ length p.text → ((emit_byte b p).«end» ≤ length p.text) × (length (emit_byte b p).text ≡ length p.text)
unfolding emit_byte
byte_inside b p h = go (ltb p.«end» (length p.text)) refl
  where
    go : (t : Bool) → ltb p.«end» (length p.text) ≡ t → ((emit_byte b p).«end» ≤ length p.text) × (length (emit_byte b p).text ≡ length p.text)
    go true e = rw (emit_byte, e) (omega (arith, ltb-true p.«end» (length p.text) e), simp length-set)
    go false e = rw (emit_byte, e) (h, refl)

inside_of : (xs : List ℕ) (p : Page) → p.«end» ≤ length p.text → (emit xs p).«end» ≤ length (emit xs p).text
unfolding emit
inside_of [] p h = h
inside_of (x ∷ xs) p h = let i = byte_inside x p h in inside_of xs (emit_byte x p) (omega arith)

pub emit-inside : {xs : List ℕ} {p q : Page} → Emitted xs p q → p.«end» ≤ length p.text → q.«end» ≤ length q.text
emit-inside {xs} {p} e h = rw e.is (inside_of xs p h)

-- with room for all of it, a text is put whole
put_whole : (xs : List ℕ) (at : ℕ) (t : List ℕ) → at + length xs ≤ length t
    → Put t at xs (emit xs (page at t)).«end» (emit xs (page at t)).text
unfolding emit
put_whole [] at t h = put-none t at
put_whole (x ∷ xs) at t h =
    let i : at < length t = omega arith in
    let e = by-room t at x true (lt-ltb at (length t) i) in
    let rest = put_whole xs (at + 1) (set t at x) (simp length-set (omega arith)) in
    subst (λ (p : Page). Put t at (x ∷ xs) (emit xs p).«end» (emit xs p).text) (sym e)
    (put_then (put_one t at x i) (omega arith) rest)

pub emit-whole : {xs : List ℕ} {at : ℕ} {t : List ℕ} {q : Page} → Emitted xs (page at t) q → at + length xs ≤ length t
    → Put t at xs q.«end» q.text
emit-whole {xs} {at} {t} e h = rw e.is (put_whole xs at t h)
