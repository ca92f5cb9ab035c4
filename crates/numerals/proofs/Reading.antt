-- The definitions' cases as the code reaches them. Assumes nothing.
use mathlib.Core.{Path.◌≡◌, Path.refl, Path.sym, Path.ap, Path.◌∙◌, Bool.Bool, Bool.true, Bool.false, Bool.◌&&◌, List.List, List.[], List.◌∷◌}
use Prim.Native.Nat.{ℕ, suc, ◌+◌, ◌≤◌, ◌<◌}
use native.Mathlib.{Omega.arith, Numerals.add-one}
use lib.{Dec.eqb, Dec.leb, ListN.length, ListN.get_or, ListN.drop, ListN.drop_of_length-le, Seq.drop-cons}
use borrow.Author.Tests.{eq-eqb, ne_eqb, leb-true}
use Rattle.model.proofs.Rows.{both_true}
use Rattle.std.specs.Prelude.{None, Some}
use Rattle.numerals.specs.declared.{Word.TheVariants.Dashes, Word.TheVariants.Neither}
use Rattle.numerals.specs.Numerals.{is_digit, further, saying, fits, word_in}

pub digit_low : (b : ℕ) → is_digit b ≡ true → 48 ≤ b
unfolding is_digit
digit_low b e = leb-true 48 b (both_true (leb 48 b) _ e).0

-- what the library's test answers
pub digit-is : (b : ℕ) {t : Bool} → t ≡ (leb 48 b && leb b 57) → t ≡ is_digit b
unfolding is_digit
digit-is b e = e

-- one byte more of the text
module _ (n b : ℕ) (bs : List ℕ) where
  digit-first : is_digit b ≡ true → saying n (b ∷ bs) ≡ saying (further n b) bs
  unfolding saying
  digit-first e = rw (saying, e)

  other-first : is_digit b ≡ false → saying n (b ∷ bs) ≡ None
  unfolding saying
  other-first e = rw (saying, e)

module _ (text : List ℕ) (i n : ℕ) (h : i < length text) where
  pub saying-digit : is_digit (get_or text i 0) ≡ true → saying n (drop i text) ≡ saying (further n (get_or text i 0)) (drop (suc i) text)
  saying-digit e = ap (saying n) (drop-cons text i 0 h) ∙ digit-first n (get_or text i 0) (drop (suc i) text) e

  pub saying-other : is_digit (get_or text i 0) ≡ false → saying n (drop i text) ≡ None
  saying-other e = ap (saying n) (drop-cons text i 0 h) ∙ other-first n (get_or text i 0) (drop (suc i) text) e

pub saying-all : (text : List ℕ) (i n : ℕ) → length text ≤ i → saying n (drop i text) ≡ Some n
unfolding saying
saying-all text i n h = rw (drop_of_length-le text h)

-- a turn
pub next-digit : (text : List ℕ) (i n m : ℕ) → i < length text → is_digit (get_or text i 0) ≡ true → m ≡ further n (get_or text i 0)
    → saying 0 text ≡ saying n (drop i text) → saying 0 text ≡ saying m (drop (i + 1) text)
next-digit text i n m h e f g =
    g ∙ saying-digit text i n h e ∙ rw f (ap (λ (k : ℕ). saying (further n (get_or text i 0)) (drop k text)) (sym (add-one i)))

-- what read answers
pub word_none : (t : List ℕ) → length t ≡ 0 → Neither ≡ word_in t
unfolding word_in
word_none [] e = refl
word_none (b ∷ bs) e = absurd (omega (arith, e))

module _ {t : List ℕ} {b : ℕ} {bs : List ℕ} (e : t ≡ b ∷ bs) where
  pub word-plus : (b ≡ 45 → ⊥) → fits false (saying 0 t) ≡ word_in t
  unfolding word_in
  word-plus g = rw (e, word_in, ne_eqb b 45 g)

  pub word-dash : b ≡ 45 → length bs ≡ 0 → Neither ≡ word_in t
  unfolding word_in
  word-dash g h = rw (e, word_in, eq-eqb b 45 g, eq-eqb (length bs) 0 h)

  pub word-dashes : b ≡ 45 → bs ≡ 45 ∷ [] → Dashes ≡ word_in t
  unfolding word_in
  word-dashes g h =
      let none : length bs ≡ 0 → ⊥ = λ q. omega (arith, ap length h, q) in
      rw (e, word_in, eq-eqb b 45 g, ne_eqb (length bs) 0 none, eq-eqb (length bs) 1 (ap length h), eq-eqb (get_or bs 0 0) 45 (ap (λ (l : List ℕ). get_or l 0 0) h))

  pub word-minus : b ≡ 45 → (length bs ≡ 0 → ⊥) → (bs ≡ 45 ∷ [] → ⊥) → fits true (saying 0 bs) ≡ word_in t
  unfolding word_in
  word-minus g h k = rw (e, word_in, eq-eqb b 45 g, ne_eqb (length bs) 0 h, more bs k)
    where
      more : (l : List ℕ) → (l ≡ 45 ∷ [] → ⊥) → (eqb (length l) 1 && eqb (get_or l 0 0) 45) ≡ false
      more [] f = refl
      more (a ∷ []) f = ne_eqb a 45 (λ q. f (ap (λ (n : ℕ). n ∷ []) q))
      more (a ∷ d ∷ l) f = let two : suc (suc (length l)) ≡ 1 → ⊥ = λ q. omega (arith, q) in rw (ne_eqb (suc (suc (length l))) 1 two)
