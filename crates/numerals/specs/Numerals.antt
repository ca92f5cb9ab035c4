-- Numbers of 32 bits in text: decimal digits, a dash before those of a negative number (01, "Values": "signed 32-bit numbers").
-- Assumes nothing.
use mathlib.Core.{Bool.Bool, Bool.true, Bool.false, Bool.cond, Bool.◌&&◌, List.List, List.[], List.◌∷◌}
use Rattle.std.specs.Prelude.{ℕ, Option, None, Some, ◌+◌, ◌-◌, ◌*◌}
use lib.{Dec.eqb, Dec.leb, Dec.ltb, IntN.pos, IntN.neg_ℤ, ListN.length, ListN.get_or}
use Rattle.numerals.specs.declared.{Word.Word, Word.TheVariants.Number, Word.TheVariants.Dashes, Word.TheVariants.Neither}

-- '0' to '9'
unfoldable pub is_digit : ℕ → Bool
is_digit b = leb 48 b && leb b 57

-- n and one digit more; what no number of 32 bits holds is 2,147,483,649
abbrev pub further : ℕ → ℕ → ℕ
further n b = cond (ltb 214748364 n) 2147483649 (n * 10 + (b - 48))

-- what digits say behind n
unfoldable pub saying : ℕ → List ℕ → Option ℕ
saying n [] = Some n
saying n (b ∷ bs) = elim (is_digit b) [ true ↦ saying (further n b) bs | false ↦ None ]

-- -2,147,483,648 to 2,147,483,647
abbrev pub fits : Bool → Option ℕ → Word
fits negative None = Neither
fits false (Some n) = cond (ltb n 2147483648) (Number (pos n)) Neither
fits true (Some n) = cond (leb n 2147483648) (Number (neg_ℤ (pos n))) Neither

-- a word: digits, a dash and digits, or two dashes; the number of its bytes is told first
unfoldable pub word_in : List ℕ → Word
word_in [] = Neither
word_in (b ∷ bs) =
    elim (eqb b 45) [
      | true ↦ elim (eqb (length bs) 0) [ true ↦ Neither | false ↦ elim (eqb (length bs) 1 && eqb (get_or bs 0 0) 45) [ true ↦ Dashes | false ↦ fits true (saying 0 bs) ] ]
      | false ↦ fits false (saying 0 (b ∷ bs))
    ]
