-- The words that a script has from one place to another, and the script of a list of choices. Assumes nothing.
use mathlib.Core.{Path.◌≡◌, Path.refl, Path.ap, Path.◌∙◌, List.List, List.[], List.◌∷◌, List.◌++◌, List.append_assoc}
use Prim.Native.Nat.{ℕ, ◌+◌, ◌*◌, ◌/◌, ◌^◌, ◌<◌}
use native.Mathlib.{Numerals.add-one, Omega.arith}
use lib.{IntN.ℤ, IntN.pos, IntN.negsuc, ListN.length, ListN.take, ListN.drop, ListN.length-append, Signed.mag, Seq.take_at, Seq.drop-append-add}
use Rattle.model.specs.Lists.{table}
use Rattle.model.specs.Bytes.{number_of, bytes_of, signed, unsigned, word_at}
use Rattle.model.proofs.Bytes.{length-bytes_of, number-bytes, signed-unsigned}
use Rattle.demands.specs.Statements.{script_of}
use Rattle.demands.proofs.All.{All, nil, cons}

-- the script's words from place i to place j are zs
abbrev pub Reads : List ℕ → ℕ → List ℤ → ℕ → Type 0
Reads script i [] j = i ≡ j
Reads script i (z ∷ zs) j = (i < length script / 4) × (word_at script i ≡ z) × Reads script (i + 1) zs j

module _ (script : List ℕ) where
  pub reads_both : (i : ℕ) (xs ys : List ℤ) (j k : ℕ) → Reads script i xs j → Reads script j ys k → Reads script i (xs ++ ys) k
  reads_both i [] ys j k p q = rw p q
  reads_both i (x ∷ xs) ys j k p q = (p.0, p.1, reads_both (i + 1) xs ys j k p.2 q)

  pub reads-split : (i : ℕ) (xs ys : List ℤ) (k : ℕ) → Reads script i (xs ++ ys) k → (j : ℕ) × Reads script i xs j × Reads script j ys k
  reads-split i [] ys k p = (i, refl, p)
  reads-split i (x ∷ xs) ys k p = let q = reads-split (i + 1) xs ys k p.2 in (q.0, (p.0, p.1, q.1), q.2)

  pub reads-length : (i : ℕ) (zs : List ℤ) (j : ℕ) → Reads script i zs j → j ≡ i + length zs
  reads-length i [] j p = omega arith
  reads-length i (z ∷ zs) j p = omega (arith, reads-length (i + 1) zs j p.2)

  pub reads-table : (i : ℕ) (zs : List ℤ) (j : ℕ) → Reads script i zs j → table (word_at script) i (length zs) ≡ zs
  unfolding table
  reads-table i [] j p = refl
  reads-table i (z ∷ zs) j p = rw (p.1, ← (add-one i)) (ap (z ∷◌) (reads-table (i + 1) zs j p.2))

-- what 32 bits hold
abbrev pub Word : ℤ → Type 0
Word z = mag z < 2 ^ 31

unsigned-in : (z : ℤ) → Word z → unsigned (2 ^ 31) z < 256 ^ 4
unsigned-in (pos n) h = omega arith
unsigned-in (negsuc n) h = omega arith

module _ (b : List ℕ) (four : length b ≡ 4) (s : List ℕ) where
  first_word : word_at (b ++ s) 0 ≡ signed (2 ^ 31) (number_of b)
  unfolding word_at
  first_word = ap (λ (l : List ℕ). signed (2 ^ 31) (number_of l)) (take_at b s 4 four)

  next_word : (i : ℕ) → word_at (b ++ s) (i + 1) ≡ word_at s i
  unfolding word_at
  next_word i =
      let e : 4 * (i + 1) ≡ length b + 4 * i = omega arith in
      ap (λ (l : List ℕ). signed (2 ^ 31) (number_of (take 4 l))) (ap (λ (n : ℕ). drop n (b ++ s)) e ∙ drop-append-add b s (4 * i))

  next-words : (i : ℕ) (zs : List ℤ) (j : ℕ) → Reads s i zs j → Reads (b ++ s) (i + 1) zs (j + 1)
  next-words i [] j p = rw p
  next-words i (z ∷ zs) j p =
      let l = p.0 in
      (omega (arith, length-append b s), next_word i ∙ p.1, next-words (i + 1) zs j p.2)

-- the script of zs, and any bytes after it
pub reads-script : (zs : List ℤ) (rest : List ℕ) → All Word zs → Reads (script_of zs ++ rest) 0 zs (length zs)
unfolding script_of bytes_of
reads-script [] rest nil = refl
reads-script (z ∷ zs) rest (cons h hs) =
    let b = bytes_of 4 (unsigned (2 ^ 31) z) in
    let s = script_of zs ++ rest in
    let four = length-bytes_of 4 (unsigned (2 ^ 31) z) in
    let e : word_at (b ++ s) 0 ≡ z = first_word b four s ∙ ap (signed (2 ^ 31)) (number-bytes 4 _ (unsigned-in z h)) ∙ signed-unsigned (2 ^ 31) z h in
    rw append_assoc (omega (arith, length-append b s), e, rw (← (add-one (length zs))) (next-words b four s 0 zs (length zs) (reads-script zs rest hs)))
