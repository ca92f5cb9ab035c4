-- The ways of reading a word. Assumes nothing.
use mathlib.Core.{Path.◌≡◌, Path.refl, Path.sym, Path.ap, Path.◌∙◌, Bool.Bool, Bool.true, Bool.false, List.List}
use Prim.Native.Nat.{ℕ, ◌+◌, ◌/◌, ◌≤◌, ◌<◌}
use lib.{Dec.ltb, IntN.ℤ, ListN.length}
use borrow.Author.Tests.{lt-ltb, le-ltb}
use Rattle.model.specs.declared.{Refusal.TheVariants.ScriptEnded, Refusal.TheVariants.WordOutOfRange, Outcome.TheVariants.Stops}
use Rattle.model.specs.Answers.{row}
use Rattle.model.specs.Bytes.{word_at}
use Rattle.model.specs.Values.{half16, of_size}
use Rattle.model.specs.Image.{Tables, size_of}
use Rattle.model.specs.Run.{St, Res, gives, reading, reading_of}
use Rattle.values.proofs.Held.{held}
use Rattle.actions.specs.declared.{Word.Word, Word.TheVariants.Read, Word.TheVariants.Ended, Word.TheVariants.OutOfRange}
use Rattle.actions.specs.Words.{word_of}

judged-as : ℤ → Bool → Word
judged-as z b = elim b [ true ↦ Read z | false ↦ OutOfRange ]

word-there : (n : ℕ) (script : List ℕ) (i : ℕ) → i < length script / 4 → word_of n script i ≡ judged-as (word_at script i) (of_size half16 n (word_at script i))
unfolding word_of judged-as
word-there n script i h = ap (λ (b : Bool). elim b [ true ↦ judged-as (word_at script i) (of_size half16 n (word_at script i)) | false ↦ Ended ]) (lt-ltb i (length script / 4) h)

pub word-ended : (n : ℕ) (script : List ℕ) (i : ℕ) → length script / 4 ≤ i → Ended ≡ word_of n script i
unfolding word_of judged-as
word-ended n script i h = sym (ap (λ (b : Bool). elim b [ true ↦ judged-as (word_at script i) (of_size half16 n (word_at script i)) | false ↦ Ended ]) (le-ltb i (length script / 4) h))

pub word_read : (n : ℕ) (script : List ℕ) (i : ℕ) {z : ℤ} {b : Bool} → i < length script / 4 → z ≡ word_at script i → held z ≡ z → b ≡ of_size half16 n (held z) → b ≡ true
    → Read (held z) ≡ word_of n script i
unfolding judged-as
word_read n script i {z} h e l f t =
    let o : of_size half16 n (word_at script i) ≡ true = rw (← e, ← l) (sym f ∙ t) in
    ap Read (l ∙ e) ∙ sym (word-there n script i h ∙ ap (judged-as (word_at script i)) o)

pub word_out : (n : ℕ) (script : List ℕ) (i : ℕ) {z : ℤ} {b : Bool} → i < length script / 4 → z ≡ word_at script i → held z ≡ z → b ≡ of_size half16 n (held z) → b ≡ false
    → OutOfRange ≡ word_of n script i
unfolding judged-as
word_out n script i {z} h e l f t =
    let o : of_size half16 n (word_at script i) ≡ false = rw (← e, ← l) (sym f ∙ t) in
    sym (word-there n script i h ∙ ap (judged-as (word_at script i)) o)

-- one word on
abbrev pub onward : St → St
onward s = record { store = s.store; words = s.words + 1; left = s.left; label = s.label }

abbrev pub read_as : Word → ℕ → St → (ℤ → St → Res) → Res
read_as y r s k =
    elim y [ Read z ↦ k z (onward s) | Ended ↦ gives (Stops (ScriptEnded (row r))) s | OutOfRange ↦ gives (Stops (WordOutOfRange (row r))) (onward s) ]

-- a reading by the word that is there
pub reading_of-by : (x : Tables) (t : ℕ) (script : List ℕ) (r : ℕ) (s : St) (k : ℤ → St → Res) → x.half ≡ half16
    → reading_of x t script r s k ≡ read_as (word_of (size_of x t) script s.words) r s k
unfolding reading_of reading word_of
reading_of-by x t script r s k e = rw e (go (ltb s.words (length script / 4)) (of_size half16 (size_of x t) (word_at script s.words)))
  where
    go : (b c : Bool)
        → ◌≡◌ {A = Res} (elim b [ true ↦ elim c [ true ↦ k (word_at script s.words) (onward s) | false ↦ gives (Stops (WordOutOfRange (row r))) (onward s) ] | false ↦ gives (Stops (ScriptEnded (row r))) s ])
        (read_as (elim b [ true ↦ elim c [ true ↦ Read (word_at script s.words) | false ↦ OutOfRange ] | false ↦ Ended ]) r s k)
    go true true = refl
    go true false = refl
    go false c = refl
