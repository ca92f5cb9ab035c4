-- A word of the script that is a value of a type (01, "The step": "each word is judged as it is read"), and any's words. Assumes
-- nothing.
use mathlib.Core.{Path.◌≡◌, Bool.true, Bool.false, List.List, List.[], List.◌∷◌}
use Rattle.std.specs.Prelude.{ℕ, ◌/◌}
use lib.{Dec.ltb, IntN.ℤ, ListN.length}
use Rattle.model.specs.declared.{Outcome.TheVariants.Ends}
use Rattle.model.specs.Bytes.{word_at}
use Rattle.model.specs.Values.{half16, of_size}
use Rattle.model.specs.declared.{Image.Image}
use Rattle.model.specs.Image.{Tables, trailer_of}
use Rattle.model.specs.Rows.{of_type}
use Rattle.model.specs.Trees.{OfType}
use Rattle.model.specs.Run.{store, St, Res, gives, stored, reading_of}
use Rattle.actions.specs.Items.{Items}
use Rattle.actions.specs.declared.{Word.Word, Word.TheVariants.Read, Word.TheVariants.Ended, Word.TheVariants.OutOfRange}

-- word number i of the script, for a type with n values
unfoldable pub word_of : ℕ → List ℕ → ℕ → Word
word_of n script i =
    elim (ltb i (length script / 4)) [
      | true ↦ elim (of_size half16 n (word_at script i)) [ true ↦ Read (word_at script i) | false ↦ OutOfRange ]
      | false ↦ Ended
    ]

-- any's items, before its condition
unfoldable pub drawing : Tables → List OfType → List ℕ → ℕ → St → Res
drawing x [] script r s = gives Ends s
drawing x (i ∷ items) script r s =
    reading_of x i.t script r s (λ z u. drawing x items script r (stored (store u.store i.v z) u))

-- items of any in an image and a store that a step runs, each of its variable's type
pub record Drawn (s : List ℕ) (i : Image) (first : ℕ) (m : List ℤ) : Type 0 where
  pub items : Items of_type s i.rows first m
  pub trailer : i ≡ trailer_of s
