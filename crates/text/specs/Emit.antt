-- Text written while there is room. Assumes nothing.
use mathlib.Core.{Path.◌≡◌, Path.refl, Bool.true, Bool.false, List.List, List.[], List.◌∷◌}
use Rattle.std.specs.Prelude.{ℕ, ◌+◌, ◌-◌}
use Prim.Native.Char.{code}
use Prim.Native.String.{String, [] as no_text, ◌∷◌ as ◌then-text◌}
use lib.{Dec.ltb, ListN.length, ListN.set}
use Rattle.model.specs.Exports.{decimal}

-- a slice and the byte up to which it is written
pub record Page : Type 0 where
  pub «end» : ℕ
  pub text : List ℕ

abbrev pub page : ℕ → List ℕ → Page
page e t = record { «end» = e; text = t }

-- one byte more, if there is room
unfoldable pub emit_byte : ℕ → Page → Page
emit_byte b p = elim (ltb p.«end» (length p.text)) [ true ↦ page (p.«end» + 1) (set p.text p.«end» b) | false ↦ p ]

-- bytes one after another, as many as there is room for
unfoldable pub emit : List ℕ → Page → Page
emit [] p = p
emit (b ∷ bs) p = emit bs (emit_byte b p)

-- a page p becomes q by some bytes emitted
pub record Emitted (bytes : List ℕ) (p q : Page) : Type 0 where
  pub is : q ≡ emit bytes p

-- a number as 16 bits in two's complement: the digits, after a minus sign from 32,768 on
unfoldable pub literal : ℕ → List ℕ
literal n = elim (ltb n 0x8000) [ true ↦ decimal n [] | false ↦ 45 ∷ decimal (0x10000 - n) [] ]

-- the bytes of a text
abbrev pub bytes : String → List ℕ
bytes no_text = []
bytes (c then-text s) = code c ∷ bytes s

some : bytes "ab\n\"" ≡ 97 ∷ 98 ∷ 10 ∷ 34 ∷ []
some = refl
