-- The ways of an action entered quiet and entered spoken, the operations of Speech on both at once, and both as a byte.
-- Assumes nothing.
use mathlib.Core.{Path.◌≡◌, Bool.Bool, Bool.true, Bool.false, Bool.not, Bool.◌||◌}
use Rattle.std.specs.Prelude.{ℕ, ◌/◌, ◌%◌, eqb}
use Rattle.model.specs.Speech.{Ways, ways, nowhere, ends_as, either, entered, needs, quiet_loop, loop_for}
use Rattle.speech.specs.declared.ways.Ways as code
use Rattle.speech.specs.declared.ways.Modes.{Modes}

-- entered quiet, and entered spoken
pub record Both : Type 0 where
  pub quiet : Ways
  pub spoken : Ways

abbrev pub two : Ways → Ways → Both
two quiet spoken = record { quiet = quiet; spoken = spoken }

-- what f says of each mode
abbrev pub both : (Bool → Ways) → Both
both f = two (f false) (f true)

-- the code's values
abbrev pub ways_of : code.Ways → Ways
ways_of w = ways w.right w.quiet w.spoken

abbrev pub both_of : Modes → Both
both_of w = two (ways_of w.quiet) (ways_of w.spoken)

-- six bits: right, quiet and spoken of an action entered quiet, then entered spoken
abbrev pub digit : Bool → ℕ
digit true = 1
digit false = 0

abbrev pub odd : ℕ → Bool
odd n = eqb (n % 2) 1

abbrev pub unpacked_ways : ℕ → Ways
unpacked_ways n = ways (odd n) (odd (n / 2)) (odd (n / 4))

unfoldable pub unpacked : ℕ → Both
unpacked n = two (unpacked_ways n) (unpacked_ways (n / 8))

-- n is w with m above its three bits
pub record Packed (n : ℕ) (w : Ways) (m : ℕ) : Type 0 where
  pub low : unpacked_ways n ≡ w
  pub high : n / 8 ≡ m

-- an action of the ways w, and then one that has these ways entered quiet and entered spoken
abbrev pub entering : Ways → Ways → Ways → Ways
entering w quiet spoken = needs w.right (either (entered w.quiet quiet) (entered w.spoken spoken))

-- null, an assignment, a reset
abbrev pub kept : Both
kept = both ends_as

-- a jump, a list without rows
abbrev pub nowhere_both : Both
nowhere_both = both (λ m. nowhere)

-- a communication
abbrev pub said : Both
said = both (λ m. needs (not m) (ends_as true))

-- one of both, by the mode
abbrev pub in_mode : Both → Bool → Ways
in_mode w false = w.quiet
in_mode w true = w.spoken

-- the test of an any, a select or a case counts where it is entered spoken
abbrev pub spoken_needs : Bool → Both → Both
spoken_needs test w = both (λ m. needs (not m || test) (in_mode w m))

-- branches, arms; then; while; for
abbrev pub either_of : Both → Both → Both
either_of v w = both (λ m. either (in_mode v m) (in_mode w m))

abbrev pub followed : Both → Both → Both
followed v w = both (λ m. entering (in_mode v m) w.quiet w.spoken)

abbrev pub looped_while : Both → Both
looped_while w = both (λ m. needs (not m) (entered (not m) (quiet_loop w.quiet)))

abbrev pub looped_for : Both → Both
looped_for w = both (λ m. loop_for m w.quiet w.spoken)
