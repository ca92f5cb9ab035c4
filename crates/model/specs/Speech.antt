-- Speech (report, Figures 9 to 11; 01, "Speech"; refusal 12): an action is entered quiet (false) or spoken (true). Assumes
-- nothing.
use Rattle.std.specs.Prelude.{Bool, true, false, not, ◌&&◌, ◌||◌, ℕ, zero, suc}
use lib.{Dec.eqb, IntN.ℤ, IntN.pos}
use Rattle.model.specs.Values.{same}
use Rattle.model.specs.Image.{Tables, bool, int, size_of}
use Rattle.model.specs.Trees.{Exp, var, const, unary, binary, Pat, any, bind, equals, guarded, Action, at, Act, null, assign, choose, reset, communicate, to, then, select, case, while, for, Branches, no_branch, branch, some_branch, Arms, no_arm, arm}
use Rattle.model.specs.Typing.{type_of_exp}

-- nothing that can be entered is wrong; the action can end quiet; it can end spoken
pub record Ways : Type 0 where
  pub right : Bool
  pub quiet : Bool
  pub spoken : Bool

abbrev pub ways : Bool → Bool → Bool → Ways
ways r q s = record { right = r; quiet = q; spoken = s }

-- it never ends
abbrev pub nowhere : Ways
nowhere = ways true false false

-- it ends quiet, or spoken
abbrev pub ends_as : Bool → Ways
ends_as false = ways true true false
ends_as true = ways true false true

-- either may be entered, so both are judged
abbrev pub either : Ways → Ways → Ways
either a b = ways (a.right && b.right) (a.quiet || b.quiet) (a.spoken || b.spoken)

-- "Only what can be entered is judged"
abbrev pub entered : Bool → Ways → Ways
entered false w = nowhere
entered true w = w

-- wrong unless the test passes
abbrev pub needs : Bool → Ways → Ways
needs b w = ways (b && w.right) w.quiet w.spoken

-- the row 2, 0, 1, and no condition
abbrev pub is_always : Exp → Bool
is_always (var v) = false
is_always (const t z) = eqb t bool && same z (pos 1)
is_always (unary o e) = false
is_always (binary o a b) = false

-- an unguarded any or variable pattern
abbrev pub catches_all : Pat → Bool
catches_all (any t) = true
catches_all (bind v) = true
catches_all (equals t z) = false
catches_all (guarded p e) = false

-- the value as an unguarded constant
abbrev pub catches : ℤ → Pat → Bool
catches k (any t) = false
catches k (bind v) = false
catches k (equals t z) = same k z
catches k (guarded p e) = false

unfoldable pub some_catches_all : Arms → Bool
some_catches_all no_arm = false
some_catches_all (arm p a rest) = catches_all p || some_catches_all rest

unfoldable pub some_catches : ℤ → Arms → Bool
some_catches k no_arm = false
some_catches k (arm p a rest) = catches k p || some_catches k rest

-- each value below n
unfoldable pub each_caught : ℕ → Arms → Bool
each_caught zero arms = true
each_caught (suc n) arms = some_catches (pos n) arms && each_caught n arms

-- Figure 11: the arms catch every value of the type
unfoldable pub exhaustive : Tables → ℕ → Arms → Bool
exhaustive x t arms = some_catches_all arms || (not (eqb t int) && each_caught (size_of x t) arms)

-- a loop entered quiet: its body may not end spoken, and one is quiet after it
abbrev pub quiet_loop : Ways → Ways
quiet_loop w = needs (w.right && not w.spoken) (ends_as false)

abbrev pub loop_for : Bool → Ways → Ways → Ways
loop_for false quiet spoken = quiet_loop quiet
loop_for true quiet spoken = needs spoken.right (ends_as true)

unfoldable mutual
  pub speech : Tables → Bool → Action → Ways
  speech x m (at r a) = speech_act x m a

  pub speech_act : Tables → Bool → Act → Ways
  speech_act x m null = ends_as m
  speech_act x m (assign items) = ends_as m
  speech_act x m (choose items e) = needs (not m || is_always e) (ends_as m)
  speech_act x m (reset vs) = ends_as m
  speech_act x m (communicate g os) = needs (not m) (ends_as true)
  speech_act x m (to q) = nowhere
  speech_act x m (then a b) =
      let w = speech x m a in
      needs w.right (either (entered w.quiet (speech x false b)) (entered w.spoken (speech x true b)))
  speech_act x m (select bs) = needs (not m || some_branch bs) (speech_branches x m bs)
  speech_act x m (case e arms) = needs (not m || exhaustive x (type_of_exp x e) arms) (speech_arms x m arms)
  speech_act x m (while e a) = needs (not m) (entered (not m) (quiet_loop (speech x false a)))
  speech_act x m (for v low high a) = loop_for m (speech x false a) (speech x true a)

  pub speech_branches : Tables → Bool → Branches → Ways
  speech_branches x m no_branch = nowhere
  speech_branches x m (branch a bs) = either (speech x m a) (speech_branches x m bs)

  pub speech_arms : Tables → Bool → Arms → Ways
  speech_arms x m no_arm = nowhere
  speech_arms x m (arm p a rest) = either (speech x m a) (speech_arms x m rest)

-- 12: a state's action, entered quiet, may not end spoken
unfoldable pub well_spoken : Tables → Action → Bool
well_spoken x a = let w = speech x false a in w.right && not w.spoken
