-- Figures 9 and 10 as printed say of an action what the ways it can end say. Assumes nothing.
use mathlib.Core.{Path.◌≡◌, Path.refl, Path.sym, Path.ap, Path.ap₂, Path.◌∙◌, Bool.Bool, Bool.true, Bool.false, Bool.not, Bool.◌&&◌, Bool.◌||◌}
use Prim.Native.Nat.{ℕ}
use lib.IntN.{ℤ}
use Rattle.model.specs.declared.Variable.{Variable}
use Rattle.model.specs.Image.{Tables, none}
use Rattle.model.specs.Trees.{Action, at, Act, null, assign, choose, reset, communicate, to, then, select, case, while, for, Branches, no_branch, branch, some_branch, Arms, no_arm, arm}
use Rattle.model.specs.Typing.{type_of_exp}
use Rattle.model.specs.Speech.{Ways, ends_as, either, entered, needs, is_always, exhaustive, quiet_loop, speech, speech_act, speech_branches, speech_arms, well_spoken}
use Rattle.model.specs.Run.{onward}
use Rattle.model.specs.Figure2.{expansion}
use Rattle.model.proofs.Rows.{and-true}
use Rattle.demands.specs.Figures.{reach_to, reach_to_act, reach_to_branches, reach_to_arms, well_def, well_def_act, well_def_branches, well_def_arms}

abbrev pub imp : Bool → Bool → Bool
imp a b = not a || b

-- nothing is wrong, and what follows is right in each way that the action can end: w quiet, r spoken
abbrev pub after : Ways → Bool → Bool → Bool
after v w r = v.right && (imp v.quiet w && imp v.spoken r)

-- ---- Booleans
imp-true : (a : Bool) → imp a true ≡ true
imp-true true = refl
imp-true false = refl

imp-false : (a : Bool) → imp a false ≡ not a
imp-false true = refl
imp-false false = refl

interchange : (a b c d : Bool) → ((a && b) && (c && d)) ≡ ((a && c) && (b && d))
interchange true true c d = refl
interchange true false true d = refl
interchange true false false d = refl
interchange false b c d = refl

imp_or : (a b c : Bool) → (imp a c && imp b c) ≡ imp (a || b) c
imp_or true b true = imp-true b
imp_or true b false = refl
imp_or false b c = refl

imp-and : (a s c : Bool) → ((a && imp s c) && c) ≡ ((a && true) && c)
imp-and true true true = refl
imp-and true true false = refl
imp-and true false c = refl
imp-and false s c = refl

-- ---- what follows a combination of ways
entered-after : (b : Bool) (v : Ways) (w r : Bool) → imp b (after v w r) ≡ after (entered b v) w r
entered-after true v w r = refl
entered-after false v w r = refl

needs-after : (b : Bool) (v : Ways) (w r : Bool) → (b && after v w r) ≡ after (needs b v) w r
needs-after true v w r = refl
needs-after false v w r = refl

either-after : (u v : Ways) (w r : Bool) → (after u w r && after v w r) ≡ after (either u v) w r
either-after u v w r =
    interchange u.right _ v.right _ ∙ ap (λ (b : Bool). (u.right && v.right) && b)
    (interchange (imp u.quiet w) _ (imp v.quiet w) _
    ∙ ap₂ (λ (a b : Bool). a && b) (imp_or u.quiet v.quiet w) (imp_or u.spoken v.spoken r))

then-after : (u p q : Ways) (w r : Bool)
    → after u (after p w r) (after q w r) ≡ after (needs u.right (either (entered u.quiet p) (entered u.spoken q))) w r
then-after u p q w r =
    ap (λ (b : Bool). u.right && b)
    (ap₂ (λ (a b : Bool). a && b) (entered-after u.quiet p w r) (entered-after u.spoken q w r)
    ∙ either-after (entered u.quiet p) (entered u.spoken q) w r)
    ∙ needs-after u.right (either (entered u.quiet p) (entered u.spoken q)) w r

-- null follows
null-after : (v : Ways) → after v true false ≡ (v.right && not v.spoken)
null-after v = rw (imp-true v.quiet, imp-false v.spoken)

loop-after : (v : Ways) (w r : Bool) → (after v true false && w) ≡ after (quiet_loop v) w r
loop-after v w r = ap₂ (λ (a b : Bool). a && b) (null-after v ∙ sym (and-true _)) (sym (and-true w))

-- nothing is asked of who ends quiet
spoken-after : (v : Ways) (r : Bool) → after v true r ≡ (v.right && imp v.spoken r)
spoken-after v r = rw (imp-true v.quiet)

module _ (x : Tables) where
  -- Figure 10; entered spoken nothing ends quiet, and w may be either
  mutual
    unfolding speech reach_to

    reach : (a : Action) (w r : Bool) → reach_to x a r ≡ after (speech x true a) w r
    reach (at n a) w r = reach-act a w r

    reach-act : (a : Act) (w r : Bool) → reach_to_act x a r ≡ after (speech_act x true a) w r
    reach-act null w r = refl
    reach-act (assign items) w r = refl
    reach-act (choose items e) w r = needs-after (is_always e) (ends_as true) w r
    reach-act (reset vs) w r = refl
    reach-act (communicate g os) w r = refl
    reach-act (to q) w r = refl
    reach-act (then a b) w r =
        reach a (after (speech x false b) w r) (reach_to x b r) ∙ ap (after (speech x true a) (after (speech x false b) w r)) (reach b w r)
        ∙ then-after (speech x true a) (speech x false b) (speech x true b) w r
    reach-act (select bs) w r = ap (λ (b : Bool). some_branch bs && b) (reach-branches bs w r) ∙ needs-after (some_branch bs) (speech_branches x true bs) w r
    reach-act (case e arms) w r =
        let t = exhaustive x (type_of_exp x e) arms in
        ap (λ (b : Bool). t && b) (reach-arms arms w r) ∙ needs-after t (speech_arms x true arms) w r
    reach-act (while e a) w r = refl
    reach-act (for v low high a) w r =
        ap (λ (b : Bool). b && r) (reach a true r ∙ spoken-after (speech x true a) r) ∙ imp-and (speech x true a).right (speech x true a).spoken r

    reach-branches : (bs : Branches) (w r : Bool) → reach_to_branches x bs r ≡ after (speech_branches x true bs) w r
    reach-branches no_branch w r = refl
    reach-branches (branch a bs) w r =
        ap₂ (λ (b c : Bool). b && c) (reach a w r) (reach-branches bs w r) ∙ either-after (speech x true a) (speech_branches x true bs) w r

    reach-arms : (arms : Arms) (w r : Bool) → reach_to_arms x arms r ≡ after (speech_arms x true arms) w r
    reach-arms no_arm w r = refl
    reach-arms (arm p a rest) w r =
        ap₂ (λ (b c : Bool). b && c) (reach a w r) (reach-arms rest w r) ∙ either-after (speech x true a) (speech_arms x true rest) w r

  -- Figure 9
  mutual
    unfolding speech well_def

    pub well_def-is : (a : Action) (w r : Bool) → well_def x a w r ≡ after (speech x false a) w r
    well_def-is (at n a) w r = well-act a w r

    well-act : (a : Act) (w r : Bool) → well_def_act x a w r ≡ after (speech_act x false a) w r
    well-act null w r = sym (and-true w)
    well-act (assign items) w r = sym (and-true w)
    well-act (choose items e) w r = sym (and-true w)
    well-act (reset vs) w r = sym (and-true w)
    well-act (communicate g os) w r = refl
    well-act (to q) w r = refl
    well-act (then a b) w r =
        well_def-is a (well_def x b w r) (reach_to x b r) ∙ ap₂ (after (speech x false a)) (well_def-is b w r) (reach b w r)
        ∙ then-after (speech x false a) (speech x false b) (speech x true b) w r
    well-act (select bs) w r = well-branches bs w r
    well-act (case e arms) w r = well-arms arms w r
    well-act (while e a) w r = ap (λ (b : Bool). b && w) (well_def-is a true false) ∙ loop-after (speech x false a) w r
    well-act (for v low high a) w r = ap (λ (b : Bool). b && w) (well_def-is a true false) ∙ loop-after (speech x false a) w r

    well-branches : (bs : Branches) (w r : Bool) → well_def_branches x bs w r ≡ after (speech_branches x false bs) w r
    well-branches no_branch w r = refl
    well-branches (branch a bs) w r =
        ap₂ (λ (b c : Bool). b && c) (well_def-is a w r) (well-branches bs w r) ∙ either-after (speech x false a) (speech_branches x false bs) w r

    well-arms : (arms : Arms) (w r : Bool) → well_def_arms x arms w r ≡ after (speech_arms x false arms) w r
    well-arms no_arm w r = refl
    well-arms (arm p a rest) w r =
        ap₂ (λ (b c : Bool). b && c) (well_def-is a w r) (well-arms rest w r) ∙ either-after (speech x false a) (speech_arms x false rest) w r

  -- refusal 12 is Figure 9
  pub well_spoken-is : (a : Action) → well_spoken x a ≡ well_def x a true false
  unfolding well_spoken
  well_spoken-is a = sym (well_def-is a true false ∙ null-after (speech x false a))

  -- a for's hidden assignments don't count: Figure 9 says the same of its expansion, and Figure 10's A0 may be the body alone
  pub well_def-for : (n : ℕ) (v : Variable) (low high : ℤ) (a : Action) (w r : Bool)
      → well_def x (at n (for v low high a)) w r ≡ well_def x (expansion n v low high a) w r
  unfolding well_def reach_to
  well_def-for n v low high a w r = refl

  pub reach_to-for : (n : ℕ) (v : Variable) (low high : ℤ) (a : Action) (r : Bool)
      → reach_to x (at n (for v low high a)) r ≡ (reach_to x (at none (then a (at none (assign (onward v))))) r && r)
  unfolding reach_to
  reach_to-for n v low high a r = refl
