-- A case does what the search for its first arm says. Assumes nothing.
use mathlib.Core.{Path.◌≡◌, Path.refl, Path.sym, Path.ap, Path.◌∙◌, List.List, List.[], List.◌∷◌}
use Prim.Native.Nat.{ℕ}
use lib.IntN.{ℤ}
use Rattle.model.specs.declared.{Outcome.TheVariants.Stops, Refusal.TheVariants.Undefined}
use Rattle.model.specs.Answers.{row}
use Rattle.model.specs.Image.{Tables, fields_of}
use Rattle.model.specs.Decode.{pattern_at, arms_of, action_at}
use Rattle.model.specs.Run.{Match, matched, failed, unsure, match, St, gives, stored, blocked, exec, exec_arms}
use Rattle.patterns.specs.declared.{Found.Found, Found.TheVariants.Arm, Found.TheVariants.NoArm}
use Rattle.patterns.specs.declared.Found.TheVariants as finds
use Rattle.patterns.specs.Finding.{Finding, finding, find_arm, running}

-- what an arm's match makes of the search: a is its action, rest what is found behind it
unfoldable pub by-match : ℕ → Finding → List ℤ → Match → Finding
by-match a rest m y = elim y [ matched n ↦ finding (Arm a) n | failed ↦ rest | unsure ↦ finding finds.Unsure m ]

module _ (x : Tables) (z : ℤ) (script : List ℕ) (r : ℕ) (s : St) where
  pub find_arm-exec : (l : List ℕ)
      → exec_arms x (arms_of x (action_at x) l) z script r s ≡ running x (find_arm x l z s.store).found (find_arm x l z s.store).store script r s
  unfolding exec_arms arms_of find_arm by-match
  find_arm-exec [] = refl
  find_arm-exec (i ∷ l) = go (find_arm-exec l) (match x (pattern_at x (fields_of x i).a) z s.store)
    where
      pick : Match → Finding
      pick = by-match (fields_of x i).b (find_arm x l z s.store) s.store

      go : exec_arms x (arms_of x (action_at x) l) z script r s ≡ running x (find_arm x l z s.store).found (find_arm x l z s.store).store script r s
          → (y : Match)
          → elim y [
            | matched n ↦ exec x (action_at x (fields_of x i).b) script (stored n s)
            | failed ↦ exec_arms x (arms_of x (action_at x) l) z script r s
            | unsure ↦ gives (Stops (Undefined (row r))) s
          ] ≡ running x (pick y).found (pick y).store script r s
      go rest (matched n) = refl
      go rest failed = rest
      go rest unsure = refl

  -- the same by what was found, f, and the store after it, n
  module _ {f : Found} {n : List ℤ} (l : List ℕ) (e : finding f n ≡ find_arm x l z s.store) where
    exec-as : exec_arms x (arms_of x (action_at x) l) z script r s ≡ running x f n script r s
    exec-as = find_arm-exec l ∙ sym (ap (λ (g : Finding). running x g.found g.store script r s) e)

    pub exec-arm : (a : ℕ) → f ≡ Arm a → exec_arms x (arms_of x (action_at x) l) z script r s ≡ exec x (action_at x a) script (stored n s)
    exec-arm a g = exec-as ∙ ap (λ (h : Found). running x h n script r s) g

    pub exec-none : f ≡ NoArm → exec_arms x (arms_of x (action_at x) l) z script r s ≡ blocked r s
    exec-none g = exec-as ∙ ap (λ (h : Found). running x h n script r s) g

    pub exec-unsure : f ≡ finds.Unsure → exec_arms x (arms_of x (action_at x) l) z script r s ≡ gives (Stops (Undefined (row r))) s
    exec-unsure g = exec-as ∙ ap (λ (h : Found). running x h n script r s) g
