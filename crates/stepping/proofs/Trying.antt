-- The run that a step tries. Assumes nothing.
use Rattle.std.specs.Prelude.{Ok}
use mathlib.Core.{Path.◌≡◌, Path.ap, Path.◌∙◌, Bool.true, Bool.false, List.List}
use Prim.Native.Nat.{ℕ, ◌<◌}
use native.Mathlib.Omega.{arith}
use lib.{Dec.ltb, IntN.ℤ, ListN.length, ListN.get_or}
use Rattle.model.specs.declared.{Image.Image, Outcome.Outcome}
use Rattle.model.specs.Image.{none, tables_of}
use Rattle.model.specs.Rows.{action, is_root, is_kind}
use Rattle.model.specs.Decode.{action_at}
use Rattle.model.specs.Run.{Res, exec}
use Rattle.model.specs.Calls.{image_verdict, attempt}
use Rattle.model.proofs.Rows.{both_true}
use Rattle.model.proofs.Passed.{passed}
use Rattle.image.specs.Located.{StateOf}
use Rattle.image.proofs.Laid.{states-count}
use Rattle.machine.specs.Running.{Running}
use Rattle.actions.specs.declared.{Run.Run}
use Rattle.actions.specs.State.{state_of, result_of}
use Rattle.stepping.specs.Stepping.{Trying}
use Rattle.stages.proofs.Cleared.{located}

-- a state's row is an action
pub root-of : (s : List ℕ) → image_verdict s ≡ Ok tt → (q : ℕ) → q < length (tables_of s).states → is_kind (tables_of s) action (get_or (tables_of s).states q none) ≡ true
unfolding is_root
root-of s e q h =
    (both_true (ltb (get_or (tables_of s).states q none) (length (tables_of s).rows)) _ ((passed s e).free.roots q h)).1

module _ {s : List ℕ} {i : Image} {q : ℕ} {m values : List ℤ} {budget : ℕ} (h : Trying s i q m values budget) where
  pub state-there : StateOf s i q
  state-there =
      let l = located h.cleared in
      record { located = l; inside = omega (arith, h.state, states-count l) }

  pub root : is_kind (tables_of s) action (get_or (tables_of s).states q none) ≡ true
  root = root-of s h.cleared.passed q h.state

  pub runs-there : {r : ℕ} → r ≡ get_or (tables_of s).states q none → Running action s i.rows r m values
  runs-there e = record { ready = h.ready; start = ap (λ (j : Image). j.rows) h.cleared.trailer; kind = rw e root; room = omega (arith, h.room) }

  pub tries : {r : ℕ} {p : Res} (script : List ℕ) → r ≡ get_or (tables_of s).states q none
      → p ≡ exec (tables_of s) (action_at (tables_of s) r) script (state_of (record { words = 0; left = budget; spoken = false; gate = 0; count = 0 }) m values)
      → p ≡ attempt (tables_of s) q m script budget
  unfolding attempt
  tries script e f = f ∙ ap (λ (k : ℕ). exec (tables_of s) (action_at (tables_of s) k) script (state_of (record { words = 0; left = budget; spoken = false; gate = 0; count = 0 }) m values)) e

  -- the outcome that the run told
  pub tried : {r : ℕ} {o p : Outcome} (run : Run) (script : List ℕ) (n vs : List ℤ) → r ≡ get_or (tables_of s).states q none → o ≡ p
      → result_of (record { out = p; run = run }) n vs ≡ exec (tables_of s) (action_at (tables_of s) r) script (state_of (record { words = 0; left = budget; spoken = false; gate = 0; count = 0 }) m values)
      → result_of (record { out = o; run = run }) n vs ≡ attempt (tables_of s) q m script budget
  tried run script n vs e f l =
      ap (λ (u : Outcome). result_of (record { out = u; run = run }) n vs) f ∙ tries script e l
