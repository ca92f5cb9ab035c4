-- The stages 5, 6 and 7 in their order. Assumes nothing.
use mathlib.Core.{Path.◌≡◌, Path.sym, Path.ap, Path.◌∙◌, Bool.Bool, Bool.true, Bool.false, List.List}
use Prim.Native.Nat.{ℕ}
use lib.ListN.{length}
use Rattle.std.specs.Prelude.{Option, Some, None, Ok, Err}
use Rattle.model.specs.declared.{Image.Image, Refusal.Refusal, Refusal.TheVariants.Malformed, Refusal.TheVariants.NoAction, Refusal.TheVariants.NoCondition, Refusal.TheVariants.NotNamedOnce}
use Rattle.model.specs.Answers.{state, row, after, unless, each, lowest_failing, Verdict}
use Rattle.model.specs.Image.{Tables, tables_of}
use Rattle.model.specs.Rows.{expression, formed, is_root, named_once}
use Rattle.model.specs.Calls.{rows_verdict}
use Rattle.model.proofs.Order.{after-accepted, after-refused}
use Rattle.model.proofs.Found.{found-refused, none-accepted}
use Rattle.image.specs.Located.{Located}
use Rattle.image.proofs.Laid.{condition-is}
use Rattle.rows.specs.Judged.{rooted}

pub root-condition : {s : List ℕ} {i : Image} {t : Bool} → Located s i → t ≡ is_root (tables_of s) expression i.condition
    → t ≡ is_root (tables_of s) expression (tables_of s).condition
root-condition {s} l e = e ∙ ap (is_root (tables_of s) expression) (sym (condition-is l))

-- a stage by the lowest place that was found, if any, of n
module _ (p : ℕ → Bool) (f : ℕ → Refusal) {o : Option ℕ} {n m : ℕ} (e : n ≡ m) (l : o ≡ lowest_failing p n) where
  stage-refuses : {k : ℕ} → o ≡ Some k → each p m f ≡ Err (f k)
  stage-refuses h = sym (found-refused p m f (l ∙ ap (lowest_failing p) e) h)

  stage-passes : o ≡ None → each p m f ≡ Ok tt
  stage-passes h = sym (none-accepted p m f (l ∙ ap (lowest_failing p) e) h)

-- what is left after 5, after the states, and after the condition
module _ (x : Tables) where
  abbrev pub from7 : Verdict
  from7 = each (named_once x) (length x.rows) (λ r. NotNamedOnce (row r))

  abbrev pub from_condition : Verdict
  from_condition = after (unless (is_root x expression x.condition) (NoCondition (length x.states))) from7

  abbrev pub from6 : Verdict
  from6 = after (each (rooted x) (length x.states) (λ s. NoAction (state s))) from_condition

  module _ {n : ℕ} {o : Option ℕ} (e : n ≡ length x.rows) (l : o ≡ lowest_failing (formed x) n) where
    pub refused-5 : {r : ℕ} → o ≡ Some r → Err (Malformed (row r)) ≡ rows_verdict x
    unfolding rows_verdict
    refused-5 h = sym (after-refused _ from6 _ (stage-refuses (formed x) (λ k. Malformed (row k)) e l h))

    pub past-5 : o ≡ None → rows_verdict x ≡ from6
    unfolding rows_verdict
    past-5 h = after-accepted _ from6 (stage-passes (formed x) (λ k. Malformed (row k)) e l h)

  module _ {m : ℕ} {o : Option ℕ} (e : m ≡ length x.states) (l : o ≡ lowest_failing (rooted x) m) where
    pub refused-6 : {q : ℕ} → o ≡ Some q → Err (NoAction (state q)) ≡ from6
    refused-6 h = sym (after-refused _ from_condition _ (stage-refuses (rooted x) (λ k. NoAction (state k)) e l h))

    pub past-6 : o ≡ None → from6 ≡ from_condition
    past-6 h = after-accepted _ from_condition (stage-passes (rooted x) (λ k. NoAction (state k)) e l h)

  module _ {t : Bool} (e : t ≡ is_root x expression x.condition) where
    pub refused-condition : {m : ℕ} → m ≡ length x.states → t ≡ false → Err (NoCondition m) ≡ from_condition
    refused-condition s h = sym (after-refused _ from7 _ (rw (← e, h, s)))

    pub past-condition : t ≡ true → from_condition ≡ from7
    past-condition h = after-accepted _ from7 (rw (← e, h))

  module _ {n : ℕ} {o : Option ℕ} (e : n ≡ length x.rows) (l : o ≡ lowest_failing (named_once x) n) where
    pub refused-7 : {r : ℕ} → o ≡ Some r → Err (NotNamedOnce (row r)) ≡ from7
    refused-7 h = sym (stage-refuses (named_once x) (λ k. NotNamedOnce (row k)) e l h)

    pub accepted : o ≡ None → Ok tt ≡ from7
    accepted h = sym (stage-passes (named_once x) (λ k. NotNamedOnce (row k)) e l h)
