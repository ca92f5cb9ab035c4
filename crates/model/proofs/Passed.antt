-- What an image free of 1 to 9 has. Assumes nothing.
use Rattle.std.specs.Prelude.{Ok}
use mathlib.Core.{Path.◌≡◌, Bool.true, List.List}
use Prim.Native.Nat.{ℕ, ◌<◌}
use lib.ListN.{length, get_or}
use Rattle.model.specs.declared.{Refusal.TheVariants.ImageLength, Refusal.TheVariants.MarkOrLength, Refusal.TheVariants.Starts, Refusal.TheVariants.Entries, Refusal.TheVariants.Malformed, Refusal.TheVariants.NoAction, Refusal.TheVariants.NoCondition, Refusal.TheVariants.Typing}
use Rattle.model.specs.Answers.{state, row, unless, each}
use Rattle.model.specs.Image.{Tables, none, length_fits, marked, trailer_of, starts_fit, tables_of, entries_right}
use Rattle.model.specs.Rows.{action, expression, is_root, formed, named_once}
use Rattle.model.specs.Typing.{typed}
use Rattle.model.specs.Binding.{bound}
use Rattle.model.specs.Calls.{rows_verdict, rules_verdict, image_verdict}
use Rattle.model.proofs.Order.{after_both, unless-true, each_all}
use Rattle.model.proofs.Rows.{Formed}

-- free of 4 to 9
pub record Free (x : Tables) : Type 0 where
  pub entries : entries_right x ≡ true
  pub formed : Formed x
  pub roots : (s : ℕ) → s < length x.states → is_root x action (get_or x.states s none) ≡ true
  pub condition : is_root x expression x.condition ≡ true
  pub named : (r : ℕ) → r < length x.rows → named_once x r ≡ true
  pub typed : (r : ℕ) → r < length x.rows → typed x r ≡ true
  pub bound : (r : ℕ) → r < length x.rows → bound x r ≡ true

-- free of 1 to 9
pub record Passed (s : List ℕ) : Type 0 where
  pub long : length_fits s ≡ true
  pub marked : marked s ≡ true
  pub starts : starts_fit (trailer_of s) ≡ true
  pub free : Free (tables_of s)

pub passed : (s : List ℕ) → image_verdict s ≡ Ok tt → Passed s
unfolding image_verdict rows_verdict rules_verdict
passed s e =
    let x = tables_of s in
    let a = after_both (unless (length_fits s) ImageLength) _ e in
    let b = after_both (unless (marked s) MarkOrLength) _ a.1 in
    let c = after_both (unless (starts_fit (trailer_of s)) Starts) _ b.1 in
    let d = after_both (unless (entries_right x) Entries) _ c.1 in
    let f = after_both (rows_verdict x) (rules_verdict x) d.1 in
    let g = after_both (each (formed x) (length x.rows) (λ r. Malformed (row r))) _ f.0 in
    let h = after_both (each (λ q. is_root x action (get_or x.states q none)) (length x.states) (λ q. NoAction (state q))) _ g.1 in
    let i = after_both (unless (is_root x expression x.condition) (NoCondition (length x.states))) _ h.1 in
    let j = after_both (each (typed x) (length x.rows) (λ r. Typing (row r))) _ f.1 in
    record {
      long = unless-true _ ImageLength a.0;
      marked = unless-true _ MarkOrLength b.0;
      starts = unless-true _ Starts c.0;
      free = record {
        entries = unless-true _ Entries d.0;
        formed = record { each = each_all (formed x) (length x.rows) _ g.0 };
        roots = each_all (λ q. is_root x action (get_or x.states q none)) (length x.states) _ h.0;
        condition = unless-true _ (NoCondition (length x.states)) i.0;
        named = each_all (named_once x) (length x.rows) _ i.1;
        typed = each_all (typed x) (length x.rows) _ j.0;
        bound = each_all (bound x) (length x.rows) _ j.1;
      };
    }
