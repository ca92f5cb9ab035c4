-- What the stages give and what the next ones are asked. Assumes nothing.
use Rattle.std.specs.Prelude.{Ok, Err}
use mathlib.Core.{Path.◌≡◌, Path.sym, Path.ap, Path.◌∙◌, Bool.true, List.List, List.◌++◌}
use Prim.Native.Nat.{ℕ, ◌≤◌, ◌<◌}
use native.Mathlib.Omega.{arith}
use lib.{Dec.leb, ListN.length, ListN.get_or, ListN.drop}
use borrow.Author.Tests.{leb-true, lt-leb, le-leb}
use Rattle.model.specs.declared.{Image.Image, Refusal.Refusal, Refusal.TheVariants.ImageLength, Refusal.TheVariants.MarkOrLength, Refusal.TheVariants.Starts, Refusal.TheVariants.Entries, Refusal.TheVariants.Malformed, Refusal.TheVariants.NoAction, Refusal.TheVariants.NoCondition, Refusal.TheVariants.Typing, Refusal.TheVariants.SetsShort}
use Rattle.model.specs.Answers.{state, row, after, unless, each, Verdict}
use Rattle.model.specs.Image.{Tables, none, length_fits, marked, trailer_of, starts_fit, tables_of, entries_right, state_count}
use Rattle.model.specs.Rows.{action, expression, formed, is_root}
use Rattle.model.specs.Typing.{typed}
use Rattle.model.specs.Largest.{sets_of}
use Rattle.model.specs.Calls.{rows_verdict, rules_verdict, image_verdict, flow_verdict, check_verdict}
use Rattle.model.proofs.Rows.{both_true}
use Rattle.model.proofs.Order.{after-accepted, after-refused, after-assoc, after_both, unless-true, each_all}
use Rattle.image.specs.Located.{Located, Rooted, header_verdict}
use Rattle.masks.specs.declared.Masks.{Masks}
use Rattle.binding.specs.Bound.{binding_verdict}
use Rattle.sets.specs.States.{Room, Found as SetsFound}
use Rattle.image.proofs.Laid.{laid, states-count}
use Rattle.typing.specs.Rules.{typing_verdict}
use Rattle.stages.specs.Judging.{tables_verdict, Ruled, Masked, room_stage, leaves, found_verdict, Found, room_verdict, Flowed, trees_verdict, Judged, Sized, Ruling, Checks}
use Rattle.stages.proofs.Order.{image-is}
use Rattle.speech.specs.Verdict.{speech_verdict}

record Header (s : List ℕ) : Type 0 where
  long : length_fits s ≡ true
  marked : marked s ≡ true
  starts : starts_fit (trailer_of s) ≡ true
  entries : entries_right (tables_of s) ≡ true

header-passed : (s : List ℕ) → header_verdict s ≡ Ok tt → Header s
unfolding header_verdict
header-passed s e =
    let a = after_both (unless (length_fits s) ImageLength) _ e in
    let b = after_both (unless (marked s) MarkOrLength) _ a.1 in
    let c = after_both (unless (starts_fit (trailer_of s)) Starts) _ b.1 in
    record {
      long = unless-true _ ImageLength a.0;
      marked = unless-true _ MarkOrLength b.0;
      starts = unless-true _ Starts c.0;
      entries = unless-true _ Entries c.1;
    }

pub trailer-inside : (s : List ℕ) → header_verdict s ≡ Ok tt → 16 ≤ length s
unfolding length_fits
trailer-inside s e = omega (arith, leb-true 38 (length s) (both_true (leb 38 (length s)) _ (header-passed s e).long).0)

pub located-of : (s : List ℕ) (i : Image) → i ≡ trailer_of s → header_verdict s ≡ Ok tt → Located s i
located-of s i e h =
    let p = header-passed s h in
    record { trailer = e; long = p.long; marked = p.marked; starts = rw e p.starts }

-- 1 to 7
pub tables-refused : (s : List ℕ) (y : Refusal) → header_verdict s ≡ Err y → Err y ≡ tables_verdict s
unfolding tables_verdict
tables-refused s y e = sym (after-refused (header_verdict s) _ y e)

pub tables-rows : (s : List ℕ) (v : Verdict) → header_verdict s ≡ Ok tt → v ≡ rows_verdict (tables_of s) → v ≡ tables_verdict s
unfolding tables_verdict
tables-rows s v e f = f ∙ sym (after-accepted (header_verdict s) _ e)

-- what an image free of 1 to 7 has
pub rooted-of : (s : List ℕ) (i : Image) → i ≡ trailer_of s → tables_verdict s ≡ Ok tt → Rooted s i
unfolding tables_verdict rows_verdict
rooted-of s i e v =
    let x = tables_of s in
    let a = after_both (header_verdict s) (rows_verdict x) v in
    let g = after_both (each (formed x) (length x.rows) (λ r. Malformed (row r))) _ a.1 in
    let h = after_both (each (λ q. is_root x action (get_or x.states q none)) (length x.states) (λ q. NoAction (state q))) _ g.1 in
    let k = after_both (unless (is_root x expression x.condition) (NoCondition (length x.states))) _ h.1 in
    record {
      formed = record {
        located = located-of s i e a.0;
        entries = (header-passed s a.0).entries;
        rows = each_all (formed x) (length x.rows) _ g.0;
      };
      states = each_all (λ q. is_root x action (get_or x.states q none)) (length x.states) _ h.0;
      condition = unless-true _ (NoCondition (length x.states)) k.0;
    }

-- 8 and 9
pub rules-refused : (x : Tables) (y : Refusal) → typing_verdict x ≡ Err y → Err y ≡ rules_verdict x
unfolding rules_verdict typing_verdict
rules-refused x y e = sym (after-refused (each (typed x) (length x.rows) (λ r. Typing (row r))) _ y e)

pub rules-binding : (x : Tables) (v : Verdict) → typing_verdict x ≡ Ok tt → v ≡ binding_verdict x → v ≡ rules_verdict x
unfolding rules_verdict typing_verdict binding_verdict
rules-binding x v e f = f ∙ sym (after-accepted (each (typed x) (length x.rows) (λ r. Typing (row r))) _ e)

-- a verdict that is known and refuses
pub tables-stays : (s : List ℕ) (v : Verdict) (y : Refusal) → v ≡ header_verdict s → v ≡ Err y → v ≡ tables_verdict s
tables-stays s v y e f = f ∙ tables-refused s y (sym e ∙ f)

pub rules-stays : (x : Tables) (v : Verdict) (y : Refusal) → v ≡ typing_verdict x → v ≡ Err y → v ≡ rules_verdict x
rules-stays x v y e f = f ∙ rules-refused x y (sym e ∙ f)

-- 10 and 11
states-known : {s : List ℕ} {i : Image} → Rooted s i → length (tables_of s).states ≡ state_count i
states-known r = states-count r.formed.located

leaves-on : (v w : Verdict) (x : Tables) (was : List ℕ) → v ≡ Ok tt → leaves (after v w) x was ≡ leaves w x was
leaves-on v w x was e = ap (λ (u : Verdict). leaves u x was) (after-accepted v w e)

leaves_none : (v w : Verdict) (x : Tables) (was : List ℕ) (y : Refusal) → v ≡ Err y → leaves (after v w) x was ≡ was
unfolding leaves
leaves_none v w x was y e = ap (λ (u : Verdict). leaves u x was) (after-refused v w y e)

pub found-short : (s : List ℕ) (room n : ℕ) (was : List ℕ) → n ≡ length (tables_of s).states → room < n
    → Found (tables_of s) room (Err SetsShort) was was
unfolding found_verdict after leaves
found-short s room n was e h =
    let f = lt-leb (length (tables_of s).states) room (omega arith) in
    record { verdict = rw f; left = rw f }

pub found-sets : (s : List ℕ) (room n : ℕ) (v : Verdict) (was sets : List ℕ) → n ≡ length (tables_of s).states → n ≤ room
    → SetsFound (tables_of s) v was sets → Found (tables_of s) room v was sets
unfolding found_verdict after leaves
found-sets s room n v was sets e h f =
    let t = le-leb (length (tables_of s).states) room (omega arith) in
    record { verdict = f.verdict ∙ rw t; left = f.first ∙ rw t }

pub to-sets : {s : List ℕ} {i : Image} {ms : List Masks} {sets : List ℕ} → Masked s i ms sets → Room s i ms sets
to-sets m =
    record {
      lending = record { rooted = m.rooted; filled = m.filled };
      room = let l = laid m.rooted.formed.located in omega (arith, states-known m.rooted, l.states_most, m.room);
    }

-- 10 to 12
room-is : (x : Tables) (room : ℕ) → room_verdict x room ≡ after (found_verdict x room) (speech_verdict x)
unfolding room_verdict found_verdict flow_verdict speech_verdict
room-is x room = sym (after-assoc (room_stage x room) _ _)

pub flow-stays : {x : Tables} (room : ℕ) {v : Verdict} (y : Refusal) {was sets : List ℕ} → Found x room v was sets → v ≡ Err y
    → Flowed x room v was sets
flow-stays {x} room y f e =
    record { verdict = e ∙ sym (room-is x room ∙ after-refused (found_verdict x room) _ y (sym f.verdict ∙ e)); left = f.left }

pub flow-speech : {x : Tables} (room : ℕ) {v : Verdict} (r : Verdict) {was sets : List ℕ} → Found x room v was sets → v ≡ Ok tt
    → r ≡ speech_verdict x → Flowed x room r was sets
flow-speech {x} room r f e g =
    record { verdict = g ∙ sym (room-is x room ∙ after-accepted (found_verdict x room) _ (sym f.verdict ∙ e)); left = f.left }

-- 8 to 12
pub trees-stays : (room : ℕ) {x : Tables} {n : ℕ} {v : Verdict} {ms : List Masks} (y : Refusal) (was : List ℕ) → Ruled x n v ms
    → v ≡ Err y → Judged x room v was was
unfolding trees_verdict
trees-stays room {x} y was f e =
    let k = sym f.verdict ∙ e in
    record { verdict = e ∙ sym (after-refused (rules_verdict x) _ y k); left = sym (leaves_none (rules_verdict x) _ x was y k) }

pub trees-flow : (room : ℕ) {x : Tables} {n : ℕ} {v : Verdict} {ms : List Masks} (r : Verdict) {was sets : List ℕ} → Ruled x n v ms
    → v ≡ Ok tt → Flowed x room r was sets → Judged x room r was sets
unfolding trees_verdict
trees-flow room {x} r {was} f e g =
    let k = sym f.verdict ∙ e in
    record { verdict = g.verdict ∙ sym (after-accepted (rules_verdict x) _ k); left = g.left ∙ sym (leaves-on (rules_verdict x) _ x was k) }

-- 1 to 12
image-tables : (s : List ℕ) → image_verdict s ≡ after (tables_verdict s) (rules_verdict (tables_of s))
unfolding tables_verdict
image-tables s = image-is s ∙ sym (after-assoc (header_verdict s) (rows_verdict (tables_of s)) (rules_verdict (tables_of s)))

after-image : (s : List ℕ) (w : Verdict) → after (image_verdict s) w ≡ after (tables_verdict s) (after (rules_verdict (tables_of s)) w)
after-image s w = ap (λ (v : Verdict). after v w) (image-tables s) ∙ after-assoc (tables_verdict s) (rules_verdict (tables_of s)) w

check-trees : (s : List ℕ) (room : ℕ) → check_verdict s room ≡ after (tables_verdict s) (trees_verdict (tables_of s) room)
unfolding check_verdict trees_verdict room_verdict
check-trees s room = after-image s _

pub judge-stays : (s : List ℕ) (room : ℕ) {v : Verdict} (y : Refusal) (was : List ℕ) → v ≡ tables_verdict s → v ≡ Err y → Checks s room v was was
judge-stays s room y was f e =
    let k = sym f ∙ e in
    record {
      verdict = e ∙ sym (check-trees s room ∙ after-refused (tables_verdict s) _ y k);
      left = sym (ap (λ (u : Verdict). leaves u (tables_of s) was) (after-image s _) ∙ leaves_none (tables_verdict s) _ (tables_of s) was y k);
    }

pub judge-trees : (s : List ℕ) (room : ℕ) {v : Verdict} (r : Verdict) {was sets : List ℕ} → v ≡ tables_verdict s → v ≡ Ok tt
    → Judged (tables_of s) room r was sets → Checks s room r was sets
judge-trees s room r {was} f e g =
    let k = sym f ∙ e in
    record {
      verdict = g.verdict ∙ sym (check-trees s room ∙ after-accepted (tables_verdict s) _ k);
      left = g.left ∙ sym (ap (λ (u : Verdict). leaves u (tables_of s) was) (after-image s _) ∙ leaves-on (tables_verdict s) _ (tables_of s) was k);
    }

-- 1 to 9
pub image-stays : (s : List ℕ) {v : Verdict} (y : Refusal) → v ≡ tables_verdict s → v ≡ Err y → v ≡ image_verdict s
image-stays s y f e = e ∙ sym (image-tables s ∙ after-refused (tables_verdict s) _ y (sym f ∙ e))

pub image-rules : (s : List ℕ) {v : Verdict} (r : Verdict) → v ≡ tables_verdict s → v ≡ Ok tt → r ≡ rules_verdict (tables_of s) → r ≡ image_verdict s
image-rules s r f e g = g ∙ sym (image-tables s ∙ after-accepted (tables_verdict s) _ (sym f ∙ e))

pub to-ruling : {s : List ℕ} {i : Image} → Rooted s i → Ruling s i 2048
to-ruling r = record { rooted = r; rows = (laid r.formed.located).rows_most }

-- what an accepted image has passed
module _ (s : List ℕ) (room : ℕ) (e : check_verdict s room ≡ Ok tt) where
  both : (tables_verdict s ≡ Ok tt) × (trees_verdict (tables_of s) room ≡ Ok tt)
  both = after_both (tables_verdict s) (trees_verdict (tables_of s) room) (sym (check-trees s room) ∙ e)

  pub accepted-tables : tables_verdict s ≡ Ok tt
  accepted-tables = both.0

  rules-and-room : (rules_verdict (tables_of s) ≡ Ok tt) × (room_verdict (tables_of s) room ≡ Ok tt)
  unfolding trees_verdict
  rules-and-room = after_both (rules_verdict (tables_of s)) (room_verdict (tables_of s) room) both.1

  room-passed : room_stage (tables_of s) room ≡ Ok tt
  unfolding room_verdict
  room-passed = (after_both (room_stage (tables_of s) room) (flow_verdict (tables_of s)) rules-and-room.1).0

  pub accepted-room : length (tables_of s).states ≤ room
  accepted-room = leb-true _ room (unless-true _ SetsShort room-passed)

  pub accepted-leaves : (was : List ℕ) → leaves (after (image_verdict s) (room_stage (tables_of s) room)) (tables_of s) was
      ≡ sets_of (tables_of s) ++ drop (length (tables_of s).states) was
  unfolding leaves
  accepted-leaves was =
      let x = tables_of s in
      ap (λ (u : Verdict). leaves u x was) (after-image s _ ∙ after-accepted (tables_verdict s) _ both.0
      ∙ after-accepted (rules_verdict x) _ rules-and-room.0 ∙ room-passed)

pub trailer-there : (s : List ℕ) {v : Verdict} → v ≡ tables_verdict s → v ≡ Ok tt → 16 ≤ length s
unfolding tables_verdict
trailer-there s f e = trailer-inside s (after_both (header_verdict s) (rows_verdict (tables_of s)) (sym f ∙ e)).0

pub to-sized : {s : List ℕ} {i : Image} {sets : List ℕ} → Rooted s i → 64 ≤ length sets → Sized s i 2048 sets
to-sized r m = record { rooted = r; rows = (laid r.formed.located).rows_most; room = m }

pub rooted-there : (s : List ℕ) (i : Image) {v : Verdict} → i ≡ trailer_of s → v ≡ tables_verdict s → v ≡ Ok tt → Rooted s i
rooted-there s i t f e = rooted-of s i t (sym f ∙ e)
