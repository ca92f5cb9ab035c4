-- What the stages' verdict gives check. Assumes nothing.
use Rattle.std.specs.Prelude.{Ok, Err}
use Rattle.model.specs.Answers.{Verdict}
use mathlib.Core.{Path.◌≡◌, Path.refl, Path.sym, Path.ap, Path.◌∙◌, List.List, List.[], List.◌++◌}
use Prim.Native.Nat.{ℕ, ◌/◌, ◌≤◌, ◌<◌}
use native.Mathlib.Omega.{arith}
use lib.{ListN.length, ListN.get_or, ListN.take, ListN.drop, Seq.take_at}
use Rattle.model.specs.declared.{Image.Image, Refusal.Refusal}
use Rattle.model.specs.Image.{tables_of, trailer_of}
use Rattle.model.specs.Largest.{sets_of}
use Rattle.model.specs.Bytes.{words_of, written}
use Rattle.model.specs.Exports.{pack_refusal, pack_verdict, Exported, check_bytes}
use Rattle.model.specs.Calls.{check_verdict, Checked, check}
use Rattle.image.specs.Located.{Rooted}
use Rattle.image.proofs.Laid.{laid, states-count}
use Rattle.demands.proofs.Solved.{sets-length}
use Rattle.masks.proofs.ParameterMask.{parameters-in}
use Rattle.sets.proofs.Leading.{leads-of}
use Rattle.stages.specs.Judging.{Checks}
use Rattle.stages.proofs.Stages.{rooted-of, trailer-there, accepted-tables, accepted-room, accepted-leaves}
use Rattle.ntif.proofs.Kept.{written-kept, words-length}

-- an image that check accepts with so much room
module _ (s : List ℕ) (room : ℕ) {v : Verdict} (f : v ≡ check_verdict s room) (e : v ≡ Ok tt) where
  pub accepted-trailer : 16 ≤ length s
  accepted-trailer = trailer-there s refl (accepted-tables s room (sym f ∙ e))

  pub accepted-rooted : (i : Image) → i ≡ trailer_of s → Rooted s i
  accepted-rooted i t = rooted-of s i t (accepted-tables s room (sym f ∙ e))

  pub accepted-fits : length (tables_of s).states ≤ room
  accepted-fits = accepted-room s room (sym f ∙ e)

  pub accepted-most : length (tables_of s).states ≤ 64
  accepted-most =
      let r = accepted-rooted (trailer_of s) refl in
      let l = laid r.formed.located in
      omega (arith, states-count r.formed.located, l.states_most)

  sets-long : length (sets_of (tables_of s)) ≡ length (tables_of s).states
  sets-long =
      let r = accepted-rooted (trailer_of s) refl in
      sets-length (tables_of s) (leads-of r) (parameters-in (tables_of s) r.formed.entries)

-- the sets that the stages leave
accepted-sets : (s : List ℕ) (room : ℕ) {v : Verdict} (was masks : List ℕ) (n : ℕ) → Checks s room v was masks → v ≡ Ok tt
    → n ≡ length (tables_of s).states → take n masks ≡ sets_of (tables_of s)
accepted-sets s room was masks n g e c =
    rw (g.left, accepted-leaves s room (sym g.verdict ∙ e) was) (take_at _ _ n (sets-long s room g.verdict e ∙ sym c))

pub checked_refused : (s sets : List ℕ) {v : Verdict} (y : Refusal) → v ≡ check_verdict s (length sets) → v ≡ Err y
    → ◌≡◌ {A = Checked} (record { answer = v; sets = sets }) (check s sets)
unfolding check
checked_refused s sets y f e = rw (← f, e)

pub checked-accepted : (s sets : List ℕ) {v : Verdict} {was masks after : List ℕ} (n : ℕ) → Checks s (length sets) v was masks
    → v ≡ Ok tt → n ≡ length (tables_of s).states → after ≡ take n masks ++ drop n sets
    → ◌≡◌ {A = Checked} (record { answer = v; sets = after }) (check s sets)
unfolding check
checked-accepted s sets {v} {was} {masks} n g e c a =
    let t = accepted-sets s (length sets) was masks n g e c in
    let l : length (sets_of (tables_of s)) ≡ n = sets-long s (length sets) g.verdict e ∙ sym c in
    rw (← g.verdict, e, a, t, l)

pub pack-refused : {v : Verdict} (y : Refusal) {n : ℕ} → v ≡ Err y → n ≡ pack_refusal y → n ≡ pack_verdict v
pack-refused y e f = rw (e, f)

-- check on bytes
module _ (s sets : List ℕ) (bytes : (j : ℕ) → get_or sets j 0 < 256) where
  of_words : {v : Verdict} → v ≡ check_verdict s (length sets / 8) → v ≡ check_verdict s (length (words_of 8 sets))
  of_words f = f ∙ ap (check_verdict s) (sym (words-length 8 sets))

  kept : written 8 (words_of 8 sets) sets ≡ sets
  unfolding written
  kept = written-kept 8 sets bytes [] (omega arith) (omega arith)

  pub bytes-refused : {v : Verdict} {n : ℕ} (y : Refusal) → v ≡ check_verdict s (length sets / 8) → v ≡ Err y → n ≡ pack_verdict v
      → ◌≡◌ {A = Exported} (record { answer = n; lent = sets }) (check_bytes s sets)
  unfolding check_bytes
  bytes-refused y f e p = rw (← checked_refused s (words_of 8 sets) y (of_words f) e, p, kept)

  pub bytes-accepted : {v : Verdict} {was masks after : List ℕ} {m : ℕ} (n : ℕ) → Checks s (length sets / 8) v was masks
      → v ≡ Ok tt → n ≡ length (tables_of s).states → after ≡ written 8 (take n masks) sets → m ≡ pack_verdict v
      → ◌≡◌ {A = Exported} (record { answer = m; lent = after }) (check_bytes s sets)
  unfolding check_bytes
  bytes-accepted {v} {was} {masks} n g e c a p =
      let h : Checks s (length (words_of 8 sets)) v was masks = rw (words-length 8 sets) g in
      let t = accepted-sets s _ was masks n g e c in
      let l : length (take n masks) ≡ n = ap length t ∙ sets-long s _ g.verdict e ∙ sym c in
      let m = accepted-fits s _ g.verdict e in
      let k : written 8 (take n masks ++ drop n (words_of 8 sets)) sets ≡ written 8 (take n masks) sets =
      rw (← ap (λ (j : ℕ). drop j (words_of 8 sets)) l) (written-kept 8 sets bytes (take n masks) (omega arith) (omega (arith, l, c, m))) in
      rw (← checked-accepted s (words_of 8 sets) n h e c refl, p, a, k)
