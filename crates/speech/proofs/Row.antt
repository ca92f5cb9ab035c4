-- One row of the pass: what it names lies below it, and its ways come from theirs. Assumes nothing.
use mathlib.Core.{Path.◌≡◌, Path.refl, Path.◌∙◌, Logic.inl, Logic.inr, Logic.⊎_elim}
use mathlib.Core.{Bool.Bool, Bool.true, Bool.false, Bool.not, Bool.cond, List.List}
use Prim.Native.Nat.{ℕ, ◌≤◌, ◌<◌}
use native.Mathlib.Omega.{arith}
use lib.{Dec.eqb, ListN.length, ListN.get_or}
use borrow.Author.Tests.{eqb-false}
use Rattle.model.specs.declared.{Image.Image, Fields.Fields}
use Rattle.model.specs.Image.{Tables, none, tables_of, fields_of}
use Rattle.model.specs.Rows.{expression, arm, branch, is_choose, is_then, is_select, is_case, is_while, is_for, an_action, another, codes, lookup, shape_of}
use Rattle.model.specs.Decode.{condition_at}
use Rattle.model.specs.Speech.{is_always}
use Rattle.model.proofs.Rows.{Formed, row_is}
use Rattle.speech.specs.Both.{Both, unpacked, kept, nowhere_both, said, spoken_needs, either_of, followed, looped_while, looped_for}
use Rattle.speech.specs.Filled.{ways_at, first_of, Ready}
use Rattle.speech.specs.Case.{OrNone, CaseOf, exhaustive_at}
use Rattle.model.proofs.Codes.{means}
use Rattle.speech.proofs.Places.{rows-formed, rows_few}
use Rattle.speech.proofs.Exhausted.{short}
use Rattle.speech.proofs.Steps.{first_at, Others, null-row, assign-row, choose-row, reset-row, communicate-row, to_row, then-row, select_row, case_row, branch_row, arm-row, while-row, for-row, other_row}

-- w is the fields of row r, and the rows below it are filled in
module _ {s : List ℕ} {i : Image} {r : ℕ} {ways : List ℕ} {w : Fields} (h : Ready s i r ways) (is : w ≡ fields_of (tables_of s) r) where
  abbrev x : Tables
  x = tables_of s

  ok : Formed x
  ok = rows-formed h.lent.rooted.formed

  small : length x.rows ≤ none
  small = rows_few h.lent.rooted.formed

  room : {n : ℕ} → n < r → n < length ways
  room b = omega (arith, h.inside, h.lent.room)

  -- below r, or none
  abbrev Below : ℕ → Type 0
  Below n = (n ≡ none → ⊥) → n < r

  abbrev Room : ℕ → Type 0
  Room n = (n ≡ none → ⊥) → n < length ways

  -- ---- what each code's row names is below it, and there is room for it
  then-names : w.code ≡ 54 → (w.a < r) × (w.b < r)
  unfolding shape_of lookup codes
  then-names e = rw is (let q = row_is x ok r (an_action is_then) (means x r 54 (rw is at e)) in (q.a.below, q.b.below))

  pub then-room : w.code ≡ 54 → (w.a < length ways) × (w.b < length ways)
  then-room e = let b = then-names e in (room b.0, room b.1)

  while-names : w.code ≡ 59 → w.b < r
  unfolding shape_of lookup codes
  while-names e = rw is (row_is x ok r (an_action is_while) (means x r 59 (rw is at e))).b.below

  pub while-room : w.code ≡ 59 → w.b < length ways
  while-room e = room (while-names e)

  for-names : w.code ≡ 60 → w.b < r
  unfolding shape_of lookup codes
  for-names e = rw is (row_is x ok r (an_action is_for) (means x r 60 (rw is at e))).b.below

  pub for-room : w.code ≡ 60 → w.b < length ways
  for-room e = room (for-names e)

  select-names : w.code ≡ 55 → Below w.a
  unfolding shape_of lookup codes
  select-names e =
      rw is (λ f. ⊎_elim (λ n. absurd (f n)) (λ p. p.0.below) (row_is x ok r (an_action is_select) (means x r 55 (rw is at e))).a)

  pub select-room : w.code ≡ 55 → Room w.a
  select-room e f = room (select-names e f)

  case-names : w.code ≡ 56 → Below w.b
  unfolding shape_of lookup codes
  case-names e =
      rw is (λ f. ⊎_elim (λ n. absurd (f n)) (λ p. p.0.below) (row_is x ok r (an_action is_case) (means x r 56 (rw is at e))).b)

  pub case-room : w.code ≡ 56 → Room w.b
  case-room e f = room (case-names e f)

  branch-names : w.code ≡ 57 → (w.a < r) × Below w.b
  unfolding shape_of lookup codes
  branch-names e =
      rw is (let q = row_is x ok r (another branch) (means x r 57 (rw is at e)) in
      (q.a.below, λ f. ⊎_elim (λ n. absurd (f n)) (λ p. p.below) q.b))

  pub branch-room : w.code ≡ 57 → (w.a < length ways) × Room w.b
  branch-room e = let b = branch-names e in (room b.0, λ f. room (b.1 f))

  arm-names : w.code ≡ 58 → (w.b < r) × Below w.c
  unfolding shape_of lookup codes
  arm-names e =
      rw is (let q = row_is x ok r (another arm) (means x r 58 (rw is at e)) in
      (q.b.below, λ f. ⊎_elim (λ n. absurd (f n)) (λ p. p.below) q.c))

  pub arm-room : w.code ≡ 58 → (w.b < length ways) × Room w.c
  arm-room e = let b = arm-names e in (room b.0, λ f. room (b.1 f))

  pub condition-of : w.code ≡ 50 → OrNone s i expression w.b
  unfolding shape_of lookup codes
  condition-of e =
      rw is (record {
        formed = h.lent.rooted.formed;
        named = ⊎_elim (λ n. inl n) (λ p. inr p.kind) (row_is x ok r (an_action is_choose) (means x r 50 (rw is at e))).b;
      })

  pub case-of : w.code ≡ 56 → CaseOf s i w.a w.b
  unfolding shape_of lookup codes
  case-of e =
      let q = row_is x ok r (an_action is_case) (means x r 56 (rw is at e)) in
      rw is (record {
        subject = record { formed = h.lent.rooted.formed; kind = q.a.kind };
        arms = record { formed = h.lent.rooted.formed; named = ⊎_elim (λ n. inl n) (λ p. inr p.0.kind) q.b };
        few = short x ok (fields_of x r).b q.b;
      })

  -- ---- the ways of each code's row
  abbrev Ways : Both → Type 0
  Ways v = v ≡ ways_at x r

  read : {n : ℕ} {v : Both} → n < r → v ≡ unpacked (get_or ways n 0) → v ≡ ways_at x n
  read {n} b e = e ∙ h.filled.each n b

  read_first : {n : ℕ} {v : Both} → Below n → v ≡ first_of ways n → v ≡ first_at x n
  read_first {n} b e = e ∙ go (eqb n none) refl
    where
      go : (t : Bool) → eqb n none ≡ t → cond t nowhere_both (unpacked (get_or ways n 0)) ≡ cond t nowhere_both (ways_at x n)
      go true q = refl
      go false q = h.filled.each n (b (eqb-false n none q))

  pub do-null : {v : Both} → w.code ≡ 48 → v ≡ kept → Ways v
  do-null e p = p ∙ null-row x ok r (rw is at e)

  pub do-assign : {v : Both} → w.code ≡ 49 → v ≡ kept → Ways v
  do-assign e p = p ∙ assign-row x ok r (rw is at e)

  pub do-choose : {u v : Both} {b : Bool} → w.code ≡ 50 → u ≡ kept → b ≡ is_always (condition_at x w.b) → v ≡ spoken_needs b u → Ways v
  do-choose e p q t = t ∙ rw (p, q, is) (choose-row x ok r (rw is at e))

  pub do-reset : {v : Both} → w.code ≡ 51 → v ≡ kept → Ways v
  do-reset e p = p ∙ reset-row x ok r (rw is at e)

  pub do-communicate : {v : Both} → w.code ≡ 52 → v ≡ said → Ways v
  do-communicate e p = p ∙ communicate-row x ok r (rw is at e)

  pub do-to : {v : Both} → w.code ≡ 53 → v ≡ nowhere_both → Ways v
  do-to e p = p ∙ to_row x ok r (rw is at e)

  pub do-then : {u v t : Both} → w.code ≡ 54 → u ≡ unpacked (get_or ways w.a 0) → v ≡ unpacked (get_or ways w.b 0) → t ≡ followed u v → Ways t
  do-then e p q d =
      let b = then-names e in
      d ∙ rw (read b.0 p, read b.1 q, is) (then-row x ok r (rw is at e))

  pub do-select : {u v : Both} {b : Bool} → w.code ≡ 55 → u ≡ first_of ways w.a → b ≡ not (eqb w.a none) → v ≡ spoken_needs b u → Ways v
  do-select e p q d = d ∙ rw (read_first (select-names e) p, q, is) (select_row x ok small r (rw is at e))

  pub do-case : {u v : Both} {b : Bool} → w.code ≡ 56 → u ≡ first_of ways w.b
      → b ≡ exhaustive_at x w.a w.b → v ≡ spoken_needs b u → Ways v
  do-case e p q d = d ∙ rw (read_first (case-names e) p, q, is) (case_row x ok small r (rw is at e))

  pub do-branch : {u v t : Both} → w.code ≡ 57 → u ≡ unpacked (get_or ways w.a 0) → v ≡ first_of ways w.b → t ≡ either_of u v → Ways t
  do-branch e p q d =
      let b = branch-names e in
      d ∙ rw (read b.0 p, read_first b.1 q, is) (branch_row x ok small r (rw is at e))

  pub do-arm : {u v t : Both} → w.code ≡ 58 → u ≡ unpacked (get_or ways w.b 0) → v ≡ first_of ways w.c → t ≡ either_of u v → Ways t
  do-arm e p q d =
      let b = arm-names e in
      d ∙ rw (read b.0 p, read_first b.1 q, is) (arm-row x ok small r (rw is at e))

  pub do-while : {u t : Both} → w.code ≡ 59 → u ≡ unpacked (get_or ways w.b 0) → t ≡ looped_while u → Ways t
  do-while e p d = d ∙ rw (read (while-names e) p, is) (while-row x ok r (rw is at e))

  pub do-for : {u t : Both} → w.code ≡ 60 → u ≡ unpacked (get_or ways w.b 0) → t ≡ looped_for u → Ways t
  do-for e p d = d ∙ rw (read (for-names e) p, is) (for-row x ok r (rw is at e))

  pub do-other : {v : Both} → Others w.code → v ≡ nowhere_both → Ways v
  do-other o p = p ∙ other_row x r (rw is at o)
