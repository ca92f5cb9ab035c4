-- The search for the first arm that matches, arm by arm. Assumes nothing.
use Rattle.std.specs.Prelude.{Option}
use mathlib.Core.{Path.◌≡◌, Path.refl, Path.sym, Path.ap, Path.◌∙◌, Path.subst, Logic.inl, Logic.inr, Logic.⊎_elim}
use mathlib.Core.{Bool.true, List.List, List.◌∷◌}
use Prim.Native.Nat.{ℕ, ◌+◌, ◌%◌, ◌<◌}
use native.Mathlib.Omega.{arith}
use lib.{Dec.eqb, IntN.ℤ}
use borrow.Author.Tests.{eqb-true}
use Rattle.model.specs.declared.{Fields.Fields, Tested.Tested, Tested.TheVariants.Holds, Tested.TheVariants.Fails, Tested.TheVariants.Unsure}
use Rattle.model.specs.Image.{none, tables_of, fields_of}
use Rattle.model.specs.Rows.{arm, another, is_kind}
use Rattle.model.specs.Decode.{pattern_at, list_at, arms_of, action_at}
use Rattle.model.specs.Typing.{type_of_pat, arms_of_type}
use Rattle.model.specs.Run.{Match, matched, failed, unsure, match}
use Rattle.model.proofs.Rows.{both_true, Row, row_is, is-kind}
use Rattle.model.proofs.Codes.{known_in, next-is}
use Rattle.model.proofs.Decode.{list_at-none, list_at-step}
use Rattle.image.proofs.Laid.{laid, rows-count}
use Rattle.expressions.specs.Ready.{RowFrom}
use Rattle.expressions.proofs.Ways.{located, forms}
use Rattle.patterns.specs.declared.{Found.TheVariants.Arm, Found.TheVariants.NoArm}
use Rattle.patterns.specs.declared.Found.TheVariants as finds
use Rattle.patterns.specs.Bound.{judged, undone, Bound}
use Rattle.patterns.specs.Matching.{Tries}
use Rattle.patterns.specs.Finding.{Finds, Finding, finding, find_arm}
use Rattle.patterns.proofs.{Cases.by-match, Tried.match-as}

-- the arms from a row on
module _ {s : List ℕ} {rows here : ℕ} {z : ℤ} {m : List ℤ} (h : Finds s rows here z m) where
  pub none_found : here ≡ none → finding NoArm m ≡ find_arm (tables_of s) (list_at (tables_of s) here) z m
  unfolding find_arm
  none_found e = sym (ap (λ (r : ℕ). find_arm (tables_of s) (list_at (tables_of s) r) z m) e ∙ ap (λ (l : List ℕ). find_arm (tables_of s) l z m) (list_at-none (tables_of s) (forms h.ready)))

  module _ (f : here ≡ none → ⊥) where
    is-arm : is_kind (tables_of s) arm here ≡ true
    is-arm = ⊎_elim (λ e. absurd (f e)) (λ k. k) h.list

    pub arm-row : RowFrom s rows here
    arm-row =
        record {
          located = located h.ready;
          start = h.start;
          inside = omega (arith, known_in (tables_of s) arm here refl is-arm, rows-count (located h.ready));
        }

    list_on : {w : Fields} → w ≡ fields_of (tables_of s) here → list_at (tables_of s) here ≡ here ∷ list_at (tables_of s) w.c
    list_on e =
        list_at-step (tables_of s) (forms h.ready) here f
        ∙ ap (λ (n : ℕ). here ∷ list_at (tables_of s) n)
        (next-is (tables_of s) here (another arm) (is-kind (tables_of s) arm here is-arm) ∙ ap (λ (g : Fields). g.c) (sym e))

    module _ {w : Fields} (e : w ≡ fields_of (tables_of s) here) where
      arm-says : Row (tables_of s) here w (another arm)
      arm-says = rw e (row_is (tables_of s) (forms h.ready) here (another arm) (is-kind (tables_of s) arm here is-arm))

      both_typed : (type_of_pat (tables_of s) (pattern_at (tables_of s) w.a) ≡ h.type)
          × (arms_of_type (tables_of s) h.type (arms_of (tables_of s) (action_at (tables_of s)) (list_at (tables_of s) w.c)) ≡ true)
      unfolding arms_of_type arms_of
      both_typed =
          let x = tables_of s in
          let t = subst (λ (l : List ℕ). arms_of_type x h.type (arms_of x (action_at x) l) ≡ true) (list_on e) h.typed in
          let p = both_true (eqb (type_of_pat x (pattern_at x (fields_of x here).a)) h.type) _ t in
          (ap (λ (g : Fields). type_of_pat x (pattern_at x g.a)) e ∙ eqb-true _ _ p.0, p.1)

      pub arm-tries : Tries s rows w.a z m
      arm-tries =
          record {
            runs = record { ready = h.ready; start = h.start; kind = arm-says.a.kind };
            typed = rw both_typed.0 h.value;
          }

      pub next-less : (w.c + 1) % 65536 < (here + 1) % 65536
      next-less =
          let l : here < 2048 = omega (arith, arm-row.inside, (laid (located h.ready)).rows_most) in
          ⊎_elim (λ q. rw q (omega arith)) (λ p. let k = p.below in omega arith) arm-says.c

      pub next-finds : Finds s rows w.c z m
      next-finds =
          record {
            ready = h.ready;
            start = h.start;
            list = ⊎_elim (λ q. inl q) (λ p. inr p.kind) arm-says.c;
            type = h.type;
            typed = both_typed.1;
            value = h.value;
          }

      find-on : (y : Match) → y ≡ match (tables_of s) (pattern_at (tables_of s) w.a) z m
          → by-match w.b (find_arm (tables_of s) (list_at (tables_of s) w.c) z m) m y ≡ find_arm (tables_of s) (list_at (tables_of s) here) z m
      unfolding find_arm by-match
      find-on y q =
          let x = tables_of s in
          ap (by-match w.b (find_arm x (list_at x w.c) z m) m) q
          ∙ ap (λ (g : Fields). by-match g.b (find_arm x (list_at x w.c) z m) m (match x (pattern_at x g.a) z m)) e
          ∙ sym (ap (λ (l : List ℕ). find_arm x l z m) (list_on e))

      module _ {o : Option (ℕ × ℤ)} {n : List ℤ} (b : Bound (tables_of s) (pattern_at (tables_of s) w.a) z m o n) {t : Tested} (g : t ≡ judged (tables_of s) (pattern_at (tables_of s) w.a) z n) where
        pub arm-found : t ≡ Holds → finding (Arm w.b) n ≡ find_arm (tables_of s) (list_at (tables_of s) here) z m
        unfolding by-match
        arm-found q = find-on (matched n) (match-as arm-tries refl b g Holds q)

        pub arm-failed : t ≡ Fails → find_arm (tables_of s) (list_at (tables_of s) w.c) z m ≡ find_arm (tables_of s) (list_at (tables_of s) here) z m
        unfolding by-match
        arm-failed q = find-on failed (match-as arm-tries refl b g Fails q)

        pub arm-unsure : {k : List ℤ} → t ≡ Unsure → k ≡ undone o n → finding finds.Unsure k ≡ find_arm (tables_of s) (list_at (tables_of s) here) z m
        unfolding by-match
        arm-unsure q i = ap (finding finds.Unsure) (i ∙ b.back) ∙ find-on unsure (match-as arm-tries refl b g Unsure q)

-- the walk from the first arm on: k is the store, m the store at entry
pub record Seek (s : List ℕ) (rows first : ℕ) (z : ℤ) (m : List ℤ) (here : ℕ) (k : List ℤ) : Type 0 where
  pub kept : k ≡ m
  pub finds : Finds s rows here z k
  pub same : find_arm (tables_of s) (list_at (tables_of s) here) z k ≡ find_arm (tables_of s) (list_at (tables_of s) first) z m

pub seek-first : {s : List ℕ} {rows first : ℕ} {y z : ℤ} {m : List ℤ} → y ≡ z → Finds s rows first z m → Seek s rows first y m first m
seek-first {s} {rows} {first} {m = m} q h = record { kept = refl; finds = subst (λ (a : ℤ). Finds s rows first a m) (sym q) h; same = refl }

pub seek-end : {s : List ℕ} {rows first here : ℕ} {y z : ℤ} {m k : List ℤ} {a : Finding} → y ≡ z → Seek s rows first y m here k
    → a ≡ find_arm (tables_of s) (list_at (tables_of s) here) y k → a ≡ find_arm (tables_of s) (list_at (tables_of s) first) z m
seek-end {s} {first = first} {m = m} q d e = e ∙ d.same ∙ ap (λ (b : ℤ). find_arm (tables_of s) (list_at (tables_of s) first) b m) q

pub seek-next : {s : List ℕ} {rows first here : ℕ} {z : ℤ} {m k : List ℤ} (d : Seek s rows first z m here k) (f : here ≡ none → ⊥) {w : Fields} (e : w ≡ fields_of (tables_of s) here)
    {o : Option (ℕ × ℤ)} {n : List ℤ} (b : Bound (tables_of s) (pattern_at (tables_of s) w.a) z k o n) {t : Tested} → t ≡ judged (tables_of s) (pattern_at (tables_of s) w.a) z n → t ≡ Fails
    → {l : List ℤ} → l ≡ undone o n → Seek s rows first z m w.c l
seek-next {s} {rows} {first} {here} {z} {m} {k} d f {w} e b g q i =
    subst (Seek s rows first z m w.c) (sym (i ∙ b.back))
    (record { kept = d.kept; finds = next-finds d.finds f e; same = arm-failed d.finds f e b g q ∙ d.same })
