-- A list of branches or of arms, followed in a loop. Assumes nothing.
use mathlib.Core.{Path.◌≡◌, Path.refl, Path.sym, Path.ap, Path.◌∙◌, Path.subst, Logic.◌⊎◌, Logic.inl, Logic.inr, Logic.⊎_elim, Bool.Bool, Bool.true, List.List}
use Prim.Native.Nat.{ℕ, ◌+◌, ◌%◌, ◌≤◌, ◌<◌}
use native.Mathlib.Omega.{arith}
use lib.{Bits.bit_and, Bits.bit_or}
use Rattle.model.specs.declared.{Image.Image, Fields.Fields}
use Rattle.model.specs.Masks.{meet, join}
use Rattle.model.specs.Image.{Tables, none, fields_of, tables_of}
use Rattle.model.specs.Rows.{Kind, branch, arm, Field, Means, another, shape_of, means_at, pick_next, number_of_kind, is_kind, next_of}
use Rattle.model.specs.Trees.{Pat, Action, Branches, no_branch, branch as a_branch, Arms, no_arm, arm as an_arm}
use Rattle.model.specs.Decode.{pattern_at, action_at, branches_of, arms_of}
use Rattle.model.specs.Binding.{def_of_pat}
use Rattle.model.specs.Sets.{ends, ends_branches, ends_arms, fine_branches, fine_arms, jumps_branches, jumps_arms}
use Rattle.model.specs.Largest.{Sub}
use Rattle.model.proofs.Rows.{Named, Row, Formed, fields_for, lined, is-kind}
use Rattle.model.proofs.Decode.{list_at-none, list_at-step}
use Rattle.model.proofs.Masks.{sub_refl, sub_trans, meet_left, meet_right}
use Rattle.masks.specs.declared.Masks.{Masks}
use Rattle.masks.specs.Masks.{branches_at, arms_at, masks_in}
use Rattle.sets.specs.Flow.{Flow, flow, flow_branches, flow_arms, Walked, Ready, ReadyList}
use Rattle.sets.proofs.Tests.{meet-assoc, meet-sub, sub-meets}
use Rattle.sets.proofs.Rest.{sets-after, Rest, Splits, rest_all, rest-on, rest-none}
use Rattle.sets.proofs.Rows.{base-of, kind-inside, row_as, def-pattern, defs}

-- ---- the next row of a list
next_field : (x : Tables) (r : ℕ) (m : Means) → means_at x r ≡ m
    → next_of x r ≡ pick_next (fields_for m).b (fields_of x r).b (pick_next (fields_for m).c (fields_of x r).c none)
unfolding next_of
next_field x r m e =
    let w = fields_of x r in
    let l = lined w.code in
    ap (λ (f : Field). pick_next f w.b (pick_next (shape_of w.code).c w.c none)) (l.b ∙ ap (λ (k : Means). (fields_for k).b) e)
    ∙ ap (λ (f : Field). pick_next (fields_for m).b w.b (pick_next f w.c none)) (l.c ∙ ap (λ (k : Means). (fields_for k).c) e)

module _ (x : Tables) (ok : Formed x) (r : ℕ) (w : Fields) (reads : w ≡ fields_of x r) (f : r ≡ none → ⊥) where
  branches-step : is_kind x branch r ≡ true → branches_at x r ≡ a_branch (action_at x w.a) (branches_at x w.b)
  unfolding branches_of
  branches-step k =
      ap (branches_of x (action_at x)) (list_at-step x ok r f)
      ∙ ap (λ n. a_branch (action_at x (fields_of x r).a) (branches_at x n)) (next_field x r (another branch) (is-kind x branch r k))
      ∙ ap (λ (v : Fields). a_branch (action_at x v.a) (branches_at x v.b)) (sym reads)

  arms_step : is_kind x arm r ≡ true → arms_at x r ≡ an_arm (pattern_at x w.a) (action_at x w.b) (arms_at x w.c)
  unfolding arms_of
  arms_step k =
      ap (arms_of x (action_at x)) (list_at-step x ok r f)
      ∙ ap (λ n. an_arm (pattern_at x (fields_of x r).a) (action_at x (fields_of x r).b) (arms_at x n)) (next_field x r (another arm) (is-kind x arm r k))
      ∙ ap (λ (v : Fields). an_arm (pattern_at x v.a) (action_at x v.b) (arms_at x v.c)) (sym reads)

-- ---- the sets of a list are inside the top
branches-in : (top m : ℕ) (bs : Branches) → Sub (ends_branches top m bs) top
unfolding ends_branches
branches-in top m no_branch = sub_refl top
branches-in top m (a_branch a bs) = sub_trans _ _ _ (meet_right _ _) (branches-in top m bs)

arms-in : (top m : ℕ) (arms : Arms) → Sub (ends_arms top m arms) top
unfolding ends_arms
arms-in top m no_arm = sub_refl top
arms-in top m (an_arm p a rest) = sub_trans _ _ _ (meet_right _ _) (arms-in top m rest)

-- ---- the loop
-- what g says, met with what is found already
abbrev pub into : ℕ → Flow → Flow
into e g = record { ends = meet e g.ends; fine = g.fine; jumps = g.jumps }

-- of the list from row r on, the list from row here on is left; F says what a list is to give
pub record Listing (k : Kind) (F : ℕ → Flow) (s : List ℕ) (i : Image) (ms : List Masks) (r top : ℕ) (was l : List ℕ) (mv mv' : ℕ) (ok ok' : Bool) (here e : ℕ) : Type 0 where
  pub ready : ReadyList k s i ms here top l
  pub rest : Rest (F r) (into e (F here)) was l mv mv' ok ok'
  pub inside : Sub e top
  pub low : (here + 1) % 65536 ≤ (r + 1) % 65536

module _ {k : Kind} {s : List ℕ} {i : Image} {ms : List Masks} {r top : ℕ} {l : List ℕ} (F : ℕ → Flow) where
  listing-all : {mv : ℕ} {ok : Bool} → Sub (F r).ends top → ReadyList k s i ms r top l → Listing k F s i ms r top l l mv mv ok ok r top
  listing-all {mv} {ok} h d = record {
    ready = d;
    rest = subst (λ n. Rest (F r) (record { ends = n; fine = (F r).fine; jumps = (F r).jumps }) l l mv mv ok ok) (sym (sub-meets top (F r).ends h)) (rest_all (F r) l mv ok);
    inside = sub_refl top;
    low = omega arith;
  }

  module _ {was : List ℕ} {mv mv' : ℕ} {ok ok' : Bool} {here e : ℕ} (d : Listing k F s i ms r top was l mv mv' ok ok' here e) where
    -- a row of the list
    pub here-kind : (here ≡ none → ⊥) → is_kind (tables_of s) k here ≡ true
    here-kind f = ⊎_elim (λ p. absurd (f p)) (λ p. p) d.ready.first

    pub here-low : number_of_kind k < 10 → (here ≡ none → ⊥) → here < (r + 1) % 65536
    here-low n f = omega (arith, kind-inside (tables_of s) k here n (here-kind f), (base-of d.ready.lent).few, d.low)

    pub next-less : {n : ℕ} → number_of_kind k < 10 → (here ≡ none → ⊥) → (n ≡ none) ⊎ Named (tables_of s) here k n → (n + 1) % 65536 < (here + 1) % 65536
    next-less b f p =
        let h = kind-inside (tables_of s) k here b (here-kind f) in
        let c = (base-of d.ready.lent).few in
        ⊎_elim (λ t. omega arith) (λ t. omega (arith, t.below)) p

    -- one row on
    listing-on : {h : Flow} {n : ℕ} {now' : List ℕ} {mv'' : ℕ} {ok'' : Bool} {v : ℕ} → number_of_kind k < 10 → (here ≡ none → ⊥) → (n ≡ none) ⊎ Named (tables_of s) here k n
        → Splits (into e (F here)) h (into (meet e h.ends) (F n)) → Walked h l now' mv' mv'' ok' ok'' v
        → Listing k F s i ms r top was now' mv mv'' ok ok'' n (meet e v)
    listing-on {v = v} b f p q w = record {
      ready = record { lent = d.ready.lent; sets = sets-after d.ready.sets w; first = ⊎_elim (λ t. inl t) (λ t. inr t.kind) p };
      rest = rw w.ends (rest-on d.rest q w);
      inside = sub_trans _ e _ (meet_left e v) d.inside;
      low = ⊎_elim (λ t. omega arith) (λ t. omega (arith, t.below, here-low b f)) p;
    }

    -- the list's end
    listing-last : here ≡ none → (F none).ends ≡ top → (F none).fine ≡ true → ((q : ℕ) → (F none).jumps q ≡ top) → Walked (F r) was l mv mv' ok ok' e
    listing-last z a b c =
        rest-none d.rest d.ready.sets (sym (ap (λ n. meet e (F n).ends) z ∙ ap (meet e) a ∙ meet-sub e top d.inside)) (ap (λ n. (F n).fine) z ∙ b)
        (λ q. ap (λ n. (F n).jumps q) z ∙ c q)

-- ---- branches
abbrev pub branching : List ℕ → ℕ → ℕ → ℕ → Flow
branching s top m n = flow_branches top m (branches_at (tables_of s) n)

splits-branch : (top m e : ℕ) (bs rest : Branches) (a : Action) → bs ≡ a_branch a rest
    → Splits (into e (flow_branches top m bs)) (flow top m a) (into (meet e (ends top m a)) (flow_branches top m rest))
unfolding ends_branches fine_branches jumps_branches
splits-branch top m e bs rest a z =
    subst (λ (b : Branches). Splits (into e (flow_branches top m b)) (flow top m a) (into (meet e (ends top m a)) (flow_branches top m rest))) (sym z)
    (record { ends = meet-assoc e (ends top m a) (ends_branches top m rest); fine = refl; jumps = λ q. refl })

pub branches-all : {s : List ℕ} {i : Image} {ms : List Masks} {r top : ℕ} {l : List ℕ} {mv : ℕ} {ok : Bool} (m : ℕ) → ReadyList branch s i ms r top l
    → Listing branch (branching s top m) s i ms r top l l mv mv ok ok r top
branches-all {s} {r = r} {top = top} m d = listing-all (branching s top m) (branches-in top m (branches_at (tables_of s) r)) d

module _ {s : List ℕ} {i : Image} {ms : List Masks} {r top : ℕ} (m : ℕ) {was l : List ℕ} {mv mv' : ℕ} {ok ok' : Bool} {here e : ℕ}
    (d : Listing branch (branching s top m) s i ms r top was l mv mv' ok ok' here e) where
  module _ {w : Fields} (reads : w ≡ fields_of (tables_of s) here) (f : here ≡ none → ⊥) where
    branch-kind : is_kind (tables_of s) branch here ≡ true
    branch-kind = here-kind (branching s top m) d f

    branch_row : Row (tables_of s) here w (another branch)
    branch_row = row_as (tables_of s) (base-of d.ready.lent).ok here w reads (another branch) (is-kind (tables_of s) branch here branch-kind)

    pub branch-ready : Ready s i ms w.a top l
    branch-ready = record { lent = d.ready.lent; sets = d.ready.sets; kind = branch_row.a.kind }

    pub branch-low : w.a + 1 < (r + 1) % 65536
    branch-low = omega (arith, branch_row.a.below, here-low (branching s top m) d (omega arith) f)

    pub branch_less : (w.b + 1) % 65536 < (here + 1) % 65536
    branch_less = next-less (branching s top m) d (omega arith) f branch_row.b

    pub branches-on : {now' : List ℕ} {mv'' : ℕ} {ok'' : Bool} {v : ℕ} → Walked (flow top m (action_at (tables_of s) w.a)) l now' mv' mv'' ok' ok'' v
        → Listing branch (branching s top m) s i ms r top was now' mv mv'' ok ok'' w.b (bit_and e v)
    unfolding meet
    branches-on p =
        let x = tables_of s in
        listing-on (branching s top m) d (omega arith) f branch_row.b
        (splits-branch top m e (branches_at x here) (branches_at x w.b) (action_at x w.a) (branches-step x (base-of d.ready.lent).ok here w reads f branch-kind)) p

  pub branches-last : here ≡ none → Walked (flow_branches top m (branches_at (tables_of s) r)) was l mv mv' ok ok' e
  unfolding branches_of ends_branches fine_branches jumps_branches
  branches-last z =
      let x = tables_of s in
      let n : branches_at x none ≡ no_branch = ap (branches_of x (action_at x)) (list_at-none x (base-of d.ready.lent).ok) in
      listing-last (branching s top m) d z (ap (ends_branches top m) n) (ap (fine_branches top m) n) (λ q. ap (jumps_branches q top m) n)

-- ---- arms
abbrev pub arming : List ℕ → ℕ → ℕ → ℕ → Flow
arming s top m n = flow_arms top m (arms_at (tables_of s) n)

splits-arm : (top m e : ℕ) (arms rest : Arms) (p : Pat) (a : Action) → arms ≡ an_arm p a rest
    → Splits (into e (flow_arms top m arms)) (flow top (join m (def_of_pat p)) a) (into (meet e (ends top (join m (def_of_pat p)) a)) (flow_arms top m rest))
unfolding ends_arms fine_arms jumps_arms
splits-arm top m e arms rest p a z =
    let k = join m (def_of_pat p) in
    subst (λ (b : Arms). Splits (into e (flow_arms top m b)) (flow top k a) (into (meet e (ends top k a)) (flow_arms top m rest))) (sym z)
    (record { ends = meet-assoc e (ends top k a) (ends_arms top m rest); fine = refl; jumps = λ q. refl })

pub arms-all : {s : List ℕ} {i : Image} {ms : List Masks} {r top : ℕ} {l : List ℕ} {mv : ℕ} {ok : Bool} (m : ℕ) → ReadyList arm s i ms r top l
    → Listing arm (arming s top m) s i ms r top l l mv mv ok ok r top
arms-all {s} {r = r} {top = top} m d = listing-all (arming s top m) (arms-in top m (arms_at (tables_of s) r)) d

module _ {s : List ℕ} {i : Image} {ms : List Masks} {r top : ℕ} (m : ℕ) {was l : List ℕ} {mv mv' : ℕ} {ok ok' : Bool} {here e : ℕ}
    (d : Listing arm (arming s top m) s i ms r top was l mv mv' ok ok' here e) where
  module _ {w : Fields} (reads : w ≡ fields_of (tables_of s) here) (f : here ≡ none → ⊥) where
    arm-kind : is_kind (tables_of s) arm here ≡ true
    arm-kind = here-kind (arming s top m) d f

    arm-row : Row (tables_of s) here w (another arm)
    arm-row = row_as (tables_of s) (base-of d.ready.lent).ok here w reads (another arm) (is-kind (tables_of s) arm here arm-kind)

    pub arm-ready : Ready s i ms w.b top l
    arm-ready = record { lent = d.ready.lent; sets = d.ready.sets; kind = arm-row.b.kind }

    pub arm_low : w.b + 1 < (r + 1) % 65536
    arm_low = omega (arith, arm-row.b.below, here-low (arming s top m) d (omega arith) f)

    pub arm-less : (w.c + 1) % 65536 < (here + 1) % 65536
    arm-less = next-less (arming s top m) d (omega arith) f arm-row.c

    pub arms-on : (t : Masks) {now' : List ℕ} {mv'' : ℕ} {ok'' : Bool} {v : ℕ} → t ≡ masks_in ms w.a
        → Walked (flow top (bit_or m t.defs) (action_at (tables_of s) w.b)) l now' mv' mv'' ok' ok'' v
        → Listing arm (arming s top m) s i ms r top was now' mv mv'' ok ok'' w.c (bit_and e v)
    unfolding meet join
    arms-on t {now'} {mv''} {ok''} {v} z p =
        let x = tables_of s in
        let k : bit_or m t.defs ≡ join m (def_of_pat (pattern_at x w.a)) = ap (join m) (ap defs z ∙ def-pattern (base-of d.ready.lent) w.a arm-row.a.kind) in
        listing-on (arming s top m) d (omega arith) f arm-row.c
        (splits-arm top m e (arms_at x here) (arms_at x w.c) (pattern_at x w.a) (action_at x w.b) (arms_step x (base-of d.ready.lent).ok here w reads f arm-kind))
        (subst (λ n. Walked (flow top n (action_at x w.b)) l now' mv' mv'' ok' ok'' v) k p)

  pub arms_last : here ≡ none → Walked (flow_arms top m (arms_at (tables_of s) r)) was l mv mv' ok ok' e
  unfolding arms_of ends_arms fine_arms jumps_arms
  arms_last z =
      let x = tables_of s in
      let n : arms_at x none ≡ no_arm = ap (arms_of x (action_at x)) (list_at-none x (base-of d.ready.lent).ok) in
      listing-last (arming s top m) d z (ap (ends_arms top m) n) (ap (fine_arms top m) n) (λ q. ap (jumps_arms q top m) n)
