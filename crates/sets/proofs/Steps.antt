-- The walk by the code of a row: one law for each way of the walk's functions. Assumes nothing.
use mathlib.Core.{Path.◌≡◌, Path.refl, Path.sym, Path.ap, Path.ap₂, Path.◌∙◌, Path.subst, Logic.◌⊎◌, Logic.inl, Logic.inr, Logic.⊎_elim, Bool.Bool, Bool.true, Bool.false, Bool.◌&&◌, List.List}
use Prim.Native.Nat.{ℕ, ◌+◌, ◌%◌, ◌≤◌, ◌<◌}
use native.Mathlib.{Omega.arith, Decide.ℕ_discrete}
use lib.{Bits.bit_or, Dec.eqb, IntN.ℤ, ListN.length, ListN.get_or, ListN.set, ListN.length-set, Seq.set-get_or, Seq.get_or-set_same, Seq.get_or-set_other}
use borrow.Author.Tests.{ltb-true, eq-eqb, ne_eqb}
use Rattle.model.specs.declared.{Image.Image, Fields.Fields, Variable.Variable}
use Rattle.model.specs.Answers.{state, variable}
use Rattle.model.specs.Bytes.{signed}
use Rattle.model.specs.Values.{half16}
use Rattle.model.specs.Masks.{bit, meet, join, inside}
use Rattle.model.specs.Image.{Tables, none, fields_of, tables_of}
use Rattle.model.specs.Rows.{action, branch, arm, is_to, is_then, is_select, is_case, is_while, is_for}
use Rattle.model.specs.Trees.{Exp, Action, at, Act, to, then, select, case, while, for, Branches, Arms}
use Rattle.model.specs.Decode.{grow_action, expression_at, action_at, for_of}
use Rattle.model.specs.Binding.{use_of_exp}
use Rattle.model.specs.Sets.{loop_set, ends, ends_act, fine, fine_act, fine_arms, jumps, jumps_act, use_of_arms}
use Rattle.model.proofs.Rows.{Named}
use Rattle.image.proofs.Laid.{laid, states-count}
use Rattle.masks.specs.declared.Masks.{Masks}
use Rattle.masks.specs.Masks.{branches_at, arms_at, masks_in}
use Rattle.sets.specs.Flow.{Flow, flow, flow_branches, flow_arms, Walked, Plain, Sets, Ready, ReadyAs, Single, Loop, ReadyList, Jump, PlainRow}
use Rattle.sets.proofs.Tests.{meet-sub, join-none, and_assoc, and-loop, inside-none}
use Rattle.sets.proofs.Rest.{no-moves, moves_set, sets-after, Rest, Splits, rest_all, rest-on, rest-last}
use Rattle.sets.proofs.Rows.{named-list, Base, base-of, action-row, action-is, low-is, use-expression, def-expression, use-range, def-range, use-arms, uses, defs, kind-inside, list-low}

-- ---- an action by its tree
abbrev flow_act : ℕ → ℕ → Act → Flow
flow_act top m a = record { ends = ends_act top m a; fine = fine_act top m a; jumps = λ q. jumps_act q top m a }

module _ (x : Tables) (r top m : ℕ) where
  walked_as : {was now' : List ℕ} {mv mv' : ℕ} {ok ok' : Bool} {n : ℕ} (a : Act) → action_at x r ≡ at r a → Walked (flow_act top m a) was now' mv mv' ok ok' n
      → Walked (flow top m (action_at x r)) was now' mv mv' ok ok' n
  unfolding ends fine jumps
  walked_as {was} {now'} {mv} {mv'} {ok} {ok'} {n} a e w = subst (λ (t : Action). Walked (flow top m t) was now' mv mv' ok ok' n) (sym e) w

-- nothing is carried
pub do-plain : {x : Tables} {s : List ℕ} {r top m : ℕ} {l : List ℕ} {mv : ℕ} {ok ok' : Bool} {n : ℕ} → Sets s top l → Plain x r m ok ok' n
    → Walked (flow top m (action_at x r)) l l mv mv ok ok' n
do-plain {top = top} {l = l} {mv = mv} d p = record {
  ends = p.ends top;
  fine = p.fine top;
  size = refl;
  met = λ q h. sym (ap (meet (get_or l q 0)) (p.jumps top q) ∙ meet-sub (get_or l q 0) top (d.inside q h));
  moves = no-moves l mv;
}

-- ---- a jump
module _ (top m q : ℕ) where
  jumps_to : (t : ℕ) (b : Bool) → eqb q t ≡ b → jumps_act t top m (to (state q)) ≡ elim b as (λ (y : Bool). ℕ) [ true ↦ m | false ↦ top ]
  unfolding jumps_act
  jumps_to t b e = ap (λ (z : Bool). elim z as (λ (y : Bool). ℕ) [ true ↦ m | false ↦ top ]) e

  module _ {s l : List ℕ} {n : ℕ} (h : q < length l) (d : Sets s top l) (e : n ≡ meet (get_or l q 0) m) where
    met-to : (t : ℕ) → t < length l → Dec (t ≡ q) → get_or (set l q n) t 0 ≡ meet (get_or l t 0) (jumps_act t top m (to (state q)))
    met-to t k (yes p) = rw (p, get_or-set_same l q n 0 h, jumps_to q true (eq-eqb q q refl)) e
    met-to t k (no f) =
        rw (get_or-set_other l q t n 0 f, jumps_to t false (ne_eqb q t (λ p. f (sym p)))) (sym (meet-sub (get_or l t 0) top (d.inside t k)))

    walked-still : (mv : ℕ) → n ≡ get_or l q 0 → Walked (flow_act top m (to (state q))) l l mv mv true true top
    unfolding ends_act fine_act
    walked-still mv g = record {
      ends = refl;
      fine = refl;
      size = refl;
      met = λ t k. ap (λ o. get_or o t 0) (sym (ap (set l q) g ∙ set-get_or l q 0)) ∙ met-to t k (ℕ_discrete t q);
      moves = no-moves l mv;
    }

    walked_to : (mv : ℕ) → (n ≡ get_or l q 0 → ⊥) → Walked (flow_act top m (to (state q))) l (set l q n) mv (join mv (bit q)) true true top
    unfolding ends_act fine_act
    walked_to mv f = record {
      ends = refl;
      fine = refl;
      size = length-set l q n;
      met = λ t k. met-to t k (ℕ_discrete t q);
      moves = moves_set l q n m mv h e f;
    }

module _ {s : List ℕ} {i : Image} {r top : ℕ} {l : List ℕ} (j : Jump s i r top l) {w : Fields} (reads : w ≡ fields_of (tables_of s) r) where
  to-code : w.code ≡ 53
  to-code = ap (λ (v : Fields). v.code) reads ∙ j.code

  pub jump-inside : w.a < length l
  jump-inside = omega (arith, j.sets.size, ltb-true w.a (length (tables_of s).states) (action-row (tables_of s) (record { each = j.formed.rows }) r w reads is_to to-code).a)

  pub jump_small : w.a < 64
  jump_small = let d = j.formed.located in omega (arith, jump-inside, j.sets.size, states-count d, (laid d).states_most)

  module _ (m n : ℕ) (e : n ≡ meet (get_or l w.a 0) m) {mv : ℕ} where
    jump-as : {now' : List ℕ} {mv' : ℕ} → Walked (flow_act top m (to (state w.a))) l now' mv mv' true true top
        → Walked (flow top m (action_at (tables_of s) r)) l now' mv mv' true true top
    unfolding grow_action
    jump-as = walked_as (tables_of s) r top m (to (state w.a)) (action-is (tables_of s) (record { each = j.formed.rows }) r w reads is_to to-code)

    pub still-jump : n ≡ get_or l w.a 0 → Walked (flow top m (action_at (tables_of s) r)) l l mv mv true true top
    still-jump g = jump-as (walked-still top m w.a jump-inside j.sets e mv g)

    pub do-jump : (b : ℕ) → (n ≡ get_or l w.a 0 → ⊥) → b ≡ bit w.a → Walked (flow top m (action_at (tables_of s) r)) l (set l w.a n) mv (bit_or mv b) true true top
    unfolding join
    do-jump b f h = rw h (jump-as (walked_to top m w.a jump-inside j.sets e mv f))

-- ---- a sequence, followed in a loop
-- of the walk of row r, entered with m, row here is left, to be entered with n
pub record Walking (s : List ℕ) (i : Image) (ms : List Masks) (r m top : ℕ) (was l : List ℕ) (mv mv' : ℕ) (ok ok' : Bool) (here n : ℕ) : Type 0 where
  pub ready : Ready s i ms here top l
  pub rest : Rest (flow top m (action_at (tables_of s) r)) (flow top n (action_at (tables_of s) here)) was l mv mv' ok ok'
  pub low : here ≤ r

pub walking-all : {s : List ℕ} {i : Image} {ms : List Masks} {r top : ℕ} {l : List ℕ} {mv : ℕ} {ok : Bool} (m : ℕ) → Ready s i ms r top l
    → Walking s i ms r m top l l mv mv ok ok r m
walking-all m d = record { ready = d; rest = rest_all _ _ _ _; low = omega arith }

splits-then : (x : Tables) (r top m : ℕ) (a b : Action) → action_at x r ≡ at r (then a b)
    → Splits (flow top m (action_at x r)) (flow top m a) (flow top (ends top m a) b)
unfolding ends fine jumps
splits-then x r top m a b e =
    subst (λ (t : Action). Splits (flow top m t) (flow top m a) (flow top (ends top m a) b)) (sym e)
    (record { ends = refl; fine = refl; jumps = λ q. refl })

module _ {s : List ℕ} {i : Image} {ms : List Masks} {r m top : ℕ} {was mid : List ℕ} {mv mv' : ℕ} {ok ok' : Bool} {here n : ℕ}
    (d : Walking s i ms r m top was mid mv mv' ok ok' here n) where
  module _ {w : Fields} (reads : w ≡ fields_of (tables_of s) here) (c : (fields_of (tables_of s) here).code ≡ 54) where
    then-code : w.code ≡ 54
    then-code = ap (λ (v : Fields). v.code) reads ∙ c

    then-a : Named (tables_of s) here action w.a
    then-a = (action-row (tables_of s) (base-of d.ready.lent).ok here w reads is_then then-code).a

    then-b : Named (tables_of s) here action w.b
    then-b = (action-row (tables_of s) (base-of d.ready.lent).ok here w reads is_then then-code).b

    pub first-ready : Ready s i ms w.a top mid
    first-ready = record { lent = d.ready.lent; sets = d.ready.sets; kind = then-a.kind }

    pub first-low : w.a < r
    first-low = omega (arith, d.low, then-a.below)

    pub second-low : w.b < here
    second-low = then-b.below

    pub walking_on : {now' : List ℕ} {mv'' : ℕ} {ok'' : Bool} {k : ℕ} → Walked (flow top n (action_at (tables_of s) w.a)) mid now' mv' mv'' ok' ok'' k
        → Walking s i ms r m top was now' mv mv'' ok ok'' w.b k
    unfolding grow_action
    walking_on p = record {
      ready = record { lent = d.ready.lent; sets = sets-after d.ready.sets p; kind = then-b.kind };
      rest =
          let x = tables_of s in
          let a = action_at x w.a in
          let b = action_at x w.b in
          rw p.ends (rest-on d.rest (splits-then x here top n a b (action-is x (base-of d.ready.lent).ok here w reads is_then then-code)) p);
      low = omega (arith, d.low, then-b.below);
    }

  pub walking-last : {now' : List ℕ} {mv'' : ℕ} {ok'' : Bool} {k : ℕ} → Walked (flow top n (action_at (tables_of s) here)) mid now' mv' mv'' ok' ok'' k
      → Walked (flow top m (action_at (tables_of s) r)) was now' mv mv'' ok ok'' k
  walking-last p = rest-last d.rest p

-- ---- a select, a case, a loop
module _ (top m : ℕ) {was now' : List ℕ} {mv mv' : ℕ} {ok ok' : Bool} {n : ℕ} where
  walked-select : (bs : Branches) → Walked (flow_branches top m bs) was now' mv mv' ok ok' n → Walked (flow_act top m (select bs)) was now' mv mv' ok ok' n
  unfolding ends_act fine_act jumps_act
  walked-select bs p = p

  walked-case : (e : Exp) (arms : Arms) (f : Bool) → f ≡ inside (join (use_of_exp e) (use_of_arms arms)) m → Walked (flow_arms top m arms) was now' mv mv' (ok && f) ok' n
      → Walked (flow_act top m (case e arms)) was now' mv mv' ok ok' n
  unfolding ends_act fine_act jumps_act
  walked-case e arms f h p = record {
    ends = p.ends;
    fine = p.fine ∙ and_assoc ok f (fine_arms top m arms) ∙ ap (λ t. ok && (t && fine_arms top m arms)) h;
    size = p.size;
    met = p.met;
    moves = p.moves;
  }

-- only this law opens `loop_set`
kept : (m : ℕ) (f : ℕ → ℕ) → loop_set m f ≡ m
unfolding loop_set
kept m f = refl

module _ (top m k : ℕ) {was now' : List ℕ} {mv mv' : ℕ} {ok ok' : Bool} {n : ℕ} (a : Action) (f g : Bool) (p : Walked (flow top k a) was now' mv mv' ok ok' n) where
  gathered : ((ok' && f) && g) ≡ (ok && (f && (fine top k a && g)))
  gathered = ap (λ t. (t && f) && g) p.fine ∙ and-loop ok (fine top k a) f g

  walked-while : (e : Exp) → k ≡ m → f ≡ inside (use_of_exp e) k → g ≡ inside k n
      → Walked (flow_act top m (while e a)) was now' mv mv' ok ((ok' && f) && g) k
  unfolding ends_act fine_act jumps_act
  walked-while e z h j = record {
    ends = is;
    fine = gathered ∙ ap (λ t. ok && t) (ap₂ (λ b c. b && (fine top k a && c)) h (j ∙ ap (inside k) p.ends)
        ∙ ap (λ t. inside (use_of_exp e) t && (fine top t a && inside t (ends top t a))) is);
    size = p.size;
    met = λ q l. p.met q l ∙ ap (λ n. meet (get_or was q 0) (jumps q top n a)) is;
    moves = p.moves;
  }
    where
      is : k ≡ ends_act top m (while e a)
      is = z ∙ sym (kept m (λ n. ends top n a))

  walked-for : (x : Variable) (low high : ℤ) → k ≡ join m (bit x.0) → f ≡ true → g ≡ inside k (join n (bit x.0))
      → Walked (flow_act top m (for x low high a)) was now' mv mv' ok ((ok' && f) && g) k
  unfolding ends_act fine_act jumps_act
  walked-for x low high z h j = record {
    ends = is;
    fine = gathered ∙ ap (λ t. ok && t) (ap₂ (λ b c. b && (fine top k a && c)) h (j ∙ ap (λ t. inside k (join t (bit x.0))) p.ends)
        ∙ ap (λ t. fine top t a && inside t (join (ends top t a) (bit x.0))) is);
    size = p.size;
    met = λ q l. p.met q l ∙ ap (λ n. meet (get_or was q 0) (jumps q top n a)) is;
    moves = p.moves;
  }
    where
      is : k ≡ ends_act top m (for x low high a)
      is = z ∙ sym (kept (join m (bit x.0)) (λ n. join (ends top n a) (bit x.0)))

module _ {s : List ℕ} {i : Image} {ms : List Masks} {r top : ℕ} {l : List ℕ} {w : Fields} (j : ReadyAs Loop s i ms r top l) (reads : w ≡ fields_of (tables_of s) r) where
  loop-code : (w.code ≡ 59) ⊎ (w.code ≡ 60)
  loop-code = go (ℕ_discrete w.code 59)
    where
      go : Dec (w.code ≡ 59) → (w.code ≡ 59) ⊎ (w.code ≡ 60)
      go (yes e) = inl e
      go (no f) = inr (omega (arith, ap (λ (v : Fields). v.code) reads, j.code.0, j.code.1))

  bs : Base (tables_of s) ms
  bs = base-of j.ready.lent

  body : Named (tables_of s) r action w.b
  body = ⊎_elim (λ c. (action-row (tables_of s) bs.ok r w reads is_while c).b) (λ c. (action-row (tables_of s) bs.ok r w reads is_for c).b) loop-code

  pub body-ready : Ready s i ms w.b top l
  body-ready = record { lent = j.ready.lent; sets = j.ready.sets; kind = body.kind }

  pub body-low : w.b < r
  body-low = body.below

  pub do-loop : (m : ℕ) (k : Masks) (f g : Bool) {now' : List ℕ} {mv mv' : ℕ} {ok ok' : Bool} {n : ℕ} → k ≡ masks_in ms w.a
      → Walked (flow top (bit_or m k.defs) (action_at (tables_of s) w.b)) l now' mv mv' ok ok' n → f ≡ inside k.uses (bit_or m k.defs)
      → g ≡ inside (bit_or m k.defs) (bit_or n k.defs) → Walked (flow top m (action_at (tables_of s) r)) l now' mv mv' ok ((ok' && f) && g) (bit_or m k.defs)
  unfolding grow_action join
  do-loop m head f g {now'} {mv} {mv'} {ok} {ok'} {n} e p y z = ⊎_elim whiles fors loop-code
    where
      x : Tables
      x = tables_of s

      a : Action
      a = action_at x w.b

      whiles : w.code ≡ 59 → Walked (flow top m (action_at x r)) l now' mv mv' ok ((ok' && f) && g) (bit_or m head.defs)
      whiles c =
          let k = (action-row x bs.ok r w reads is_while c).a.kind in
          let none' : head.defs ≡ 0 = ap defs e ∙ def-expression bs w.a k in
          walked_as x r top m (while (expression_at x w.a) a) (action-is x bs.ok r w reads is_while c)
          (walked-while top m (bit_or m head.defs) a f g p (expression_at x w.a) (rw none' (join-none m))
          (y ∙ ap (λ t. inside t (bit_or m head.defs)) (ap uses e ∙ use-expression bs w.a k)) (z ∙ ap (inside (bit_or m head.defs)) (ap (join n) none' ∙ join-none n)))

      fors : w.code ≡ 60 → Walked (flow top m (action_at x r)) l now' mv mv' ok ((ok' && f) && g) (bit_or m head.defs)
      fors c =
          let k = (action-row x bs.ok r w reads is_for c).a.kind in
          let t = fields_of x w.a in
          let one : head.defs ≡ bit t.a = ap defs e ∙ def-range bs w.a k in
          walked_as x r top m (for_of t a) (action-is x bs.ok r w reads is_for c)
          (walked-for top m (bit_or m head.defs) a f g p (variable t.a) (signed half16 t.b) (signed half16 t.c) (ap (join m) one)
          (y ∙ ap (λ q. inside q (bit_or m head.defs)) (ap uses e ∙ use-range bs w.a k) ∙ inside-none (bit_or m head.defs)) (z ∙ ap (λ q. inside (bit_or m head.defs) (join n q)) one))

-- ---- an action that is no sequence
module _ {s : List ℕ} {i : Image} {ms : List Masks} {r top : ℕ} {l : List ℕ} {w : Fields} (j : ReadyAs Single s i ms r top l) (reads : w ≡ fields_of (tables_of s) r) where
  base : Base (tables_of s) ms
  base = base-of j.ready.lent

  code_is : w.code ≡ (fields_of (tables_of s) r).code
  code_is = ap (λ (v : Fields). v.code) reads

  pub as_plain : (w.code ≡ 53 → ⊥) → (w.code ≡ 55 → ⊥) → (w.code ≡ 56 → ⊥) → (Loop w.code → ⊥) → PlainRow s i ms r
  as_plain c e f g = record {
    lent = j.ready.lent;
    kind = j.ready.kind;
    code = omega (arith, code_is, low-is (tables_of s) base.ok r w reads j.ready.kind c (λ q. j.code (sym code_is ∙ q)) e f (λ q. g (omega arith, omega arith)) (λ q. g (omega arith, omega arith)));
  }

  module _ (c : w.code ≡ 55) where
    branches-named : (w.a ≡ none) ⊎ Named (tables_of s) r branch w.a
    branches-named = named-list (action-row (tables_of s) base.ok r w reads is_select c).a

    pub branches-ready : ReadyList branch s i ms w.a top l
    branches-ready = record { lent = j.ready.lent; sets = j.ready.sets; first = ⊎_elim (λ e. inl e) (λ n. inr n.kind) branches-named }

    pub branches-low : (w.a + 1) % 65536 ≤ r
    branches-low = list-low base (kind-inside (tables_of s) action r (omega arith) j.ready.kind) branches-named

    pub do-select : (m : ℕ) {now' : List ℕ} {mv mv' : ℕ} {ok ok' : Bool} {n : ℕ} → Walked (flow_branches top m (branches_at (tables_of s) w.a)) l now' mv mv' ok ok' n
        → Walked (flow top m (action_at (tables_of s) r)) l now' mv mv' ok ok' n
    unfolding grow_action
    do-select m p =
        walked_as (tables_of s) r top m (select (branches_at (tables_of s) w.a)) (action-is (tables_of s) base.ok r w reads is_select c)
        (walked-select top m _ p)

  module _ (c : w.code ≡ 56) where
    arms-named : (w.b ≡ none) ⊎ Named (tables_of s) r arm w.b
    arms-named = named-list (action-row (tables_of s) base.ok r w reads is_case c).b

    pub arms-ready : ReadyList arm s i ms w.b top l
    arms-ready = record { lent = j.ready.lent; sets = j.ready.sets; first = ⊎_elim (λ e. inl e) (λ n. inr n.kind) arms-named }

    pub arms-low : (w.b + 1) % 65536 ≤ r
    arms-low = list-low base (kind-inside (tables_of s) action r (omega arith) j.ready.kind) arms-named

    pub do-case : (m : ℕ) (u t : Masks) (f : Bool) {now' : List ℕ} {mv mv' : ℕ} {ok ok' : Bool} {n : ℕ} → Walked (flow_arms top m (arms_at (tables_of s) w.b)) l now' mv mv' (ok && f) ok' n
        → u ≡ masks_in ms w.a → t ≡ masks_in ms w.b → f ≡ inside (bit_or u.uses t.uses) m
        → Walked (flow top m (action_at (tables_of s) r)) l now' mv mv' ok ok' n
    unfolding grow_action join
    do-case m u t f p e g h =
        let x = tables_of s in
        walked_as x r top m (case (expression_at x w.a) (arms_at x w.b)) (action-is x base.ok r w reads is_case c)
        (walked-case top m _ _ f
        (h ∙ ap (λ n. inside n m) (ap₂ join (ap uses e ∙ use-expression base w.a (action-row x base.ok r w reads is_case c).a.kind) (ap uses g ∙ use-arms base w.b arms-named))) p)
