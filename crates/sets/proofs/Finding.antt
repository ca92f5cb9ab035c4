-- The largest sets: where they begin, that they are found when nothing is due; and 11 judged there. Assumes nothing.
use Rattle.std.specs.Prelude.{Ok, Err}
use mathlib.Core.{Path.◌≡◌, Path.refl, Path.sym, Path.ap, Path.◌∙◌, Bool.Bool, Bool.true, Bool.false, Bool.not, Bool.cond, Bool.◌||◌, Bool.not-not, List.List}
use Prim.Native.Nat.{ℕ, ◌+◌, ◌^◌, ◌<◌}
use native.Mathlib.{Omega.arith, Decide.ℕ_discrete}
use lib.{Bits.bit_and, Bits.bit_or, Dec.eqb, ListN.length, ListN.get_or, ListN.take, ListN.length-take, Pow.pow_mono, ListN.set, ListN.length-set, ListN.replicate, ListN.length-replicate, ListN.get_or-replicate, Seq.get_or-set_same, Seq.get_or-set_other, Seq.get_or-take, Seq.ext_get_or}
use borrow.Author.Tests.{ne_eqb, eqb-true, eqb-false}
use Rattle.model.specs.declared.{Image.Image, Refusal.TheVariants.Initialisation}
use Rattle.model.specs.Answers.{state}
use Rattle.model.specs.Masks.{digit, Has, has, bit, full, without}
use Rattle.model.specs.Image.{Tables, none, tables_of, state_count, row_count}
use Rattle.model.specs.Binding.{parameters_of}
use Rattle.model.specs.Decode.{action_at, act}
use Rattle.model.specs.Sets.{fine}
use Rattle.model.specs.Largest.{top_of, Sub, Reached, Largest, reached_of, begun, sets_of, initialised}
use Rattle.model.proofs.Bytes.{length-table, get_or-table}
use Rattle.model.proofs.Masks.{digit-le, digit-zero, has-digit, digit-has, sub_refl}
use Rattle.model.proofs.Order.{lowest-full, each-accepts, each-refuses}
use Rattle.image.specs.Located.{StateOf}
use Rattle.image.proofs.Laid.{laid, states-count}
use Rattle.demands.proofs.Greatest.{Leads, reached-all, reached-in, at_rest, one-largest}
use Rattle.demands.proofs.Solved.{sets-length, sets-largest}
use Rattle.demands.proofs.Reaching.{reached-sound, reached-found}
use Rattle.sets.specs.Flow.{flow, Walked, Ready}
use Rattle.sets.specs.States.{set_at, Beginning, Above, Given, Lowest, Marked, Settled, Judged, Lending, Rows, EachState}
use Rattle.masks.specs.declared.Masks.{Masks}
use Rattle.masks.specs.Masks.{masks, masks_in}
use Rattle.masks.proofs.ParameterMask.{parameters-in}
use Rattle.sets.proofs.Rest.{moved-alone}
use Rattle.sets.proofs.Leading.{leads-of, lead-inside, lead_is}
use Rattle.sets.proofs.Relaxing.{near, by_state, state-small, state-ready, relaxed, fine-as}
use Rattle.sets.proofs.Turning.{Turn, turn-as}
use Rattle.sets.proofs.Visiting.{remaining, Done, Visiting, visiting-less, visiting-on}

-- ---- the beginning
begun-at : (x : Tables) (q : ℕ) → q < length x.states → get_or (begun x) q 0 ≡ cond (eqb q 0) (parameters_of x.variables) (top_of x)
unfolding begun
begun-at x q h = get_or-table (λ t. cond (eqb t 0) (parameters_of x.variables) (top_of x)) 0 (length x.states) q 0 h ∙ (let e : 0 + q ≡ q = omega arith in rw e)

begun-length : (x : Tables) → length (begun x) ≡ length x.states
unfolding begun
begun-length x = length-table _ 0 (length x.states)

module _ {s : List ℕ} {i : Image} {top : ℕ} {l : List ℕ} (d : Beginning s i top l) where
  pub begin-some : 0 < length l
  begin-some = let p = d.formed.located in omega (arith, d.size, states-count p, (laid p).states_least)

-- all variables everywhere, then the parameters at state 0
pub begun-is : (x : Tables) (top p : ℕ) (l : List ℕ) → 0 < length x.states → length l ≡ length x.states → top ≡ top_of x → p ≡ parameters_of x.variables
    → ((q : ℕ) → q < length l → get_or l q 0 ≡ top) → set l 0 p ≡ begun x
begun-is x top p l z n e f h = ext_get_or 0 (set l 0 p) (begun x) (length-set l 0 p ∙ n ∙ sym (begun-length x)) (λ q b. go q (omega (arith, length-set l 0 p)) (ℕ_discrete q 0))
  where
    go : (q : ℕ) → q < length l → Dec (q ≡ 0) → get_or (set l 0 p) q 0 ≡ get_or (begun x) q 0
    go q b (yes k) = rw (k, get_or-set_same l 0 p 0 (omega arith), begun-at x 0 z) f
    go q b (no k) = rw (get_or-set_other l 0 q p 0 k, begun-at x q (omega arith), ne_eqb q 0 k) (h q b ∙ e)

pub begun-all : {s : List ℕ} {i : Image} {top p : ℕ} {l k : List ℕ} → Beginning s i top l → k ≡ replicate (length l) top
    → p ≡ parameters_of (tables_of s).variables → set k 0 p ≡ begun (tables_of s)
begun-all {s} {i} {top} {p} {l} d e f =
    let n : length (replicate (length l) top) ≡ length l = length-replicate (length l) top in
    rw e (begun-is (tables_of s) top p (replicate (length l) top) (omega (arith, begin-some d, d.size)) (n ∙ d.size) d.all f (λ q b. get_or-replicate (length l) q top 0 (omega (arith, n))))

module _ (x : Tables) (inside : Sub (parameters_of x.variables) (top_of x)) where
  pick : (P : ℕ → Type 0) (q : ℕ) → (q ≡ 0 → P (parameters_of x.variables)) → P (top_of x) → P (cond (eqb q 0) (parameters_of x.variables) (top_of x))
  pick P q h k = go (eqb q 0) refl
    where
      go : (b : Bool) → eqb q 0 ≡ b → P (cond b (parameters_of x.variables) (top_of x))
      go true e = h (eqb-true q 0 e)
      go false e = k

  begun-rule : (P : ℕ → ℕ → Type 0) → P 0 (parameters_of x.variables) → ((q : ℕ) → P q (top_of x)) → (q : ℕ) → P q (set_at x (begun x) q)
  begun-rule P z k = by_state P x (begun x)
      (λ q b. let h : q < length x.states = omega (arith, begun-length x) in
      rw (near x (begun x) q b, begun-at x q h) (pick (P q) q (λ e. rw e z) (k q))) k

  pub begun-above : 0 < length x.states → Above x (begun x)
  begun-above z = record {
    size = begun-length x;
    all = begun-rule (λ q m. Sub m (top_of x)) inside (λ q. sub_refl (top_of x));
    begins = rw (near x (begun x) 0 (omega (arith, begun-length x)), begun-at x 0 z) (sub_refl (parameters_of x.variables));
    above = λ o f. begun-rule (λ q m. Sub (o q) m) f.begins f.all;
  }

-- ---- one walk
module _ {s : List ℕ} {i : Image} {ms : List Masks} {top : ℕ} (g : Given s i ms top) {was : List ℕ} {due walked wrong : ℕ}
    (d : Visiting (tables_of s) was due walked wrong) {k : ℕ} (m : Lowest due k) where
  pub due-inside : k < length was
  due-inside = omega (arith, d.stage.size, reached-in (tables_of s) (leads-of g.rows.lending.rooted) k (d.due_in k m.here))

  due-state : k < state_count i
  due-state = state-small g d.stage k due-inside

  pub due-located : StateOf s i k
  due-located = record { located = g.rows.lending.rooted.formed.located; inside = due-state }

  module _ {row : ℕ} (e : row ≡ get_or (tables_of s).states k none) where
    pub due-lead : row < length ms
    due-lead = lead-inside g.rows k row due-state e

    pub due-ready : Ready s i ms row top was
    due-ready = state-ready g d.stage k row due-inside e

    lead-fits : (masks_in ms row).leads < 2 ^ 64
    lead-fits =
        let x = tables_of s in
        let n = laid g.rows.lending.rooted.formed.located in
        omega (
          arith,
          lead_is g.rows k row due-state e,
          (leads-of g.rows.lending.rooted).inner k (omega (arith, due-inside, d.stage.size)),
          pow_mono {i = length x.states} {j = 64} (omega (arith, n.states_most, states-count g.rows.lending.rooted.formed.located)),
        )

    -- b: the state's bit; rest: those due but for it; fresh: those that it leads to and that aren't walked
    module _ {b mv rest fresh : ℕ} (is : b ≡ bit k) (f : rest ≡ without due b)
        (h : fresh ≡ without (masks_in ms row).leads (bit_or walked b)) {now' : List ℕ} {ok : Bool} {n : ℕ}
        (w : Walked (flow top (get_or was k 0) (action_at (tables_of s) row)) was now' 0 mv true ok n) where
      abbrev due_then : ℕ
      due_then = bit_or (bit_or rest (bit_and (masks_in ms row).leads mv)) fresh

      turns : Turn k (masks_in ms row).leads mv due walked due_then (bit_or walked b)
      turns = turn-as k (masks_in ms row).leads mv due walked m.small d.due_fits d.walked_fits lead-fits is f h m.here

      pub walk-less : remaining now' due_then (bit_or walked b) < remaining was due walked
      walk-less = visiting-less d turns (lead_is g.rows k row due-state e) (moved-alone w.moves)

      pub walk-on : {wrong' : ℕ} → Marked k ok wrong wrong' → Visiting (tables_of s) now' due_then (bit_or walked b) wrong'
      walk-on j =
          visiting-on d turns (lead_is g.rows k row due-state e) (moved-alone w.moves) (relaxed g d.stage k row due-inside e w) j
          (fine-as g d.stage k row due-inside e w)

-- ---- the end: nothing is due
module _ {x : Tables} (w : Leads x) (inside : Sub (parameters_of x.variables) (top_of x)) {l : List ℕ} {due walked wrong : ℕ}
    (d : Visiting x l due walked wrong) (z : due ≡ 0) where
  nothing : (q : ℕ) → digit due q ≡ 0
  nothing q = ap (λ n. digit n q) z ∙ digit-zero q

  walked_all : {t : ℕ} → Reached x t → Has walked t
  walked_all = reached-all x (λ q. Has walked q) (omega (arith, d.start, nothing 0, digit-le walked 0))
      (λ t q h k. omega (arith, d.led t q h, nothing q, digit-le walked q))

  done_all : (t : ℕ) → Reached x t → Done x l wrong t
  done_all t p = d.done t (walked_all p) (nothing t)

  found-sets : l ≡ sets_of x
  found-sets = ext_get_or 0 l (sets_of x) same (λ q b. sym (near x l q b) ∙ one-largest x _ _ found (sets-largest x w inside) q ∙ near x (sets_of x) q (omega (arith, same)))
    where
      same : length l ≡ length (sets_of x)
      same = d.stage.size ∙ sym (sets-length x w inside)

      found : Largest x (set_at x l)
      found = at_rest x w (set_at x l) (record { all = d.stage.all; begins = d.stage.begins; above = d.stage.above }) (λ t q p. (done_all t p).along q)

  found-errs : (t : ℕ) → initialised x (reached_of x) (sets_of x) t ≡ not (has wrong t)
  unfolding initialised
  found-errs t = go (has (reached_of x) t) refl
    where
      go : (b : Bool) → has (reached_of x) t ≡ b → (not b || fine (top_of x) (set_at x (sets_of x) t) (act x t)) ≡ not (has wrong t)
      go true e =
          let o = done_all t (reached-sound x w t (has-digit (reached_of x) t e)) in
          ap (λ m. fine (top_of x) (set_at x m t) (act x t)) (sym found-sets) ∙ sym (ap not o.judged ∙ not-not _)
      go false e =
          let n : Has wrong t → ⊥ = λ h. eqb-false (digit (reached_of x) t) 1 e (reached-found x w t (d.walked_in t (omega (arith, d.wrong_in t, digit-le walked t)))) in
          sym (ap not (ne_eqb (digit wrong t) 1 n))

  visiting-last : Settled x wrong l
  visiting-last = record {
    largest = found-sets;
    errs = found-errs;
    inside = λ t h. reached-in x w t (d.walked_in t (omega (arith, d.wrong_in t, digit-le walked t)));
  }

pub settled-of : {s : List ℕ} {i : Image} {ms : List Masks} {top : ℕ} → Given s i ms top → {l : List ℕ} {due walked wrong : ℕ}
    → Visiting (tables_of s) l due walked wrong → due ≡ 0 → Settled (tables_of s) wrong l
settled-of {s} g d z = visiting-last (leads-of g.rows.lending.rooted) (parameters-in (tables_of s) g.rows.lending.rooted.formed.entries) d z

-- ---- 11
module _ {x : Tables} {wrong : ℕ} {l : List ℕ} (d : Settled x wrong l) where
  errs-not : (t : ℕ) → digit wrong t ≡ 0 → initialised x (reached_of x) (sets_of x) t ≡ true
  errs-not t e = d.errs t ∙ ap not (ne_eqb (digit wrong t) 1 (λ h. omega arith))

  pub judged-none : wrong ≡ 0 → Judged x (Ok tt) l
  judged-none z = record {
    verdict = sym (each-accepts _ (length x.states) _ (λ t b. errs-not t (ap (λ n. digit n t) z ∙ digit-zero t)));
    largest = d.largest;
  }

  pub judged-at : (k : ℕ) → Lowest wrong k → Judged x (Err (Initialisation (state k))) l
  judged-at k m = record {
    verdict = sym (each-refuses _ (length x.states) _ k (lowest-full _ k (λ t b. errs-not t (m.below t b))) (d.inside k m.here) (d.errs k ∙ ap not (digit-has wrong k m.here)));
    largest = d.largest;
  }

-- ---- the whole
pub top-is : (x : Tables) (n top : ℕ) → n ≡ length x.variables → top ≡ full n → top ≡ top_of x
top-is x n top e f = f ∙ ap full e

module _ {s : List ℕ} {i : Image} {ms : List Masks} {l : List ℕ} (d : EachState s i ms l) where
  pub given-of : (n top : ℕ) → n ≡ length (tables_of s).variables → top ≡ full n → Given s i ms top
  given-of n top f g = record { rows = d.rows; all = top-is (tables_of s) n top f g }

  pub begun-staged : {m : List ℕ} → m ≡ begun (tables_of s) → Above (tables_of s) m
  begun-staged e =
      let f = d.rows.lending.rooted.formed in
      rw e (begun-above (tables_of s) (parameters-in (tables_of s) f.entries) (omega (arith, (laid f.located).states_least, states-count f.located)))

-- the masks of the rows and none after them
pub front : {s : List ℕ} {i : Image} {n : ℕ} {ms : List Masks} → Lending s i ms → n ≡ row_count i → Rows s i (take n ms)
front {i = i} {ms = ms} d e = rw e (record {
  lending = record {
    rooted = d.rooted;
    filled = record {
      each = λ r h. get_or-take (row_count i) ms r (masks 0 0 0) h ∙ d.filled.each r h;
      size = simp length-take (omega (arith, d.filled.size));
    };
  };
  size = simp length-take (omega (arith, d.filled.size));
})
