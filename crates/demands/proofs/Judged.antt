-- 8 and 9 are the report's judgements: accepted images, and the place of each refusal. Assumes nothing.
use Rattle.std.specs.Prelude.{Ok, Err}
use mathlib.Core.{Path.◌≡◌, Path.refl, Path.sym, Path.ap, Path.◌∙◌, Path.subst, Logic.◌⊎◌, Logic.inl, Logic.inr, Bool.Bool, Bool.true, Bool.false, List.List}
use Prim.Native.Nat.{ℕ, ◌+◌, ◌-◌, ◌*◌, ◌/◌, ◌%◌, ◌≤◌, ◌<◌}
use native.Mathlib.Omega.{arith}
use lib.{Dec.leb, Dec.eqb, Dec.ltb, ListN.length, ListN.get_or}
use borrow.Author.Tests.{leb-true, ltb-true}
use Rattle.model.specs.declared.{Refusal.Refusal, Refusal.TheVariants.ImageLength, Refusal.TheVariants.MarkOrLength, Refusal.TheVariants.Starts, Refusal.TheVariants.Entries, Refusal.TheVariants.Malformed, Refusal.TheVariants.NoAction, Refusal.TheVariants.NoCondition, Refusal.TheVariants.Typing, Refusal.TheVariants.Binding}
use Rattle.model.specs.Answers.{state, row, number, place, after, unless, each, Verdict}
use Rattle.model.specs.Image.{Tables, none, length_fits, marked, trailer_of, starts_fit, table_fits, rows_end, row_count, fields_at, tables_of, entries_right}
use Rattle.model.specs.Rows.{action, expression, is_kind, is_root, formed, named_once, Means}
use Rattle.model.specs.Typing.{typed}
use Rattle.model.specs.Binding.{bound}
use Rattle.model.specs.Calls.{rows_verdict, rules_verdict, image_verdict}
use Rattle.model.proofs.Rows.{both_true, Formed, is-kind}
use Rattle.model.proofs.Bytes.{length-table}
use Rattle.model.proofs.Order.{after_both, after-accepted, after-refused, unless-true, each_all, each-accepts}
use Rattle.demands.specs.Common.{Iff, Lowest}
use Rattle.demands.specs.Judgements.{AutomatonTyped, AutomatonBound, TypedAs, RowTyped, BoundAs, RowBound, FreeToSeven, AcceptedIsWell, TypingIsLowest, BindingIsLowest, RulesAreJudgements}
use Rattle.demands.proofs.Everys.{each-refused, all-agree, lowest-refused, refused-lowest}
use Rattle.demands.proofs.TypingRows.{row-agrees}
use Rattle.demands.proofs.TypingDown.{typed-down}
use Rattle.demands.proofs.BindingRows.{row-bound-agrees}
use Rattle.demands.proofs.BindingDown.{bound-down}

-- ---- what 1 to 7 give
pub record Laid (x : Tables) : Type 0 where
  pub entries : entries_right x ≡ true
  pub formed : Formed x
  pub roots : (s : ℕ) → s < length x.states → is_root x action (get_or x.states s none) ≡ true
  pub condition : is_root x expression x.condition ≡ true
  pub named : (r : ℕ) → r < length x.rows → named_once x r ≡ true
  pub short : length x.rows ≤ none

table-most : (start last size least most : ℕ) → table_fits start last size least most ≡ true → (last - start) / size ≤ most
unfolding table_fits
table-most start last size least most e =
    let a = both_true (leb start last) _ e in
    let b = both_true (eqb ((last - start) % size) 0) _ a.1 in
    leb-true _ _ (both_true (leb least ((last - start) / size)) _ b.1).1

few-rows : (s : List ℕ) → starts_fit (trailer_of s) ≡ true → length (tables_of s).rows ≤ none
unfolding starts_fit tables_of
few-rows s e =
    let i = trailer_of s in
    let a = both_true (eqb i.types 0) _ e in
    let b = both_true (table_fits i.types i.variables 2 2 16) _ a.1 in
    let c = both_true (table_fits i.variables i.states 4 0 64) _ b.1 in
    let d = both_true (table_fits i.states i.rows 2 1 64) _ c.1 in
    let f = both_true (table_fits i.rows (rows_end i) 8 2 2048) _ d.1 in
    let g : row_count i ≤ 2048 = table-most i.rows (rows_end i) 8 2 2048 f.0 in
    omega (arith, g, length-table (λ r. fields_at s (i.rows + 8 * r)) 0 (row_count i))

laid : (s : List ℕ) → FreeToSeven s → Laid (tables_of s)
unfolding rows_verdict
laid s w =
    let x = tables_of s in
    let g = after_both (each (formed x) (length x.rows) (λ r. Malformed (row r))) _ w.rows in
    let h = after_both (each (λ q. is_root x action (get_or x.states q none)) (length x.states) (λ q. NoAction (state q))) _ g.1 in
    let i = after_both (unless (is_root x expression x.condition) (NoCondition (length x.states))) _ h.1 in
    record {
      entries = w.entries;
      formed = record { each = each_all (formed x) (length x.rows) _ g.0 };
      roots = each_all (λ q. is_root x action (get_or x.states q none)) (length x.states) _ h.0;
      condition = unless-true _ (NoCondition (length x.states)) i.0;
      named = each_all (named_once x) (length x.rows) _ i.1;
      short = few-rows s w.starts;
    }

module _ (x : Tables) (l : Laid x) where
  root : is_kind x expression x.condition ≡ true
  unfolding is_root
  root = (both_true (ltb x.condition (length x.rows)) _ l.condition).1

  root-row : x.condition < length x.rows
  unfolding is_root
  root-row = ltb-true _ _ (both_true (ltb x.condition (length x.rows)) _ l.condition).0

  roots : (s : ℕ) → s < length x.states → is_kind x action (get_or x.states s none) ≡ true
  unfolding is_root
  roots s h = (both_true (ltb (get_or x.states s none) (length x.rows)) _ (l.roots s h)).1

  roots-row : (s : ℕ) → s < length x.states → get_or x.states s none < length x.rows
  unfolding is_root
  roots-row s h = ltb-true _ _ (both_true (ltb (get_or x.states s none) (length x.rows)) _ (l.roots s h)).0

  typing-agrees : (r : ℕ) → r < length x.rows → ((i : ℕ) → i < r → RowTyped x i) → Iff (RowTyped x r) (typed x r ≡ true)
  typing-agrees r h low = row-agrees x l.formed r low root

  binding-agrees : (r : ℕ) → r < length x.rows → ((i : ℕ) → i < r → RowBound x i) → Iff (RowBound x r) (bound x r ≡ true)
  binding-agrees r h low = row-bound-agrees x l.formed r low l.entries

  -- every row's test of 8 passes exactly if the automaton is well typed
  pub all_typed : Iff ((r : ℕ) → r < length x.rows → typed x r ≡ true) (AutomatonTyped x)
  all_typed =
      let a = all-agree (typed x) (RowTyped x) (length x.rows) typing-agrees in
      record {
        on = λ f. record {
          condition = (a.on f x.condition root-row).condition refl;
          states = λ s h.
              let r = get_or x.states s none in
              subst (λ (m : Means). TypedAs x r m) (is-kind x action r (roots s h)).1 (a.on f r (roots-row s h)).tree;
        };
        back = λ w. a.back (typed-down x l.formed l.short l.named root roots w);
      }

  -- the same of 9; typing isn't needed
  pub all-bound : Iff ((r : ℕ) → r < length x.rows → bound x r ≡ true) (AutomatonBound x)
  all-bound =
      let a = all-agree (bound x) (RowBound x) (length x.rows) binding-agrees in
      record {
        on = λ f. record {
          condition = (a.on f x.condition root-row).condition refl;
          states = λ s h.
              let r = get_or x.states s none in
              subst (λ (m : Means). BoundAs x r m) (is-kind x action r (roots s h)).1 (a.on f r (roots-row s h)).tree;
        };
        back = λ w. a.back (bound-down x l.formed l.short l.named root roots w);
      }

  abbrev eight : Verdict
  eight = each (typed x) (length x.rows) (λ r. Typing (row r))

  abbrev nine : Verdict
  nine = each (bound x) (length x.rows) (λ r. Binding (row r))

  eight-passes : Iff (eight ≡ Ok tt) (AutomatonTyped x)
  eight-passes = record { on = λ e. all_typed.on (each_all (typed x) _ _ e); back = λ w. each-accepts (typed x) _ _ (all_typed.back w) }

  nine-passes : Iff (nine ≡ Ok tt) (AutomatonBound x)
  nine-passes = record { on = λ e. all-bound.on (each_all (bound x) _ _ e); back = λ w. each-accepts (bound x) _ _ (all-bound.back w) }

  -- 8 and 9 pass exactly if the automaton is well typed and well bound
  pub rules-accept : Iff (rules_verdict x ≡ Ok tt) (AutomatonTyped x × AutomatonBound x)
  unfolding rules_verdict
  rules-accept = record {
    on = λ e. let p = after_both eight nine e in (eight-passes.on p.0, nine-passes.on p.1);
    back = λ w. after-accepted eight nine (eight-passes.back w.0) ∙ nine-passes.back w.1;
  }

-- ---- which stage refuses
after-split : (v w : Verdict) (y : Refusal) → after v w ≡ Err y → (v ≡ Err y) ⊎ ((v ≡ Ok tt) × (w ≡ Err y))
unfolding after
after-split (Ok _) w y e = inr (refl, e)
after-split (Err z) w y e = inl e

-- the first stage refuses with another number
past : (v w : Verdict) (y : Refusal) → (v ≡ Err y → ⊥) → after v w ≡ Err y → (v ≡ Ok tt) × (w ≡ Err y)
past v w y f e = go (after-split v w y e)
  where
    go : (v ≡ Err y) ⊎ ((v ≡ Ok tt) × (w ≡ Err y)) → (v ≡ Ok tt) × (w ≡ Err y)
    go (inl p) = absurd (f p)
    go (inr p) = p

not-unless : (b : Bool) (z y : Refusal) → (number y ≡ number z → ⊥) → unless b z ≡ Err y → ⊥
not-unless true z y f e = let k : ◌≡◌ {A = ℕ} 0 1 = cc in omega arith
not-unless false z y f e = let k : y ≡ z = cc in f (ap number k)

not-each : (p : ℕ → Bool) (n : ℕ) (g : ℕ → Refusal) (y : Refusal) → ((k : ℕ) → number y ≡ number (g k) → ⊥) → each p n g ≡ Err y → ⊥
not-each p n g y f e = let q = each-refused p n g y e in f q.k (ap number q.is)

not-rows : (x : Tables) (y : Refusal) → 7 < number y → rows_verdict x ≡ Err y → ⊥
unfolding rows_verdict
not-rows x y h e =
    let a = past _ _ y (not-each (formed x) _ _ y (λ k q. omega arith)) e in
    let b = past _ _ y (not-each (λ q. is_root x action (get_or x.states q none)) _ _ y (λ k q. omega arith)) a.1 in
    let c = past _ _ y (not-unless (is_root x expression x.condition) _ y (λ q. omega arith)) b.1 in
    not-each (named_once x) _ _ y (λ k q. omega arith) c.1

-- a refusal over 7 is one of the rules
late : (s : List ℕ) (y : Refusal) → 7 < number y → image_verdict s ≡ Err y → FreeToSeven s × (rules_verdict (tables_of s) ≡ Err y)
unfolding image_verdict
late s y h e =
    let x = tables_of s in
    let a = past _ _ y (not-unless (length_fits s) _ y (λ q. omega arith)) e in
    let b = past _ _ y (not-unless (marked s) _ y (λ q. omega arith)) a.1 in
    let c = past _ _ y (not-unless (starts_fit (trailer_of s)) _ y (λ q. omega arith)) b.1 in
    let d = past _ _ y (not-unless (entries_right x) _ y (λ q. omega arith)) c.1 in
    let f = past _ _ y (not-rows x y h) d.1 in (
      record {
        long = unless-true _ ImageLength a.0;
        marked = unless-true _ MarkOrLength b.0;
        starts = unless-true _ Starts c.0;
        entries = unless-true _ Entries d.0;
        rows = f.0;
      },
      f.1,
    )

-- where 1 to 7 pass, the rules decide
rest : (s : List ℕ) → FreeToSeven s → image_verdict s ≡ rules_verdict (tables_of s)
unfolding image_verdict after
rest s w = rw (w.long, w.marked, w.starts, w.entries) (after-accepted (rows_verdict (tables_of s)) (rules_verdict (tables_of s)) w.rows)

free-to-seven : (s : List ℕ) → image_verdict s ≡ Ok tt → FreeToSeven s
unfolding image_verdict
free-to-seven s e =
    let x = tables_of s in
    let a = after_both (unless (length_fits s) ImageLength) _ e in
    let b = after_both (unless (marked s) MarkOrLength) _ a.1 in
    let c = after_both (unless (starts_fit (trailer_of s)) Starts) _ b.1 in
    let d = after_both (unless (entries_right x) Entries) _ c.1 in
    let f = after_both (rows_verdict x) (rules_verdict x) d.1 in
    record {
      long = unless-true _ ImageLength a.0;
      marked = unless-true _ MarkOrLength b.0;
      starts = unless-true _ Starts c.0;
      entries = unless-true _ Entries d.0;
      rows = f.0;
    }

pub accepted-is-well : AcceptedIsWell
accepted-is-well s = record {
  on = λ e.
      let w = free-to-seven s e in
      let p = (rules-accept (tables_of s) (laid s w)).on (sym (rest s w) ∙ e) in
      (w, p.0, p.1);
  back = λ w. rest s w.0 ∙ (rules-accept (tables_of s) (laid s w.0)).back (w.1, w.2);
}

-- ---- the places
module _ (x : Tables) (l : Laid x) (r : ℕ) where
  abbrev n : ℕ
  n = length x.rows

  eight-lowest : Lowest (RowTyped x) n r → eight x l ≡ Err (Typing (row r))
  eight-lowest w = lowest-refused (typed x) (RowTyped x) n (typing-agrees x l) (λ k. Typing (row k)) r w

  eight-refused : eight x l ≡ Err (Typing (row r)) → Lowest (RowTyped x) n r
  eight-refused e =
      let q = each-refused (typed x) n (λ k. Typing (row k)) _ e in
      let k : r ≡ q.k = ap place q.is in
      subst (Lowest (RowTyped x) n) (sym k) (refused-lowest (typed x) (RowTyped x) n (typing-agrees x l) q.k q.row q.below q.fails)

  nine-lowest : Lowest (RowBound x) n r → nine x l ≡ Err (Binding (row r))
  nine-lowest w = lowest-refused (bound x) (RowBound x) n (binding-agrees x l) (λ k. Binding (row k)) r w

  nine-refused : nine x l ≡ Err (Binding (row r)) → Lowest (RowBound x) n r
  nine-refused e =
      let q = each-refused (bound x) n (λ k. Binding (row k)) _ e in
      let k : r ≡ q.k = ap place q.is in
      subst (Lowest (RowBound x) n) (sym k) (refused-lowest (bound x) (RowBound x) n (binding-agrees x l) q.k q.row q.below q.fails)

  pub typing-place : Iff (rules_verdict x ≡ Err (Typing (row r))) (Lowest (RowTyped x) n r)
  unfolding rules_verdict
  typing-place = record { on = λ e. go (after-split (eight x l) (nine x l) _ e); back = λ w. after-refused (eight x l) (nine x l) _ (eight-lowest w) }
    where
      go : (eight x l ≡ Err (Typing (row r))) ⊎ ((eight x l ≡ Ok tt) × (nine x l ≡ Err (Typing (row r)))) → Lowest (RowTyped x) n r
      go (inl p) = eight-refused p
      go (inr p) = absurd (not-each (bound x) n (λ k. Binding (row k)) (Typing (row r)) (λ k q. omega arith) p.1)

  pub binding-place : Iff (rules_verdict x ≡ Err (Binding (row r))) (AutomatonTyped x × Lowest (RowBound x) n r)
  unfolding rules_verdict
  binding-place = record {
    on = λ e.
        let p = past (eight x l) (nine x l) _ (not-each (typed x) n (λ k. Typing (row k)) (Binding (row r)) (λ k q. omega arith)) e in
        ((eight-passes x l).on p.0, nine-refused p.1);
    back = λ w. after-accepted (eight x l) (nine x l) ((eight-passes x l).back w.0) ∙ nine-lowest w.1;
  }

pub typing-is-lowest : TypingIsLowest
typing-is-lowest s r = record {
  on = λ e.
      let p = late s (Typing (row r)) (omega arith) e in
      (p.0, (typing-place (tables_of s) (laid s p.0) r).on p.1);
  back = λ w. rest s w.0 ∙ (typing-place (tables_of s) (laid s w.0) r).back w.1;
}

pub binding-is-lowest : BindingIsLowest
binding-is-lowest s r = record {
  on = λ e.
      let p = late s (Binding (row r)) (omega arith) e in
      let q = (binding-place (tables_of s) (laid s p.0) r).on p.1 in
      (p.0, q.0, q.1);
  back = λ w. rest s w.0 ∙ (binding-place (tables_of s) (laid s w.0) r).back (w.1, w.2);
}

pub rules-are-judgements : RulesAreJudgements
rules-are-judgements = record { accepted = accepted-is-well; typing = typing-is-lowest; binding = binding-is-lowest }
