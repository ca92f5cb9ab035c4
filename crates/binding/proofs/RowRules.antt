-- The rule of one row: by what it means, then by its code. Assumes nothing.
use mathlib.Core.{Path.◌≡◌, Path.refl, Path.sym, Path.ap, Path.◌∙◌, Path.subst, Logic.◌⊎◌, Logic.inl, Logic.inr, Bool.Bool, Bool.true, List.List}
use Prim.Native.Nat.{ℕ, ◌≤◌, ◌<◌}
use native.Mathlib.{Decide.dec_lt, Omega.arith}
use lib.{Dec.ltb, ListN.length}
use borrow.Author.Tests.{eq-eqb, ne_eqb}
use Rattle.model.specs.declared.{Fields.Fields, Image.Image}
use Rattle.model.specs.Masks.{apart, inside}
use Rattle.model.specs.Image.{Tables, none, tables_of, fields_of}
use Rattle.model.specs.Rows.{Kind, expression, gets, of_type, item, is_null, is_assign, is_choose, is_reset, is_communicate, is_to, is_then, is_select, is_case, is_while, is_for, Means, an_expression, a_pattern, an_offer, an_action, another, Shape, codes, lookup, shape_of, means_at, is_kind, is_root}
use Rattle.model.specs.Decode.{offers_at, grow_action, rule_at}
use Rattle.model.specs.Binding.{bound_act, distinct, parameters_of, bound}
use Rattle.model.proofs.Rows.{Formed, Named, Row, row_of, row_is, is-kind, both_true, and-true}
use Rattle.model.proofs.Codes.{shape-past}
use Rattle.model.proofs.Decode.{action_at-is}
use Rattle.image.proofs.Laid.{condition-is}
use Rattle.masks.specs.declared.Masks.{Masks}
use Rattle.masks.specs.Masks.{use_at, def_at, masks_in}
use Rattle.masks.proofs.ByCode.{each_at, all_from, all-from}
use Rattle.masks.proofs.ByKind.{use-expression, def-action, def-range}
use Rattle.binding.specs.Bound.{bits_at, bound_offers, Item, Vector, Offers, Rule}
use Rattle.binding.proofs.Readings.{ok, read-use, read-def}
use Rattle.binding.proofs.Vectors.{gets-bits, of-types-bits, variables-bits}

-- ---- by what the row means
unfoldable pub bound_by : Tables → Fields → Means → Bool
bound_by x w (an_expression e) = true
bound_by x w (a_pattern p) = true
bound_by x w (an_offer o) = true
bound_by x w (an_action is_null) = true
bound_by x w (an_action is_assign) = distinct (bits_at x w.a)
bound_by x w (an_action is_choose) = distinct (bits_at x w.a)
bound_by x w (an_action is_reset) = distinct (bits_at x w.a)
bound_by x w (an_action is_communicate) = bound_offers (offers_at x w.b)
bound_by x w (an_action is_to) = true
bound_by x w (an_action is_then) = true
bound_by x w (an_action is_select) = true
bound_by x w (an_action is_case) = true
bound_by x w (an_action is_while) = true
bound_by x w (an_action is_for) = apart (def_at x w.a) (def_at x w.b)
bound_by x w (another k) = true

module _ (x : Tables) (good : Formed x) (r : ℕ) where
  abbrev W : Fields
  W = fields_of x r

  by-means : (m : Means) → means_at x r ≡ m → Row x r W m → rule_at x (λ e. true) (λ p. true) bound_act r ≡ bound_by x W m
  unfolding rule_at bound_by bound_act grow_action bound_offers
  by-means (an_expression e) q t = rw (q, rule_at)
  by-means (a_pattern p) q t = rw (q, rule_at)
  by-means (an_offer o) q t = rw (q, rule_at)
  by-means (an_action is_null) q t = rw (q, rule_at, action_at-is x good r _ q)
  by-means (an_action is_assign) q t = rw (q, rule_at, action_at-is x good r _ q, gets-bits)
  by-means (an_action is_choose) q t = rw (q, rule_at, action_at-is x good r _ q, of-types-bits)
  by-means (an_action is_reset) q t = rw (q, rule_at, action_at-is x good r _ q, variables-bits)
  by-means (an_action is_communicate) q t = rw (q, rule_at, action_at-is x good r _ q)
  by-means (an_action is_to) q t = rw (q, rule_at, action_at-is x good r _ q)
  by-means (an_action is_then) q t = rw (q, rule_at, action_at-is x good r _ q)
  by-means (an_action is_select) q t = rw (q, rule_at, action_at-is x good r _ q)
  by-means (an_action is_case) q t = rw (q, rule_at, action_at-is x good r _ q)
  by-means (an_action is_while) q t = rw (q, rule_at, action_at-is x good r _ q)
  by-means (an_action is_for) q t =
      rw (q, rule_at, action_at-is x good r _ q, def-range x W.a t.a.kind, def-action x W.b t.b.kind)
  by-means (another k) q t = rw (q, rule_at)

  -- of a row that isn't the condition's, and of the condition's
  pub bound-other : (r ≡ x.condition → ⊥) → bound x r ≡ bound_by x W (means_at x r)
  unfolding bound
  bound-other f = rw (ne_eqb r x.condition f, and-true) (by-means (means_at x r) refl (row_of x good r))

  pub bound-condition : r ≡ x.condition → is_kind x expression r ≡ true → bound x r ≡ inside (use_at x r) (parameters_of x.variables)
  unfolding bound bound_by
  bound-condition e k =
      let m = is-kind x expression r k in
      rw (eq-eqb r x.condition e, use-expression x r k, by-means _ m.1 (row_is x good r _ m.1))

-- ---- by the row's code
module _ (x : Tables) (w : Fields) where
  abbrev At : ℕ → Bool
  At c = bound_by x w (shape_of c).means

  pub at-vector : 49 ≤ w.code → w.code < 52 → distinct (bits_at x w.a) ≡ At w.code
  unfolding bound_by shape_of lookup codes
  at-vector h k = each_at (λ n. distinct (bits_at x w.a) ≡ At n) 49 3 (refl, (refl, (refl, tt))) w.code h k

  pub at-communicate : w.code ≡ 52 → bound_offers (offers_at x w.b) ≡ At w.code
  unfolding bound_by shape_of lookup codes
  at-communicate e = sym (ap At e)

  pub at-for : w.code ≡ 60 → apart (def_at x w.a) (def_at x w.b) ≡ At w.code
  unfolding bound_by shape_of lookup codes
  at-for e = sym (ap At e)

  -- every other code
  pub at_low : w.code < 49 → true ≡ At w.code
  unfolding all_from bound_by shape_of lookup codes
  at_low k = sym (all-from At 0 49 refl w.code (omega arith) k)

  known-high : (c : ℕ) → 53 ≤ c → c < 60 → true ≡ At c
  unfolding all_from bound_by shape_of lookup codes
  known-high c h k = sym (all-from At 53 7 refl c h k)

  unknown-high : (c : ℕ) → 61 ≤ c → true ≡ At c
  unfolding bound_by shape_of codes
  unknown-high c h = sym (ap (λ (s : Shape). bound_by x w s.means) (shape-past c h))

  pub at_high : 52 ≤ w.code → (w.code ≡ 52 → ⊥) → (w.code ≡ 60 → ⊥) → true ≡ At w.code
  at_high h f g = go (dec_lt w.code 60)
    where
      go : Dec (w.code < 60) → true ≡ At w.code
      go (yes k) = known-high w.code (omega arith) k
      go (no k) = unknown-high w.code (omega arith)

-- ---- row r of an image free of 1 to 6
starts-of : {x : Tables} {r n : ℕ} {k : Kind} {t : Type 0} → (n ≡ none) ⊎ (Named x r k n × t) → (n ≡ none) ⊎ (is_kind x k n ≡ true)
starts-of (inl e) = inl e
starts-of (inr p) = inr p.0.kind

module _ {s : List ℕ} {i : Image} {r : ℕ} {ms : List Masks} {allowed : ℕ} (h : Rule s i r ms allowed) where
  condition-at : i.condition ≡ (tables_of s).condition
  condition-at = sym (condition-is h.ruled.rooted.formed.located)

  condition-kind : is_kind (tables_of s) expression (tables_of s).condition ≡ true
  unfolding is_root
  condition-kind = (both_true (ltb (tables_of s).condition (length (tables_of s).rows)) _ h.ruled.rooted.condition).1

  pub rule-condition : (m : Masks) (b : Bool) → r ≡ i.condition → m ≡ masks_in ms r → b ≡ inside m.uses allowed → b ≡ bound (tables_of s) r
  rule-condition m b e g t =
      let q = e ∙ condition-at in
      t ∙ rw (g, h.parameters, read-use h.ruled.rooted h.ruled.exact r (inr h.inside))
      (sym (bound-condition (tables_of s) (ok h.ruled.rooted) r q (rw q condition-kind)))

  module _ (w : Fields) (e : w ≡ fields_of (tables_of s) r) where
    row_at : Row (tables_of s) r w (shape_of w.code).means
    row_at = subst (λ (f : Fields). Row (tables_of s) r f (shape_of f.code).means) (sym e) (row_of (tables_of s) (ok h.ruled.rooted) r)

    pub rule-other : (b : Bool) → (r ≡ i.condition → ⊥) → b ≡ bound_by (tables_of s) w (shape_of w.code).means → b ≡ bound (tables_of s) r
    rule-other b f t =
        t ∙ rw e (sym (bound-other (tables_of s) (ok h.ruled.rooted) r (λ q. f (q ∙ sym condition-at))))

    abbrev Listed : Type 0
    Listed = (k : Kind) × Item k × (is_kind (tables_of s) k w.a ≡ true)

    vector-kind : 49 ≤ w.code → w.code < 52 → Listed
    unfolding shape_of lookup codes
    vector-kind a b =
        each_at (λ n. Row (tables_of s) r w (shape_of n).means → Listed) 49 3
        (λ t. (gets, tt, t.a.0.kind), (λ t. (of_type, tt, t.a.0.kind), (λ t. (item, tt, t.a.0.kind), tt))) w.code a b row_at

    pub rule-vector : 49 ≤ w.code → w.code < 52 → Vector s i w.a ms
    rule-vector a b = let t = vector-kind a b in record {
      rooted = h.ruled.rooted;
      exact = h.ruled.exact;
      kind = t.0;
      item = t.1;
      starts = inr t.2;
    }

    pub rule-offers : w.code ≡ 52 → Offers s i w.b ms
    unfolding shape_of lookup codes
    rule-offers c = record {
      rooted = h.ruled.rooted;
      exact = h.ruled.exact;
      starts = starts-of (subst (λ (k : ℕ). Row (tables_of s) r w (shape_of k).means) c row_at).b;
    }

    pub rule-for : (d k : Masks) (b : Bool) → w.code ≡ 60 → d ≡ masks_in ms w.a → k ≡ masks_in ms w.b → b ≡ apart d.defs k.defs
        → b ≡ bound_by (tables_of s) w (shape_of w.code).means
    unfolding shape_of lookup codes
    rule-for d k b c f g t =
        let q = subst (λ (j : ℕ). Row (tables_of s) r w (shape_of j).means) c row_at in
        let n = h.inside in
        let y = q.a.below in
        let z = q.b.below in
        t ∙ rw (f, g, read-def h.ruled.rooted h.ruled.exact w.a (inr (omega arith)), read-def h.ruled.rooted h.ruled.exact w.b (inr (omega arith)))
        (at-for (tables_of s) w c)
