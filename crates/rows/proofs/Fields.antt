-- The ways of the code that judges a row's fields (5). Assumes nothing.
use mathlib.Core.{Path.◌≡◌, Path.refl, Path.sym, Path.ap, Path.◌∙◌, Path.subst, Bool.Bool, Bool.true, Bool.false, Bool.◌&&◌, Bool.◌||◌, Bool.and_assoc, Bool.and-true, List.List, List.[], List.◌∷◌}
use Prim.Native.Nat.{ℕ, zero, suc, ◌-◌, ◌/◌, ◌%◌, ◌≤◌, ◌<◌}
use native.Mathlib.{Omega.arith}
use lib.{Dec.eqb, Dec.ltb, Dec.leb-suc-suc, ListN.length, ListN.get_or-eq_default}
use borrow.Author.Tests.{lt-ltb, le-ltb, le-leb, eq-eqb, ne_eqb, eqb-true, eqb-false}
use Rattle.model.specs.declared.{Image.Image, Fields.Fields}
use Rattle.model.specs.Limits.{limits}
use Rattle.model.specs.Image.{Tables, none, int, tables_of, size_of, fields_of}
use Rattle.model.specs.Rows.{Kind, one, list_or_none, next, unused, a_state, field_fits, codes, lookup, shape_of, means_at, kind_of, number_of_kind, is_kind, pick_next, next_of, list_up_to, names, list_fits, formed, is_root}
use Rattle.image.specs.Located.{Located, RowOf, TypeOf, StateOf}
use Rattle.image.proofs.Laid.{laid, rows-count, types-count, states-count}
use Rattle.rows.specs.declared.lines.Line.{Line}
use Rattle.rows.specs.Lines.{digit, kind_in, Form, form, plains, plain_in, namings, naming_in, listings, listing_in, form_in, form_of, Tells}
use Rattle.rows.specs.Judged.{Reading, Lined, line_fits}
use Rattle.rows.proofs.Codes.{either, pick_other, pick_next_lem}

pub row_in : {s : List ℕ} {i : Image} → Located s i → (r : ℕ) → r < length (tables_of s).rows → RowOf s i r
row_in l r h = record { located = l; inside = omega (arith, rows-count l) }

pub rows-most : {s : List ℕ} {i : Image} {n : ℕ} → Located s i → n ≡ length (tables_of s).rows → n ≤ 2048
rows-most l e = omega (arith, rows-count l, (laid l).rows_most)

pub type-in : {s : List ℕ} {i : Image} → Located s i → (t : ℕ) → t < length (tables_of s).sizes → TypeOf s i t
type-in l t h = record { located = l; inside = omega (arith, types-count l) }

pub state-in : {s : List ℕ} {i : Image} → Located s i → (q : ℕ) → q < length (tables_of s).states → StateOf s i q
state-in l q h = record { located = l; inside = omega (arith, states-count l) }

module _ (x : Tables) (r : ℕ) (j : Kind) (n : ℕ) where
  pub names-kind : (m k : ℕ) → n < r → m ≡ number_of_kind (kind_of (means_at x n)) → k ≡ number_of_kind j → eqb m k ≡ names x r j n
  unfolding names is_kind
  names-kind m k h e f = rw (lt-ltb n r h, e, f)

  pub names-above : r ≤ n → ltb n r ≡ names x r j n
  unfolding names
  names-above h = rw (le-ltb n r h)

  -- a root is a row below the number of rows
  pub names-root : (b : Bool) → r ≡ length x.rows → b ≡ names x r j n → b ≡ is_root x j n
  unfolding names is_root
  names-root b e f = f ∙ ap (λ (m : ℕ). ltb n m && is_kind x j n) e

-- the next row: past the table none, else by the line of its row
pub next_past : (x : Tables) (r : ℕ) → length x.rows ≤ r → none ≡ next_of x r
unfolding next_of shape_of lookup codes
next_past x r h = rw (get_or-eq_default x.rows (record { code = 0; a = 0; b = 0; c = 0 }) h)

module _ (x : Tables) (r : ℕ) {w : Fields} {l : Line} (e : w ≡ fields_of x r) (t : Tells l (shape_of w.code)) where
  next-by : next_of x r ≡ pick_next (shape_of w.code).b w.b (pick_next (shape_of w.code).c w.c none)
  unfolding next_of
  next-by = rw (← e)

  pub next-b : l.b ≡ 14 → w.b ≡ next_of x r
  next-b h = sym (next-by ∙ pick_next_lem _ _ (shape_of w.code).b (sym t.b ∙ h))

  pub next-c : (l.b ≡ 14 → ⊥) → l.c ≡ 14 → w.c ≡ next_of x r
  next-c g h =
      sym (next-by ∙ pick_other _ _ (shape_of w.code).b (λ q. g (t.b ∙ q)) ∙ pick_next_lem _ _ (shape_of w.code).c (sym t.c ∙ h))

  pub next-none : (l.b ≡ 14 → ⊥) → (l.c ≡ 14 → ⊥) → none ≡ next_of x r
  next-none g h =
      sym (next-by ∙ pick_other _ _ (shape_of w.code).b (λ q. g (t.b ∙ q)) ∙ pick_other _ _ (shape_of w.code).c (λ q. h (t.c ∙ q)))

-- a list, row by row
module _ (x : Tables) (at : ℕ) where
  ended : (n : ℕ) → at ≡ none → list_up_to (suc n) x at ≡ []
  unfolding list_up_to
  ended n e = either (eqb at none) true [] (at ∷ list_up_to n x (next_of x at)) (eq-eqb at none e)

  goes_on : (n : ℕ) → (at ≡ none → ⊥) → list_up_to (suc n) x at ≡ at ∷ list_up_to n x (next_of x at)
  unfolding list_up_to
  goes_on n h = either (eqb at none) false [] (at ∷ list_up_to n x (next_of x at)) (ne_eqb at none h)

  pub list_over : (left : ℕ) → at ≡ none → true ≡ list_fits x left at
  unfolding list_fits
  list_over left e = rw (ended left e, le-leb 0 left (omega arith))

  pub list-long : (left : ℕ) → left ≡ 0 → (at ≡ none → ⊥) → false ≡ list_fits x left at
  unfolding list_fits list_up_to
  list-long left e h = rw (e, goes_on 0 h)

  pub list_end : (left : ℕ) → left ≡ 0 → eqb at none ≡ list_fits x left at
  list_end left e = go (eqb at none) refl
    where
      go : (b : Bool) → eqb at none ≡ b → b ≡ list_fits x left at
      go true f = list_over left (eqb-true at none f)
      go false f = list-long left e (eqb-false at none f)

  pub list_on : (left m : ℕ) → (left ≡ 0 → ⊥) → (at ≡ none → ⊥) → m ≡ next_of x at → list_fits x (left - 1) m ≡ list_fits x left at
  unfolding list_fits
  list_on zero m z h e = absurd (z refl)
  list_on (suc left) m z h e =
      let q : suc left - 1 ≡ left = omega arith in
      rw (goes_on (suc left) h, ← e, leb-suc-suc, q)

-- a number below a count
pub below : {m n : ℕ} (a : ℕ) → m ≡ n → ltb a m ≡ ltb a n
below a e = ap (ltb a) e

-- none, or a test
pub or-none : {a b : Bool} (n : ℕ) → a ≡ b → (eqb n none || a) ≡ (eqb n none || b)
or-none n e = ap (λ (t : Bool). eqb n none || t) e

-- the value of a type: past the table a type has none
module _ (x : Tables) (t n : ℕ) where
  pub value-int : t ≡ 1 → eqb t 1 ≡ (eqb t int || ltb n (size_of x t))
  value-int e = rw (eq-eqb t 1 e)

  pub value-size : (m : ℕ) → (t ≡ 1 → ⊥) → m ≡ size_of x t → ltb n m ≡ (eqb t int || ltb n (size_of x t))
  value-size m h e = rw (ne_eqb t 1 h, e)

  pub value-past : (m : ℕ) → (t ≡ 1 → ⊥) → m ≡ length x.sizes → m ≤ t → ltb t m ≡ (eqb t int || ltb n (size_of x t))
  value-past m h e g =
      rw (ne_eqb t 1 h, le-ltb t m g, get_or-eq_default x.sizes 0 (rw e at g), le-ltb n 0 (omega arith))

-- what the numbers of a row's line show of its fields
pub record Shown (w : Fields) (l : Line) (f : Form) : Type 0 where
  pub form : form_of (shape_of w.code) ≡ f
  pub a : l.a ≡ digit f.a
  pub b : l.b ≡ digit f.b

module _ (w : Fields) (l : Line) (t : Tells l (shape_of w.code)) where
  shown : (f : Form) → form_in l.form (kind_in l.a) (kind_in l.b) ≡ f → Shown w l f
  shown f e =
      let q : form_of (shape_of w.code) ≡ f = t.form ∙ e in
      record { form = q; a = t.a ∙ ap (λ (g : Form). digit g.a) q; b = t.b ∙ ap (λ (g : Form). digit g.b) q }

  module _ (n : ℕ) (g : l.form % 16 ≡ n) where
    pub plain-shown : l.form / 16 ≡ 0 → Shown w l (plain_in n)
    unfolding form_in
    plain-shown e = shown (plain_in n) (rw (e, g))

    pub naming-shown : l.form / 16 ≡ 1 → Shown w l (naming_in n (kind_in l.a) (kind_in l.b))
    unfolding form_in
    naming-shown e = shown (naming_in n (kind_in l.a) (kind_in l.b)) (rw (e, g))

    pub listing-shown : 2 ≤ l.form / 16 → Shown w l (listing_in n (kind_in l.a) (kind_in l.b))
    unfolding form_in
    listing-shown h =
        let j = kind_in l.a in
        let k = kind_in l.b in
        shown (listing_in n j k)
        (get_or-eq_default (plain_in (l.form % 16) ∷ naming_in (l.form % 16) j k ∷ []) (listing_in (l.form % 16) j k) h ∙ rw g)

  -- the last form of each
  pub plain-last : 5 ≤ l.form % 16 → l.form / 16 ≡ 0 → Shown w l (form a_state unused unused)
  unfolding plains
  plain-last h e =
      subst (Shown w l) (get_or-eq_default plains (form a_state unused unused) h) (plain-shown (l.form % 16) refl e)

  pub naming-last : 6 ≤ l.form % 16 → l.form / 16 ≡ 1 → Shown w l (form (one (kind_in l.a)) (one (kind_in l.b)) next)
  unfolding namings
  naming-last h e =
      let j = kind_in l.a in
      let k = kind_in l.b in
      subst (Shown w l) (get_or-eq_default (namings j k) (form (one j) (one k) next) h) (naming-shown (l.form % 16) refl e)

  pub listing-last : 4 ≤ l.form % 16 → 2 ≤ l.form / 16 → Shown w l (form (one (kind_in l.a)) (list_or_none (kind_in l.b) limits.branches) unused)
  unfolding listings
  listing-last h e =
      let j = kind_in l.a in
      let k = kind_in l.b in
      subst (Shown w l) (get_or-eq_default (listings j k) (form (one j) (list_or_none k limits.branches) unused) h)
      (listing-shown (l.form % 16) refl e)

-- the tests of its fields
module _ {w : Fields} {l : Line} {f : Form} (p : Shown w l f) (x : Tables) (r : ℕ) where
  pub by_form : (a b c : Bool) → a ≡ field_fits x r w f.a w.a → b ≡ field_fits x r w f.b w.b → c ≡ field_fits x r w f.c w.c → (a && b && c) ≡ line_fits x r w
  unfolding line_fits
  by_form a b c q s t =
      rw (q, s, t, and_assoc)
      (ap (λ (g : Form). field_fits x r w g.a w.a && (field_fits x r w g.b w.b && field_fits x r w g.c w.c)) (sym p.form))

  -- where b may be anything
  pub by-ends : (a c : Bool) → a ≡ field_fits x r w f.a w.a → true ≡ field_fits x r w f.b w.b → c ≡ field_fits x r w f.c w.c → (a && c) ≡ line_fits x r w
  by-ends a c q s t = rw and-true at (by_form a true c q s t)

-- the kind of a row is that of its line
pub own : {s ls : List ℕ} {i : Image} {r : ℕ} {w : Fields} {l : Line} → Lined s ls i r w l → l.kind ≡ number_of_kind (kind_of (means_at (tables_of s) r))
own p = p.line.kind ∙ ap (λ (v : Fields). number_of_kind (kind_of (shape_of v.code).means)) p.fields

pub lined-at : {s ls : List ℕ} {i : Image} {r : ℕ} {w : Fields} {l : Line}
    → Reading s ls i → r < length (tables_of s).rows → w ≡ fields_of (tables_of s) r → Tells l (shape_of w.code) → Lined s ls i r w l
lined-at p h e t = record { below = record { reading = p; inside = omega arith }; fields = e; line = t }

-- a row by its kind and its line
module _ {s ls : List ℕ} {i : Image} {r : ℕ} {w : Fields} {l : Line} (p : Lined s ls i r w l) where
  pub formed-unknown : l.kind ≡ 10 → false ≡ formed (tables_of s) r
  unfolding formed is_kind
  formed-unknown e = rw (← own p, e)

  pub formed-known : (b : Bool) → (l.kind ≡ 10 → ⊥) → b ≡ line_fits (tables_of s) r w → b ≡ formed (tables_of s) r
  unfolding formed is_kind line_fits
  formed-known b h e = e ∙ rw (← own p, ne_eqb l.kind 10 h, p.fields)
