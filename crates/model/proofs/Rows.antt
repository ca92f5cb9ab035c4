-- What a formed row says: the table of codes read by meaning, and the facts that 5 gives. Assumes nothing.
use mathlib.Core.{Path.◌≡◌, Path.refl, Path.sym, Path.ap, Path.◌∙◌, Path.subst, Logic.◌⊎◌, Logic.inl, Logic.inr, Logic.⊎_elim}
use mathlib.Core.{Bool.Bool, Bool.true, Bool.false, Bool.not, Bool.◌&&◌, Bool.◌||◌, List.List, List.[], List.◌∷◌}
use Prim.Native.Nat.{ℕ, zero, suc, ◌≤◌, ◌<◌}
use native.Mathlib.Omega.{arith}
use lib.{Dec.eqb, Dec.ltb, ListN.length, ListN.get_or-eq_default}
use borrow.Author.Tests.{ltb-true, ltb-false, leb-true, eqb-true}
use Rattle.model.specs.declared.Fields.{Fields}
use Rattle.model.specs.Limits.{limits}
use Rattle.model.specs.Image.{Tables, none, fields_of}
use Rattle.model.specs.Rows.{Kind, expression, pattern, offer, gets, of_type, item, range, action, branch, arm, unknown, Field, plain, one, one_or_none, list, list_or_none, next, unused, a_variable, a_type, a_value, a_gate, a_state, literal, upper, ExpressionRow, is_variable, is_constant, is_unary, is_binary, PatternRow, is_any, is_bind, is_value, is_where, OfferRow, is_emit, is_receive, ActionRow, is_null, is_assign, is_choose, is_reset, is_communicate, is_to, is_then, is_select, is_case, is_while, is_for, Means, an_expression, a_pattern, an_offer, an_action, another, kind_of, Shape, codes, lookup, shape_of, means_at, number_of_kind, is_kind, pick_next, next_of, list_up_to, names, list_fits, field_fits, formed}

pub both_true : (a b : Bool) → (a && b) ≡ true → (a ≡ true) × (b ≡ true)
both_true true b e = (refl, e)
both_true false b e = let z : ◌≡◌ {A = ℕ} 0 1 = cc in absurd (omega arith)

pub one-true : (a b : Bool) → (a || b) ≡ true → (a ≡ true) ⊎ (b ≡ true)
one-true true b e = inl refl
one-true false b e = inr e

pub and-true : (b : Bool) → (b && true) ≡ b
and-true true = refl
and-true false = refl

pub and-false : (b : Bool) → (b && false) ≡ false
and-false true = refl
and-false false = refl

-- the fields of a meaning's lines
pub record Three : Type 0 where
  pub a : Field
  pub b : Field
  pub c : Field

abbrev three : Field → Field → Field → Three
three a b c = record { a = a; b = b; c = c }

abbrev pub fields_for : Means → Three
fields_for (an_expression is_variable) = three a_variable unused unused
fields_for (an_expression is_constant) = three a_type a_value unused
fields_for (an_expression (is_unary o)) = three (one expression) unused unused
fields_for (an_expression (is_binary o)) = three (one expression) (one expression) unused
fields_for (a_pattern is_any) = three a_type unused unused
fields_for (a_pattern is_bind) = three a_variable unused unused
fields_for (a_pattern is_value) = three a_type a_value unused
fields_for (a_pattern is_where) = three (one pattern) (one expression) unused
fields_for (an_offer is_emit) = three (one expression) next unused
fields_for (an_offer is_receive) = three (one pattern) next unused
fields_for (an_action is_null) = three unused unused unused
fields_for (an_action is_assign) = three (list gets limits.vector) unused unused
fields_for (an_action is_choose) = three (list of_type limits.vector) (one_or_none expression) unused
fields_for (an_action is_reset) = three (list item limits.vector) unused unused
fields_for (an_action is_communicate) = three a_gate (list_or_none offer limits.vector) unused
fields_for (an_action is_to) = three a_state unused unused
fields_for (an_action is_then) = three (one action) (one action) unused
fields_for (an_action is_select) = three (list_or_none branch limits.branches) unused unused
fields_for (an_action is_case) = three (one expression) (list_or_none arm limits.branches) unused
fields_for (an_action is_while) = three (one expression) (one action) unused
fields_for (an_action is_for) = three (one range) (one action) unused
fields_for (another expression) = three unused unused unused
fields_for (another pattern) = three unused unused unused
fields_for (another offer) = three unused unused unused
fields_for (another gets) = three a_variable (one expression) next
fields_for (another of_type) = three a_variable a_type next
fields_for (another item) = three a_variable next unused
fields_for (another range) = three a_variable literal upper
fields_for (another action) = three unused unused unused
fields_for (another branch) = three (one action) next unused
fields_for (another arm) = three (one pattern) (one action) next
fields_for (another unknown) = three unused unused unused

-- a kind that has rows of its own meaning has no other row
abbrev pub Proper : Means → Type 0
Proper (an_expression e) = Unit
Proper (a_pattern p) = Unit
Proper (an_offer o) = Unit
Proper (an_action a) = Unit
Proper (another expression) = ⊥
Proper (another pattern) = ⊥
Proper (another offer) = ⊥
Proper (another gets) = Unit
Proper (another of_type) = Unit
Proper (another item) = Unit
Proper (another range) = Unit
Proper (another action) = ⊥
Proper (another branch) = Unit
Proper (another arm) = Unit
Proper (another unknown) = Unit

pub record Lined (s : Shape) : Type 0 where
  pub a : s.a ≡ (fields_for s.means).a
  pub b : s.b ≡ (fields_for s.means).b
  pub c : s.c ≡ (fields_for s.means).c
  pub proper : Proper s.means

data AllLined : List Shape → Type 0 where
  over : AllLined []
  more : {s : Shape} {l : List Shape} → Lined s → AllLined l → AllLined (s ∷ l)

either-lined : (b : Bool) (s t : Shape) → Lined s → Lined t → Lined (elim b [ true ↦ s | false ↦ t ])
either-lined true s t p q = p
either-lined false s t p q = q

lookup-lined : (l : List Shape) (c : ℕ) → AllLined l → Lined (lookup l c)
unfolding lookup
lookup-lined [] c over = record { a = refl; b = refl; c = refl; proper = tt }
lookup-lined (s ∷ l) c (more p q) = either-lined (eqb c s.code) s (lookup l c) p (lookup-lined l c q)

codes-lined : AllLined codes
unfolding codes
codes-lined =
    more (record { a = refl; b = refl; c = refl; proper = tt }) (more (record { a = refl; b = refl; c = refl; proper = tt }) (more (record { a = refl; b = refl; c = refl; proper = tt }) (more (record { a = refl; b = refl; c = refl; proper = tt }) (more (record { a = refl; b = refl; c = refl; proper = tt }) (more (record { a = refl; b = refl; c = refl; proper = tt }) (more (record { a = refl; b = refl; c = refl; proper = tt }) (more (record { a = refl; b = refl; c = refl; proper = tt }) (more (record { a = refl; b = refl; c = refl; proper = tt }) (more (record { a = refl; b = refl; c = refl; proper = tt }) (more (record { a = refl; b = refl; c = refl; proper = tt }) (more (record { a = refl; b = refl; c = refl; proper = tt }) (more (record { a = refl; b = refl; c = refl; proper = tt }) (more (record { a = refl; b = refl; c = refl; proper = tt }) (more (record { a = refl; b = refl; c = refl; proper = tt }) (more (record { a = refl; b = refl; c = refl; proper = tt }) (more (record { a = refl; b = refl; c = refl; proper = tt }) (more (record { a = refl; b = refl; c = refl; proper = tt }) (more (record { a = refl; b = refl; c = refl; proper = tt }) (more (record { a = refl; b = refl; c = refl; proper = tt }) (more (record { a = refl; b = refl; c = refl; proper = tt }) (more (record { a = refl; b = refl; c = refl; proper = tt }) (more (record { a = refl; b = refl; c = refl; proper = tt }) (more (record { a = refl; b = refl; c = refl; proper = tt }) (more (record { a = refl; b = refl; c = refl; proper = tt }) (more (record { a = refl; b = refl; c = refl; proper = tt }) (more (record { a = refl; b = refl; c = refl; proper = tt }) (more (record { a = refl; b = refl; c = refl; proper = tt }) (more (record { a = refl; b = refl; c = refl; proper = tt }) (more (record { a = refl; b = refl; c = refl; proper = tt }) (more (record { a = refl; b = refl; c = refl; proper = tt }) (more (record { a = refl; b = refl; c = refl; proper = tt }) (more (record { a = refl; b = refl; c = refl; proper = tt }) (more (record { a = refl; b = refl; c = refl; proper = tt }) (more (record { a = refl; b = refl; c = refl; proper = tt }) (more (record { a = refl; b = refl; c = refl; proper = tt }) (more (record { a = refl; b = refl; c = refl; proper = tt }) (over)))))))))))))))))))))))))))))))))))))

-- the line of a code has the fields of its meaning
pub lined : (c : ℕ) → Lined (shape_of c)
unfolding shape_of
lined c = lookup-lined codes c codes-lined

-- row n, of kind k, is below row r
pub record Named (x : Tables) (r : ℕ) (k : Kind) (n : ℕ) : Type 0 where
  pub below : n < r
  pub kind : is_kind x k n ≡ true

-- what a field that fits says
abbrev pub Says : Tables → ℕ → Fields → Kind → Field → ℕ → Type 0
Says x r w k (plain p) n = p x w n ≡ true
Says x r w k (one j) n = Named x r j n
Says x r w k (one_or_none j) n = (n ≡ none) ⊎ Named x r j n
Says x r w k (list j most) n = Named x r j n × (length (list_up_to (suc most) x n) ≤ most)
Says x r w k (list_or_none j most) n = (n ≡ none) ⊎ (Named x r j n × (length (list_up_to (suc most) x n) ≤ most))
Says x r w k next n = (n ≡ none) ⊎ Named x r k n

named : (x : Tables) (r : ℕ) (k : Kind) (n : ℕ) → names x r k n ≡ true → Named x r k n
unfolding names
named x r k n e = let p = both_true (ltb n r) (is_kind x k n) e in record { below = ltb-true n r p.0; kind = p.1 }

fits-list : (x : Tables) (r most : ℕ) → list_fits x most r ≡ true → length (list_up_to (suc most) x r) ≤ most
unfolding list_fits
fits-list x r most e = leb-true _ most e

says_of : (x : Tables) (r : ℕ) (w : Fields) (f : Field) (n : ℕ) → field_fits x r w f n ≡ true → Says x r w (kind_of (means_at x r)) f n
unfolding field_fits
says_of x r w (plain p) n e = e
says_of x r w (one k) n e = named x r k n e
says_of x r w (one_or_none k) n e = ⊎_elim (λ a. inl (eqb-true n none a)) (λ b. inr (named x r k n b)) (one-true (eqb n none) _ e)
says_of x r w (list k most) n e = let p = both_true (names x r k n) _ e in (named x r k n p.0, fits-list x n most p.1)
says_of x r w (list_or_none k most) n e =
    ⊎_elim (λ a. inl (eqb-true n none a))
    (λ b. let p = both_true (names x r k n) (list_fits x most n) b in inr (named x r k n p.0, fits-list x n most p.1))
    (one-true (eqb n none) _ e)
says_of x r w next n e = ⊎_elim (λ a. inl (eqb-true n none a)) (λ b. inr (named x r _ n b)) (one-true (eqb n none) _ e)

-- the facts of a row that 5 lets pass
pub record Row (x : Tables) (r : ℕ) (w : Fields) (m : Means) : Type 0 where
  pub a : Says x r w (kind_of m) (fields_for m).a w.a
  pub b : Says x r w (kind_of m) (fields_for m).b w.b
  pub c : Says x r w (kind_of m) (fields_for m).c w.c

-- 5 passes at every row
pub record Formed (x : Tables) : Type 0 where
  pub each : (r : ℕ) → r < length x.rows → formed x r ≡ true

row_in : (x : Tables) (r : ℕ) → formed x r ≡ true → Row x r (fields_of x r) (means_at x r)
unfolding formed
row_in x r e =
    let w = fields_of x r in
    let s = shape_of w.code in
    let l = lined w.code in
    let p = (both_true (not (is_kind x unknown r)) _ e).1 in
    let q = both_true (field_fits x r w s.a w.a) _ p in
    let t = both_true (field_fits x r w s.b w.b) (field_fits x r w s.c w.c) q.1 in
    record {
      a = subst (λ (f : Field). Says x r w (kind_of s.means) f w.a) l.a (says_of x r w s.a w.a q.0);
      b = subst (λ (f : Field). Says x r w (kind_of s.means) f w.b) l.b (says_of x r w s.b w.b t.0);
      c = subst (λ (f : Field). Says x r w (kind_of s.means) f w.c) l.c (says_of x r w s.c w.c t.1);
    }

row_out : (x : Tables) (r : ℕ) → length x.rows ≤ r → Row x r (fields_of x r) (means_at x r)
unfolding shape_of lookup codes
row_out x r h =
    subst (λ (w : Fields). Row x r w (shape_of w.code).means)
    (sym (get_or-eq_default x.rows (record { code = 0; a = 0; b = 0; c = 0 }) h)) (record { a = refl; b = refl; c = refl })

-- the facts of every row; past the table a row is of no kind and names nothing
pub row_of : (x : Tables) → Formed x → (r : ℕ) → Row x r (fields_of x r) (means_at x r)
row_of x ok r = go (ltb r (length x.rows)) refl
  where
    go : (b : Bool) → ltb r (length x.rows) ≡ b → Row x r (fields_of x r) (means_at x r)
    go true e = row_in x r (ok.each r (ltb-true _ _ e))
    go false e = row_out x r (ltb-false _ _ e)

-- the same at a meaning that is known
pub row_is : (x : Tables) → Formed x → (r : ℕ) (m : Means) → means_at x r ≡ m → Row x r (fields_of x r) m
row_is x ok r m e = subst (λ (k : Means). Row x r (fields_of x r) k) e (row_of x ok r)

kind_of_number : ℕ → Kind
kind_of_number zero = expression
kind_of_number (suc zero) = pattern
kind_of_number (suc (suc zero)) = offer
kind_of_number (suc (suc (suc zero))) = gets
kind_of_number (suc (suc (suc (suc zero)))) = of_type
kind_of_number (suc (suc (suc (suc (suc zero))))) = item
kind_of_number (suc (suc (suc (suc (suc (suc zero)))))) = range
kind_of_number (suc (suc (suc (suc (suc (suc (suc zero))))))) = action
kind_of_number (suc (suc (suc (suc (suc (suc (suc (suc zero)))))))) = branch
kind_of_number (suc (suc (suc (suc (suc (suc (suc (suc (suc zero))))))))) = arm
kind_of_number (suc (suc (suc (suc (suc (suc (suc (suc (suc (suc n)))))))))) = unknown

kind-back : (k : Kind) → kind_of_number (number_of_kind k) ≡ k
unfolding kind_of_number
kind-back expression = refl
kind-back pattern = refl
kind-back offer = refl
kind-back gets = refl
kind-back of_type = refl
kind-back item = refl
kind-back range = refl
kind-back action = refl
kind-back branch = refl
kind-back arm = refl
kind-back unknown = refl

-- the kind of a row that passes the test
pub kind-of : (x : Tables) (k : Kind) (r : ℕ) → is_kind x k r ≡ true → kind_of (means_at x r) ≡ k
unfolding is_kind
kind-of x k r e =
    let j = kind_of (means_at x r) in
    sym (kind-back j) ∙ ap kind_of_number (eqb-true (number_of_kind j) (number_of_kind k) e) ∙ kind-back k

-- what a row of a kind means
abbrev pub Meaning : Kind → Means → Type 0
Meaning expression m = (e : ExpressionRow) × (m ≡ an_expression e)
Meaning pattern m = (e : PatternRow) × (m ≡ a_pattern e)
Meaning offer m = (e : OfferRow) × (m ≡ an_offer e)
Meaning gets m = m ≡ another gets
Meaning of_type m = m ≡ another of_type
Meaning item m = m ≡ another item
Meaning range m = m ≡ another range
Meaning action m = (e : ActionRow) × (m ≡ an_action e)
Meaning branch m = m ≡ another branch
Meaning arm m = m ≡ another arm
Meaning unknown m = m ≡ another unknown

meaning : (m : Means) → Proper m → Meaning (kind_of m) m
meaning (an_expression e) p = (e, refl)
meaning (a_pattern e) p = (e, refl)
meaning (an_offer e) p = (e, refl)
meaning (an_action e) p = (e, refl)
meaning (another expression) p = absurd p
meaning (another pattern) p = absurd p
meaning (another offer) p = absurd p
meaning (another gets) p = refl
meaning (another of_type) p = refl
meaning (another item) p = refl
meaning (another range) p = refl
meaning (another action) p = absurd p
meaning (another branch) p = refl
meaning (another arm) p = refl
meaning (another unknown) p = refl

pub is-kind : (x : Tables) (k : Kind) (r : ℕ) → is_kind x k r ≡ true → Meaning k (means_at x r)
is-kind x k r e = subst (λ (j : Kind). Meaning j (means_at x r)) (kind-of x k r e) (meaning (means_at x r) (lined (fields_of x r).code).proper)

-- the next row of a list is of its row's kind and below it, or none
pick-says : (x : Tables) (r : ℕ) (w : Fields) (k : Kind) (f : Field) (n m : ℕ)
    → Says x r w k f n → (m ≡ none) ⊎ Named x r k m → (pick_next f n m ≡ none) ⊎ Named x r k (pick_next f n m)
pick-says x r w k (plain p) n m s t = t
pick-says x r w k (one j) n m s t = t
pick-says x r w k (one_or_none j) n m s t = t
pick-says x r w k (list j most) n m s t = t
pick-says x r w k (list_or_none j most) n m s t = t
pick-says x r w k next n m s t = s

pub next-named : (x : Tables) → Formed x → (r : ℕ) → (next_of x r ≡ none) ⊎ Named x r (kind_of (means_at x r)) (next_of x r)
unfolding next_of
next-named x ok r =
    let w = fields_of x r in
    let s = shape_of w.code in
    let k = kind_of s.means in
    let l = lined w.code in
    let q = row_of x ok r in
    pick-says x r w k s.b w.b (pick_next s.c w.c none) (subst (λ (f : Field). Says x r w k f w.b) (sym l.b) q.b)
    (pick-says x r w k s.c w.c none (subst (λ (f : Field). Says x r w k f w.c) (sym l.c) q.c) (inl refl))

out-of-rows : (x : Tables) (r : ℕ) → length x.rows ≤ r → kind_of (means_at x r) ≡ unknown
unfolding shape_of lookup codes
out-of-rows x r h =
    subst (λ (w : Fields). kind_of (shape_of w.code).means ≡ unknown)
    (sym (get_or-eq_default x.rows (record { code = 0; a = 0; b = 0; c = 0 }) h)) refl

-- a row of a known kind is a row of the table
pub kind-in : (x : Tables) (k : Kind) (r : ℕ) → (k ≡ unknown → ⊥) → is_kind x k r ≡ true → r < length x.rows
kind-in x k r f e = go (ltb r (length x.rows)) refl
  where
    go : (b : Bool) → ltb r (length x.rows) ≡ b → r < length x.rows
    go true q = ltb-true _ _ q
    go false q = absurd (f (sym (kind-of x k r e) ∙ out-of-rows x r (ltb-false _ _ q)))
