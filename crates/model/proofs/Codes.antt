-- The table of codes read backwards: the code of a meaning; and the next row of a list. Assumes nothing.
use mathlib.Core.{Path.◌≡◌, Path.refl, Path.sym, Path.ap, Path.◌∙◌, Logic.◌⊎◌, Logic.inl, Logic.inr, Logic.⊎_elim}
use mathlib.Core.{Bool.Bool, Bool.true, Bool.false, Bool.false≢true, List.List, List.[], List.◌∷◌}
use Prim.Native.Nat.{ℕ, ◌≤◌, ◌<◌}
use native.Mathlib.Omega.{arith}
use lib.{Dec.eqb, Dec.ltb, ListN.length}
use borrow.Author.Tests.{eqb-true, ltb-true, ne_eqb}
use Rattle.model.specs.Lists.{all}
use Rattle.model.specs.Image.{Tables, none, fields_of}
use Rattle.model.specs.Rows.{Kind, expression, pattern, offer, gets, of_type, item, range, action, branch, arm, unknown, Not, Negate, And, Or, Plus, Minus, Times, Quotient, Remainder, Equal, Less, AtMost, logic, arithmetic, comparison, is_variable, is_constant, is_unary, is_binary, is_any, is_bind, is_value, is_where, is_emit, is_receive, is_null, is_assign, is_choose, is_reset, is_communicate, is_to, is_then, is_select, is_case, is_while, is_for, Means, an_expression, a_pattern, an_offer, an_action, another, kind_of, Shape, line, unused, codes, lookup, shape_of, means_at, number_of_kind, is_kind, pick_next, next_of}
use Rattle.model.proofs.Rows.{both_true, fields_for, lined, kind-of, kind-in}

abbrev pub code_of : Means → ℕ
code_of (an_expression is_variable) = 1
code_of (an_expression is_constant) = 2
code_of (an_expression (is_unary Not)) = 16
code_of (an_expression (is_unary Negate)) = 19
code_of (an_expression (is_binary (logic And))) = 17
code_of (an_expression (is_binary (logic Or))) = 18
code_of (an_expression (is_binary (arithmetic Plus))) = 20
code_of (an_expression (is_binary (arithmetic Minus))) = 21
code_of (an_expression (is_binary (arithmetic Times))) = 22
code_of (an_expression (is_binary (arithmetic Quotient))) = 23
code_of (an_expression (is_binary (arithmetic Remainder))) = 24
code_of (an_expression (is_binary (comparison Equal))) = 25
code_of (an_expression (is_binary (comparison Less))) = 26
code_of (an_expression (is_binary (comparison AtMost))) = 27
code_of (a_pattern is_any) = 32
code_of (a_pattern is_bind) = 33
code_of (a_pattern is_value) = 34
code_of (a_pattern is_where) = 35
code_of (an_offer is_emit) = 40
code_of (an_offer is_receive) = 41
code_of (an_action is_null) = 48
code_of (an_action is_assign) = 49
code_of (an_action is_choose) = 50
code_of (an_action is_reset) = 51
code_of (an_action is_communicate) = 52
code_of (an_action is_to) = 53
code_of (an_action is_then) = 54
code_of (an_action is_select) = 55
code_of (an_action is_case) = 56
code_of (an_action is_while) = 59
code_of (an_action is_for) = 60
code_of (another expression) = 0
code_of (another pattern) = 0
code_of (another offer) = 0
code_of (another gets) = 44
code_of (another of_type) = 45
code_of (another item) = 46
code_of (another range) = 47
code_of (another action) = 0
code_of (another branch) = 57
code_of (another arm) = 58
code_of (another unknown) = 0

-- the line's meaning has the code, or the code isn't one of the table
abbrev pub Known : ℕ → Shape → Type 0
Known c s = (code_of s.means ≡ c) ⊎ (s.means ≡ another unknown)

right : Shape → Bool
right s = eqb (code_of s.means) s.code

look : (l : List Shape) (c : ℕ) → all right l ≡ true → Known c (lookup l c)
unfolding lookup all right
look [] c e = inr refl
look (s ∷ l) c e = go (eqb c s.code) refl (look l c (both_true (right s) _ e).1)
  where
    go : (b : Bool) → eqb c s.code ≡ b → Known c (lookup l c) → Known c (elim b [ true ↦ s | false ↦ lookup l c ])
    go true q rest = inl (eqb-true _ _ (both_true (right s) _ e).0 ∙ sym (eqb-true c s.code q))
    go false q rest = rest

pub known : (c : ℕ) → Known c (shape_of c)
unfolding shape_of codes all right
known c = look codes c refl

-- a row's meaning by its code
pub means : (x : Tables) (r c : ℕ) → (fields_of x r).code ≡ c → means_at x r ≡ (shape_of c).means
means x r c e = ap (λ n. (shape_of n).means) e

-- a kind that a row of the table has
abbrev pub is_known : Kind → Bool
is_known k = ltb (number_of_kind k) 10

proper : (k : Kind) → is_known k ≡ true → k ≡ unknown → ⊥
proper k t e = false≢true (ap is_known (sym e) ∙ t)

pub known_in : (x : Tables) (k : Kind) (r : ℕ) → is_known k ≡ true → is_kind x k r ≡ true → r < length x.rows
known_in x k r t e = kind-in x k r (proper k t) e

-- a meaning of a known kind has one code
pub one_code : (c : ℕ) (m : Means) → is_known (kind_of m) ≡ true → (shape_of c).means ≡ m → code_of m ≡ c
one_code c m t e = ⊎_elim (λ q. ap code_of (sym e) ∙ q) (λ u. absurd (proper (kind_of m) t (ap kind_of (sym e ∙ u)))) (known c)

-- the code of a row of a known kind
pub code-of : (x : Tables) (k : Kind) (r : ℕ) → is_known k ≡ true → is_kind x k r ≡ true → code_of (means_at x r) ≡ (fields_of x r).code
code-of x k r t e = one_code (fields_of x r).code (means_at x r) (ap is_known (kind-of x k r e) ∙ t) refl

-- the row that the next field of a row of a known meaning names
pub next-is : (x : Tables) (r : ℕ) (m : Means) → means_at x r ≡ m
    → next_of x r ≡ pick_next (fields_for m).b (fields_of x r).b (pick_next (fields_for m).c (fields_of x r).c none)
unfolding next_of
next-is x r m e = let l = lined (fields_of x r).code in rw (l.b, l.c, e)

-- a code past the table is unknown
lookup-past : (l : List Shape) (c : ℕ) → all (λ s. ltb s.code 61) l ≡ true → 61 ≤ c → lookup l c ≡ line c (another unknown) unused unused unused
unfolding lookup all
lookup-past [] c t h = refl
lookup-past (s ∷ l) c t h =
    let p = both_true (ltb s.code 61) _ t in
    let q = ltb-true s.code 61 p.0 in
    miss (eqb c s.code) (ne_eqb c s.code (λ e. omega arith)) ∙ lookup-past l c p.1 h
  where
    miss : (b : Bool) → b ≡ false → ◌≡◌ {A = Shape} (elim b [ true ↦ s | false ↦ lookup l c ]) (lookup l c)
    miss b e = rw e

pub shape-past : (c : ℕ) → 61 ≤ c → shape_of c ≡ line c (another unknown) unused unused unused
unfolding shape_of codes all
shape-past c h = lookup-past codes c refl h
