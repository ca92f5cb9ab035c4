-- What the numbers of a packed line say. Assumes nothing.
use mathlib.Core.{Path.◌≡◌, Path.refl, Path.sym, Path.ap, Path.◌∙◌, Path.subst, Bool.Bool, Bool.true, Bool.false, List.List, List.map}
use Prim.Native.Nat.{ℕ, ◌≤◌, ◌<◌}
use native.Mathlib.{Nat.zero-add, Omega.arith}
use lib.{ListN.get_or, ListN.get_or-map}
use Rattle.model.specs.Lists.{table}
use Rattle.model.specs.Rows.{Kind, expression, pattern, offer, gets, of_type, item, range, action, branch, arm, unknown, Field, plain, one, one_or_none, list, list_or_none, next, kind_of, Shape, shape_of, number_of_kind, pick_next}
use Rattle.model.proofs.Codes.{shape-past}
use Rattle.model.proofs.Bytes.{get_or-table}
use Rattle.rows.specs.declared.lines.Line.{Line}
use Rattle.rows.specs.Lines.{digit, kind_in, Form, plains, form_in, form_of, Tells, unpacked, Table}

-- a case by an equal test
pub either : {A : Type 0} (b c : Bool) (s t : A) → b ≡ c → ◌≡◌ {A = A} (elim b [ true ↦ s | false ↦ t ]) (elim c [ true ↦ s | false ↦ t ])
either b c s t e = rw e

pub line-past : (c : ℕ) → 61 ≤ c → Tells (record { kind = 10; form = 0; a = 15; b = 15; c = 15 }) (shape_of c)
unfolding form_in plains
line-past c h =
    subst (λ (s : Shape). Tells (record { kind = 10; form = 0; a = 15; b = 15; c = 15 }) s) (sym (shape-past c h)) (record { kind = refl; form = refl; a = refl; b = refl; c = refl })

-- what a line says, of the table in numbers and of the table of codes
record Said : Type 0 where
  kind : ℕ
  fields : Form
  a : ℕ
  b : ℕ
  c : ℕ

abbrev said_by : Line → Said
said_by l = record { kind = l.kind; fields = form_in l.form (kind_in l.a) (kind_in l.b); a = l.a; b = l.b; c = l.c }

abbrev said_of : Shape → Said
said_of s = record { kind = number_of_kind (kind_of s.means); fields = form_of s; a = digit s.a; b = digit s.b; c = digit s.c }

tells : (l : Line) (s : Shape) → said_by l ≡ said_of s → Tells l s
tells l s e = record {
  kind = ap (λ (t : Said). t.kind) e;
  form = sym (ap (λ (t : Said). t.fields) e);
  a = ap (λ (t : Said). t.a) e;
  b = ap (λ (t : Said). t.b) e;
  c = ap (λ (t : Said). t.c) e;
}

-- the whole table, from one equation that is computed
abbrev said_in : ℕ → Said
said_in e = said_by (unpacked e)

abbrev said_at : ℕ → Said
said_at c = said_of (shape_of c)

pub table_of : (l : List ℕ) → map said_in l ≡ table said_at 0 61 → Table l
table_of l q = record {
  line = λ c h. tells (unpacked (get_or l c 0)) (shape_of c)
      (sym (get_or-map said_in l c 0) ∙ ap (λ (t : List Said). get_or t c (said_in 0)) q ∙ get_or-table said_at 0 61 c (said_in 0) h ∙ rw zero-add);
}

-- a digit tells whether its field is the next one
pub kind-small : (k : Kind) → number_of_kind k < 11
kind-small expression = omega arith
kind-small pattern = omega arith
kind-small offer = omega arith
kind-small gets = omega arith
kind-small of_type = omega arith
kind-small item = omega arith
kind-small range = omega arith
kind-small action = omega arith
kind-small branch = omega arith
kind-small arm = omega arith
kind-small unknown = omega arith

module _ (n m : ℕ) where
  pub pick_next_lem : (f : Field) → digit f ≡ 14 → pick_next f n m ≡ n
  pick_next_lem (plain p) e = absurd (omega arith)
  pick_next_lem (one k) e = absurd (omega (arith, kind-small k))
  pick_next_lem (one_or_none k) e = absurd (omega (arith, kind-small k))
  pick_next_lem (list k most) e = absurd (omega (arith, kind-small k))
  pick_next_lem (list_or_none k most) e = absurd (omega (arith, kind-small k))
  pick_next_lem next e = refl

  pub pick_other : (f : Field) → (digit f ≡ 14 → ⊥) → pick_next f n m ≡ m
  pick_other (plain p) e = refl
  pick_other (one k) e = refl
  pick_other (one_or_none k) e = refl
  pick_other (list k most) e = refl
  pick_other (list_or_none k most) e = refl
  pick_other next e = absurd (e refl)
