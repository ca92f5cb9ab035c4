-- What the arms of a case catch, arm by arm. Assumes nothing.
use mathlib.Core.{Path.◌≡◌, Path.refl, Path.sym, Path.ap, Path.◌∙◌, Logic.inl, Logic.inr, Logic.⊎_elim}
use mathlib.Core.{Bool.Bool, Bool.true, Bool.false, Bool.cond, Bool.◌&&◌, Bool.◌||◌, List.List}
use Prim.Native.Nat.{ℕ, suc, ◌+◌, ◌-◌, ◌%◌, ◌<◌}
use native.Mathlib.Omega.{arith}
use lib.{Dec.eqb, Dec.ltb, IntN.pos, IntN.negsuc, Bits.bit_or}
use borrow.Author.Tests.{ltb-false, ne_eqb}
use Rattle.model.specs.declared.{Image.Image, Fields.Fields}
use Rattle.model.specs.Bytes.{signed}
use Rattle.model.specs.Values.{same}
use Rattle.model.specs.Image.{Tables, none, int, tables_of, fields_of}
use Rattle.model.specs.Rows.{pattern, arm, PatternRow, is_any, is_bind, is_value, is_where, a_pattern, another}
use Rattle.model.specs.Trees as trees
use Rattle.model.specs.Trees.{Pat, no_arm}
use Rattle.model.specs.Decode.{grow_pattern, pattern_at, action_at}
use Rattle.model.specs.Masks.{has}
use Rattle.model.specs.Speech.{catches_all, catches, some_catches_all, some_catches}
use Rattle.model.proofs.Rows.{row_is, is-kind}
use Rattle.model.proofs.Decode.{pattern_at-is}
use Rattle.image.specs.Located as located
use Rattle.image.proofs.Laid.{half_is}
use Rattle.speech.specs.Filled.{arms_at}
use Rattle.speech.specs.Case.{RowOrNone, OfKind, OrNone, CaughtAs, CaughtBy, ValueBit}
use Rattle.model.proofs.Codes.{code_of, known_in, code-of}
use Rattle.speech.proofs.Places.{rows-formed, rows_few, some-row}
use Rattle.speech.proofs.Steps.{arms_step, arms_none}
use Rattle.speech.proofs.Sixty.{has-zero, has-or}

or_assoc : (a b c : Bool) → (a || (b || c)) ≡ ((a || b) || c)
or_assoc true b c = refl
or_assoc false b c = refl

or-false : (a : Bool) → (a || false) ≡ a
or-false true = refl
or-false false = refl

-- ---- a pattern's row
-- a value below half is its constant's bits, signed or not
same-constant : (h k b : ℕ) (t : Bool) → k < h → eqb k b ≡ same (pos k) (cond t (signed h b) (pos b))
same-constant h k b false l = refl
same-constant h k b true l = go (ltb b h) refl
  where
    go : (u : Bool) → ltb b h ≡ u → eqb k b ≡ same (pos k) (cond u (pos b) (negsuc (h + h - suc b)))
    go true e = refl
    go false e = ne_eqb k b (λ q. omega (arith, ltb-false b h e))

module _ (x : Tables) (f : ℕ → Pat) (w : Fields) where
  all-as : (e : PatternRow) (c : ℕ) → code_of (a_pattern e) ≡ c → (eqb c 32 || eqb c 33) ≡ catches_all (grow_pattern x f w (a_pattern e))
  unfolding grow_pattern
  all-as is_any c q = rw (← q)
  all-as is_bind c q = rw (← q)
  all-as is_value c q = rw (← q)
  all-as is_where c q = rw (← q)

  value_as : (k : ℕ) → k < x.half → (e : PatternRow) (c : ℕ) → code_of (a_pattern e) ≡ c
      → (eqb c 34 && eqb k w.b) ≡ catches (pos k) (grow_pattern x f w (a_pattern e))
  unfolding grow_pattern
  value_as k l is_any c q = rw (← q)
  value_as k l is_bind c q = rw (← q)
  value_as k l is_value c q = rw (← q) (same-constant x.half k w.b (eqb w.a int) l)
  value_as k l is_where c q = rw (← q)

module _ {s : List ℕ} {i : Image} {q : ℕ} (h : OfKind s i pattern q) {w : Fields} (is : w ≡ fields_of (tables_of s) q) where
  abbrev x : Tables
  x = tables_of s

  abbrev e : PatternRow
  e = (is-kind x pattern q h.kind).0

  is-e : pattern_at x q ≡ grow_pattern x (pattern_at x) (fields_of x q) (a_pattern e)
  is-e = pattern_at-is x (rows-formed h.formed) q (a_pattern e) (is-kind x pattern q h.kind).1

  code-e : code_of (a_pattern e) ≡ (fields_of x q).code
  code-e = ap code_of (sym (is-kind x pattern q h.kind).1) ∙ code-of x pattern q refl h.kind

  pub pattern-is : {v : ℕ} → ValueBit w.code w.b v → CaughtAs (pattern_at (tables_of s) q) (eqb w.code 32 || eqb w.code 33) v
  pattern-is b =
      record {
        all = rw is (all-as x (pattern_at x) (fields_of x q) e (fields_of x q).code code-e ∙ sym (ap catches_all is-e));
        each = λ k l. b.each k l
            ∙ rw is (value_as x (pattern_at x) (fields_of x q) k (omega (arith, half_is s)) e (fields_of x q).code code-e ∙ sym (ap (catches (pos k)) is-e));
      }

-- ---- an arm's row
pub record Arm (s : List ℕ) (i : Image) (r : ℕ) (w : Fields) : Type 0 where
  pub pattern : OfKind s i pattern w.a
  pub next : RowOrNone (tables_of s) arm w.c
  pub falls : (w.c + 1) % 65536 < (r + 1) % 65536

pub arm_is : {s : List ℕ} {i : Image} {r : ℕ} {w : Fields} → OfKind s i arm r → w ≡ fields_of (tables_of s) r → Arm s i r w
arm_is {s} {i} {r} h is =
    let x = tables_of s in
    let q = row_is x (rows-formed h.formed) r (another arm) (is-kind x arm r h.kind) in
    let l = known_in x arm r refl h.kind in
    let m = rows_few h.formed in
    rw is (record {
      pattern = record { formed = h.formed; kind = q.a.kind };
      next = ⊎_elim (λ e. inl e) (λ p. inr p.kind) q.c;
      falls = ⊎_elim (λ e. rw e (omega arith)) (λ p. let b = p.below in omega arith) q.c;
    })

-- ---- the arms from the first on, those before row at being in the mask
pub record Going (s : List ℕ) (first : ℕ) (any : Bool) (values at : ℕ) : Type 0 where
  pub row : RowOrNone (tables_of s) arm at
  pub all : (any || some_catches_all (arms_at (tables_of s) at)) ≡ some_catches_all (arms_at (tables_of s) first)
  pub each : (k : ℕ) → k < 64 → (has values k || some_catches (pos k) (arms_at (tables_of s) at)) ≡ some_catches (pos k) (arms_at (tables_of s) first)

pub begun : {s : List ℕ} {i : Image} {first : ℕ} → OrNone s i arm first → Going s first false 0 first
begun h = record { row = h.named; all = refl; each = λ k l. rw (has-zero k) }

-- a row that isn't none is an arm's
pub arm-here : {s : List ℕ} {i : Image} {first values at : ℕ} {any : Bool} → located.Formed s i → Going s first any values at → (at ≡ none → ⊥)
    → OfKind s i arm at
arm-here h g f = some-row (record { formed = h; named = g.row }) f

pub turned : {s : List ℕ} {i : Image} {first values at v : ℕ} {any b : Bool} {w : Fields} → OfKind s i arm at
    → w ≡ fields_of (tables_of s) at → CaughtAs (pattern_at (tables_of s) w.a) b v → Going s first any values at
    → Going s first (any || b) (bit_or values v) w.c
unfolding some_catches_all some_catches
turned {s} {i} {first} {values} {at} {v} {any} {b} {w} h is c g =
    let x = tables_of s in
    let st : arms_at x at ≡ trees.arm (pattern_at x w.a) (action_at x w.b) (arms_at x w.c) =
    rw is (arms_step x (rows-formed h.formed) (rows_few h.formed) at h.kind) in
    record {
      row = (arm_is h is).next;
      all = rw c.all (sym (or_assoc any _ _) ∙ rw st at g.all);
      each = λ k l. rw (has-or values v k, c.each k l) (sym (or_assoc (has values k) _ _) ∙ rw st at (g.each k l));
    }

pub ended : {s : List ℕ} {i : Image} {first values at : ℕ} {any : Bool} → located.Formed s i → at ≡ none → Going s first any values at
    → CaughtBy (arms_at (tables_of s) first) any values
unfolding some_catches_all some_catches
ended {s} {i} {first} {values} {at} {any} h e g =
    let x = tables_of s in
    let st : arms_at x at ≡ no_arm = rw e (arms_none x (rows-formed h) (rows_few h)) in
    record { all = sym (or-false any) ∙ rw st at g.all; each = λ k l. sym (or-false (has values k)) ∙ rw st at (g.each k l) }
