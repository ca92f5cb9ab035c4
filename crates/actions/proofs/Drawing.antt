-- The ways of any's words. Assumes nothing.
use mathlib.Core.{Path.◌≡◌, Path.refl, Path.sym, Path.ap, Path.◌∙◌, Bool.Bool, Bool.true, Bool.false, List.List, List.◌∷◌}
use Prim.Native.Nat.{ℕ, ◌+◌, ◌/◌, ◌%◌, ◌<◌}
use native.Mathlib.Omega.{arith}
use lib.{Dec.ltb, IntN.ℤ, ListN.length, ListN.set}
use borrow.Author.Tests.{ltb-true}
use Rattle.model.specs.declared.{Image.Image, Fields.Fields, Refusal.TheVariants.ScriptEnded, Refusal.TheVariants.WordOutOfRange, Outcome.TheVariants.Ends, Outcome.TheVariants.Stops}
use Rattle.model.specs.Answers.{variable, row}
use Rattle.model.specs.Bytes.{word_at}
use Rattle.model.specs.Values.{half16, of_size}
use Rattle.model.specs.Image.{none, trailer_of, tables_of, fields_of, size_of}
use Rattle.model.specs.Rows.{of_type, another, next_of}
use Rattle.model.specs.Decode.{of_types_at}
use Rattle.model.specs.Run.{store, St, Res, gives, stored}
use Rattle.model.proofs.Rows.{Row, row_is, is-kind}
use Rattle.model.proofs.Codes.{next-is}
use Rattle.model.proofs.Decode.{list_at-none, list_at-step}
use Rattle.image.specs.Located.{TypeOf}
use Rattle.image.proofs.Laid.{types-count, half_is}
use Rattle.values.proofs.Held.{held, held-is}
use Rattle.expressions.specs.Ready.{Runs}
use Rattle.expressions.proofs.Ways.{located, all, forms, value-small}
use Rattle.actions.specs.declared.{Run.Run, Word.Word, Word.TheVariants.Read, Word.TheVariants.Ended, Word.TheVariants.OutOfRange}
use Rattle.actions.specs.Items.{Items}
use Rattle.actions.specs.State.{run_at, state_of}
use Rattle.actions.specs.Words.{word_of, drawing}
use Rattle.actions.proofs.Listed.{next-items}
use Rattle.actions.proofs.Reading.{read_as, reading_of-by}

-- a word that is there
pub word-inside : (n : ℕ) (script : List ℕ) (i : ℕ) {y : Word} → y ≡ word_of n script i → (y ≡ Ended → ⊥) → i < length script / 4
unfolding word_of
word-inside n script i e f = go (ltb i (length script / 4)) refl
  where
    go : (b : Bool) → ltb i (length script / 4) ≡ b → i < length script / 4
    go true q = ltb-true i (length script / 4) q
    go false q = absurd (f (e ∙ ap (λ (b : Bool). elim b [ true ↦ elim (of_size half16 n (word_at script i)) [ true ↦ Read (word_at script i) | false ↦ OutOfRange ] | false ↦ Ended ]) q))

-- a word that was read is a value of its type
pub read_fits : (n : ℕ) (script : List ℕ) (i : ℕ) {y : Word} {z : ℤ} → y ≡ word_of n script i → y ≡ Read z → of_size half16 n z ≡ true
unfolding word_of
read_fits n script i {y} {z} e f = go (ltb i (length script / 4)) (of_size half16 n (word_at script i)) refl (sym e ∙ f)
  where
    go : (b c : Bool) → of_size half16 n (word_at script i) ≡ c → elim b [ true ↦ elim c [ true ↦ Read (word_at script i) | false ↦ OutOfRange ] | false ↦ Ended ] ≡ Read z
        → of_size half16 n z ≡ true
    go true true p q = let k : word_at script i ≡ z = cc in rw (← k) p
    go true false p q = let k : ◌≡◌ {A = ℕ} 0 1 = cc in absurd (omega arith)
    go false c p q = let k : ◌≡◌ {A = ℕ} 0 1 = cc in absurd (omega arith)

-- none is left
pub draw-none : {s : List ℕ} {rows r : ℕ} {m : List ℤ} → Items of_type s rows r m → r ≡ none → (script : List ℕ) (p : ℕ) (u : St)
    → gives Ends u ≡ drawing (tables_of s) (of_types_at (tables_of s) r) script p u
unfolding drawing
draw-none {s} h e script p u = rw (e, list_at-none (tables_of s) (forms h.ready))

-- an item's row
module _ {s : List ℕ} {i : Image} {r : ℕ} {m : List ℤ} (t : i ≡ trailer_of s) (h : Runs of_type s i.rows r m) (f : r ≡ none → ⊥) {w : Fields} (e : w ≡ fields_of (tables_of s) r) where
  facts : Row (tables_of s) r w (another of_type)
  facts = rw e (row_is (tables_of s) (forms h.ready) r (another of_type) (is-kind (tables_of s) of_type r h.kind))

  next_here : w.c ≡ next_of (tables_of s) r
  next_here = rw e (sym (next-is (tables_of s) r (another of_type) (is-kind (tables_of s) of_type r h.kind)))

  types-step : of_types_at (tables_of s) r ≡ record { v = variable w.a; t = w.b } ∷ of_types_at (tables_of s) w.c
  types-step = rw (list_at-step (tables_of s) (forms h.ready) r f, ← next_here, e)

  pub drawn-inside : w.a < length m
  drawn-inside = omega (arith, ltb-true w.a _ facts.a, h.ready.store.size)

  pub drawn-type : TypeOf s i w.b
  drawn-type =
      let l = rw (← t) at (located h.ready) in
      record { located = l; inside = omega (arith, ltb-true w.b _ facts.b, types-count l) }

  pub drawn-local : (script : List ℕ) (words : ℕ) {y : Word} {z : ℤ} {size : ℕ} → size ≡ size_of (tables_of s) w.b → y ≡ word_of size script words → y ≡ Read z → held z ≡ z
  drawn-local script words {z = z} {size = size} g q k =
      let o : of_size half16 (size_of (tables_of s) w.b) z ≡ true = rw (← g) (read_fits size script words q k) in
      let b = value-small (all h.ready) w.b z (rw (half_is s) o) in
      held-is z (omega arith)

  pub draw-next : ((w.c + 1) % 65536 < (r + 1) % 65536) × Items of_type s i.rows w.c m
  draw-next = next-items refl h next_here

  -- one item, by its word
  module _ (script : List ℕ) (p : ℕ) (run : Run) (words : ℕ) (n : List ℤ) {y : Word} {size : ℕ} (g : size ≡ size_of (tables_of s) w.b) (q : y ≡ word_of size script words) (values : List ℤ) where
    here : St
    here = state_of (run_at run words) n values

    rest : ℤ → St → Res
    rest z u = drawing (tables_of s) (of_types_at (tables_of s) w.c) script p (stored (store u.store (variable w.a) z) u)

    draw-by : drawing (tables_of s) (of_types_at (tables_of s) r) script p here
        ≡ read_as y p here rest
    unfolding drawing here rest
    draw-by =
        ap (λ l. drawing (tables_of s) l script p here) types-step
        ∙ reading_of-by (tables_of s) w.b script p here rest (half_is s)
        ∙ ap (λ (a : Word). read_as a p here rest) (sym (q ∙ ap (λ (n : ℕ). word_of n script words) g))

    pub draw-ended : y ≡ Ended → gives (Stops (ScriptEnded (row p))) (state_of (run_at run words) n values) ≡ drawing (tables_of s) (of_types_at (tables_of s) r) script p (state_of (run_at run words) n values)
    unfolding here
    draw-ended k = sym (draw-by ∙ ap (λ (a : Word). read_as a p here rest) k)

    pub draw-out : y ≡ OutOfRange → gives (Stops (WordOutOfRange (row p))) (state_of (run_at run (words + 1)) n values) ≡ drawing (tables_of s) (of_types_at (tables_of s) r) script p (state_of (run_at run words) n values)
    unfolding here
    draw-out k = sym (draw-by ∙ ap (λ (a : Word). read_as a p here rest) k)

    pub draw-read : {z : ℤ} → y ≡ Read z → held z ≡ z
        → drawing (tables_of s) (of_types_at (tables_of s) w.c) script p (state_of (run_at run (words + 1)) (set n w.a (held z)) values)
        ≡ drawing (tables_of s) (of_types_at (tables_of s) r) script p (state_of (run_at run words) n values)
    unfolding here rest store
    draw-read k l = rw l (sym (draw-by ∙ ap (λ (a : Word). read_as a p here rest) k))
