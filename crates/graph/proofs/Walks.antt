-- Going through a row. Assumes nothing.
use Rattle.std.specs.Prelude.{Err}
use mathlib.Core.{Path.◌≡◌, Path.refl, Bool.true, List.List}
use Prim.Native.Nat.{ℕ, zero, suc, ◌-◌, ◌<◌, ◌≤◌}
use native.Mathlib.{Omega.arith}
use borrow.Author.Tests.{lt-ltb, le-ltb, eq-eqb, ne_eqb}
use Rattle.model.specs.declared.{Fields.Fields, Refusal.Refusal}
use Rattle.model.specs.Answers.{number, place, Verdict}
use Rattle.model.specs.Image.{Tables, none, trailer_of, tables_of, fields_of}
use Rattle.text.specs.declared.Page.{Page}
use Rattle.text.specs.Written.{Written}
use Rattle.text.proofs.Writing.{written-none, written-then}
use Rattle.listing.specs.Gave.{Gave}
use Rattle.notation.specs.Whole.{pointing}
use Rattle.graph.specs.declared.{Said.Said, Parts.Parts}
use Rattle.graph.specs.Ways.{nowhere, parts_of, enters, leaves, said_after, arrow_text, arrows, graph_text, refused_text, drawn_by, drawn}
use Rattle.graph.specs.Walked.{Walked}

module _ (x : Tables) (q r : ℕ) (m : Said) where
  -- nothing where no rows are left, or there is no row
  pub walked-spent : (n : ℕ) (p : Page) → n ≡ 0 → Walked n x q r m p p nowhere
  unfolding arrows said_after
  walked-spent n p e = rw e (record { text = written-none p; said = refl })

  pub walked_none : (n : ℕ) (p : Page) → r ≡ none → Walked n x q r m p p nowhere
  unfolding arrows said_after
  walked_none zero p e = record { text = written-none p; said = refl }
  walked_none (suc n) p e = record {
    text = rw (arrows, eq-eqb r none e) (written-none p);
    said = rw (said_after, eq-eqb r none e);
  }

  -- a row's arrow, its first part, its second part
  pub walked-some : (n : ℕ) (w : Fields) (k : Parts) (e u s t : Said) {a b c d : Page} → (n ≡ 0 → ⊥) → (r ≡ none → ⊥) → w ≡ fields_of x r → k ≡ parts_of w
      → Written (arrow_text q w m) a b → Walked (n - 1) x q k.first m b c s → e ≡ enters k.order m s
      → Walked (n - 1) x q k.second e c d t → u ≡ leaves k.order w m s t → Walked n x q r m a d u
  unfolding arrows said_after
  walked-some zero w k e u s t h i f g y z j v l = absurd (h refl)
  walked-some (suc n) w k e u s t {c = c} h i f g y z j v l =
      let o : suc n - 1 ≡ n = omega arith in
      let z' : Walked n x q k.first m _ c s = rw o at z in
      let v' : Walked n x q k.second e c _ t = rw o at v in
      record {
        text = rw (arrows, ne_eqb r none i, ← f, ← g, ← z'.said, ← j) (written-then (written-then y z'.text) v'.text);
        said = rw (said_after, ne_eqb r none i, ← f, ← g, ← z'.said, ← j, ← v'.said) l;
      }

-- what is drawn, by check's verdict
pub gave-drawn : {s : List ℕ} {v : Verdict} {sets : List ℕ} → Gave s v sets → drawn s ≡ drawn_by s v
unfolding drawn
gave-drawn g = rw (← g.checked)

pub drawn-refused : (s : List ℕ) (y : Refusal) → number y < 8 → drawn_by s (Err y) ≡ refused_text (pointing (number y) (place y) true) y
unfolding drawn_by
drawn-refused s y h = rw (drawn_by, lt-ltb (number y) 8 h)

pub drawn-graph : (s : List ℕ) (y : Refusal) → 8 ≤ number y
    → drawn_by s (Err y) ≡ graph_text (tables_of s) (trailer_of s) (pointing (number y) (place y) true)
unfolding drawn_by
drawn-graph s y h = rw (drawn_by, le-ltb (number y) 8 h)
