-- The states, lowest first. Assumes nothing.
use mathlib.Core.{Path.◌≡◌, Path.ap, Path.◌∙◌, Bool.Bool, Bool.true, List.List}
use Prim.Native.Nat.{ℕ, ◌<◌}
use native.Mathlib.Omega.{arith}
use lib.{Dec.ltb, ListN.length, ListN.get_or}
use borrow.Author.Tests.{ltb-true}
use Rattle.model.specs.declared.{Image.Image}
use Rattle.model.specs.Image.{Tables, none, tables_of, state_count}
use Rattle.model.specs.Rows.{action, is_kind, is_root}
use Rattle.model.specs.Decode.{act}
use Rattle.model.specs.Speech.{well_spoken}
use Rattle.model.proofs.Rows.{both_true}
use Rattle.image.specs.Located.{StateOf}
use Rattle.image.proofs.Laid.{rows-count, states-count}
use Rattle.speech.specs.Both.{unpacked}
use Rattle.speech.specs.Verdict.{Judged, ends_right}
use Rattle.speech.proofs.Steps.{action-ways}

module _ {s : List ℕ} {i : Image} {ways : List ℕ} (h : Judged s i ways) where
  abbrev x : Tables
  x = tables_of s

  count-is : length x.states ≡ state_count i
  count-is = states-count h.lent.rooted.formed.located

  module _ {q : ℕ} (l : q < state_count i) where
    pub state-of : StateOf s i q
    state-of = record { located = h.lent.rooted.formed.located; inside = l }

    root : is_root x action (get_or x.states q none) ≡ true
    root = h.lent.rooted.states q (omega (arith, l, count-is))

    in_rows : (get_or x.states q none < length x.rows) × (is_kind x action (get_or x.states q none) ≡ true)
    unfolding is_root
    in_rows = let b = both_true (ltb (get_or x.states q none) (length x.rows)) _ root in (ltb-true _ _ b.0, b.1)

    pub in-ways : {r : ℕ} → r ≡ get_or (tables_of s).states q none → r < length ways
    in-ways e = rw e (omega (arith, in_rows.0, h.lent.room, rows-count h.lent.rooted.formed.located))

    pub speaks-well : {r : ℕ} {b : Bool} → r ≡ get_or (tables_of s).states q none → b ≡ ends_right (unpacked (get_or ways r 0)) → b ≡ well_spoken (tables_of s) (act (tables_of s) q)
    unfolding well_spoken
    speaks-well e d =
        let r = get_or x.states q none in
        let f = h.filled.each r (omega (arith, in_rows.0, rows-count h.lent.rooted.formed.located)) in
        d ∙ rw e (ap ends_right (f ∙ action-ways x r in_rows.1))
