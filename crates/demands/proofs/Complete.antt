-- 2. Every derivation of Figure 2 from a state's action that reads nothing undefined is a move of step. Assumes nothing.
use Rattle.std.specs.Prelude.{Ok}
use mathlib.Core.{Path.◌≡◌, Path.refl, Path.ap, Path.◌∙◌, Bool.Bool, Bool.true, Bool.false, Bool.cond, Bool.◌&&◌, List.List, List.◌∷◌, List.◌++◌}
use Prim.Native.Nat.{ℕ, ◌+◌, ◌<◌, ◌≤◌}
use native.Mathlib.Omega.{arith}
use lib.{Dec.eqb, Dec.ltb, IntN.ℤ, IntN.pos, ListN.length, ListN.get_or, ListN.drop, Signed.mag, Signed.non_neg}
use borrow.Author.Tests.{ltb-true, lt-ltb, le-leb, eq-eqb}
use Rattle.model.specs.declared.{State.State, Refusal.TheVariants.NoState, Refusal.TheVariants.StoreLength, Refusal.TheVariants.SlotValue, Refusal.TheVariants.LabelShort, Refusal.TheVariants.BudgetOver}
use Rattle.model.specs.Answers.{variable, unless, Verdict}
use Rattle.model.specs.Values.{of_size}
use Rattle.model.specs.Image.{Tables, none, size_of, tables_of}
use Rattle.model.specs.Trees.{Offer, emit, receive, OfType, Action}
use Rattle.model.specs.Run.{Label, ε, label_words, Res}
use Rattle.model.specs.Calls.{image_verdict, slot_fits, step_verdict, attempt, moved_as, stepped_as, step}
use Rattle.model.specs.Figure2.{Next, OfThe, MayTake, Accepts, all_run, runs, none_left, one_more, Chosen, Does, d_null, d_to, d_assign, d_choose, d_reset, d_communicate, d_then, d_leave, d_select, d_case, d_again, d_done, d_for, cost, received, choices}
use Rattle.model.proofs.Rows.{both_true}
use Rattle.model.proofs.Order.{after-accepted, each-accepts}
use Rattle.demands.specs.Statements.{script_of, TransitionsAreMoves}
use Rattle.demands.proofs.All.{All, nil, cons}
use Rattle.demands.proofs.Whole.{whole, sizes-of}
use Rattle.demands.proofs.Script.{Word, reads-script}
use Rattle.demands.proofs.Fit.{Fit, FitAct, fit-branch, branch-number, fit-arm, fit-image}
use Rattle.demands.proofs.Derived.{derived}

-- ---- the choices of a derivation fit 32 bits
all_append : {P : ℤ → Type 0} {xs ys : List ℤ} → All P xs → All P ys → All P (xs ++ ys)
all_append nil q = q
all_append (cons p ps) q = cons p (all_append ps q)

size_word : (h n : ℕ) (z : ℤ) (t : Bool) → h ≡ 32768 → n ≤ 4096 → cond t (ltb (mag z) h) (non_neg z && ltb (mag z) n) ≡ true → Word z
size_word h n z true e l q = omega (arith, ltb-true (mag z) h q)
size_word h n z false e l q = omega (arith, ltb-true (mag z) n (both_true (non_neg z) _ q).1)

module _ (x : Tables) (half : x.half ≡ 32768) (few : (t : ℕ) → size_of x t ≤ 4096) where
  word_of : (t : ℕ) (z : ℤ) → OfThe x t z → Word z
  unfolding of_size
  word_of t z h = size_word x.half (size_of x t) z (eqb (size_of x t) 0) half (few t) h

  chosen-words : {is : List OfType} {zs : List ℤ} → Chosen x is zs → All Word zs
  chosen-words none_left = nil
  chosen-words (one_more {i} {z} t c) = cons (word_of i.t z t) (chosen-words c)

  received-one : (o : Offer) (os : List Offer) (z : ℤ) (zs : List ℤ) → MayTake x o z → All Word (received os zs) → All Word (received (o ∷ os) (z ∷ zs))
  unfolding received
  received-one (emit e) os z zs t a = a
  received-one (receive p) os z zs t a = cons (word_of _ z t) a

  received-words : {os : List Offer} {zs m n : List ℤ} → Accepts x os zs m n → All Word (received os zs)
  unfolding received
  received-words all_run = nil
  received-words (runs {o} {os} {z} {zs} t e a) = received-one o os z zs t (received-words a)

  words : {a : Action} {m n : List ℤ} {l : Label} {o : Next} (d : Does x a m l o n) → Fit a → All Word (choices d)
  unfolding choices Fit FitAct
  words d_null f = nil
  words d_to f = nil
  words (d_assign p) f = nil
  words (d_choose p q) f = chosen-words p
  words d_reset f = nil
  words (d_communicate p) f = received-words p
  words (d_then d e p) f = all_append (words d f.0) (words e f.1)
  words (d_leave d) f = words d f.0
  words (d_select {i} p d) f = let h = f.0 in cons {a = pos i} (omega (arith, branch-number p)) (words d (fit-branch p f.1))
  words (d_case p t d) f = words d (fit-arm t f)
  words (d_again p d) f = words d (f.1, f)
  words (d_done p) f = nil
  words (d_for d) f = words d (tt, (f.0, (f.1, tt)))

-- ---- step
accepted : (image : List ℕ) (q : State) (store : List ℤ) (budget : ℕ) (label : List ℤ) → image_verdict image ≡ Ok tt
    → q.0 < length (tables_of image).states → length store ≡ length (tables_of image).variables
    → ((v : ℕ) → v < length (tables_of image).variables → slot_fits (tables_of image) store v ≡ true) → 10 ≤ length label → budget ≤ 1000000
    → step_verdict image q store budget label ≡ Ok tt
unfolding step_verdict
accepted image q store budget label a b c d e f =
    let x = tables_of image in
    after-accepted _ _ a
    ∙ after-accepted _ _ (ap (λ (t : Bool). unless t NoState) (lt-ltb q.0 (length x.states) b))
    ∙ after-accepted _ _ (ap (λ (t : Bool). unless t StoreLength) (eq-eqb (length store) (length x.variables) c))
    ∙ after-accepted _ _ (each-accepts (slot_fits x store) (length x.variables) (λ v. SlotValue (variable v)) d)
    ∙ after-accepted _ _ (ap (λ (t : Bool). unless t LabelShort) (le-leb 10 (length label) e))
    ∙ ap (λ (t : Bool). unless t BudgetOver) (le-leb budget 1000000 f)

pub transitions-are-moves : TransitionsAreMoves
unfolding step attempt moved_as
transitions-are-moves image b ok q store label said t n inside long slots ten d reads cheap rest =
    let x = tables_of image in
    let w = whole image b ok in
    let f = fit-image image w ok q.0 inside in
    let script = script_of (choices d) ++ rest in
    let j = length (choices d) in
    let r = get_or x.states q.0 none in
    let z : cost d ≡ cost d + 0 = omega arith in
    let run = derived x d f reads script 0 j 0 ε said (reads-script (choices d) rest (words x w.half (sizes-of x w.free).few d f)) refl in
    ap (λ (v : Verdict). stepped_as v (moved_as (attempt x q.0 store script (cost d)) r (cost d) store label) store label)
    (accepted image q store (cost d) label ok inside long slots ten cheap)
    ∙ ap (λ (c : ℕ). moved_as (attempt x q.0 store script c) r (cost d) store label) z
    ∙ ap (λ (g : Res). moved_as g r (cost d) store label) run
    ∙ ap (λ (c : ℕ). record { answer = Ok (record { next = t; words = j; units = c }); store = n; label = label_words said ++ drop 10 label }) (omega arith)
