-- The ways an action can end (specs/Speech): what they let, mode by mode, and what their combinations let. Assumes nothing.
use mathlib.Core.{Path.◌≡◌, Path.refl, Path.sym, Path.◌∙◌, Bool.Bool, Bool.true, Bool.false, Bool.not, Bool.cond, Bool.◌&&◌, Bool.◌||◌, Bool.false≢true}
use borrow.Author.Tests.{not-true}
use Rattle.model.specs.Speech.{Ways, ends_as, either, entered, quiet_loop, loop_for}
use Rattle.model.proofs.Rows.{both_true}

-- entered in mode m it may end in mode b, where it can end quiet or not and spoken or not; who has spoken stays so
pub record Lets (m quiet spoken b : Bool) : Type 0 where
  pub so : cond b spoken quiet ≡ true
  pub on : m ≡ true → b ≡ true

-- v lets no more than w
abbrev pub Le : Ways → Ways → Type 0
Le v w = (b : Bool) → cond b v.spoken v.quiet ≡ true → cond b w.spoken w.quiet ≡ true

pub or_right : (a b : Bool) → b ≡ true → (a || b) ≡ true
or_right true b e = refl
or_right false b e = e

pub either_left : (v w : Ways) → Le v (either v w)
either_left v w true e = rw e
either_left v w false e = rw e

pub either-right : (v w : Ways) → Le w (either v w)
either-right v w true e = or_right v.spoken w.spoken e
either-right v w false e = or_right v.quiet w.quiet e

-- what follows is entered in the mode b in which the first ended
pub then-lets : (q s : Bool) (f : Bool → Ways) (b : Bool) → cond b s q ≡ true → (either (entered q (f false)) (entered s (f true))).right ≡ true
    → ((f b).right ≡ true) × Le (f b) (either (entered q (f false)) (entered s (f true)))
then-lets q true f true e h = ((both_true (entered q (f false)).right _ h).1, either-right (entered q (f false)) (f true))
then-lets q false f true e h = absurd (false≢true e)
then-lets true s f false e h = ((both_true (f false).right _ h).0, either_left (f false) (entered s (f true)))
then-lets false s f false e h = absurd (false≢true e)

-- the body of a loop entered quiet is right and doesn't end spoken
pub while-body : (w : Ways) → (quiet_loop w).right ≡ true → (w.right ≡ true) × (w.spoken ≡ false)
while-body w h = let p = both_true w.right _ (both_true (w.right && not w.spoken) true h).0 in (p.0, not-true w.spoken p.1)

pub for-body : (m : Bool) (f : Bool → Ways) → (loop_for m (f false) (f true)).right ≡ true → ((f m).right ≡ true) × (m ≡ false → (f m).spoken ≡ false)
for-body true f h = ((both_true (f true).right true h).0, λ e. absurd (false≢true (sym e)))
for-body false f h = let p = while-body (f false) h in (p.0, λ e. p.1)

-- a loop, and what does nothing, end in the mode in which they are entered
pub for-ends : (m : Bool) (v w : Ways) → cond m (loop_for m v w).spoken (loop_for m v w).quiet ≡ true
for-ends true v w = refl
for-ends false v w = refl

pub ends_as_lem : (m : Bool) → cond m (ends_as m).spoken (ends_as m).quiet ≡ true
ends_as_lem true = refl
ends_as_lem false = refl

pub in-mode : (m : Bool) {q s : Bool} (b : Bool) → (m ≡ false → s ≡ false) → Lets m q s b → b ≡ m
in-mode true true h l = refl
in-mode true false h l = absurd (false≢true (l.on refl))
in-mode false true h l = absurd (false≢true (sym (h refl) ∙ l.so))
in-mode false false h l = refl

-- what is asked only of who has spoken
pub quiet-unless : (m b : Bool) → (not m || b) ≡ true → b ≡ false → m ≡ false
quiet-unless true b h e = absurd (false≢true (sym e ∙ h))
quiet-unless false b h e = refl

pub unless-then : (m : Bool) {b c : Bool} → (b ≡ true → c ≡ true) → (not m || b) ≡ true → (not m || c) ≡ true
unless-then true f h = f h
unless-then false f h = refl
