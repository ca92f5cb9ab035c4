-- The laws of a run: of each combinator its equations and a rule, and what holds of every action. Assumes nothing.
use Rattle.std.specs.Prelude.{Option, Some, None}
use mathlib.Core.{Path.◌≡◌, Path.refl, Path.sym, Path.ap, Path.◌∙◌, Bool.Bool, Bool.true, Bool.false, List.List, List.[], List.◌∷◌}
use Prim.Native.Nat.{ℕ, zero, suc, ◌+◌, ◌-◌, ◌/◌, ◌≤◌, ◌<◌}
use native.Mathlib.{Omega.arith, Nat.le_refl}
use lib.{Dec.eqb, Dec.ltb, IntN.ℤ, IntN.pos, IntN.negsuc, ListN.length}
use borrow.Author.Tests.{ltb-true, ltb-false, eqb-true, eqb-false, lt-ltb, le-ltb, ne_eqb}
use Rattle.model.specs.declared.{Gate.Gate, State.State, Variable.Variable, Tested.Tested, Tested.TheVariants.Holds, Tested.TheVariants.Fails, Tested.TheVariants.Unsure, Refusal.Refusal, Refusal.TheVariants.Undefined, Refusal.TheVariants.ScriptEnded, Refusal.TheVariants.WordOutOfRange, Refusal.TheVariants.BudgetSpent, Outcome.Outcome, Outcome.TheVariants.Ends, Outcome.TheVariants.Jumps, Outcome.TheVariants.Stops}
use Rattle.model.specs.Answers.{row}
use Rattle.model.specs.Bytes.{word_at}
use Rattle.model.specs.Values.{of_size}
use Rattle.model.specs.Image.{Tables, none, size_of}
use Rattle.model.specs.Trees.{Exp, Offer, emit, receive, Gets, OfType, some_branch, Action, at, Act, null, assign, choose, reset, communicate, to, then, select, case, while, for, Branches, no_branch, branch, Arms, no_arm, arm}
use Rattle.model.specs.Typing.{type_of_pat}
use Rattle.model.specs.Figure2.{expansion}
use Rattle.model.specs.Run.{store, eval, test, match, Match, matched, failed, unsure, spoken, St, Res, gives, stored, charge, and_then, reading, reading_of, valued, tested, assigning, storing, choosing, offering, communicating, looping, at_most_high, to_low, onward, exec, exec_act, exec_branch, exec_arms}

-- one unit charged, one word read
abbrev pub paid : St → St
paid s = record { store = s.store; words = s.words; left = s.left - 1; label = s.label }

abbrev pub heard : St → St
heard s = record { store = s.store; words = s.words + 1; left = s.left; label = s.label }

-- ---- equations
pub charge-none : (s : St) (k : St → Res) → charge none s k ≡ k s
unfolding charge
charge-none s k = refl

module _ (r : ℕ) (s : St) (k : St → Res) where
  pub charge-spent : (r ≡ none → ⊥) → s.left ≡ 0 → charge r s k ≡ gives (Stops (BudgetSpent (row r))) s
  unfolding charge
  charge-spent f e = rw (ne_eqb r none f, le-ltb 0 s.left (omega arith), charge)

  pub charge-some : (r ≡ none → ⊥) → 0 < s.left → charge r s k ≡ k (paid s)
  unfolding charge
  charge-some f l = rw (ne_eqb r none f, lt-ltb 0 s.left l, charge)

module _ (q : Res) (k : St → Res) where
  pub then-ends : q.out ≡ Ends → and_then q k ≡ k q.st
  unfolding and_then
  then-ends e = rw (e, and_then)

  then-other : (o : Outcome) → q.out ≡ o → and_then (gives o q.st) k ≡ gives o q.st → and_then q k ≡ q
  then-other o e h = rw (← e) at h

  pub then-jumps : (t : State) → q.out ≡ Jumps t → and_then q k ≡ q
  unfolding and_then
  then-jumps t e = then-other (Jumps t) e refl

  pub then-stops : (y : Refusal) → q.out ≡ Stops y → and_then q k ≡ q
  unfolding and_then
  then-stops y e = then-other (Stops y) e refl

module _ (script : List ℕ) (r : ℕ) (s : St) (k : ℤ → St → Res) where
  pub reading-word : s.words < length script / 4 → reading script r s k ≡ k (word_at script s.words) (heard s)
  unfolding reading
  reading-word l = rw (lt-ltb s.words (length script / 4) l, reading)

  pub reading-ended : length script / 4 ≤ s.words → reading script r s k ≡ gives (Stops (ScriptEnded (row r))) s
  unfolding reading
  reading-ended l = rw (le-ltb s.words (length script / 4) l, reading)

module _ (x : Tables) (t : ℕ) (script : List ℕ) (r : ℕ) (s : St) (k : ℤ → St → Res) where
  pub reading_of-word : s.words < length script / 4 → of_size x.half (size_of x t) (word_at script s.words) ≡ true
      → reading_of x t script r s k ≡ k (word_at script s.words) (heard s)
  unfolding reading_of
  reading_of-word l e = reading-word script r s _ l ∙ rw e

module _ (y : Option ℤ) (r : ℕ) (s : St) (k : ℤ → Res) where
  pub valued-is : (z : ℤ) → y ≡ Some z → valued y r s k ≡ k z
  unfolding valued
  valued-is z e = rw (e, valued)

  pub valued-unknown : y ≡ None → valued y r s k ≡ gives (Stops (Undefined (row r))) s
  unfolding valued
  valued-unknown e = rw (e, valued)

module _ (y : Tested) (r : ℕ) (s : St) (k l : Res) where
  pub tested-holds : y ≡ Holds → tested y r s k l ≡ k
  unfolding tested
  tested-holds e = rw (e, tested)

  pub tested-fails : y ≡ Fails → tested y r s k l ≡ l
  unfolding tested
  tested-fails e = rw (e, tested)

  pub tested-unsure : y ≡ Unsure → tested y r s k l ≡ gives (Stops (Undefined (row r))) s
  unfolding tested
  tested-unsure e = rw (e, tested)

-- ---- rules: what holds of each case holds of the whole
module _ (P : Res → Type 0) where
  pub if-rule : (b : Bool) (x y : Res) → (b ≡ true → P x) → (b ≡ false → P y) → P (elim b [ true ↦ x | false ↦ y ])
  if-rule true x y h k = h refl
  if-rule false x y h k = k refl

  pub match-rule : (y : Match) (k : List ℤ → Res) (a b : Res) → ((m : List ℤ) → y ≡ matched m → P (k m)) → (y ≡ failed → P a)
      → (y ≡ unsure → P b) → P (elim y [ matched m ↦ k m | failed ↦ a | unsure ↦ b ])
  match-rule (matched m) k a b g h i = g m refl
  match-rule failed k a b g h i = h refl
  match-rule unsure k a b g h i = i refl

  pub charge-rule : (r : ℕ) (s : St) (k : St → Res) → (r ≡ none → P (k s))
      → ((r ≡ none → ⊥) → s.left ≡ 0 → P (gives (Stops (BudgetSpent (row r))) s))
      → ((r ≡ none → ⊥) → 0 < s.left → P (k (paid s))) → P (charge r s k)
  unfolding charge
  charge-rule r s k free off on =
      if-rule (eqb r none) _ _ (λ e. free (eqb-true r none e)) (λ e.
      if-rule (ltb 0 s.left) _ _ (λ l. on (eqb-false r none e) (ltb-true 0 s.left l)) (λ l.
      off (eqb-false r none e) (omega (arith, ltb-false 0 s.left l))))

  pub then_rule : (q : Res) (k : St → Res) → (q.out ≡ Ends → P (k q.st)) → ((t : State) → q.out ≡ Jumps t → P q)
      → ((y : Refusal) → q.out ≡ Stops y → P q) → P (and_then q k)
  then_rule q k h j i = go q.out refl
    where
      go : (o : Outcome) → q.out ≡ o → P (and_then q k)
      go Ends e = rw (then-ends q k e) (h e)
      go (Jumps t) e = rw (then-jumps q k t e) (j t e)
      go (Stops y) e = rw (then-stops q k y e) (i y e)

  pub reading-rule : (script : List ℕ) (r : ℕ) (s : St) (k : ℤ → St → Res)
      → (s.words < length script / 4 → P (k (word_at script s.words) (heard s)))
      → (length script / 4 ≤ s.words → P (gives (Stops (ScriptEnded (row r))) s)) → P (reading script r s k)
  unfolding reading
  reading-rule script r s k on off =
      let n = length script / 4 in
      if-rule (ltb s.words n) _ _ (λ l. on (ltb-true s.words n l)) (λ l. off (ltb-false s.words n l))

  pub reading_of-rule : (x : Tables) (t : ℕ) (script : List ℕ) (r : ℕ) (s : St) (k : ℤ → St → Res)
      → (s.words < length script / 4 → of_size x.half (size_of x t) (word_at script s.words) ≡ true
      → P (k (word_at script s.words) (heard s)))
      → (s.words < length script / 4 → of_size x.half (size_of x t) (word_at script s.words) ≡ false
      → P (gives (Stops (WordOutOfRange (row r))) (heard s)))
      → (length script / 4 ≤ s.words → P (gives (Stops (ScriptEnded (row r))) s)) → P (reading_of x t script r s k)
  unfolding reading_of
  reading_of-rule x t script r s k on out off =
      reading-rule script r s _ (λ l. if-rule (of_size x.half (size_of x t) (word_at script s.words)) _ _ (on l) (out l)) off

  pub valued-rule : (y : Option ℤ) (r : ℕ) (s : St) (k : ℤ → Res) → ((z : ℤ) → y ≡ Some z → P (k z))
      → (y ≡ None → P (gives (Stops (Undefined (row r))) s)) → P (valued y r s k)
  unfolding valued
  valued-rule (Some z) r s k on off = on z refl
  valued-rule None r s k on off = off refl

  pub tested-rule : (y : Tested) (r : ℕ) (s : St) (k l : Res) → (y ≡ Holds → P k) → (y ≡ Fails → P l)
      → (y ≡ Unsure → P (gives (Stops (Undefined (row r))) s)) → P (tested y r s k l)
  unfolding tested
  tested-rule Holds r s k l g h i = g refl
  tested-rule Fails r s k l g h i = h refl
  tested-rule Unsure r s k l g h i = i refl

-- the same, where k and l are
pub charge-cong : (r : ℕ) (s : St) (k l : St → Res) → (r ≡ none → k s ≡ l s)
    → ((r ≡ none → ⊥) → 0 < s.left → k (paid s) ≡ l (paid s)) → charge r s k ≡ charge r s l
charge-cong r s k l g h =
    charge-rule (λ q. q ≡ charge r s l) r s k (λ e. rw (e, charge-none) (g e)) (λ f e. sym (charge-spent r s l f e)) (λ f e.
    h f e ∙ sym (charge-some r s l f e))

pub then-cong : (q : Res) (k l : St → Res) → (q.out ≡ Ends → k q.st ≡ l q.st) → and_then q k ≡ and_then q l
then-cong q k l h =
    then_rule (λ p. p ≡ and_then q l) q k (λ e. h e ∙ sym (then-ends q l e)) (λ t e. sym (then-jumps q l t e)) (λ y e.
    sym (then-stops q l y e))

-- ---- looping
module _ (x : Tables) (e : Exp) (body : St → Res) (r : ℕ) where
  -- one turn of a loop, and k where it is to go on
  abbrev pub turn : (St → Res) → St → Res
  turn k s = tested (test x e s.store) r s (and_then (body s) (λ u. charge r u k)) (gives Ends s)

  pub looping-step : (n : ℕ) (s : St) → looping (suc n) x e body r s ≡ turn (looping n x e body r) s
  unfolding looping tested
  looping-step n s = refl

  pub looping-holds : (n : ℕ) (s : St) → test x e s.store ≡ Holds
      → looping (suc n) x e body r s ≡ and_then (body s) (λ u. charge r u (looping n x e body r))
  looping-holds n s h = looping-step n s ∙ tested-holds _ r s _ _ h

  pub looping-fails : (n : ℕ) (s : St) → test x e s.store ≡ Fails → looping (suc n) x e body r s ≡ gives Ends s
  looping-fails n s h = looping-step n s ∙ tested-fails _ r s _ _ h

  pub looping-unsure : (n : ℕ) (s : St) → test x e s.store ≡ Unsure → looping (suc n) x e body r s ≡ gives (Stops (Undefined (row r))) s
  looping-unsure n s h = looping-step n s ∙ tested-unsure _ r s _ _ h

  -- I is kept from turn to turn
  pub looping-rule : (I : St → Type 0) (P : Res → Type 0) → ((s : St) → I s → P (gives (Stops (BudgetSpent (row r))) s))
      → ((k : St → Res) → ((s : St) → I s → P (k s)) → (s : St) → I s → P (turn k s)) → (n : ℕ) (s : St) → I s → P (looping n x e body r s)
  unfolding looping
  looping-rule I P off on zero s i = off s i
  looping-rule I P off on (suc n) s i = rw (looping-step n s) (on (looping n x e body r) (looping-rule I P off on n) s i)

  -- more fuel than units left changes nothing
  pub looping-enough : (r ≡ none → ⊥) → ((s : St) → (body s).st.left ≤ s.left) → (n m : ℕ) (s : St) → s.left < n → s.left < m
      → looping n x e body r s ≡ looping m x e body r s
  looping-enough f down zero m s h l = absurd (omega arith)
  looping-enough f down (suc n) zero s h l = absurd (omega arith)
  looping-enough f down (suc n) (suc m) s h l =
      looping-step n s ∙ ap (λ q. tested (test x e s.store) r s q (gives Ends s)) (then-cong (body s) _ _ (λ _.
      charge-cong r (body s).st _ _ (λ p. absurd (f p)) (λ _ p.
      looping-enough f down n m (paid (body s).st) (omega (arith, down s)) (omega (arith, down s))))) ∙ sym (looping-step m s)

-- ---- no run raises the units left: n or fewer before, n or fewer after
module _ (n : ℕ) (x : Tables) (script : List ℕ) where
  abbrev Few : Res → Type 0
  Few q = q.st.left ≤ n

  charge-few : (r : ℕ) (s : St) (k : St → Res) → s.left ≤ n → ((u : St) → u.left ≤ n → Few (k u)) → Few (charge r s k)
  charge-few r s k h l = charge-rule Few r s k (λ _. l s h) (λ _ _. h) (λ _ _. l (paid s) (omega arith))

  then-few : (q : Res) (k : St → Res) → Few q → ((u : St) → u.left ≤ n → Few (k u)) → Few (and_then q k)
  then-few q k h l = then_rule Few q k (λ _. l q.st h) (λ _ _. h) (λ _ _. h)

  storing-few : (items : List Gets) (r : ℕ) (m : List ℤ) (s : St) → s.left ≤ n → Few (storing x items r m s)
  unfolding storing
  storing-few [] r m s h = h
  storing-few (i ∷ items) r m s h =
      valued-rule Few _ r s _ (λ z _. storing-few items r (store m i.v z) s h) (λ _. h)

  choosing-few : (items : List OfType) (e : Exp) (r : ℕ) (s : St) → s.left ≤ n → Few (choosing x items e script r s)
  unfolding choosing
  choosing-few [] e r s h = tested-rule Few (test x e s.store) r s _ _ (λ _. h) (λ _. h) (λ _. h)
  choosing-few (i ∷ items) e r s h =
      reading_of-rule Few x i.t script r s _ (λ _ _. choosing-few items e r _ h) (λ _ _. h) (λ _. h)

  offering-few : (g : Gate) (os : List Offer) (vs : List ℤ) (r : ℕ) (s : St) → s.left ≤ n → Few (offering x g os vs script r s)
  unfolding offering
  offering-few g [] vs r s h = h
  offering-few g (emit e ∷ os) vs r s h = valued-rule Few (eval x e s.store) r s _ (λ z _. offering-few g os _ r s h) (λ _. h)
  offering-few g (receive p ∷ os) vs r s h =
      reading_of-rule Few x (type_of_pat x p) script r s _ (λ _ _.
      match-rule Few (match x p (word_at script s.words) s.store) _ _ _ (λ m _. offering-few g os _ r (stored m (heard s)) h)
      (λ _. h) (λ _. h)) (λ _ _. h) (λ _. h)

  looping-few : (e : Exp) (body : St → Res) (r : ℕ) → ((u : St) → u.left ≤ n → Few (body u)) → (k : ℕ) (s : St) → s.left ≤ n
      → Few (looping k x e body r s)
  looping-few e body r b =
      looping-rule x e body r (λ u. u.left ≤ n) Few (λ u h. h) (λ k i s h.
      tested-rule Few (test x e s.store) r s _ _ (λ _. then-few (body s) _ (b s h) (λ u l. charge-few r u k l i)) (λ _. h) (λ _. h))

  mutual
    unfolding exec communicating

    few : (a : Action) (s : St) → s.left ≤ n → Few (exec x a script s)
    few (at r a) s h = charge-few r s _ h (λ u l. few-act a r u l)

    few-act : (a : Act) (r : ℕ) (s : St) → s.left ≤ n → Few (exec_act x a script r s)
    few-act null r s h = h
    few-act (assign items) r s h = storing-few items r s.store s h
    few-act (choose items e) r s h = choosing-few items e r s h
    few-act (reset vs) r s h = h
    few-act (communicate g os) r s h = if-rule Few (spoken s.label) _ _ (λ _. h) (λ _. offering-few g os [] r s h)
    few-act (to q) r s h = h
    few-act (then a b) r s h = then-few _ _ (few a s h) (λ u l. few b u l)
    few-act (select bs) r s h =
        if-rule Few (some_branch bs) _ _ (λ _.
        reading-rule Few script r s _ (λ _. few-branch bs (word_at script s.words) r (heard s) h) (λ _. h)) (λ _. h)
    few-act (case e arms) r s h = valued-rule Few (eval x e s.store) r s _ (λ z _. few-arms arms z r s h) (λ _. h)
    few-act (while e a) r s h = looping-few e _ r (λ u l. few a u l) (suc s.left) s h
    few-act (for v low high a) r s h =
        then-few _ _ (storing-few (to_low v low) r s.store s h) (λ u.
        looping-few (at_most_high v high) _ r (λ t l. then-few _ _ (few a t l) (λ w. storing-few (onward v) r w.store w)) (suc u.left) u)

    few-branch : (bs : Branches) (z : ℤ) (r : ℕ) (s : St) → s.left ≤ n → Few (exec_branch x bs z script r s)
    few-branch no_branch z r s h = h
    few-branch (branch a bs) (pos zero) r s h = few a s h
    few-branch (branch a bs) (pos (suc k)) r s h = few-branch bs (pos k) r s h
    few-branch (branch a bs) (negsuc k) r s h = h

    few-arms : (arms : Arms) (z : ℤ) (r : ℕ) (s : St) → s.left ≤ n → Few (exec_arms x arms z script r s)
    few-arms no_arm z r s h = h
    few-arms (arm p a rest) z r s h =
        match-rule Few (match x p z s.store) _ _ _ (λ m _. few a (stored m s) h) (λ _. few-arms rest z r _ h) (λ _. h)

pub exec-left : (x : Tables) (a : Action) (script : List ℕ) (s : St) → (exec x a script s).st.left ≤ s.left
exec-left x a script s = few s.left x script a s (le_refl s.left)

-- the same of a for's turn
pub turn-left : (x : Tables) (a : Action) (v : Variable) (script : List ℕ) (r : ℕ) (s : St)
    → (and_then (exec x a script s) (assigning x (onward v) r)).st.left ≤ s.left
turn-left x a v script r s =
    then-few s.left x script _ _ (exec-left x a script s) (λ u. storing-few s.left x script (onward v) r u.store u)

-- ---- a for and its expansion give the same, but that each names its own row where V := V + 1 reads V undefined
pub data Alike (r : ℕ) : Res → Res → Type 0 where
  alike : {q : Res} → Alike r q q
  unlike : {s : St} → Alike r (gives (Stops (Undefined (row r))) s) (gives (Stops (Undefined (row none))) s)

pub alike_same : {r : ℕ} {q p : Res} → Alike r q p → ((y z : Refusal) → q.out ≡ Stops y → p.out ≡ Stops z → ⊥) → q ≡ p
alike_same alike f = refl
alike_same {r} unlike f = absurd (f (Undefined (row r)) (Undefined (row none)) refl refl)

then-alike : {r : ℕ} {q p : Res} (k l : St → Res) → Alike r q p → ((u : St) → Alike r (k u) (l u)) → Alike r (and_then q k) (and_then p l)
unfolding and_then
then-alike {r} k l (alike {q}) h = go q.out q.st
  where
    go : (o : Outcome) (u : St) → Alike r (and_then (gives o u) k) (and_then (gives o u) l)
    go Ends u = h u
    go (Jumps t) u = alike
    go (Stops y) u = alike
then-alike k l unlike h = unlike

charge-alike : {r : ℕ} (n : ℕ) (s : St) (k l : St → Res) → ((u : St) → Alike r (k u) (l u)) → Alike r (charge n s k) (charge n s l)
charge-alike {r} n s k l h =
    charge-rule (λ q. Alike r q (charge n s l)) n s k (λ e. rw (e, charge-none) (h s)) (λ f e. rw (charge-spent n s l f e) alike)
    (λ f e. rw (charge-some n s l f e) (h (paid s)))

tested-alike : {r : ℕ} (y : Tested) (n : ℕ) (s : St) (k l m : Res) → Alike r k l → Alike r (tested y n s k m) (tested y n s l m)
unfolding tested
tested-alike Holds n s k l m h = h
tested-alike Fails n s k l m h = alike
tested-alike Unsure n s k l m h = alike

looping-alike : {r : ℕ} (x : Tables) (e : Exp) (b c : St → Res) (t : ℕ) → ((s : St) → Alike r (b s) (c s))
    → (n : ℕ) (s : St) → Alike r (looping n x e b t s) (looping n x e c t s)
looping-alike x e b c t h zero s = unfold looping in alike
looping-alike x e b c t h (suc n) s =
    rw (looping-step x e b t n s, looping-step x e c t n s) (tested-alike (test x e s.store) t s _ _ (gives Ends s)
    (then-alike _ _ (h s) (λ u. charge-alike t u _ _ (looping-alike x e b c t h n))))

valued-alike : {r : ℕ} {k l : ℤ → Res} (y : Option ℤ) (s : St) → ((z : ℤ) → Alike r (k z) (l z)) → Alike r (valued y r s k) (valued y none s l)
unfolding valued
valued-alike (Some z) s h = h z
valued-alike None s h = unlike

storing-alike : (x : Tables) (items : List Gets) (r : ℕ) (m : List ℤ) (s : St) → Alike r (storing x items r m s) (storing x items none m s)
unfolding storing
storing-alike x [] r m s = alike
storing-alike x (i ∷ items) r m s = valued-alike _ s (λ z. storing-alike x items r (store m i.v z) s)

module _ (x : Tables) (r : ℕ) (v : Variable) (low high : ℤ) (a : Action) (script : List ℕ) (s : St) where
  abbrev first : St → St
  first u = stored (store u.store v low) u

  -- the turns, V := V + 1 at row n
  turns : ℕ → St → Res
  turns n u = looping (suc u.left) x (at_most_high v high) (λ t. and_then (exec x a script t) (assigning x (onward v) n)) r u

  abbrev whole : Res
  whole = exec x (at r (for v low high a)) script s

  abbrev parts : Res
  parts = exec x (expansion r v low high a) script s

  whole_is : whole ≡ charge r s (λ u. turns r (first u))
  unfolding exec storing valued eval and_then turns
  whole_is = refl

  parts_is : parts ≡ charge r (first s) (turns none)
  unfolding exec storing valued eval and_then charge turns
  parts_is = refl

  -- charged before the first assignment or after it
  charge-first : (k : St → Res) → 0 < s.left → charge r (first s) k ≡ charge r s (λ u. k (first u))
  charge-first k l =
      charge-rule (λ q. charge r (first s) k ≡ q) r s _ (λ e. rw (e, charge-none)) (λ f e. absurd (omega arith)) (λ f _.
      charge-some r (first s) k f l)

  pub for-alike : 0 < s.left → Alike r whole parts
  unfolding turns
  for-alike l =
      rw (whole_is, parts_is, charge-first (turns none) l) (charge-alike r s _ _ (λ u.
      looping-alike x (at_most_high v high) _ _ r (λ t. then-alike _ _ alike (λ w. storing-alike x (onward v) r w.store w))
      (suc u.left) (first u)))

  pub for-expansion : 0 < s.left → ((y z : Refusal) → whole.out ≡ Stops y → parts.out ≡ Stops z → ⊥) → whole ≡ parts
  for-expansion l = alike_same (for-alike l)

  -- with no unit left neither is run, and only the expansion has stored low
  pub for-spent : (r ≡ none → ⊥) → s.left ≡ 0
      → (whole ≡ gives (Stops (BudgetSpent (row r))) s) × (parts ≡ gives (Stops (BudgetSpent (row r))) (first s))
  for-spent f e = (whole_is ∙ charge-spent r s _ f e, parts_is ∙ charge-spent r (first s) _ f e)
