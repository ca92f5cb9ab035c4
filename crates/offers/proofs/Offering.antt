-- The ways of a list of offers, one after another, and of a communication. Assumes nothing.
use Rattle.std.specs.Prelude.{Option, Some, None, Result, Ok, Err}
use mathlib.Core.{Path.◌≡◌, Path.refl, Path.sym, Path.ap, Path.◌∙◌, Path.subst, Logic.inl, Logic.inr, Logic.⊎_elim, Bool.Bool, Bool.true, Bool.false, Bool.cond, List.List, List.[], List.◌∷◌, List.◌++◌, List.map}
use Prim.Native.Nat.{ℕ, ◌+◌, ◌%◌, ◌≤◌, ◌<◌}
use native.Mathlib.{Numerals.add-one, Omega.arith}
use lib.{IntN.ℤ, ListN.length, ListN.take, ListN.set, ListN.length-set, Seq.take-suc-set, Signed.mag}
use Rattle.model.specs.declared.{Image.Image, Fields.Fields, Gate.Gate, Refusal.Refusal, Refusal.TheVariants.Undefined, Refusal.TheVariants.SecondCommunication, Outcome.TheVariants.Ends, Outcome.TheVariants.Stops}
use Rattle.model.specs.Answers.{row, gate}
use Rattle.model.specs.Values.{half16, of_size}
use Rattle.model.specs.Image.{Tables, none, tables_of, fields_of, size_of}
use Rattle.model.specs.Rows.{offer, action, OfferRow, is_emit, is_receive, is_communicate, an_offer, an_action, codes, lookup, shape_of, means_at, is_kind, pick_next, next_of}
use Rattle.model.specs.Trees.{Pat, Offer, emit, receive}
use Rattle.model.specs.Decode.{grow_action, list_at, offers_at}
use Rattle.model.specs.Typing.{type_of_pat}
use Rattle.model.specs.Run.{eval, Match, matched, failed, unsure, match, ε, on, spoken, St, Res, gives, stored, labelled, valued, blocked_at, blocked, offering, communicating}
use Rattle.model.proofs.Rows.{fields_for, row_is, is-kind}
use Rattle.model.proofs.Codes.{means, next-is}
use Rattle.model.proofs.Decode.{list_at-none, list_at-step, action_at-is}
use Rattle.image.proofs.Laid.{half_is}
use Rattle.demands.specs.Stores.{TypedStore}
use Rattle.demands.proofs.{Good.GoodOffer, Good.GoodPat, Good.Good, Good.GoodAct, GoodRows.good-action, Whole.Whole, Typed.OfType, Typed.eval-typed, Typed.match-typed}
use Rattle.values.proofs.Held.{held, held-is}
use Rattle.expressions.proofs.Ways.{all, forms, value-small}
use Rattle.actions.specs.declared.{Run.Run, Word.Word, Word.TheVariants.Read, Word.TheVariants.Ended, Word.TheVariants.OutOfRange}
use Rattle.actions.specs.Items.{Items}
use Rattle.actions.specs.State.{run_at, state_of}
use Rattle.actions.specs.Words.{word_of}
use Rattle.actions.proofs.Listed.{here-row, next-items}
use Rattle.actions.proofs.Reading.{read_as, reading_of-by}
use Rattle.actions.proofs.Drawing.{read_fits}
use Rattle.offers.specs.declared.{Offered.Offered}
use Rattle.offers.specs.Accepting.{Given, given, offer_by, emits, match_gives, word_gives, receives, accepts, gave}
use Rattle.offers.specs.Asks.{Accepts, AcceptsAll, Communicates}
use Rattle.offers.proofs.Accepted.{offer-good}

-- a state of a run that has said nothing
abbrev pub quiet : Run → List ℤ → ℕ → St
quiet run m n = record { store = m; words = n; left = run.left; label = ε }

quiet_is : (run : Run) → run.spoken ≡ false → (m values : List ℤ) (n : ℕ) → state_of (run_at run n) m values ≡ quiet run m n
quiet_is run e m values n = rw e

-- what comes after an offer
abbrev after : Given → Run → (ℤ → St → Res) → Res
after a run k = elim a.got.value [ Ok z ↦ k z (quiet run a.store a.got.words) | Err y ↦ gives (Stops y) (quiet run a.store a.got.words) ]

-- one offer, and then the others
module _ (x : Tables) (g : Gate) (os : List Offer) (vs : List ℤ) (script : List ℕ) (r : ℕ) (run : Run) (m : List ℤ) (n : ℕ) where
  rest : ℤ → St → Res
  rest z u = offering x g os (vs ++ (z ∷ [])) script r u

  received : Pat → ℤ → St → Res
  received p z u = elim (match x p z u.store) [ matched k ↦ rest z (stored k u) | failed ↦ blocked r u | unsure ↦ gives (Stops (Undefined (row r))) u ]

  emitted-by : (y : Option ℤ) → valued y r (quiet run m n) (λ z. rest z (quiet run m n)) ≡ after (given (emits y r n) m) run rest
  unfolding valued
  emitted-by (Some z) = refl
  emitted-by None = refl

  received-by : (p : Pat) (y : Word) → read_as y r (quiet run m n) (received p) ≡ after (word_gives x p r m n y) run rest
  unfolding received blocked_at
  received-by p (Read z) = go (match x p z m)
    where
      go : (y : Match)
          → ◌≡◌ {A = Res} (elim y [ matched k ↦ rest z (quiet run k (n + 1)) | failed ↦ blocked r (quiet run m (n + 1)) | unsure ↦ gives (Stops (Undefined (row r))) (quiet run m (n + 1)) ])
          (after (match_gives r m (n + 1) z y) run rest)
      go (matched k) = refl
      go failed = refl
      go unsure = refl
  received-by p Ended = refl
  received-by p OutOfRange = refl

  offering-by : (o : Offer) → x.half ≡ half16 → offering x g (o ∷ os) vs script r (quiet run m n) ≡ after (accepts x o script r m n) run rest
  unfolding offering accepts receives rest received
  offering-by (emit e) h = emitted-by (eval x e m)
  offering-by (receive p) h = reading_of-by x (type_of_pat x p) script r (quiet run m n) (received p) h ∙ received-by p (word_of (size_of x (type_of_pat x p)) script n)

-- what an offer gives is a value, and the store stays typed
module _ (x : Tables) (w : Whole x) (m : List ℤ) (t : TypedStore x m) (r : ℕ) where
  word_in : (size : ℕ) (script : List ℕ) (n : ℕ) {z : ℤ} → word_of size script n ≡ Read z → of_size x.half size z ≡ true
  word_in size script n e = rw w.half (read_fits size script n refl e)

  match-keeps : (p : Pat) → GoodPat x p → (n : ℕ) (z : ℤ) → OfType x (type_of_pat x p) z → (y : Match) → match x p z m ≡ y → TypedStore x (match_gives r m n z y).store
  match-keeps p g n z o (matched k) e = match-typed x w p z m k g o t e
  match-keeps p g n z o failed e = t
  match-keeps p g n z o unsure e = t

  accepts-typed : (o : Offer) → GoodOffer x o → (script : List ℕ) (n : ℕ) → TypedStore x (accepts x o script r m n).store
  unfolding accepts receives
  accepts-typed (emit e) g script n = t
  accepts-typed (receive p) g script n = go (word_of (size_of x (type_of_pat x p)) script n) refl
    where
      go : (y : Word) → word_of (size_of x (type_of_pat x p)) script n ≡ y → TypedStore x (word_gives x p r m n y).store
      go (Read z) e = match-keeps p g (n + 1) z (word_in (size_of x (type_of_pat x p)) script n e) (match x p z m) refl
      go Ended e = t
      go OutOfRange e = t

  match-gives : (n k : ℕ) (z a : ℤ) (y : Match) → (match_gives r m n z y).got ≡ gave a k → z ≡ a
  match-gives n k z a (matched l) e = let v = ap (λ (o : Offered). o.value) e in cc
  match-gives n k z a failed e = let v = ap (λ (o : Offered). o.value) e in let f : ◌≡◌ {A = ℕ} 0 1 = cc in absurd (omega arith)
  match-gives n k z a unsure e = let v = ap (λ (o : Offered). o.value) e in let f : ◌≡◌ {A = ℕ} 0 1 = cc in absurd (omega arith)

  accepts-small : (o : Offer) → GoodOffer x o → (script : List ℕ) (n k : ℕ) (a : ℤ) → (accepts x o script r m n).got ≡ gave a k → mag a < 32768
  unfolding accepts receives
  accepts-small (emit e) g script n k a q = go (eval x e m) refl q
    where
      go : (y : Option ℤ) → eval x e m ≡ y → emits y r n ≡ gave a k → mag a < 32768
      go (Some z) f h = let v = ap (λ (o : Offered). o.value) h in let b : z ≡ a = cc in value-small w _ a (eval-typed x w e m a g t (f ∙ ap Some b))
      go None f h = let v = ap (λ (o : Offered). o.value) h in let b : ◌≡◌ {A = ℕ} 0 1 = cc in absurd (omega arith)
  accepts-small (receive p) g script n k a q = go (word_of (size_of x (type_of_pat x p)) script n) refl q
    where
      go : (y : Word) → word_of (size_of x (type_of_pat x p)) script n ≡ y → (word_gives x p r m n y).got ≡ gave a k → mag a < 32768
      go (Read z) f h =
          let b = match-gives (n + 1) k z a (match x p z m) h in
          value-small w (type_of_pat x p) a (word_in (size_of x (type_of_pat x p)) script n (f ∙ ap Read b))
      go Ended f h = let v = ap (λ (o : Offered). o.value) h in let b : ◌≡◌ {A = ℕ} 0 1 = cc in absurd (omega arith)
      go OutOfRange f h = let v = ap (λ (o : Offered). o.value) h in let b : ◌≡◌ {A = ℕ} 0 1 = cc in absurd (omega arith)

-- the offers from row r on, after so many words and values; n and vs are the store and the values then
pub record Along (s : List ℕ) (i : Image) (w : Fields) (place : ℕ) (script : List ℕ) (run : Run) (m values n vs : List ℤ) (words count r : ℕ) : Type 0 where
  pub items : Items offer s i.rows r n
  pub few : count + length (offers_at (tables_of s) r) ≤ 8
  pub room : 8 ≤ length vs
  pub kept : length n ≡ length m
  pub written : length vs ≡ length values
  pub same : offering (tables_of s) (gate w.a) (offers_at (tables_of s) r) (take count vs) script place (quiet run n words)
      ≡ offering (tables_of s) (gate w.a) (offers_at (tables_of s) w.b) [] script place (state_of run m values)

module _ {s : List ℕ} {i : Image} {w : Fields} {m values : List ℤ} {run : Run} (h : AcceptsAll s i w.b m values run) where
  pub along-first : (place : ℕ) (script : List ℕ) → Along s i w place script run m values m values run.words 0 w.b
  along-first place script =
      record {
        items = h.items;
        few = omega (arith, h.few);
        room = h.room;
        kept = refl;
        written = refl;
        same = ap (offering (tables_of s) (gate w.a) (offers_at (tables_of s) w.b) [] script place) (sym (quiet_is run h.quiet m values run.words));
      }

  module _ {place : ℕ} {script : List ℕ} {n vs : List ℤ} {words count r : ℕ} (d : Along s i w place script run m values n vs words count r) where
    -- none is left
    pub along-end : r ≡ none → gives Ends (labelled (on (gate w.a) (take count vs)) (quiet run n words))
        ≡ offering (tables_of s) (gate w.a) (offers_at (tables_of s) w.b) [] script place (state_of run m values)
    unfolding offering
    along-end e =
        sym (ap (λ l. offering (tables_of s) (gate w.a) (map (λ i. offer_by (tables_of s) (fields_of (tables_of s) i)) l) (take count vs) script place (quiet run n words)) (ap (list_at (tables_of s)) e ∙ list_at-none (tables_of s) (forms d.items.ready)))
        ∙ d.same

    module _ (f : r ≡ none → ⊥) {o : Fields} (e : o ≡ fields_of (tables_of s) r) where
      pub asks : Accepts s i o n
      asks = record { row = r; runs = here-row d.items f; trailer = h.trailer; fields = e }

      next_here : o.b ≡ next_of (tables_of s) r
      next_here = let a = is-kind (tables_of s) offer r (here-row d.items f).kind in rw e (sym (next-is (tables_of s) r (an_offer a.0) a.1 ∙ go a.0))
        where
          go : (a : OfferRow) → pick_next (fields_for (an_offer a)).b (fields_of (tables_of s) r).b (pick_next (fields_for (an_offer a)).c (fields_of (tables_of s) r).c none) ≡ (fields_of (tables_of s) r).b
          go is_emit = refl
          go is_receive = refl

      offers-step : offers_at (tables_of s) r ≡ offer_by (tables_of s) o ∷ offers_at (tables_of s) o.b
      offers-step = rw (list_at-step (tables_of s) (forms d.items.ready) r f, ← next_here, e)

      pub along-less : (o.b + 1) % 65536 < (r + 1) % 65536
      along-less = (next-items refl (here-row d.items f) next_here).0

      pub count-in : count < 8
      count-in = omega (arith, d.few, ap length offers-step)

      module _ {y : Offered} {k : List ℤ} (a : given y k ≡ accepts (tables_of s) (offer_by (tables_of s) o) script place n words) where
        by_one : after (given y k) run (rest (tables_of s) (gate w.a) (offers_at (tables_of s) o.b) (take count vs) script place run n words)
            ≡ offering (tables_of s) (gate w.a) (offers_at (tables_of s) w.b) [] script place (state_of run m values)
        by_one =
            let x = tables_of s in
            let g = gate w.a in
            let k = rest x g (offers_at x o.b) (take count vs) script place run n words in
            ap (λ (b : Given). after b run k) a
            ∙ sym (offering-by x g (offers_at x o.b) (take count vs) script place run n words (offer_by x o) (half_is s))
            ∙ sym (ap (λ l. offering x g l (take count vs) script place (quiet run n words)) offers-step)
            ∙ d.same

        pub along-refused : {z : Refusal} → y.value ≡ Err z → gives (Stops z) (state_of (run_at run y.words) k vs)
            ≡ offering (tables_of s) (gate w.a) (offers_at (tables_of s) w.b) [] script place (state_of run m values)
        along-refused {z} e =
            let b = ap (λ (v : Result ℤ Refusal). record { value = v; words = y.words }) e in
            ap (gives (Stops z)) (quiet_is run h.quiet k vs y.words) ∙ sym (ap (λ (b : Offered). after (given b k) run (rest (tables_of s) (gate w.a) (offers_at (tables_of s) o.b) (take count vs) script place run n words)) b) ∙ by_one

        typed-after : TypedStore (tables_of s) k
        typed-after = subst (TypedStore (tables_of s)) (sym (ap (λ (b : Given). b.store) a)) (accepts-typed (tables_of s) (all d.items.ready) n d.items.ready.store place (offer_by (tables_of s) o) (offer-good asks) script words)

        pub along-step : {z : ℤ} → y.value ≡ Ok z → Along s i w place script run m values k (set vs count (held z)) y.words (count + 1) o.b
        unfolding rest
        along-step {z} e =
            let b = ap (λ (v : Result ℤ Refusal). record { value = v; words = y.words }) e in
            let x = tables_of s in
            let t = accepts-small x (all d.items.ready) n d.items.ready.store place (offer_by x o) (offer-good asks) script words y.words z (ap (λ (b : Given). b.got) (sym a) ∙ b) in
            let l : held z ≡ z = held-is z (omega arith) in
            let c = count-in in
            record {
              items = record { ready = record { bytes = d.items.ready.bytes; passed = d.items.ready.passed; store = typed-after }; start = d.items.start; here = (next-items refl (here-row d.items f) next_here).1.here };
              few = omega (arith, d.few, ap length offers-step);
              room = simp length-set d.room;
              kept = typed-after.size ∙ sym d.items.ready.store.size ∙ d.kept;
              written = simp length-set d.written;
              same = rw (l, add-one, take-suc-set vs count z (omega (arith, d.room))) (sym (ap (λ (b : Offered). after (given b k) run (rest x (gate w.a) (offers_at x o.b) (take count vs) script place run n words)) b) ∙ by_one);
            }

-- a communication
module _ {s : List ℕ} {i : Image} {r : ℕ} {w : Fields} {m values : List ℤ} (h : Communicates s i r w m values) where
  is-communication : means_at (tables_of s) r ≡ an_action is_communicate
  unfolding shape_of lookup codes
  is-communication = means (tables_of s) r 52 (ap (λ (f : Fields). f.code) (sym h.fields) ∙ h.code)

  is-action : is_kind (tables_of s) action r ≡ true
  unfolding is_kind
  is-action = rw is-communication refl

  few-offers : length (offers_at (tables_of s) w.b) ≤ 8
  unfolding Good GoodAct grow_action
  few-offers =
      let x = tables_of s in
      rw h.fields
      (subst (Good x) (action_at-is x (forms h.ready) r (an_action is_communicate) is-communication) (good-action x (all h.ready) r is-action)).2

  pub offers-ask : (run : Run) → run.spoken ≡ false → AcceptsAll s i w.b m values run
  offers-ask run q =
      let b = rw (← h.fields) at (row_is (tables_of s) (forms h.ready) r (an_action is_communicate) is-communication).b in
      record {
        items = record { ready = h.ready; start = ap (λ (j : Image). j.rows) h.trailer; here = ⊎_elim (λ e. inl e) (λ p. inr p.0.kind) b };
        trailer = h.trailer;
        few = few-offers;
        room = h.room;
        quiet = q;
      }

module _ (x : Tables) (g : Gate) (os : List Offer) (script : List ℕ) (r : ℕ) (run : Run) (m values : List ℤ) where
  said : Bool → Res
  said b =
      elim (spoken (cond b (on (gate run.gate) (take run.count values)) ε)) [
        | true ↦ gives (Stops (SecondCommunication (row r))) (state_of run m values)
        | false ↦ offering x g os [] script r (state_of run m values)
      ]

  said-by : {b : Bool} → run.spoken ≡ b → said b ≡ communicating x g os script r (state_of run m values)
  unfolding communicating said
  said-by e = sym (ap said e)

  pub said-twice : run.spoken ≡ true → gives (Stops (SecondCommunication (row r))) (state_of run m values) ≡ communicating x g os script r (state_of run m values)
  unfolding said
  said-twice e = said-by e

  pub said-first : run.spoken ≡ false → {a : Res} → a ≡ offering x g os [] script r (state_of run m values) → a ≡ communicating x g os script r (state_of run m values)
  unfolding said
  said-first e q = q ∙ said-by e
