-- The ways of one offer: an emission by its value, a receipt by its word and its match. Assumes nothing.
use Rattle.std.specs.Prelude.{Option, Some, None}
use mathlib.Core.{Path.◌≡◌, Path.refl, Path.sym, Path.ap, Path.◌∙◌, Path.subst, Bool.true, List.List}
use Prim.Native.Nat.{ℕ, ◌+◌, ◌<◌}
use native.Mathlib.Omega.{arith}
use lib.{IntN.ℤ, ListN.length}
use Rattle.model.specs.declared.{Image.Image, Fields.Fields, Refusal.TheVariants.Blocked, Refusal.TheVariants.Undefined, Refusal.TheVariants.ScriptEnded, Refusal.TheVariants.WordOutOfRange, Tested.Tested, Tested.TheVariants.Holds, Tested.TheVariants.Fails, Tested.TheVariants.Unsure}
use Rattle.model.specs.Answers.{row}
use Rattle.model.specs.Values.{of_size}
use Rattle.model.specs.Image.{Tables, tables_of, size_of}
use Rattle.model.specs.Rows.{expression, pattern, offer, OfferRow, is_emit, is_receive, an_offer, codes, lookup, shape_of, means_at}
use Rattle.model.specs.Trees.{Pat, any, bind, equals, guarded}
use Rattle.model.specs.Decode.{expression_at, pattern_at, offer_of}
use Rattle.model.specs.Typing.{type_of_pat}
use Rattle.model.specs.Run.{matched, failed, unsure, eval, match}
use Rattle.model.specs.Run as run
use Rattle.model.proofs.Rows.{Row, row_is, is-kind}
use Rattle.model.proofs.Codes.{code_of, code-of}
use Rattle.image.specs.Located.{Located, TypeOf}
use Rattle.image.proofs.Laid.{types-count, half_is}
use Rattle.demands.proofs.{Good.GoodPat, Good.GoodOffer, GoodRows.good-exp, GoodRows.good-pat, Whole.Whole, Whole.entry-of}
use Rattle.values.proofs.Held.{held, held-is}
use Rattle.typing.specs.Rules.{OfKind}
use Rattle.expressions.specs.Ready.{Runs}
use Rattle.expressions.proofs.Ways.{located, all, forms, value-small, local-is}
use Rattle.patterns.specs.Matching.{Tries, Matching, matching, matching_of, matches}
use Rattle.actions.specs.declared.{Word.Word, Word.TheVariants.Read, Word.TheVariants.Ended, Word.TheVariants.OutOfRange}
use Rattle.actions.specs.Words.{word_of}
use Rattle.actions.proofs.Drawing.{read_fits}
use Rattle.offers.specs.declared.{Offered.Offered}
use Rattle.offers.specs.Accepting.{Given, given, offer_by, emits, match_gives, word_gives, receives, accepts, gave, refused}
use Rattle.offers.specs.Asks.{Receives, Accepts}

-- an emission
module _ {s : List ℕ} {rows e : ℕ} {m : List ℤ} (h : Runs expression s rows e m) {v : Option ℤ} (q : v ≡ eval (tables_of s) (expression_at (tables_of s) e) m) (r n : ℕ) where
  pub emits-value : {z : ℤ} → v ≡ Some z → gave (held z) n ≡ emits (eval (tables_of s) (expression_at (tables_of s) e) m) r n
  emits-value f = ap (λ (a : ℤ). gave a n) (local-is h q f) ∙ sym (ap (λ (y : Option ℤ). emits y r n) (sym q ∙ f))

  pub emits-unknown : v ≡ None → refused (Undefined (row r)) n ≡ emits (eval (tables_of s) (expression_at (tables_of s) e) m) r n
  emits-unknown f = sym (ap (λ (y : Option ℤ). emits y r n) (sym q ∙ f))

-- a pattern's type is one of the image's
type-below : (x : Tables) → Whole x → (p : Pat) → GoodPat x p → type_of_pat x p < length x.sizes
unfolding GoodPat type_of_pat
type-below x w (any t) g = g
type-below x w (bind v) g = (entry-of x w.free v.0 g).type
type-below x w (equals t z) g = g.type
type-below x w (guarded p e) g = type-below x w p g.1

-- what a receipt gives by its match
module _ (r n : ℕ) (m k : List ℤ) (z : ℤ) (a : Tested) where
  when-matched : (y : run.Match) → matching a k ≡ matching_of y m → a ≡ Holds → given (gave z n) k ≡ match_gives r m n z y
  when-matched (matched l) e f = ap (λ (b : Matching). given (gave z n) b.store) e
  when-matched failed e f = let d = ap (λ (b : Matching). b.said) e in let t : ◌≡◌ {A = ℕ} 0 1 = cc in absurd (omega arith)
  when-matched unsure e f = let d = ap (λ (b : Matching). b.said) e in let t : ◌≡◌ {A = ℕ} 0 1 = cc in absurd (omega arith)

  when-failed : (y : run.Match) → matching a k ≡ matching_of y m → a ≡ Fails → given (refused (Blocked (row r)) n) k ≡ match_gives r m n z y
  when-failed (matched l) e f = let d = ap (λ (b : Matching). b.said) e in let t : ◌≡◌ {A = ℕ} 0 1 = cc in absurd (omega arith)
  when-failed failed e f = ap (λ (b : Matching). given (refused (Blocked (row r)) n) b.store) e
  when-failed unsure e f = let d = ap (λ (b : Matching). b.said) e in let t : ◌≡◌ {A = ℕ} 0 1 = cc in absurd (omega arith)

  when-unsure : (y : run.Match) → matching a k ≡ matching_of y m → a ≡ Unsure → given (refused (Undefined (row r)) n) k ≡ match_gives r m n z y
  when-unsure (matched l) e f = let d = ap (λ (b : Matching). b.said) e in let t : ◌≡◌ {A = ℕ} 0 1 = cc in absurd (omega arith)
  when-unsure failed e f = let d = ap (λ (b : Matching). b.said) e in let t : ◌≡◌ {A = ℕ} 0 1 = cc in absurd (omega arith)
  when-unsure unsure e f = ap (λ (b : Matching). given (refused (Undefined (row r)) n) b.store) e

-- a receipt
module _ {s : List ℕ} {i : Image} {p : ℕ} {m : List ℤ} (h : Receives s i p m) where
  there : Located s i
  there = rw h.trailer (located h.runs.ready)

  pub pattern-asks : OfKind s i pattern p
  pattern-asks =
      let w = all h.runs.ready in
      record { formed = record { located = there; entries = w.free.entries; rows = w.free.formed.each }; kind = h.runs.kind }

  pub type-inside : {t : ℕ} → t ≡ type_of_pat (tables_of s) (pattern_at (tables_of s) p) → TypeOf s i t
  type-inside {t} e =
      let w = all h.runs.ready in
      let b = type-below (tables_of s) w (pattern_at (tables_of s) p) (good-pat (tables_of s) w p h.runs.kind) in
      record { located = there; inside = omega (arith, b, types-count there) }

  -- by the word read for its type
  module _ (script : List ℕ) (r words : ℕ) {t n : ℕ} (e : t ≡ type_of_pat (tables_of s) (pattern_at (tables_of s) p)) (g : n ≡ size_of (tables_of s) t) {y : Word} (q : y ≡ word_of n script words) where
    size_is : n ≡ size_of (tables_of s) (type_of_pat (tables_of s) (pattern_at (tables_of s) p))
    size_is = g ∙ ap (size_of (tables_of s)) e

    receives-by : (a : Word) → y ≡ a → word_gives (tables_of s) (pattern_at (tables_of s) p) r m words a ≡ receives (tables_of s) (pattern_at (tables_of s) p) script r m words
    unfolding receives
    receives-by a f = ap (word_gives (tables_of s) (pattern_at (tables_of s) p) r m words) (sym f ∙ q ∙ ap (λ (k : ℕ). word_of k script words) size_is)

    pub receives-ended : y ≡ Ended → given (refused (ScriptEnded (row r)) words) m ≡ receives (tables_of s) (pattern_at (tables_of s) p) script r m words
    receives-ended f = receives-by Ended f

    pub receives-out : y ≡ OutOfRange → given (refused (WordOutOfRange (row r)) (words + 1)) m ≡ receives (tables_of s) (pattern_at (tables_of s) p) script r m words
    receives-out f = receives-by OutOfRange f

    module _ {z : ℤ} (f : y ≡ Read z) where
      word_typed : of_size (tables_of s).half (size_of (tables_of s) (type_of_pat (tables_of s) (pattern_at (tables_of s) p))) z ≡ true
      word_typed = subst (λ (k : ℕ). of_size (tables_of s).half k z ≡ true) size_is (rw (half_is s) (read_fits n script words q f))

      word-local : held z ≡ z
      word-local = held-is z (let b = value-small (all h.runs.ready) _ z word_typed in omega arith)

      pub tries : Tries s i.rows p (held z) m
      tries = record { runs = h.runs; typed = rw word-local word_typed }

      module _ {a : Tested} {k : List ℤ} (d : matching a k ≡ matches (tables_of s) (pattern_at (tables_of s) p) (held z) m) where
        match-as : matching a k ≡ matches (tables_of s) (pattern_at (tables_of s) p) z m
        match-as = rw word-local at d

        pub receives-matched : a ≡ Holds → given (gave (held z) (words + 1)) k ≡ receives (tables_of s) (pattern_at (tables_of s) p) script r m words
        receives-matched b = rw word-local (when-matched r (words + 1) m k z a (match (tables_of s) (pattern_at (tables_of s) p) z m) match-as b ∙ receives-by (Read z) f)

        pub receives-failed : a ≡ Fails → given (refused (Blocked (row r)) (words + 1)) k ≡ receives (tables_of s) (pattern_at (tables_of s) p) script r m words
        receives-failed b = when-failed r (words + 1) m k z a (match (tables_of s) (pattern_at (tables_of s) p) z m) match-as b ∙ receives-by (Read z) f

        pub receives-unsure : a ≡ Unsure → given (refused (Undefined (row r)) (words + 1)) k ≡ receives (tables_of s) (pattern_at (tables_of s) p) script r m words
        receives-unsure b = when-unsure r (words + 1) m k z a (match (tables_of s) (pattern_at (tables_of s) p) z m) match-as b ∙ receives-by (Read z) f

-- one offer, by its code
module _ {s : List ℕ} {i : Image} {w : Fields} {m : List ℤ} (h : Accepts s i w m) where
  means-here : (shape_of w.code).means ≡ means_at (tables_of s) h.row
  means-here = ap (λ (f : Fields). (shape_of f.code).means) h.fields

  row_as : (d : OfferRow) → means_at (tables_of s) h.row ≡ an_offer d → Row (tables_of s) h.row w (an_offer d)
  row_as d q = rw h.fields (row_is (tables_of s) (forms h.runs.ready) h.row (an_offer d) q)

  module _ (c : w.code ≡ 40) where
    is-emission : (shape_of w.code).means ≡ an_offer is_emit
    unfolding shape_of lookup codes
    is-emission = ap (λ (n : ℕ). (shape_of n).means) c

    pub emission : Runs expression s i.rows w.a m
    emission = record { ready = h.runs.ready; start = h.runs.start; kind = (row_as is_emit (sym means-here ∙ is-emission)).a.kind }

    pub accepts-emission : (script : List ℕ) (r n : ℕ) {o : Offered} → o ≡ emits (eval (tables_of s) (expression_at (tables_of s) w.a) m) r n
        → given o m ≡ accepts (tables_of s) (offer_by (tables_of s) w) script r m n
    unfolding accepts offer_of
    accepts-emission script r n e =
        ap (λ (o : Offered). given o m) e ∙ sym (ap (λ k. accepts (tables_of s) (offer_of (tables_of s) w k) script r m n) is-emission)

  module _ (c : w.code ≡ 40 → ⊥) where
    is-receipt : (shape_of w.code).means ≡ an_offer is_receive
    is-receipt =
        let d = is-kind (tables_of s) offer h.row h.runs.kind in
        means-here ∙ d.1 ∙ go d.0
        (ap code_of (sym d.1) ∙ code-of (tables_of s) offer h.row refl h.runs.kind ∙ ap (λ (f : Fields). f.code) (sym h.fields))
      where
        go : (d : OfferRow) → code_of (an_offer d) ≡ w.code → an_offer d ≡ an_offer is_receive
        go is_emit q = absurd (c (sym q))
        go is_receive q = refl

    pub receipt : Receives s i w.a m
    receipt =
        record {
          runs = record { ready = h.runs.ready; start = h.runs.start; kind = (row_as is_receive (sym means-here ∙ is-receipt)).a.kind };
          trailer = h.trailer;
        }

    pub accepts-receipt : (script : List ℕ) (r n : ℕ) {a : Given} → a ≡ receives (tables_of s) (pattern_at (tables_of s) w.a) script r m n
        → a ≡ accepts (tables_of s) (offer_by (tables_of s) w) script r m n
    unfolding accepts offer_of
    accepts-receipt script r n e = e ∙ sym (ap (λ k. accepts (tables_of s) (offer_of (tables_of s) w k) script r m n) is-receipt)

  pub offer-good : GoodOffer (tables_of s) (offer_by (tables_of s) w)
  unfolding offer_of
  offer-good = let d = is-kind (tables_of s) offer h.row h.runs.kind in go d.0 d.1
    where
      go : (d : OfferRow) → means_at (tables_of s) h.row ≡ an_offer d → GoodOffer (tables_of s) (offer_by (tables_of s) w)
      go is_emit q =
          subst (λ k. GoodOffer (tables_of s) (offer_of (tables_of s) w k)) (sym (means-here ∙ q))
          (good-exp (tables_of s) (all h.runs.ready) w.a (row_as is_emit q).a.kind)
      go is_receive q =
          subst (λ k. GoodOffer (tables_of s) (offer_of (tables_of s) w k)) (sym (means-here ∙ q))
          (good-pat (tables_of s) (all h.runs.ready) w.a (row_as is_receive q).a.kind)
