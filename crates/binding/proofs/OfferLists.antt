-- A list of offers, row by row: what an offer defines or uses is apart from what later ones define. Assumes nothing.
use mathlib.Core.{Path.◌≡◌, Path.sym, Path.ap, Path.◌∙◌, Path.subst, Logic.◌⊎◌, Logic.inl, Logic.inr, Logic.⊎_elim, Bool.Bool, Bool.true, Bool.false, Bool.◌&&◌, List.List, List.map}
use Prim.Native.Nat.{ℕ, ◌+◌, ◌%◌, ◌≤◌, ◌<◌}
use native.Mathlib.Omega.{arith}
use lib.ListN.{length}
use Rattle.model.specs.declared.{Fields.Fields, Image.Image}
use Rattle.model.specs.Masks.{apart}
use Rattle.model.specs.Image.{Tables, none, tables_of, fields_of, row_count}
use Rattle.model.specs.Rows.{Kind, offer, OfferRow, is_emit, is_receive, an_offer, means_at, is_kind, next_of}
use Rattle.model.specs.Decode.{offer_of, offers_at}
use Rattle.model.specs.Binding.{use_of_offer, def_of_offer, distinct, ordered}
use Rattle.model.proofs.Rows.{Formed, Named, kind-of, is-kind, kind-in, row_is, next-named, and-false}
use Rattle.model.proofs.Decode.{list_at-none, list_at-step}
use Rattle.image.specs.Located.{RowOf}
use Rattle.masks.specs.declared.Masks.{Masks}
use Rattle.masks.specs.Masks.{use_at, def_at, masks_in}
use Rattle.masks.proofs.ByKind.{next-is, use-expression, def-expression, use-pattern, def-pattern, def-offers}
use Rattle.binding.specs.Bound.{bound_offers, Offers}
use Rattle.binding.proofs.Readings.{ok, short, in_rows, few, read-use, read-def}

-- what an offer's row says of itself and of the row that it names
record Own (x : Tables) (r : ℕ) : Type 0 where
  next : next_of x r ≡ (fields_of x r).b
  below : (fields_of x r).a < r
  defines : def_of_offer (offer_of x (fields_of x r) (means_at x r)) ≡ def_at x (fields_of x r).a
  uses : use_of_offer (offer_of x (fields_of x r) (means_at x r)) ≡ use_at x (fields_of x r).a

module _ (x : Tables) (good : Formed x) (size : length x.rows ≤ none) where
  own : (r : ℕ) → is_kind x offer r ≡ true → Own x r
  unfolding offer_of
  own r k = let m = is-kind x offer r k in go m.0 m.1
    where
      go : (e : OfferRow) → means_at x r ≡ an_offer e → Own x r
      go is_emit q =
          let p = (row_is x good r _ q).a in
          record { next = next-is x r _ q; below = p.below; defines = rw (q, def-expression x _ p.kind); uses = rw (q, use-expression x _ p.kind) }
      go is_receive q =
          let p = (row_is x good r _ q).a in
          record { next = next-is x r _ q; below = p.below; defines = rw (q, def-pattern x _ p.kind); uses = rw (q, use-pattern x _ p.kind) }

  turn : (r : ℕ) → (r ≡ none → ⊥) → Own x r → (next_of x r ≡ none) ⊎ Named x r offer (next_of x r)
      → bound_offers (offers_at x r)
      ≡ ((apart (def_at x (fields_of x r).a) (def_at x (next_of x r)) && distinct (map def_of_offer (offers_at x (next_of x r))))
      && (apart (use_at x (fields_of x r).a) (def_at x (next_of x r)) && ordered (offers_at x (next_of x r))))
  unfolding bound_offers distinct ordered
  turn r some o q = rw (list_at-step x good r some, o.defines, o.uses, def-offers x good size r (next_of x r) q)

-- row r of the list
module _ {s : List ℕ} {i : Image} {r : ℕ} {ms : List Masks} (v : Offers s i r ms) where
  pub offers-over : r ≡ none → true ≡ bound_offers (offers_at (tables_of s) r)
  unfolding bound_offers distinct ordered
  offers-over e = rw (e, list_at-none (tables_of s) (ok v.rooted))

  module _ (here : r ≡ none → ⊥) where
    offer-kind : is_kind (tables_of s) offer r ≡ true
    offer-kind = ⊎_elim (λ e. absurd (here e)) (λ k. k) v.starts

    offer-inside : r < row_count i
    offer-inside = in_rows v.rooted r (kind-in (tables_of s) offer r (λ e. let z : ◌≡◌ {A = ℕ} 0 1 = cc in omega arith) offer-kind)

    pub offer-row : RowOf s i r
    offer-row = record { located = v.rooted.formed.located; inside = offer-inside }

    offer-own : Own (tables_of s) r
    offer-own = own (tables_of s) (ok v.rooted) (short v.rooted) r offer-kind

    offer-named : (next_of (tables_of s) r ≡ none) ⊎ Named (tables_of s) r offer (next_of (tables_of s) r)
    offer-named =
        subst (λ (k : Kind). (next_of (tables_of s) r ≡ none) ⊎ Named (tables_of s) r k (next_of (tables_of s) r))
        (kind-of (tables_of s) offer r offer-kind) (next-named (tables_of s) (ok v.rooted) r)

    module _ (w : Fields) (e : w ≡ fields_of (tables_of s) r) where
      next-eq : w.b ≡ next_of (tables_of s) r
      next-eq = ap (λ (f : Fields). f.b) e ∙ sym offer-own.next

      next-at : (w.b ≡ none) ⊎ Named (tables_of s) r offer w.b
      next-at = rw next-eq offer-named

      pub offer-next : Offers s i w.b ms
      offer-next = record {
        rooted = v.rooted;
        exact = v.exact;
        starts = ⊎_elim (λ q. inl q) (λ q. inr q.kind) next-at;
      }

      pub offer-less : (w.b + 1) % 65536 < (r + 1) % 65536
      offer-less = go next-at
        where
          go : (w.b ≡ none) ⊎ Named (tables_of s) r offer w.b → (w.b + 1) % 65536 < (r + 1) % 65536
          go (inl q) = omega (arith, offer-inside, few v.rooted)
          go (inr q) = omega (arith, q.below, offer-inside, few v.rooted)

      -- n: the masks of the later offers; m: those of this one
      module _ (n m : Masks) (g : n ≡ masks_in ms w.b) (h : m ≡ masks_in ms w.a) where
        later-is : n.defs ≡ def_at (tables_of s) (next_of (tables_of s) r)
        later-is = ap (λ (k : Masks). k.defs) g ∙ ap (λ r. (masks_in ms r).defs) next-eq ∙ read-def v.rooted v.exact _ lower
          where
            lower : (next_of (tables_of s) r ≡ none) ⊎ (next_of (tables_of s) r < row_count i)
            lower = ⊎_elim (λ q. inl q) (λ q. inr (omega (arith, q.below, offer-inside))) offer-named

        defines-is : m.defs ≡ def_at (tables_of s) (fields_of (tables_of s) r).a
        defines-is =
            ap (λ (k : Masks). k.defs) h ∙ ap (λ (f : Fields). (masks_in ms f.a).defs) e
            ∙ read-def v.rooted v.exact _ (inr (omega (arith, offer-own.below, offer-inside)))

        uses-is : m.uses ≡ use_at (tables_of s) (fields_of (tables_of s) r).a
        uses-is =
            ap (λ (k : Masks). k.uses) h ∙ ap (λ (f : Fields). (masks_in ms f.a).uses) e
            ∙ read-use v.rooted v.exact _ (inr (omega (arith, offer-own.below, offer-inside)))

        offer-turn : bound_offers (offers_at (tables_of s) r)
            ≡ ((apart m.defs n.defs && distinct (map def_of_offer (offers_at (tables_of s) w.b))) && (apart m.uses n.defs && ordered (offers_at (tables_of s) w.b)))
        offer-turn =
            turn (tables_of s) (ok v.rooted) (short v.rooted) r here offer-own offer-named
            ∙ rw (defines-is, uses-is, later-is, next-eq)

        module _ (a b : Bool) (t : a ≡ apart m.defs n.defs) (y : b ≡ apart m.uses n.defs) where
          pub offer-uses : b ≡ false → false ≡ bound_offers (offers_at (tables_of s) r)
          offer-uses q = sym (offer-turn ∙ rw (← y, q) (and-false (apart m.defs n.defs && distinct (map def_of_offer (offers_at (tables_of s) w.b)))))

          pub offer-passes : a ≡ true → b ≡ true → bound_offers (offers_at (tables_of s) w.b) ≡ bound_offers (offers_at (tables_of s) r)
          unfolding bound_offers
          offer-passes p q = sym (offer-turn ∙ rw (← t, ← y, p, q))

      pub offer-defines : (n m : Masks) → n ≡ masks_in ms w.b → m ≡ masks_in ms w.a → (a : Bool) → a ≡ apart m.defs n.defs
          → a ≡ false → false ≡ bound_offers (offers_at (tables_of s) r)
      offer-defines n m g h a t q = sym (offer-turn n m g h ∙ rw (← t, q))
