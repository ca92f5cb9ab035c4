-- Figure 7 judges offers by all that they define, and the run goes from left to right: where binding holds, what an offer uses is
-- there before it. Assumes nothing.
use mathlib.Core.{Path.◌≡◌, Bool.true, List.List, List.[], List.◌∷◌, List.map}
use Prim.Native.Nat.{ℕ, ◌+◌, ◌≤◌}
use native.Mathlib.Omega.{arith}
use Rattle.model.specs.Masks.{digit, join, without, apart}
use Rattle.model.specs.Largest.{Sub}
use Rattle.model.specs.Trees.{Pat, any, bind, equals, guarded, Offer, emit, receive}
use Rattle.model.specs.Binding.{use_of_exp, def_of_pat, use_of_pat, use_of_offer, def_of_offer, use_of_offers, def_of_offers, ordered}
use Rattle.model.proofs.Rows.{both_true}
use Rattle.model.proofs.Masks.{digit-le, digit-zero, digit-join, digit-without, union-has}
use Rattle.demands.proofs.Subsets.{apart-sum, join-next}

-- nothing is used that is defined there
pat-apart : (p : Pat) (v : ℕ) → digit (use_of_pat p) v + digit (def_of_pat p) v ≤ 1
unfolding use_of_pat def_of_pat
pat-apart (any t) v = omega (arith, digit-zero v)
pat-apart (bind w) v = omega (arith, digit-zero v, digit-le (def_of_pat (bind w)) v)
pat-apart (equals t z) v = omega (arith, digit-zero v)
pat-apart (guarded p e) v =
    let u = without (use_of_exp e) (def_of_pat p) in
    omega (arith, pat-apart p v, digit-join u (use_of_pat p) v, digit-without (use_of_exp e) (def_of_pat p) v, digit-le (use_of_exp e) v)

offer-apart : (o : Offer) (v : ℕ) → digit (use_of_offer o) v + digit (def_of_offer o) v ≤ 1
offer-apart (emit e) v = omega (arith, digit-zero v, digit-le (use_of_exp e) v)
offer-apart (receive p) v = pat-apart p v

-- each offer uses only what is there before it
unfoldable pub Threaded : ℕ → List Offer → Type 0
Threaded b [] = Unit
Threaded b (o ∷ os) = Sub (use_of_offer o) b × Threaded (join b (def_of_offer o)) os

use-now : (b : ℕ) (o : Offer) (os : List Offer) → apart (use_of_offer o) (def_of_offers os) ≡ true
    → Sub (use_of_offers (o ∷ os)) (join b (def_of_offers (o ∷ os))) → Sub (use_of_offer o) b
use-now b o os a s v =
    let u = use_of_offer o in
    let d = def_of_offer o in
    omega (
      arith,
      s v,
      union-has u (map use_of_offer os) v,
      union-has d (map def_of_offer os) v,
      digit-join b (def_of_offers (o ∷ os)) v,
      offer-apart o v,
      apart-sum u (def_of_offers os) a v,
      digit-le u v,
    )

pub threads : (b : ℕ) (os : List Offer) → ordered os ≡ true → Sub (use_of_offers os) (join b (def_of_offers os)) → Threaded b os
unfolding ordered Threaded
threads b [] w s = tt
threads b (o ∷ os) w s =
    let p = both_true (apart (use_of_offer o) (def_of_offers os)) (ordered os) w in
    let later : Sub (use_of_offers os) (join b (def_of_offers (o ∷ os))) = λ v. omega (arith, s v, union-has (use_of_offer o) (map use_of_offer os) v) in
    (use-now b o os p.0 s, threads (join b (def_of_offer o)) os p.1 (join-next (use_of_offers os) b (def_of_offer o) (map def_of_offer os) later))
