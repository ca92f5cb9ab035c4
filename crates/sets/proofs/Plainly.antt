-- An action without parts that doesn't jump: its masks give Figure 7's sets, one law a code. Assumes nothing.
use mathlib.Core.{Path.◌≡◌, Path.refl, Path.sym, Path.ap, Path.ap₂, Path.◌∙◌, Path.subst, Bool.Bool, Bool.true, Bool.◌&&◌, List.List}
use Prim.Native.Nat.{ℕ, ◌<◌}
use native.Mathlib.Omega.{arith}
use lib.{Bits.bit_or}
use Rattle.model.specs.declared.Fields.{Fields}
use Rattle.model.specs.Answers.{gate}
use Rattle.model.specs.Masks.{join, without, inside}
use Rattle.model.specs.Image.{Tables, fields_of}
use Rattle.model.specs.Rows.{action, is_kind, is_assign, is_choose, is_reset, is_communicate}
use Rattle.model.specs.Trees.{at, Act, null, assign, choose, reset, communicate}
use Rattle.model.specs.Decode.{grow_action, action_at, condition_at, offers_at, gets_at, of_types_at, variables_at}
use Rattle.model.specs.Binding.{use_of_exp}
use Rattle.model.specs.Sets.{ends, ends_act, fine, fine_act, jumps, jumps_act}
use Rattle.masks.specs.declared.Masks.{Masks}
use Rattle.masks.specs.Masks.{masks_in}
use Rattle.sets.specs.Flow.{Plain}
use Rattle.sets.proofs.Tests.{and-true, inside-all}
use Rattle.sets.proofs.Rows.{named-list, Base, action-row, action-is, null_is, use-condition, use-gets, def-gets, def-of_types, def-items, use-offers, def-offers, uses, defs}

plain-as : {x : Tables} {r m : ℕ} (a : Act) {ok f : Bool} {n : ℕ} → action_at x r ≡ at r a → ((top : ℕ) → n ≡ ends_act top m a)
    → ((top : ℕ) → f ≡ fine_act top m a) → ((top q : ℕ) → jumps_act q top m a ≡ top) → Plain x r m ok (ok && f) n
unfolding ends fine jumps
plain-as {m = m} a {ok} e k g h = record {
  ends = λ top. k top ∙ sym (ap (ends top m) e);
  fine = λ top. ap (λ t. ok && t) (g top ∙ sym (ap (fine top m) e));
  jumps = λ top q. ap (jumps q top m) e ∙ h top q;
}

-- nothing is read
plain-unread : {x : Tables} {r m : ℕ} (a : Act) {ok : Bool} {n : ℕ} → action_at x r ≡ at r a → ((top : ℕ) → n ≡ ends_act top m a)
    → ((top : ℕ) → true ≡ fine_act top m a) → ((top q : ℕ) → jumps_act q top m a ≡ top) → Plain x r m ok ok n
plain-unread {x} {r} {m} a {ok} {n} e k g h = subst (λ t. Plain x r m ok t n) (and-true ok) (plain-as a e k g h)

module _ {x : Tables} {ms : List Masks} (b : Base x ms) (r : ℕ) {w : Fields} (reads : w ≡ fields_of x r) where
  module _ (m : ℕ) (k : Masks) (f : Bool) {ok : Bool} where
    pub do-assign : w.code ≡ 49 → k ≡ masks_in ms w.a → f ≡ inside k.uses m → Plain x r m ok (ok && f) (bit_or m k.defs)
    unfolding grow_action ends_act fine_act jumps_act join
    do-assign c e h =
        let q = (action-row x b.ok r w reads is_assign c).a.0.kind in
        plain-as (assign (gets_at x w.a)) (action-is x b.ok r w reads is_assign c) (λ top. ap (join m) (ap defs e ∙ def-gets b w.a q))
        (λ top. h ∙ ap (λ n. inside n m) (ap uses e ∙ use-gets b w.a q) ∙ inside-all (λ i. use_of_exp i.e) m (gets_at x w.a)) (λ top q. refl)

    pub do-choose : (n : Masks) → w.code ≡ 50 → k ≡ masks_in ms w.a → n ≡ masks_in ms w.b → f ≡ inside n.uses (bit_or m k.defs)
        → Plain x r m ok (ok && f) (bit_or m k.defs)
    unfolding grow_action ends_act fine_act jumps_act join
    do-choose n c e g h =
        let q = action-row x b.ok r w reads is_choose c in
        let after = ap (join m) (ap defs e ∙ def-of_types b w.a q.a.0.kind) in
        plain-as (choose (of_types_at x w.a) (condition_at x w.b)) (action-is x b.ok r w reads is_choose c) (λ top. after)
        (λ top. h ∙ ap₂ inside (ap uses g ∙ use-condition b w.b q.b) after) (λ top q. refl)

    pub do-communicate : w.code ≡ 52 → k ≡ masks_in ms w.b → f ≡ inside k.uses (bit_or m k.defs) → Plain x r m ok (ok && f) (bit_or m k.defs)
    unfolding grow_action ends_act fine_act jumps_act join
    do-communicate c e h =
        let q = named-list (action-row x b.ok r w reads is_communicate c).b in
        let after = ap (join m) (ap defs e ∙ def-offers b w.b q) in
        plain-as (communicate (gate w.a) (offers_at x w.b)) (action-is x b.ok r w reads is_communicate c) (λ top. after)
        (λ top. h ∙ ap₂ inside (ap uses e ∙ use-offers b w.b q) after) (λ top q. refl)

  pub do-reset : (m : ℕ) (k : Masks) {n : ℕ} {ok : Bool} → w.code ≡ 51 → k ≡ masks_in ms w.a → n ≡ without m k.defs → Plain x r m ok ok n
  unfolding grow_action ends_act fine_act jumps_act
  do-reset m k c e h =
      plain-unread (reset (variables_at x w.a)) (action-is x b.ok r w reads is_reset c)
      (λ top. h ∙ ap (without m) (ap defs e ∙ def-items b w.a (action-row x b.ok r w reads is_reset c).a.0.kind))
      (λ top. refl) (λ top q. refl)

  pub do-null : (m : ℕ) {ok : Bool} → is_kind x action r ≡ true → (fields_of x r).code < 53 → (w.code ≡ 49 → ⊥) → (w.code ≡ 50 → ⊥) → (w.code ≡ 51 → ⊥) → (w.code ≡ 52 → ⊥)
      → Plain x r m ok ok m
  unfolding ends_act fine_act jumps_act
  do-null m k l p q s t = plain-unread null (null_is x b.ok r w reads k (omega (arith, ap (λ (v : Fields). v.code) reads)) p q s t) (λ top. refl) (λ top. refl) (λ top q. refl)
