-- The masks of a row at each code that the table of arms names, and at the codes that it leaves out. Assumes nothing.
use mathlib.Core.{Path.◌≡◌, Path.refl, Path.sym, Path.ap, Path.◌∙◌, Path.subst, Logic.◌⊎◌, Logic.inl, Logic.inr, Logic.⊎_elim, Bool.Bool, Bool.true, Bool.false, Bool.◌&&◌, Bool.◌||◌, Bool.true≢false, List.List, List.[], List.◌∷◌}
use Prim.Native.Nat.{ℕ, zero, suc, ◌+◌, ◌≤◌, ◌<◌}
use native.Mathlib.{Nat.eq-or-lt_of_le, Decide.dec_lt, Omega.arith}
use lib.{Dec.eqb, Dec.leb, Bits.bit_or}
use borrow.Author.Tests.{leb-true, eqb-true, ne_eqb}
use Rattle.model.specs.declared.Fields.{Fields}
use Rattle.model.specs.Masks.{bit, join, without}
use Rattle.model.specs.Image.{between}
use Rattle.model.specs.Rows.{Shape, codes, lookup, shape_of}
use Rattle.model.proofs.Rows.{both_true, one-true}
use Rattle.model.proofs.Codes.{shape-past}
use Rattle.masks.specs.declared.Masks.{Masks}
use Rattle.masks.specs.Masks.{masks}
use Rattle.masks.specs.Rows.{masks_by, Small}

-- ---- n numbers from i on: a property of each, a test of each
abbrev pub Each : (ℕ → Type 0) → ℕ → ℕ → Type 0
Each p i zero = Unit
Each p i (suc n) = p i × Each p (suc i) n

pub each_at : (p : ℕ → Type 0) (i n : ℕ) → Each p i n → (c : ℕ) → i ≤ c → c < i + n → p c
each_at p i zero t c h k = absurd (omega arith)
each_at p i (suc n) t c h k =
    ⊎_elim (λ (e : i ≡ c). rw e at t.0) (λ l. each_at p (suc i) n t.1 c (omega arith) (omega arith)) (eq-or-lt_of_le {n = i} {m = c} h)

unfoldable pub all_from : (ℕ → Bool) → ℕ → ℕ → Bool
all_from p i zero = true
all_from p i (suc n) = p i && all_from p (suc i) n

pub all-from : (p : ℕ → Bool) (i n : ℕ) → all_from p i n ≡ true → (c : ℕ) → i ≤ c → c < i + n → p c ≡ true
unfolding all_from
all-from p i zero t c h k = absurd (omega arith)
all-from p i (suc n) t c h k =
    let q = both_true (p i) (all_from p (suc i) n) t in
    ⊎_elim (λ (e : i ≡ c). rw e at q.0) (λ l. all-from p (suc i) n q.1 c (omega arith) (omega arith)) (eq-or-lt_of_le {n = i} {m = c} h)

-- ---- the codes that no arm names
-- what a match knows past its arms of single numbers
abbrev pub Rest : ℕ → Type 0
Rest c =
    ((((((((((((((((Unit {0}
    × (c ≡ 1 → ⊥))
    × ((c ≡ 16) ⊎ (c ≡ 19) → ⊥))
    × ((c ≡ 33) ⊎ (c ≡ 47) → ⊥))
    × (c ≡ 35 → ⊥))
    × (c ≡ 40 → ⊥))
    × (c ≡ 41 → ⊥))
    × (c ≡ 44 → ⊥))
    × (c ≡ 45 → ⊥))
    × (c ≡ 46 → ⊥))
    × (c ≡ 52 → ⊥))
    × (c ≡ 53 → ⊥))
    × ((c ≡ 54) ⊎ (c ≡ 57) → ⊥))
    × (c ≡ 55 → ⊥))
    × ((c ≡ 56) ⊎ (c ≡ 59) → ⊥))
    × (c ≡ 58 → ⊥))
    × (c ≡ 60 → ⊥))

-- those numbers
arms : List ℕ
arms = 1 ∷ 16 ∷ 19 ∷ 33 ∷ 47 ∷ 35 ∷ 40 ∷ 41 ∷ 44 ∷ 45 ∷ 46 ∷ 52 ∷ 53 ∷ 54 ∷ 57 ∷ 55 ∷ 56 ∷ 59 ∷ 58 ∷ 60 ∷ []

among : List ℕ → ℕ → Bool
among [] c = false
among (k ∷ ks) c = eqb c k || among ks c

not-among : (c : ℕ) → Rest c → among arms c ≡ false
unfolding among arms
not-among c t =
    rw (ne_eqb c 1 t.0.0.0.0.0.0.0.0.0.0.0.0.0.0.0.1, ne_eqb c 16 (λ e. t.0.0.0.0.0.0.0.0.0.0.0.0.0.0.1 (inl e)), ne_eqb c 19 (λ e. t.0.0.0.0.0.0.0.0.0.0.0.0.0.0.1 (inr e)), ne_eqb c 33 (λ e. t.0.0.0.0.0.0.0.0.0.0.0.0.0.1 (inl e)), ne_eqb c 47 (λ e. t.0.0.0.0.0.0.0.0.0.0.0.0.0.1 (inr e)), ne_eqb c 35 t.0.0.0.0.0.0.0.0.0.0.0.0.1, ne_eqb c 40 t.0.0.0.0.0.0.0.0.0.0.0.1, ne_eqb c 41 t.0.0.0.0.0.0.0.0.0.0.1, ne_eqb c 44 t.0.0.0.0.0.0.0.0.0.1, ne_eqb c 45 t.0.0.0.0.0.0.0.0.1, ne_eqb c 46 t.0.0.0.0.0.0.0.1, ne_eqb c 52 t.0.0.0.0.0.0.1, ne_eqb c 53 t.0.0.0.0.0.1, ne_eqb c 54 (λ e. t.0.0.0.0.1 (inl e)), ne_eqb c 57 (λ e. t.0.0.0.0.1 (inr e)), ne_eqb c 55 t.0.0.0.1, ne_eqb c 56 (λ e. t.0.0.1 (inl e)), ne_eqb c 59 (λ e. t.0.0.1 (inr e)), ne_eqb c 58 t.0.1, ne_eqb c 60 t.1)

module _ (m : ℕ → Masks) (w : Fields) where
  abbrev At : ℕ → Masks
  At c = masks_by m w (shape_of c).means

  -- 1
  pub at-variable : w.code ≡ 1 → masks (bit w.a) 0 0 ≡ At w.code
  unfolding masks_by shape_of lookup codes
  at-variable e = sym (ap At e)

  -- 16 and 19
  pub at-unary : (w.code ≡ 16) ⊎ (w.code ≡ 19) → masks (m w.a).uses 0 0 ≡ At w.code
  unfolding masks_by shape_of lookup codes
  at-unary e = ⊎_elim (λ p. sym (ap At p)) (λ q. sym (ap At q)) e

  -- 33 and 47
  pub at-bind : (w.code ≡ 33) ⊎ (w.code ≡ 47) → masks 0 (bit w.a) 0 ≡ At w.code
  unfolding masks_by shape_of lookup codes
  at-bind e = ⊎_elim (λ p. sym (ap At p)) (λ q. sym (ap At q)) e

  -- 35
  pub at-where : w.code ≡ 35 → masks (bit_or (without (m w.b).uses (m w.a).defs) (m w.a).uses) (m w.a).defs 0 ≡ At w.code
  unfolding masks_by shape_of lookup codes join
  at-where e = sym (ap At e)

  -- 40
  pub at-emit : w.code ≡ 40 → masks (join (m w.a).uses (m w.b).uses) (m w.b).defs 0 ≡ At w.code
  unfolding masks_by shape_of lookup codes
  at-emit e = sym (ap At e)

  -- 41
  pub at-receive : w.code ≡ 41 → masks (join (m w.a).uses (m w.b).uses) (join (m w.a).defs (m w.b).defs) 0 ≡ At w.code
  unfolding masks_by shape_of lookup codes
  at-receive e = sym (ap At e)

  -- 44
  pub at-gets : w.code ≡ 44 → masks (join (m w.b).uses (m w.c).uses) (bit_or (bit w.a) (m w.c).defs) 0 ≡ At w.code
  unfolding masks_by shape_of lookup codes join
  at-gets e = sym (ap At e)

  -- 45
  pub at-of-type : w.code ≡ 45 → masks 0 (bit_or (bit w.a) (m w.c).defs) 0 ≡ At w.code
  unfolding masks_by shape_of lookup codes join
  at-of-type e = sym (ap At e)

  -- 46
  pub at_item : w.code ≡ 46 → masks 0 (bit_or (bit w.a) (m w.b).defs) 0 ≡ At w.code
  unfolding masks_by shape_of lookup codes join
  at_item e = sym (ap At e)

  -- 52
  pub at-communicate : w.code ≡ 52 → masks 0 (m w.b).defs 0 ≡ At w.code
  unfolding masks_by shape_of lookup codes
  at-communicate e = sym (ap At e)

  -- 53
  pub at-to : w.code ≡ 53 → masks 0 0 (bit w.a) ≡ At w.code
  unfolding masks_by shape_of lookup codes
  at-to e = sym (ap At e)

  -- 54 and 57
  pub at-then : (w.code ≡ 54) ⊎ (w.code ≡ 57) → masks 0 (join (m w.a).defs (m w.b).defs) (join (m w.a).leads (m w.b).leads) ≡ At w.code
  unfolding masks_by shape_of lookup codes
  at-then e = ⊎_elim (λ p. sym (ap At p)) (λ q. sym (ap At q)) e

  -- 55
  pub at-select : w.code ≡ 55 → masks 0 (m w.a).defs (m w.a).leads ≡ At w.code
  unfolding masks_by shape_of lookup codes
  at-select e = sym (ap At e)

  -- 56 and 59
  pub at-case : (w.code ≡ 56) ⊎ (w.code ≡ 59) → masks 0 (m w.b).defs (m w.b).leads ≡ At w.code
  unfolding masks_by shape_of lookup codes
  at-case e = ⊎_elim (λ p. sym (ap At p)) (λ q. sym (ap At q)) e

  -- 58
  pub at-arm : w.code ≡ 58 → masks (join (m w.a).uses (m w.c).uses) (bit_or (m w.a).defs (join (m w.b).defs (m w.c).defs)) (join (m w.b).leads (m w.c).leads) ≡ At w.code
  unfolding masks_by shape_of lookup codes join
  at-arm e = sym (ap At e)

  -- 60
  pub at-for : w.code ≡ 60 → masks 0 (join (m w.a).defs (m w.b).defs) (m w.b).leads ≡ At w.code
  unfolding masks_by shape_of lookup codes
  at-for e = sym (ap At e)

  -- 17, 18 and 20 to 27
  pub at-binary : 16 ≤ w.code → w.code < 28 → Rest w.code → masks (join (m w.a).uses (m w.b).uses) 0 0 ≡ At w.code
  unfolding masks_by shape_of lookup codes among arms
  at-binary h k t =
      ⊎_elim (λ p. absurd (true≢false (sym p ∙ not-among w.code t))) (λ q. q)
      (each_at (λ n. (among arms n ≡ true) ⊎ (masks (join (m w.a).uses (m w.b).uses) 0 0 ≡ At n)) 16 12
      (inl refl, (inr refl, (inr refl, (inl refl, (inr refl, (inr refl, (inr refl, (inr refl, (inr refl, (inr refl, (inr refl, (inr refl, tt)))))))))))) w.code h k)

  -- 49 to 51
  pub at-vector : 49 ≤ w.code → w.code < 52 → masks 0 (m w.a).defs 0 ≡ At w.code
  unfolding masks_by shape_of lookup codes
  at-vector h k = each_at (λ n. masks 0 (m w.a).defs 0 ≡ At n) 49 3 (refl, (refl, (refl, tt))) w.code h k

  -- every other code: its row has nothing
  Nothing : ℕ → Bool
  Nothing c = eqb (At c).uses 0 && (eqb (At c).defs 0 && eqb (At c).leads 0)

  quiet : ℕ → Bool
  quiet c = between 16 c 27 || (between 49 c 51 || (among arms c || Nothing c))

  quiet-below : all_from quiet 0 61 ≡ true
  unfolding all_from quiet Nothing among arms masks_by shape_of lookup codes
  quiet-below = refl

  outside : (a c b : ℕ) → (a ≤ c → c ≤ b → ⊥) → between a c b ≡ true → ⊥
  outside a c b f e = let p = both_true (leb a c) (leb c b) e in f (leb-true a c p.0) (leb-true c b p.1)

  nothing : (c : ℕ) → Nothing c ≡ true → masks 0 0 0 ≡ At c
  unfolding Nothing
  nothing c e =
      let p = both_true (eqb (At c).uses 0) _ e in
      let q = both_true (eqb (At c).defs 0) _ p.1 in
      sym (three (eqb-true _ _ p.0) (eqb-true _ _ q.0) (eqb-true _ _ q.1))
    where
      three : {u d l : ℕ} → u ≡ 0 → d ≡ 0 → l ≡ 0 → masks u d l ≡ masks 0 0 0
      three a b c = rw (a, b, c)

  pub at_other : (16 ≤ w.code → w.code ≤ 27 → ⊥) → (49 ≤ w.code → w.code ≤ 51 → ⊥) → Rest w.code → masks 0 0 0 ≡ At w.code
  unfolding quiet masks_by shape_of
  at_other f g t = go (dec_lt w.code 61)
    where
      go : Dec (w.code < 61) → masks 0 0 0 ≡ At w.code
      go (yes k) =
          ⊎_elim (λ e. absurd (outside 16 w.code 27 f e))
          (λ e. ⊎_elim (λ p. absurd (outside 49 w.code 51 g p))
          (λ p. ⊎_elim (λ q. absurd (true≢false (sym q ∙ not-among w.code t))) (nothing w.code) (one-true _ _ p)) (one-true _ _ e))
          (one-true _ _ (all-from quiet 0 61 quiet-below w.code (omega arith) k))
      go (no k) = sym (ap (λ (s : Shape). masks_by m w s.means) (shape-past w.code (omega arith)))

-- the numbers of bits that a row holds
module _ (c n : ℕ) (p : Small (shape_of c).means n) where
  abbrev Bit : ℕ → Type 0
  Bit k = Small (shape_of k).means n

  pub bit-variable : c ≡ 1 → n < 64
  unfolding shape_of lookup codes
  bit-variable e = subst Bit e p

  pub bit-bind : (c ≡ 33) ⊎ (c ≡ 47) → n < 64
  unfolding shape_of lookup codes
  bit-bind e = ⊎_elim (λ q. subst Bit q p) (λ q. subst Bit q p) e

  pub bit-gets : c ≡ 44 → n < 64
  unfolding shape_of lookup codes
  bit-gets e = subst Bit e p

  pub bit-of-type : c ≡ 45 → n < 64
  unfolding shape_of lookup codes
  bit-of-type e = subst Bit e p

  pub bit-item : c ≡ 46 → n < 64
  unfolding shape_of lookup codes
  bit-item e = subst Bit e p

  pub bit-to : c ≡ 53 → n < 64
  unfolding shape_of lookup codes
  bit-to e = subst Bit e p
