-- The judgements of a for are those of its expansion, and its body leaves its variable alone; an expression has one type.
-- Assumes nothing.
use mathlib.Core.{Path.◌≡◌, Path.sym, Path.◌∙◌, Path.subst}
use Prim.Native.Nat.{ℕ}
use lib.IntN.{ℤ}
use Rattle.model.specs.declared.Variable.{Variable}
use Rattle.model.specs.Image.{Tables, int}
use Rattle.model.specs.Trees.{Exp, Pat, var, Action, at, for}
use Rattle.model.specs.Figure2.{expansion}
use Rattle.demands.specs.Common.{Iff, none_left, one_more, no_pair, more_pairs}
use Rattle.demands.specs.Judgements.{HasType, t_var, t_const, t_binary, p_arithmetic, p_at_most, PatType, WellTyped, t_at, t_assign, t_then, t_while, t_for, Touched, WellBound, b_at, b_assign, b_then, b_while, b_for}
use Rattle.demands.proofs.TypingTrees.{type-is, pattern-is}

module _ (x : Tables) where
  -- type(E), type(P) are functions where they are defined
  pub one_type : {e : Exp} {s t : ℕ} → HasType x e s → HasType x e t → s ≡ t
  one_type h k = sym (type-is x h) ∙ type-is x k

  pub one-pattern-type : {p : Pat} {s t : ℕ} → PatType x p s → PatType x p t → s ≡ t
  one-pattern-type h k = sym (pattern-is x h) ∙ pattern-is x k

  module _ (r : ℕ) (v : Variable) (low high : ℤ) (a : Action) where
    typed-on : WellTyped x (at r (for v low high a)) → WellTyped x (expansion r v low high a)
    typed-on (t_at (t_for h k)) =
        let i : HasType x (var v) int = subst (HasType x (var v)) h t_var in
        t_at (t_then (t_at (t_assign (one_more (subst (HasType x _) (sym h) t_const) none_left)))
        (t_at (t_while (t_binary p_at_most i t_const)
        (t_at (t_then k (t_at (t_assign (one_more (subst (HasType x _) (sym h) (t_binary p_arithmetic i t_const)) none_left))))))))

    typed-back : WellTyped x (expansion r v low high a) → WellTyped x (at r (for v low high a))
    typed-back (t_at (t_then (t_at (t_assign (one_more g none_left))) (t_at (t_while c (t_at (t_then k u)))))) = t_at (t_for (sym (one_type t_const g)) k)

    -- "A range's variable is int" is A.2 of the expansion
    pub for-typed : Iff (WellTyped x (at r (for v low high a))) (WellTyped x (expansion r v low high a))
    for-typed = record { on = typed-on; back = typed-back }

module _ (r : ℕ) (v : Variable) (low high : ℤ) (a : Action) where
  bound-on : WellBound (at r (for v low high a)) → WellBound (expansion r v low high a) × (Touched v a → ⊥)
  bound-on (b_at (b_for f h)) = (
    b_at (b_then (b_at (b_assign (more_pairs none_left no_pair)))
        (b_at (b_while (b_at (b_then h (b_at (b_assign (more_pairs none_left no_pair)))))))),
    f,
  )

  bound-back : WellBound (expansion r v low high a) → (Touched v a → ⊥) → WellBound (at r (for v low high a))
  bound-back (b_at (b_then g (b_at (b_while (b_at (b_then h u)))))) f = b_at (b_for f h)

  pub for-bound : Iff (WellBound (at r (for v low high a))) (WellBound (expansion r v low high a) × (Touched v a → ⊥))
  for-bound = record { on = bound-on; back = λ p. bound-back p.0 p.1 }
