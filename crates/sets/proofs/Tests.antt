-- Laws of masks and of the test `inside` that the walk's laws share. Assumes nothing.
use mathlib.Core.{Path.◌≡◌, Path.refl, Path.sym, Path.ap, Path.◌∙◌, Bool.Bool, Bool.true, Bool.false, Bool.◌&&◌, List.List, List.[], List.◌∷◌, List.map}
use Prim.Native.Nat.{ℕ}
use native.Mathlib.Omega.{arith}
use Rattle.model.specs.Lists.{all}
use Rattle.model.specs.Masks.{meet, join, union, inside}
use Rattle.model.specs.Largest.{Sub}
use Rattle.model.proofs.Rows.{both_true}
use Rattle.model.proofs.Masks.{digit-meet, digit-join, digit-zero, digit-ext, inside-sub, sub-inside}

pub meet-assoc : (a b c : ℕ) → meet (meet a b) c ≡ meet a (meet b c)
meet-assoc a b c = digit-ext _ _ (λ v. omega (arith, digit-meet (meet a b) c v, digit-meet a b v, digit-meet a (meet b c) v, digit-meet b c v))

pub meet-sub : (a b : ℕ) → Sub a b → meet a b ≡ a
meet-sub a b h = digit-ext _ _ (λ v. omega (arith, digit-meet a b v, h v))

pub sub-meets : (a b : ℕ) → Sub b a → meet a b ≡ b
sub-meets a b h = digit-ext _ _ (λ v. omega (arith, digit-meet a b v, h v))

pub join-none : (a : ℕ) → join a 0 ≡ a
join-none a = digit-ext _ _ (λ v. omega (arith, digit-join a 0 v, digit-zero v))

pub none-join : (a : ℕ) → join 0 a ≡ a
none-join a = digit-ext _ _ (λ v. omega (arith, digit-join 0 a v, digit-zero v))

pub join-assoc : (a b c : ℕ) → join (join a b) c ≡ join a (join b c)
join-assoc a b c = digit-ext _ _ (λ v. omega (arith, digit-join (join a b) c v, digit-join a b v, digit-join a (join b c) v, digit-join b c v))

same_bool : (a b : Bool) → (a ≡ true → b ≡ true) → (b ≡ true → a ≡ true) → a ≡ b
same_bool true b f g = sym (f refl)
same_bool false true f g = g refl
same_bool false false f g = refl

pub and_assoc : (a b c : Bool) → ((a && b) && c) ≡ (a && (b && c))
and_assoc true b c = refl
and_assoc false b c = refl

-- the order in which a loop's tests are gathered
pub and-loop : (a b c d : Bool) → (((a && b) && c) && d) ≡ (a && (c && (b && d)))
and-loop true true c d = refl
and-loop true false true d = refl
and-loop true false false d = refl
and-loop false b c d = refl

pub and-true : (a : Bool) → (a && true) ≡ a
and-true true = refl
and-true false = refl

pub inside-none : (m : ℕ) → inside 0 m ≡ true
inside-none m = sub-inside 0 m (λ v. omega (arith, digit-zero v))

both : (a b : Bool) → a ≡ true → b ≡ true → (a && b) ≡ true
both a b e f = rw (e, f)

inside-join : (a b m : ℕ) → inside (join a b) m ≡ (inside a m && inside b m)
inside-join a b m = same_bool _ _ split joined
  where
    split : inside (join a b) m ≡ true → (inside a m && inside b m) ≡ true
    split e =
        let h = inside-sub (join a b) m e in
        both _ _ (sub-inside a m (λ v. omega (arith, h v, digit-join a b v))) (sub-inside b m (λ v. omega (arith, h v, digit-join a b v)))

    joined : (inside a m && inside b m) ≡ true → inside (join a b) m ≡ true
    joined e =
        let p = both_true (inside a m) (inside b m) e in
        let h = inside-sub a m p.0 in
        let k = inside-sub b m p.1 in
        sub-inside (join a b) m (λ v. omega (arith, h v, k v, digit-join a b v))

-- each item's mask is inside where their union is
pub inside-all : {A : Type 0} (f : A → ℕ) (m : ℕ) (l : List A) → inside (union (map f l)) m ≡ all (λ i. inside (f i) m) l
unfolding union all
inside-all f m [] = inside-none m
inside-all f m (a ∷ l) = inside-join (f a) (union (map f l)) m ∙ ap (λ t. inside (f a) m && t) (inside-all f m l)
