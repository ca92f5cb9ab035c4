-- Numbers of k bytes written one after another. Assumes nothing.
use mathlib.Core.{Path.◌≡◌, Path.refl, Path.sym, Path.ap, Path.◌∙◌, List.List, List.[], List.◌∷◌, List.◌++◌, List.append_assoc, List.map}
use Prim.Native.Nat.{ℕ, suc, ◌+◌, ◌*◌, ◌<◌}
use native.Mathlib.{Omega.arith, Nat.mul-suc, Nat.mul-zero, Nat.add_comm}
use lib.{ListN.length, ListN.get_or, ListN.take, ListN.drop, ListN.length-map, Seq.take-append-add, Seq.drop-append-add, Seq.length-take-le}
use borrow.Rule.Slice.PartMut.{put_mid}
use Rattle.std.proofs.lemmas.List.{map_more}
use Rattle.model.specs.Bytes.{bytes_of, written}
use Rattle.model.proofs.Bytes.{length-bytes_of}

-- nothing written yet
pub written_none : (k : ℕ) (s : List ℕ) → s ≡ written k [] s
unfolding written
written_none k s = refl

-- one more number after those written
written-more : (k : ℕ) (ns : List ℕ) (n : ℕ) (s : List ℕ) → put_mid (k * length ns) k (written k ns s) (bytes_of k n) ≡ written k (ns ++ n ∷ []) s
unfolding written
written-more k [] n s = rw mul-zero
written-more k (m ∷ ns) n s =
    let e : k * suc (length ns) ≡ length (bytes_of k m) + k * length ns = mul-suc k (length ns) ∙ add_comm (k * length ns) k ∙ ap (λ (j : ℕ). j + k * length ns) (sym (length-bytes_of k m)) in
    rw (e, drop-append-add, take-append-add, append_assoc) (ap (λ l. bytes_of k m ++ l) (written-more k ns n (drop k s)))

-- the same in a loop over words w, f w being the number written
pub written_step : {A : Type 0} (f : A → ℕ) (k : ℕ) (ws : List A) (s₀ s : List ℕ) (i : ℕ) {a m : ℕ} {w : A} {ys : List ℕ}
    → i < length ws → a ≡ k * i → m ≡ k → w ≡ get_or ws i w → ys ≡ bytes_of k (f w) → s ≡ written k (map f (take i ws)) s₀
    → put_mid a m s ys ≡ written k (map f (take (i + 1) ws)) s₀
written_step f k ws s₀ s i {a} {m} {w} {ys} h p q r t e =
    let l : length (map f (take i ws)) ≡ i = length-map (take i ws) f ∙ length-take-le i ws (omega arith) in
    let more : map f (take (i + 1) ws) ≡ map f (take i ws) ++ f w ∷ [] = map_more f ws i w h ∙ ap (λ v. map f (take i ws) ++ f v ∷ []) (sym r) in
    let at : a ≡ k * length (map f (take i ws)) = p ∙ ap (λ (j : ℕ). k * j) (sym l) in
    rw (at, q, t, e, more) (written-more k (map f (take i ws)) (f w) s₀)
