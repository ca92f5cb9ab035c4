-- Words written back over the bytes that they were read from. Assumes nothing.
use mathlib.Core.{Path.◌≡◌, Path.refl, Path.sym, Path.ap, Path.◌∙◌, List.List, List.[], List.◌∷◌, List.◌++◌}
use Prim.Native.Nat.{ℕ, zero, suc, ◌+◌, ◌-◌, ◌*◌, ◌/◌, ◌%◌, ◌<◌, ◌≤◌}
use native.Mathlib.{Omega.arith, Nat.mul-suc, Nat.mul-zero, Nat.add_comm, Nat.add-zero, Nat.sub-zero, Nat.zero-sub, Nat.suc-sub-suc, Nat.mul-add}
use lib.{ListN.length, ListN.get_or, ListN.take, ListN.drop, ListN.take-append-drop, ListN.length-drop, Seq.drop-drop, Seq.length-take-le, Seq.get_or-drop}
use Rattle.model.specs.Lists.{table}
use Rattle.model.specs.Bytes.{number_of, number_at, bytes_of, words_of, written}
use Rattle.model.proofs.Bytes.{length-table}

-- the bytes of the number that bytes say
bytes-number : (k : ℕ) (l : List ℕ) → length l ≡ k → ((j : ℕ) → get_or l j 0 < 256) → bytes_of k (number_of l) ≡ l
unfolding bytes_of number_of
bytes-number zero [] e h = refl
bytes-number zero (b ∷ bs) e h = absurd (omega arith)
bytes-number (suc k) [] e h = absurd (omega arith)
bytes-number (suc k) (b ∷ bs) e h =
    let small : b < 256 = h 0 in
    let low : (b + 256 * number_of bs) % 256 ≡ b = omega arith in
    let high : (b + 256 * number_of bs) / 256 ≡ number_of bs = omega arith in
    rw (low, high, bytes-number k bs (omega arith) (λ j. h (suc j)))

small-take : (n i : ℕ) (l : List ℕ) → ((j : ℕ) → get_or l j 0 < 256) → get_or (take n l) i 0 < 256
small-take zero i l h = omega arith
small-take (suc n) i [] h = omega arith
small-take (suc n) zero (b ∷ l) h = h 0
small-take (suc n) (suc i) (b ∷ l) h = small-take n i l (λ j. h (suc j))

drop-table : {A : Type 0} (f : ℕ → A) (i n m : ℕ) → drop m (table f i n) ≡ table f (i + m) (n - m)
unfolding table
drop-table f i n zero = rw (add-zero, sub-zero)
drop-table f i zero (suc m) = rw zero-sub
drop-table f i (suc n) (suc m) = rw (suc-sub-suc) (drop-table f (suc i) n m ∙ ap (λ (j : ℕ). table f j (n - m)) (omega arith))

-- words written after others that stay as they are
written-append : (k : ℕ) (ms ns s : List ℕ) → written k ns (drop (k * length ms) s) ≡ drop (k * length ms) s → written k (ms ++ ns) s ≡ written k ms s
unfolding written
written-append k [] ns s e =
    let z : drop (k * 0) s ≡ s = ap (λ (n : ℕ). drop n s) (mul-zero k) in
    ap (written k ns) (sym z) ∙ e ∙ z
written-append k (m ∷ ms) ns s e =
    let z : drop (k * suc (length ms)) s ≡ drop (k * length ms) (drop k s) =
    ap (λ (n : ℕ). drop n s) (mul-suc k (length ms) ∙ add_comm (k * length ms) k) ∙ sym (drop-drop (k * length ms) k s) in
    ap (λ (l : List ℕ). bytes_of k m ++ l) (written-append k ms ns (drop k s) (ap (written k ns) (sym z) ∙ e ∙ z))

module _ (k : ℕ) (s : List ℕ) (bytes : (j : ℕ) → get_or s j 0 < 256) where
  abbrev word : ℕ → ℕ
  word i = number_at k s (k * i)

  word_bytes : (i : ℕ) → k * i + k ≤ length s → bytes_of k (word i) ≡ take k (drop (k * i) s)
  word_bytes i h =
      let long : k ≤ length (drop (k * i) s) = omega (arith, length-drop (k * i) s) in
      bytes-number k (take k (drop (k * i) s)) (length-take-le k _ long) (λ j. small-take k j (drop (k * i) s) (λ m. rw (get_or-drop (k * i) s m 0) (bytes (k * i + m))))

  -- words read from word i on, written there
  table_kept : (n i : ℕ) → k * i + k * n ≤ length s → written k (table word i n) (drop (k * i) s) ≡ drop (k * i) s
  unfolding table written
  table_kept zero i h = refl
  table_kept (suc n) i h =
      let next : k * suc i ≡ k * i + k = mul-suc k i in
      let more : k * suc n ≡ k * n + k = mul-suc k n in
      let z : drop k (drop (k * i) s) ≡ drop (k * suc i) s = drop-drop k (k * i) s ∙ ap (λ (m : ℕ). drop m s) (sym next) in
      rw (word_bytes i (omega (arith, more)))
      (ap (λ (l : List ℕ). take k (drop (k * i) s) ++ written k (table word (suc i) n) l) z
      ∙ ap (λ (l : List ℕ). take k (drop (k * i) s) ++ l) (table_kept n (suc i) (omega (arith, next, more)) ∙ sym z)
      ∙ take-append-drop k (drop (k * i) s))

  -- a slice's first words written anew, the others as they were
  pub written-kept : (ms : List ℕ) → k * (length s / k) ≤ length s → length ms ≤ length s / k
      → written k (ms ++ drop (length ms) (words_of k s)) s ≡ written k ms s
  unfolding words_of
  written-kept ms h e =
      let n = length s / k in
      let split : k * length ms + k * (n - length ms) ≡ k * n = sym (mul-add k (length ms) (n - length ms)) ∙ ap (λ (m : ℕ). k * m) (omega arith) in
      written-append k ms (drop (length ms) (table word 0 n)) s
      (ap (λ (l : List ℕ). written k l (drop (k * length ms) s)) (drop-table word 0 n (length ms) ∙ ap (λ (j : ℕ). table word j (n - length ms)) (omega arith))
      ∙ table_kept (n - length ms) (length ms) (omega (arith, split, h)))

pub words-length : (k : ℕ) (s : List ℕ) → length (words_of k s) ≡ length s / k
unfolding words_of
words-length k s = length-table _ 0 (length s / k)
